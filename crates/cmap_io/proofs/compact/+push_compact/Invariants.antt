use Rattle.std.proofs.Common.{◌≡◌, ◌++◌, drop, false, string_bytes}
use Rattle.serde_json.specs.Written.{items_text, members_text}
use Rattle.cmap_io.specs.Values.{items_view, members_view}
use Rattle.cmap_io.proofs.compact.+push_compact.Given as goal

abbrev pub invariant-push_items-loop-item : goal.invariant-push_items-loop-item
invariant-push_items-loop-item l =
    string_bytes l.out ++ items_text l.is_later (items_view (drop l.item-index l.item-items))
    ≡ string_bytes l.initial.out ++ items_text false (items_view l.item-items)

abbrev pub invariant-push_members-loop-key : goal.invariant-push_members-loop-key
invariant-push_members-loop-key l =
    string_bytes l.out ++ members_text l.is_later (members_view l.key-iterator)
    ≡ string_bytes l.initial.out ++ members_text false (members_view l.members.entries)
