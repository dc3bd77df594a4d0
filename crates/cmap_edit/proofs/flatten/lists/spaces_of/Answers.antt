use Rattle.std.proofs.Common.{rules, ◌≡◌, ℕ}
use Rattle.std.specs.List.Sorted.{IsSorted}
use Rattle.std.specs.Ordering.{on}
use Rattle.std.proofs.lemmas.Cmp.{on_equiv}
use Rattle.std.proofs.lemmas.Fn.{always_returns_same, dedup_same}
use Rattle.cmap_values.specs.CodeLengths.{length_of}
use Rattle.cmap_values.specs.DeclarationsSeen.{codespace_seen}
use Rattle.cmap_values.specs.declared.declarations.Codespace.{Codespace}
use Rattle.cmap_edit.proofs.SameElements.{each_once}
use Rattle.cmap_edit.proofs.SpacesOrdered.{alike, alike_equiv, alike_same, alike_tied, order, order_total}
use Rattle.cmap_edit.proofs.flatten.lists.spaces_of.Goals as goal

abbrev key : Codespace → ℕ × ℕ × ℕ
key space = (length_of space.len, space.low, space.high)

pub returns : goal.returns
returns c =
    let all = c.in_ok-spaces.spaces.items in let ordered = c.sort_unstable_by_key.new.self.items in let once = c.dedup_by_key.new.self.items in
    let up : IsSorted (on codespace_seen order) ordered = c.sort_unstable_by_key.ensures.sorted key (always_returns_same _ (λ a r. r ≡ key a.0.now) _ (λ a r f' k. search rules)) in
    let left = dedup_same _ (on codespace_seen alike) _ (λ x y b f' x' y' k. search rules) ordered once c.dedup_by_key.ensures.filtered in
    rw (← c.in_ok-spaces.ensures) (each_once codespace_seen order_total (on_equiv codespace_seen alike_equiv) (λ x y. alike_tied (codespace_seen x) (codespace_seen y)) (λ x y. alike_same (codespace_seen x) (codespace_seen y))
    all ordered once c.sort_unstable_by_key.ensures.permutation up left)
