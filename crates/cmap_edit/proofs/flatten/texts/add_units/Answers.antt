use Rattle.std.proofs.Common.{◌+◌, ◌-◌, length, map, sym, arith}
use Rattle.std.proofs.lemmas.Option.{get_or_from_slice_get, slice_get_within}
use Rattle.cmap_values.specs.DeclarationsSeen.{bf_entry_seen}
use Rattle.cmap_edit.proofs.ListsAdded.{on_ok_all}
use Rattle.cmap_edit.proofs.FlattenTextsAdded.{no_units_no_text, none_added, units_added}
use Rattle.cmap_edit.proofs.flatten.texts.add_units.Goals as goal

pub returns-in_default : goal.returns-in_default
returns-in_default c =
    none_added (map bf_entry_seen c.args.texts.now.items) c.args.range c.requires.room c.requires.range _ (λ code le within. no_units_no_text c.args.units.now (code - c.args.range.start) (sym c.in_default.ensures.value))

pub returns : goal.returns
returns c =
    let units = c.args.units.now in let range = c.args.range in let called = c.push_texts.ensures in
    let last = get_or_from_slice_get units (length units - 1) c.in-Some.last.now 0 (sym c.in-Some.ensures.value) in
    let some = slice_get_within units (length units - 1) c.in-Some.last.now (sym c.in-Some.ensures.value) in
    on_ok_all c.push_texts.result (units_added (map bf_entry_seen c.args.texts.now.items) range c.requires.room c.requires.range units (range.start + c.min.result) (map bf_entry_seen c.push_texts.new.list.items) (omega arith)
    (omega arith) (λ code after within. omega arith)) called.tidy called.said called.last
