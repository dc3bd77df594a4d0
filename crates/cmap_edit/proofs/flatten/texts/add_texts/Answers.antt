use Rattle.std.proofs.Common.{◌+◌, None, map, refl, sym, subst, arith}
use Rattle.std.specs.Prelude.{option_map}
use Rattle.std.specs.Option.{option_copied}
use Rattle.cmap_values.specs.declared.range.Range.{Range}
use Rattle.cmap_values.specs.DeclarationsSeen.{bf_entry_seen}
use Rattle.cmap_layers.specs.CodeStretches.{IsTextStretch}
use Rattle.cmap_layers.specs.Lookups.{bf_of}
use Rattle.cmap_edit.specs.Parts.{AreTextsAdded}
use Rattle.cmap_edit.proofs.FlattenTextsAdded.{AreTextsAdded-more, none_added}
use Rattle.cmap_edit.proofs.flatten.texts.add_texts.Goals as goal

pub loop-next-preserved : goal.loop-next-preserved
loop-next-preserved c =
    let old = c.loop-next.invariant in let first = c.args.range.start in let next = c.loop-next.next in let last = c.min.result in let layers = c.args.layers.now in
    let before = map bf_entry_seen c.args.texts.now.items in let texts = map bf_entry_seen c.loop-next.texts.items in let far = c.text_stretch-stretch.result.last in
    let range : Range = record { start = next; end = last } in
    let none = subst (λ o. IsTextStretch layers next far (option_map bf_entry_seen (option_copied o))) c.in_default.is c.text_stretch-stretch.ensures.texts in
    record {
      from = omega arith;
      to = omega arith;
      added = subst (λ end. AreTextsAdded before first (end + 1) (λ code. bf_of layers code) texts) (sym c.from-next-in-loop-next.ensures)
          (AreTextsAdded-more before texts texts first next (last + 1) (λ code. bf_of layers code) (λ code. None) old.from old.added
          (none_added texts range old.added.room (omega arith) (λ code. None) (λ code le within. refl)) (λ code le lt. none.texts code le (omega arith)));
    }
