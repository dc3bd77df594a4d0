use Rattle.std.proofs.Common.{◌+◌, ◌≤◌, ◌∙◌, map, subst, sym, true≢false, arith}
use Rattle.std.specs.Option.{option_copied}
use Rattle.cmap_runs.specs.Stretches.{IsStretch}
use Rattle.cmap_values.specs.DeclarationsSeen.{bf_entry_seen}
use Rattle.cmap_edit.specs.Chosen.{codes_span}
use Rattle.cmap_edit.specs.Parts.{AreTextsBelow}
use Rattle.cmap_edit.proofs.ChosenCodes.{stretch_of}
use Rattle.cmap_edit.proofs.CodesDeclared.{copied_some}
use Rattle.cmap_edit.proofs.ListsAdded.{none_of}
use Rattle.cmap_edit.proofs.TextsDeclared.{AreTextsBelow-none, added, passed_over}
use Rattle.cmap_edit.proofs.flatten.texts.texts_in.Goals as goal
use Rattle.cmap_edit.proofs.flatten.texts.texts_in.Goals.{then-is_some+in_ok-add_texts, else-is_some}

pub loop-next-init : goal.loop-next-init
loop-next-init c = record {
  declarations = c.stretches-stretches.ensures.declarations;
  next = c.stretches-stretches.ensures.next;
  within = omega arith;
  texts = rw c.new-texts.ensures.items (AreTextsBelow-none c.args.layers.now c.args.chosen.now);
}

pub loop-next-preserved : goal.loop-next-preserved
loop-next-preserved c =
    let layers = c.args.layers.now in let table = c.args.chosen.now in let next = c.loop-next.next in let old = c.loop-next.invariant in
    let texts = map bf_entry_seen c.loop-next.texts.items in
    let last = c.in-Some.stretch.last in let declaration = c.in-Some.stretch.declaration in
    let here = stretch_of codes_span c.loop-next.stretches.declarations table c.loop-next.stretches.next next last (option_copied declaration) old.declarations old.next c.in-Some.ensures.same in
    let filled : next ≤ last = omega (arith, c.in-Some.ensures.within, old.next) in
    record {
      declarations = c.in-Some.ensures.declarations ∙ old.declarations;
      next = omega (arith, c.in-Some.ensures.next);
      within = omega (arith, c.in-Some.ensures.within);
      texts = subst (λ end. AreTextsBelow layers table (end + 1) (map bf_entry_seen c.if-is_some.texts.items)) (sym c.from-next.ensures)
          (elim c.if-is_some.branch [
            | then-is_some+in_ok-add_texts w ↦
                subst (λ made. AreTextsBelow layers table (last + 1) (map bf_entry_seen made.items)) (sym w.texts-is)
                (added layers table next last texts old.texts filled (option_copied declaration) (map bf_entry_seen w.add_texts.new.texts.items)
                (copied_some declaration (sym c.is_some.ensures ∙ w.if-is_some.true)) here w.in_ok-add_texts.ensures)
            | else-is_some w ↦
                let none = none_of declaration (λ some. true≢false (sym some ∙ sym c.is_some.ensures ∙ w.if-is_some.false)) in
                subst (λ made. AreTextsBelow layers table (last + 1) (map bf_entry_seen made.items)) (sym w.texts-is)
                (passed_over layers table next last texts old.texts filled (subst (λ o. IsStretch codes_span table next last (option_copied o)) none here))
          ]);
    }
