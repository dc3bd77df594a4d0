use Rattle.std.proofs.Common.{◌∙◌, ap, arith, length, map, refl, subst, sym}
use Rattle.std.proofs.lemmas.Bool.{eqb-false, eqb-true}
use Rattle.std.specs.Prelude.{All}
use Rattle.std.proofs.lemmas.List.{take_all}
use Rattle.cmap_values.specs.DeclarationsSeen.{bf_entry_seen}
use Rattle.cmap_text_writer.specs.Fits.{HasUnits}
use Rattle.cmap_text_writer.specs.Obstacles.{IsEmptyText}
use Rattle.cmap_values.proofs.ElementsSeen.{any_at}
use Rattle.cmap_text_writer.proofs.Walked.{all_more}
use Rattle.cmap_text_writer.proofs.check.check_texts.Goals as goal

pub loop-entry-preserved : goal.loop-entry-preserved
loop-entry-preserved c = all_more HasUnits bf_entry_seen c.args.entries.now c.loop-entry.entry-index c.entry-item.result (omega arith) c.loop-entry.invariant (subst (λ e. HasUnits (bf_entry_seen e)) c.entry-item.is (omega (arith, eqb-false _ 0 (sym c.is_empty.ensures ∙ c.if-is_empty.false), ap length c.as_slice.ensures)))

pub returns-clause-fit : goal.returns-clause-fit
returns-clause-fit c = subst (λ xs. All HasUnits (map bf_entry_seen xs)) (take_all c.loop-entry.entry-index c.args.entries.now c.loop-entry-test.false) c.loop-entry.invariant

pub returns-then-is_empty-clause-err : goal.returns-then-is_empty-clause-err
returns-then-is_empty-clause-err c =
    let entry = c.entry-item.result in
    any_at (IsEmptyText entry.range) bf_entry_seen c.args.entries.now c.loop-entry.entry-index entry (omega arith)
    (subst (λ e. IsEmptyText entry.range (bf_entry_seen e)) c.entry-item.is (refl, refl, sym (ap length c.as_slice.ensures) ∙ eqb-true _ 0 (sym c.is_empty.ensures ∙ c.if-is_empty.true)))
