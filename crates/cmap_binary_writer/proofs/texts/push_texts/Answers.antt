use Rattle.std.proofs.Common.{◌<◌, ◌^◌, ◌++◌, ap, ◌∙◌, length, subst, sym}
use Rattle.std.proofs.lemmas.Result.{IfOk-from_err}
use Rattle.cmap_values.specs.UnitsSeen.{units_seen}
use Rattle.cmap_binary_writer.specs.Texts.{destination}
use Rattle.cmap_binary_writer.proofs.RowsAdded.{rows_done, rows_more}
use Rattle.cmap_binary_writer.proofs.TextsMade.{short_units}
use Rattle.cmap_binary_writer.proofs.texts.push_texts.Goals as goal

pub push_text-requires : goal.push_text-requires
push_text-requires c =
    let e = c.entry-item.result in
    let short = short_units c.args.entries.now c.loop-entry.entry-index e c.loop-entry-test.true c.requires in
    subst (λ units. length units < 2 ^ 8) (sym c.as_slice.ensures) (subst (λ x. length (units_seen x.units) < 2 ^ 8) (sym c.entry-item.is) short)

pub loop-entry-preserved : goal.loop-entry-preserved
loop-entry-preserved c =
    let units = c.as_slice.ensures ∙ ap (λ e. units_seen e.units) c.entry-item.is in
    rows_more (λ e. destination c.args.fixed (units_seen e.units)) c.args.entries.now c.loop-entry.entry-index c.args.out.now.items c.loop-entry.out.items c.entry-item.result _ c.loop-entry-test.true c.loop-entry.invariant (c.in_ok-push_text.ensures ∙ ap (λ units. c.loop-entry.out.items ++ destination c.args.fixed units) units)

pub returns : goal.returns
returns c = rows_done (λ e. destination c.args.fixed (units_seen e.units)) c.args.entries.now c.loop-entry.entry-index c.args.out.now.items c.loop-entry.out.items c.loop-entry-test.false c.loop-entry.invariant

pub returns-in_err-push_text : goal.returns-in_err-push_text
returns-in_err-push_text c = IfOk-from_err _ _ c.from_residual.ensures.0
