use Rattle.std.proofs.Common.{◌≡◌, ◌≤◌, map, subst, sym}
use Rattle.std.specs.Prelude.{IfErr, IfOk}
use Rattle.std.proofs.lemmas.Result.{IfOk-from_err}
use Rattle.cmap_runs.specs.Ranges.{runs_of}
use Rattle.cmap_values.specs.DeclarationsSeen.{bf_entry_seen, bf_range_span}
use Rattle.cmap_values.specs.Outcomes.{RefusesWith}
use Rattle.cmap_layers.specs.Lookups.{bf_at, bf_span}
use Rattle.cmap_binary_writer.specs.Obstacles.{IsTextObstacle}
use Rattle.cmap_binary_writer.specs.Pieces.{AllSayAs, SayTheSame}
use Rattle.cmap_binary_writer.specs.TextParts.{units_at}
use Rattle.cmap_binary_writer.specs.Weights.{run_span, texts_weight, weight_of}
use Rattle.cmap_values.proofs.Outcomes.{memory_on}
use Rattle.cmap_binary_writer.proofs.Weighed.{bf_spans_seen}
use Rattle.cmap_binary_writer.proofs.text_parts.decided_texts.Goals as goal

pub text_ranges_of-requires : goal.text_ranges_of-requires
text_ranges_of-requires c = c.in_ok-table.ensures.1

pub returns-clause-same : goal.returns-clause-same
returns-clause-same c =
    subst (λ es. IfOk c.text_ranges_of.result (λ ranges. SayTheSame bf_span bf_at es (map bf_entry_seen ranges.items))) c.in_ok-table.ensures.0 c.text_ranges_of.ensures.same

pub returns-clause-err : goal.returns-clause-err
returns-clause-err c =
    subst (λ es. IfErr c.text_ranges_of.result (RefusesWith (IsTextObstacle es))) c.in_ok-table.ensures.0 c.text_ranges_of.ensures.err

pub returns-in_err-table-clause-same : goal.returns-in_err-table-clause-same
returns-in_err-table-clause-same c = IfOk-from_err _ _ c.from_residual.ensures.0

pub returns-in_err-table-clause-small : goal.returns-in_err-table-clause-small
returns-in_err-table-clause-small c = IfOk-from_err _ _ c.from_residual.ensures.0

pub returns-in_err-table-clause-err : goal.returns-in_err-table-clause-err
returns-in_err-table-clause-err c = memory_on _ _ c.from_residual.ensures.1

pub returns-clause-few : goal.returns-clause-few
returns-clause-few c =
    let table = c.in_ok-table.table in
    subst (λ es. IfOk c.text_ranges_of.result (λ ranges. texts_weight ranges.items ≤ weight_of (map bf_span es))) c.in_ok-table.ensures.0 (subst (λ ss. IfOk c.text_ranges_of.result (λ ranges. texts_weight ranges.items ≤ weight_of ss)) (sym (bf_spans_seen table)) c.text_ranges_of.ensures.few)

pub returns-in_err-table-clause-few : goal.returns-in_err-table-clause-few
returns-in_err-table-clause-few c = IfOk-from_err _ _ c.from_residual.ensures.0

pub returns-clause-runs : goal.returns-clause-runs
returns-clause-runs c =
    let table = c.in_ok-table.table in
    subst (λ es. IfOk c.text_ranges_of.result (λ ranges. map bf_range_span ranges.items ≡ map run_span (runs_of (map bf_span es)))) c.in_ok-table.ensures.0 (subst (λ ss. IfOk c.text_ranges_of.result (λ ranges. map bf_range_span ranges.items ≡ map run_span (runs_of ss))) (sym (bf_spans_seen table)) c.text_ranges_of.ensures.runs)

pub returns-in_err-table-clause-runs : goal.returns-in_err-table-clause-runs
returns-in_err-table-clause-runs c = IfOk-from_err _ _ c.from_residual.ensures.0

pub returns-clause-units : goal.returns-clause-units
returns-clause-units c =
    subst (λ es. IfOk c.text_ranges_of.result (λ ranges. AllSayAs bf_span units_at es (map bf_entry_seen ranges.items))) c.in_ok-table.ensures.0 c.text_ranges_of.ensures.units

pub returns-in_err-table-clause-units : goal.returns-in_err-table-clause-units
returns-in_err-table-clause-units c = IfOk-from_err _ _ c.from_residual.ensures.0
