use Rattle.std.proofs.Common.{ℕ, ◌≡◌, ◌∙◌, inr, ◌++◌, ◌∷◌, [], All, List, length, map, ap, refl, subst, sym, arith}
use Rattle.std.specs.List.{Any, sum_by}
use Rattle.std.proofs.lemmas.List.{map-append, take_all}
use Rattle.std.proofs.lemmas.List.Sums.{sum_by_push}
use Rattle.std.proofs.lemmas.List.Elements.{All-nil, All-push}
use Rattle.std.proofs.lemmas.Result.{IfOk-from_err}
use Rattle.cmap_runs.specs.Ranges.{Run, runs_of}
use Rattle.cmap_values.specs.DeclarationsSeen.{bf_entry_seen, bf_range_span}
use Rattle.cmap_values.specs.declared.declarations.BfRange.{BfRange}
use Rattle.cmap_layers.specs.Lookups.{bf_at, bf_span}
use Rattle.cmap_binary_writer.specs.Pieces.{AllSayAs, Cover, SaysAs}
use Rattle.cmap_binary_writer.specs.TextParts.{IsDecidedText, units_at}
use Rattle.cmap_binary_writer.specs.Weights.{run_span, span_weight}
use Rattle.cmap_values.proofs.Outcomes.{memory_on}
use Rattle.cmap_binary_writer.proofs.Cuts.{run_pushed}
use Rattle.cmap_binary_writer.proofs.RunParts.{HaveRuns, have_all, have_more, have_none, run_among}
use Rattle.cmap_binary_writer.proofs.TextPartsSeen.{declaration_within, part_decided, part_has, part_right, part_units, run_filled, run_within}
use Rattle.cmap_binary_writer.proofs.Weighed.{bf_spans_seen, run_weighed, runs_weighed}
use Rattle.cmap_binary_writer.proofs.text_parts.text_ranges_of.Goals as goal

abbrev weight : BfRange → ℕ
weight r = span_weight (bf_range_span r)

abbrev runs : List BfRange → List Run
runs list = runs_of (map bf_range_span list)

pub overflow_sub-end : goal.overflow_sub-end
overflow_sub-end c = run_filled c.args.table.now (runs c.args.table.now) c.run_count-i-end.ensures.runs.0 c.loop-i.i c.run-start.result.0 c.run-start.result.1 c.run-start.result.2 c.run-start.ensures.run

pub decl-requires : goal.decl-requires
decl-requires c = declaration_within c.args.table.now (runs c.args.table.now) c.run_count-i-end.ensures.runs.0 c.loop-i.i c.run-start.result.0 c.run-start.result.1 c.run-start.result.2 c.run-start.ensures.run

pub part_of_text-requires : goal.part_of_text-requires
part_of_text-requires c = (run_within c.args.table.now (runs c.args.table.now) c.run_count-i-end.ensures.runs.0 c.loop-i.i c.run-start.result.0 c.run-start.result.1 c.run-start.result.2 c.run-start.ensures.run c.decl.result.now c.decl.ensures.declaration).0

pub loop-i-preserved : goal.loop-i-preserved
loop-i-preserved c =
    let table = c.args.table.now in
    let are = c.run_count-i-end.ensures.runs.0 in
    let i = c.loop-i.i in
    let low = c.run-start.result.0 in
    let high = c.run-start.result.1 in
    let index = c.run-start.result.2 in
    let at = c.run-start.ensures.run in
    let e = c.decl.result.now in
    let there = c.decl.ensures.declaration in
    let is = c.in_ok-part.ensures in
    let part = c.in_ok-part.part in
    let old = map bf_entry_seen c.loop-i.ranges.items in
    let new = map bf_entry_seen c.push.new.self.items in
    let pushed : new ≡ old ++ bf_entry_seen part ∷ [] = ap (map bf_entry_seen) c.in_ok-push.ensures.items ∙ map-append bf_entry_seen c.loop-i.ranges.items (part ∷ []) in
    let says = part_right table (runs table) are i low high index at e there part _ refl refl is.0 is.1 in
    let decided : IsDecidedText (bf_entry_seen part) = part_decided table (runs table) are i low high index at e there part _ refl refl is.0 is.1 (omega arith) in
    record {
      right = subst (AllSayAs bf_span bf_at (map bf_entry_seen table)) (sym pushed) (All-push (SaysAs bf_span bf_at (map bf_entry_seen table)) old (bf_entry_seen part) c.loop-i.invariant.right says);
      units = subst (AllSayAs bf_span units_at (map bf_entry_seen table)) (sym pushed) (All-push (SaysAs bf_span units_at (map bf_entry_seen table)) old (bf_entry_seen part) c.loop-i.invariant.units (part_units table (runs table) are i low high index at e there part _ refl refl is.0 is.1));
      runs = ap (map bf_range_span) c.in_ok-push.ensures.items ∙ map-append bf_range_span c.loop-i.ranges.items (part ∷ []) ∙ ap (λ r. map bf_range_span c.loop-i.ranges.items ++ record { start = r.start; end = r.end } ∷ []) is.0 ∙ run_pushed (runs table) i (record { low = low; high = high; index = index }) (map bf_range_span c.loop-i.ranges.items) (omega arith) at c.loop-i.invariant.runs;
      few = omega (arith, c.loop-i.invariant.few, sum_by_push weight c.loop-i.ranges.items part, ap (sum_by weight) c.in_ok-push.ensures.items, ap (λ r. r.start) is.0, ap (λ r. r.end) is.0, run_weighed (runs table) i (record { low = low; high = high; index = index }) (omega arith) at);
      small = subst (All IsDecidedText) (sym pushed) (All-push IsDecidedText old (bf_entry_seen part) c.loop-i.invariant.small decided);
      whole = have_more bf_range_span bf_entry_seen bf_span bf_at (λ x. refl) table (runs table) are old new i low high index (bf_entry_seen part) c.loop-i.invariant.whole at (λ code. subst (λ es. Cover bf_span es code) (sym pushed)) (part_has table (runs table) are i low high index at e there part _ refl refl is.0 is.1);
    }

pub returns-clause-same : goal.returns-clause-same
returns-clause-same c =
    let table = c.args.table.now in
    let ranges = map bf_entry_seen c.loop-i.ranges.items in
    let end : c.loop-i.i ≡ length (runs table) = omega arith in
    have_all bf_range_span bf_entry_seen bf_span bf_at (λ x. refl) table (runs table) c.run_count-i-end.ensures.runs.0 ranges c.requires c.loop-i.invariant.right (subst (HaveRuns bf_span (runs table) ranges) end c.loop-i.invariant.whole)

pub returns-then-end-start-gt-MOST_TEXTS_AFTER-clause-err : goal.returns-then-end-start-gt-MOST_TEXTS_AFTER-clause-err
returns-then-end-start-gt-MOST_TEXTS_AFTER-clause-err c = inr (omega arith, subst (λ ss. Any (λ run. (run.low ≡ c.run-start.result.0) × (run.high ≡ c.run-start.result.1)) (runs_of ss)) (sym (bf_spans_seen c.args.table.now)) (run_among (runs c.args.table.now) c.loop-i.i c.run-start.result.0 c.run-start.result.1 c.run-start.result.2 c.run-start.ensures.run))

pub returns-in_err-part-clause-err : goal.returns-in_err-part-clause-err
returns-in_err-part-clause-err c = memory_on _ _ c.from_residual.ensures.1

pub returns-in_err-push-clause-err : goal.returns-in_err-push-clause-err
returns-in_err-push-clause-err c = memory_on _ _ c.from_residual-in_err-push.ensures.1

pub loop-i-init : goal.loop-i-init
loop-i-init c =
    let table = c.args.table.now in
    rw c.new-ranges.ensures.items (record {
      right = All-nil (SaysAs bf_span bf_at (map bf_entry_seen table));
      small = All-nil IsDecidedText;
      units = All-nil (SaysAs bf_span units_at (map bf_entry_seen table));
      runs = refl;
      few = omega arith;
      whole = have_none bf_range_span bf_entry_seen bf_span bf_at (λ x. refl) table (runs table) c.run_count-i-end.ensures.runs.0;
    })

pub returns-clause-small : goal.returns-clause-small
returns-clause-small c = c.loop-i.invariant.small

pub returns-in_err-part-clause-same : goal.returns-in_err-part-clause-same
returns-in_err-part-clause-same c = IfOk-from_err _ _ c.from_residual.ensures.0

pub returns-in_err-push-clause-same : goal.returns-in_err-push-clause-same
returns-in_err-push-clause-same c = IfOk-from_err _ _ c.from_residual-in_err-push.ensures.0

pub returns-in_err-part-clause-small : goal.returns-in_err-part-clause-small
returns-in_err-part-clause-small c = IfOk-from_err _ _ c.from_residual.ensures.0

pub returns-in_err-push-clause-small : goal.returns-in_err-push-clause-small
returns-in_err-push-clause-small c = IfOk-from_err _ _ c.from_residual-in_err-push.ensures.0

pub returns-clause-few : goal.returns-clause-few
returns-clause-few c = omega (arith, c.loop-i.invariant.few, runs_weighed (runs c.args.table.now) c.loop-i.i (omega arith))

pub returns-in_err-part-clause-few : goal.returns-in_err-part-clause-few
returns-in_err-part-clause-few c = IfOk-from_err _ _ c.from_residual.ensures.0

pub returns-in_err-push-clause-few : goal.returns-in_err-push-clause-few
returns-in_err-push-clause-few c = IfOk-from_err _ _ c.from_residual-in_err-push.ensures.0

pub returns-clause-runs : goal.returns-clause-runs
returns-clause-runs c = c.loop-i.invariant.runs ∙ ap (map run_span) (take_all c.loop-i.i (runs c.args.table.now) (omega arith))

pub returns-in_err-part-clause-runs : goal.returns-in_err-part-clause-runs
returns-in_err-part-clause-runs c = IfOk-from_err _ _ c.from_residual.ensures.0

pub returns-in_err-push-clause-runs : goal.returns-in_err-push-clause-runs
returns-in_err-push-clause-runs c = IfOk-from_err _ _ c.from_residual-in_err-push.ensures.0

pub returns-clause-units : goal.returns-clause-units
returns-clause-units c = c.loop-i.invariant.units

pub returns-in_err-part-clause-units : goal.returns-in_err-part-clause-units
returns-in_err-part-clause-units c = IfOk-from_err _ _ c.from_residual.ensures.0

pub returns-in_err-push-clause-units : goal.returns-in_err-push-clause-units
returns-in_err-push-clause-units c = IfOk-from_err _ _ c.from_residual-in_err-push.ensures.0
