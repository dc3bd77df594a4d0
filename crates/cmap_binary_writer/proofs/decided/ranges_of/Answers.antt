use Rattle.std.proofs.Common.{◌≡◌, ◌+◌, ◌<◌, List, length, sym, map, refl, ap, subst, arith}
use Rattle.std.specs.List.{Any}
use Rattle.std.proofs.lemmas.List.Elements.{All-nil}
use Rattle.std.proofs.lemmas.Result.{IfOk-from_err}
use Rattle.cmap_runs.specs.Ranges.{Run, runs_of}
use Rattle.cmap_values.specs.DeclarationsSeen.{cid_entry_seen, cid_range_span, entries_seen}
use Rattle.cmap_values.specs.declared.declarations.CidRange.{CidRange}
use Rattle.cmap_layers.specs.Lookups.{cid_at, cid_span}
use Rattle.cmap_binary_writer.specs.Arranged.{EndBefore}
use Rattle.cmap_binary_writer.specs.Pieces.{CanBeSplit, SaysAs}
use Rattle.cmap_binary_writer.proofs.Cuts.{next_before}
use Rattle.cmap_binary_writer.proofs.DecidedParts.{declaration_within, large_given, part_can, part_has, part_right, run_within}
use Rattle.cmap_values.proofs.Outcomes.{memory_on}
use Rattle.cmap_binary_writer.proofs.RunParts.{HaveRuns, have_all, have_more, have_none, run_among}
use Rattle.cmap_binary_writer.proofs.Weighed.{cid_spans_seen, run_weighed, runs_weighed}
use Rattle.cmap_binary_writer.proofs.decided.ranges_of.Goals as goal

abbrev runs : List CidRange → List Run
runs list = runs_of (map cid_range_span list)

pub decl-requires : goal.decl-requires
decl-requires c = declaration_within c.args.table.now (runs c.args.table.now) c.run_count-i-end.ensures.runs.0 c.loop-i.i c.run-start.result.0 c.run-start.result.1 c.run-start.result.2 c.run-start.ensures.run

pub part_of-requires-clause-start : goal.part_of-requires-clause-start
part_of-requires-clause-start c = (run_within c.args.table.now (runs c.args.table.now) c.run_count-i-end.ensures.runs.0 c.loop-i.i c.run-start.result.0 c.run-start.result.1 c.run-start.result.2 c.run-start.ensures.run c.decl.result.now c.decl.ensures.declaration).0

pub part_of-requires-clause-end : goal.part_of-requires-clause-end
part_of-requires-clause-end c = (run_within c.args.table.now (runs c.args.table.now) c.run_count-i-end.ensures.runs.0 c.loop-i.i c.run-start.result.0 c.run-start.result.1 c.run-start.result.2 c.run-start.ensures.run c.decl.result.now c.decl.ensures.declaration).1

pub push_joined-requires-clause-one : goal.push_joined-requires-clause-one
push_joined-requires-clause-one c =
    let is = rw c.in-Some.is at c.part_of.ensures.some in
    part_can c.args.table.now (runs c.args.table.now) c.run_count-i-end.ensures.runs.0 c.loop-i.i c.run-start.result.0 c.run-start.result.1 c.run-start.result.2 c.run-start.ensures.run c.decl.result.now c.decl.ensures.declaration c.in-Some.part _ refl refl is.0 is.1 is.2

pub loop-i-preserved : goal.loop-i-preserved
loop-i-preserved c =
    let table = c.args.table.now in
    let are = c.run_count-i-end.ensures.runs.0 in
    let i = c.loop-i.i in
    let low = c.run-start.result.0 in
    let high = c.run-start.result.1 in
    let index = c.run-start.result.2 in
    let at = c.run-start.ensures.run in
    let e = c.decl.result.now in
    let there = c.decl.ensures.declaration in
    let is = rw c.in-Some.is at c.part_of.ensures.some in
    let part = c.in-Some.part in
    let old = entries_seen c.loop-i.ranges.items in
    let new = entries_seen c.push_joined.new.ranges.items in
    let says = part_right table (runs table) are i low high index at e there part _ refl refl is.0 is.1 in
    let taken = c.in_ok-push_joined.ensures.taken in
    let run : Run = record { low = low; high = high; index = index } in
    let first : EndBefore part.range.start old = subst (λ n. EndBefore n old) (ap (λ r. r.start) (sym is.0)) (c.loop-i.invariant.before run at) in
    let parted = c.in_ok-push_joined.ensures.whole c.loop-i.invariant.parted first in
    let after : EndBefore (high + 1) new = subst (λ n. EndBefore (n + 1) new) (ap (λ r. r.end) is.0) parted.1 in
    record {
      right = taken.0 (entries_seen table) c.loop-i.invariant.right says;
      parted = parted.0;
      before = λ next there. next_before (runs table) i run next new are.ordered at there after;
      small = c.in_ok-push_joined.ensures.all;
      few = omega (arith, c.loop-i.invariant.few, c.in_ok-push_joined.ensures.few, ap (λ r. r.start) is.0, ap (λ r. r.end) is.0, run_weighed (runs table) i (record { low = low; high = high; index = index }) (omega arith) at);
      whole = have_more cid_range_span cid_entry_seen cid_span cid_at (λ x. refl) table (runs table) are old new i low high index (cid_entry_seen part) c.loop-i.invariant.whole at taken.1 (part_has table (runs table) are i low high index at e there part _ refl refl is.0 is.1);
    }

pub returns-clause-same : goal.returns-clause-same
returns-clause-same c =
    let table = c.args.table.now in
    let ranges = entries_seen c.loop-i.ranges.items in
    let end : c.loop-i.i ≡ length (runs table) = omega arith in
    (have_all cid_range_span cid_entry_seen cid_span cid_at (λ x. refl) table (runs table) c.run_count-i-end.ensures.runs.0 ranges c.requires c.loop-i.invariant.right (subst (HaveRuns cid_span (runs table) ranges) end c.loop-i.invariant.whole), c.loop-i.invariant.small)

pub returns-in_default-clause-err : goal.returns-in_default-clause-err
returns-in_default-clause-err c = (subst (λ ss. Any (λ run. (run.low ≡ c.run-start.result.0) × (run.high ≡ c.run-start.result.1)) (runs_of ss)) (sym (cid_spans_seen c.args.table.now)) (run_among (runs c.args.table.now) c.loop-i.i c.run-start.result.0 c.run-start.result.1 c.run-start.result.2 c.run-start.ensures.run), large_given c.args.table.now (runs c.args.table.now) c.run_count-i-end.ensures.runs.0 c.loop-i.i c.run-start.result.0 c.run-start.result.1 c.run-start.result.2 c.run-start.ensures.run c.decl.result.now c.decl.ensures.declaration c.in_default.ensures.none)

pub returns-in_err-push_joined-clause-err : goal.returns-in_err-push_joined-clause-err
returns-in_err-push_joined-clause-err c = memory_on _ _ c.from_residual.ensures.1

pub returns-in_err-push_joined-clause-same : goal.returns-in_err-push_joined-clause-same
returns-in_err-push_joined-clause-same c = IfOk-from_err _ _ c.from_residual.ensures.0

pub push_joined-requires-clause-all : goal.push_joined-requires-clause-all
push_joined-requires-clause-all c = c.loop-i.invariant.small

pub loop-i-init : goal.loop-i-init
loop-i-init c =
    let table = c.args.table.now in
    rw c.new-ranges.ensures.items (record {
      right = All-nil (SaysAs cid_span cid_at (entries_seen table));
      small = All-nil CanBeSplit;
      few = omega arith;
      parted = tt;
      before = λ run at. All-nil (λ e. e.end < run.low);
      whole = have_none cid_range_span cid_entry_seen cid_span cid_at (λ x. refl) table (runs table) c.run_count-i-end.ensures.runs.0;
    })

pub returns-clause-few : goal.returns-clause-few
returns-clause-few c = omega (arith, c.loop-i.invariant.few, runs_weighed (runs c.args.table.now) c.loop-i.i (omega arith))

pub returns-in_err-push_joined-clause-few : goal.returns-in_err-push_joined-clause-few
returns-in_err-push_joined-clause-few c = IfOk-from_err _ _ c.from_residual.ensures.0

pub returns-clause-whole : goal.returns-clause-whole
returns-clause-whole c = c.loop-i.invariant.parted
