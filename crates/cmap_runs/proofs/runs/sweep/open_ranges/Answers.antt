use Rattle.std.proofs.Common.{◌≡◌, ℕ, ◌+◌, ◌-◌, ◌≤◌, ◌<◌, [], ◌∷◌, ◌++◌, Option, get_or, length, take, sym, ap, ◌∙◌, subst, arith}
use Rattle.std.proofs.lemmas.List.{get_or_read, take_more}
use Rattle.cmap_runs.specs.DeclaredRanges.{IsRange}
use Rattle.cmap_runs.specs.OpenRanges.{AreOpen, IsGreatest, Opens, StayOpen}
use Rattle.cmap_runs.specs.Ranges.{AreRunsBelow, Run, last_index}
use Rattle.cmap_runs.proofs.MaximalRuns.{AreRunsBelow-none}
use Rattle.cmap_runs.proofs.OpenDecide.{AreOpen-none, AreOpen-push, StayOpen-same, decides_open}
use Rattle.cmap_runs.proofs.runs.sweep.open_ranges.Goals as goal
use Rattle.cmap_runs.proofs.runs.sweep.open_ranges.Goals.{then-from-next+in_ok-add_runs, else-from-next}

pub loop-range-preserved : goal.loop-range-preserved
loop-range-preserved c =
    let ranges = c.args.ranges.now in let i = c.loop-range.range-index in let from = c.loop-range.from in let next = c.from-next.result in
    let range : Run = record { low = c.range.inside.low; high = c.range.inside.high; index = c.range.inside.index } in
    let lt : i < length ranges = omega arith in
    let is : (d : Run) → range ≡ get_or ranges i d = λ d. c.range.view_is ∙ get_or_read ranges i c.range-item.result lt c.range-item.is d in
    let low : (d : Run) → next ≡ (get_or ranges i d).low = λ d. c.from-next.ensures ∙ ap (λ (r : Run). r.low) (is d) in
    let le : from ≤ next = omega (arith, c.loop-range.invariant.later i range (omega arith) lt, low range) in
    let later : (k : ℕ) (d : Run) → i ≤ k → k < length ranges → next ≤ (get_or ranges k d).low = λ k d from_here within. omega (arith, low d, c.requires.order i k d from_here within) in
    let before = c.loop-range.ends in let now = c.if-from-next.ends in
    let stay : StayOpen before now next =
    elim c.if-from-next.branch [
      | then-from-next+in_ok-add_runs w ↦ rw w.ends-is w.in_ok-add_runs.ensures.stay
      | else-from-next w ↦ rw w.ends-is (StayOpen-same before next)
    ]
    in
    let more : (decides : ℕ → Option ℕ) → ((code : ℕ) → from ≤ code → code < next → IsGreatest before code (decides code))
    → AreRunsBelow decides from c.loop-range.runs → AreRunsBelow decides next c.if-from-next.runs =
    elim c.if-from-next.branch [
      | then-from-next+in_ok-add_runs w ↦ rw w.runs-is w.in_ok-add_runs.ensures.runs
      | else-from-next w ↦ λ decides greatest were. let same : from ≡ next = omega (arith, w.if-from-next.false) in rw w.runs-is (subst (λ n. AreRunsBelow decides n c.loop-range.runs) same were)
    ]
    in
    let few : (length c.if-from-next.runs + (length c.if-from-next.ends - 1) ≤ length c.loop-range.runs + length c.loop-range.ends) × (length c.if-from-next.ends ≤ length c.loop-range.ends) =
    elim c.if-from-next.branch [
      | then-from-next+in_ok-add_runs w ↦ rw (w.runs-is, w.ends-is) (w.in_ok-add_runs.ensures.few, w.in_ok-add_runs.ensures.fewer)
      | else-from-next w ↦ rw (w.runs-is, w.ends-is) (omega arith, omega arith)
    ]
    in
    record {
      later = λ k d from_here within. later k d (omega arith) within;
      limit = omega arith;
      are = λ spans are.
          let old = c.loop-range.invariant.are spans are in (
            subst (λ begun. AreOpen spans begun c.open.new.self next) (sym (take_more ranges i range lt ∙ ap (λ r. take i ranges ++ r ∷ []) (sym (is range))))
                (AreOpen-push range next old.0 le stay (subst (IsRange spans) (sym (is range)) (are.each i range lt)) (omega arith) (subst (Opens now c.open.new.self) (sym c.range.view_is) c.in_ok-open.ensures.opens)),
            more (last_index spans) (decides_open i next are old.0 later) old.1,
          );
      few = omega (arith, c.in_ok-open.ensures.few, few);
    }

pub loop-range-init : goal.loop-range-init
loop-range-init c = record {
  later = λ k d from_here within. omega arith;
  limit = omega arith;
  are = λ spans are. rw (c.requires.ends, c.requires.runs) (AreOpen-none spans 0, AreRunsBelow-none (last_index spans));
  few = rw (c.requires.ends, c.requires.runs) (omega arith);
}
