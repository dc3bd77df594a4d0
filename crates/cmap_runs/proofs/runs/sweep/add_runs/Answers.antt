use Rattle.std.proofs.Common.{◌≡◌, ℕ, ◌+◌, ◌-◌, List, length, ap, subst, sym, arith}
use Rattle.std.proofs.lemmas.List.Sorted.{length_permutation}
use Rattle.std.proofs.lemmas.Result.{IfOk-from_err}
use Rattle.cmap_runs.specs.OpenRanges.{StayOpen}
use Rattle.cmap_runs.specs.Ranges.{AreRunsBelow}
use Rattle.cmap_runs.proofs.OpenDecide.{AreRunsBelow-greatest, AreRunsBelow-none_open, StayOpen-close, StayOpen-later, StayOpen-same}
use Rattle.cmap_runs.proofs.runs.sweep.add_runs.Goals as goal

pub loop-index-smaller-then-from-last : goal.loop-index-smaller-then-from-last
loop-index-smaller-then-from-last c = omega (arith, length_permutation _ _ (c.in-Some.ensures.closed (omega arith)))

pub loop-index-smaller : goal.loop-index-smaller
loop-index-smaller c = omega (arith, length_permutation _ _ (c.in-Some.ensures.closed (omega arith)))

pub loop-index-preserved-then-from-last : goal.loop-index-preserved-then-from-last
loop-index-preserved-then-from-last c =
    let old = c.loop-index.invariant in let top = c.in-Some.ensures.top in
    let closed = c.in-Some.ensures.closed (omega arith) in let fewer = length_permutation _ _ closed in
    record {
      order = omega arith;
      limit = omega arith;
      runs = λ decides greatest are.
          rw c.in_ok-add-2.ensures.added
          (AreRunsBelow-greatest c.args.from c.args.to c.from-last.result c.in-Some.index c.in-Some.last
          greatest old.stay old.order top.is top.greatest (omega arith) (omega arith) (omega arith) (old.runs decides greatest are));
      stay = StayOpen-close (c.from-last.result + 1) c.in-Some.index c.in-Some.last old.stay closed (omega arith) (omega arith);
      fewer = omega (arith, fewer);
      few = omega (arith, fewer, c.in_ok-add-2.ensures.few);
    }

pub loop-index-preserved : goal.loop-index-preserved
loop-index-preserved c =
    let old = c.loop-index.invariant in
    let closed = c.in-Some.ensures.closed (omega arith) in let fewer = length_permutation _ _ closed in
    record {
      order = old.order;
      limit = old.limit;
      runs = old.runs;
      stay = StayOpen-close c.loop-index.from c.in-Some.index c.in-Some.last old.stay closed (omega arith) (omega arith);
      fewer = omega (arith, fewer);
      few = omega (arith, fewer);
    }

pub returns-in_err-add : goal.returns-in_err-add
returns-in_err-add c = record { runs = IfOk-from_err _ _ c.from_residual.ensures.0; stay = IfOk-from_err _ _ c.from_residual.ensures.0; fewer = IfOk-from_err _ _ c.from_residual.ensures.0; few = IfOk-from_err _ _ c.from_residual.ensures.0 }

pub returns-in_err-add-2 : goal.returns-in_err-add-2
returns-in_err-add-2 c = record { runs = IfOk-from_err _ _ c.from_residual-in_err-add-2.ensures.0; stay = IfOk-from_err _ _ c.from_residual-in_err-add-2.ensures.0; fewer = IfOk-from_err _ _ c.from_residual-in_err-add-2.ensures.0; few = IfOk-from_err _ _ c.from_residual-in_err-add-2.ensures.0 }

pub loop-index-init : goal.loop-index-init
loop-index-init c = record { order = omega arith; limit = c.requires.order; runs = λ decides greatest are. are; stay = StayOpen-same c.args.ends.now c.args.from; fewer = omega arith; few = omega arith }

pub returns-else-from-to : goal.returns-else-from-to
returns-else-from-to c =
    let old = c.loop-index.invariant in let stays = c.in-Some.ensures.stays (omega arith) in
    let end : c.loop-index.from ≡ c.args.to = omega (arith, old.limit) in let same = ap (λ (l : List (ℕ × ℕ)). length l) stays in
    record {
      runs = λ decides greatest are. subst (λ n. AreRunsBelow decides n c.loop-index.runs) end (old.runs decides greatest are);
      stay = subst (λ ends. StayOpen c.args.ends.now ends c.args.to) (sym stays) (StayOpen-later old.stay old.limit);
      fewer = omega (arith, old.fewer, same);
      few = omega (arith, old.few, same);
    }

pub returns : goal.returns
returns c =
    let old = c.loop-index.invariant in let none = c.in_default.ensures in let same = ap (λ (l : List (ℕ × ℕ)). length l) none.1 in
    record {
      runs = λ decides greatest are. AreRunsBelow-none_open c.args.from c.args.to greatest old.stay old.order old.limit none.0 (old.runs decides greatest are);
      stay = subst (λ ends. StayOpen c.args.ends.now ends c.args.to) (sym none.1) (StayOpen-later old.stay old.limit);
      fewer = omega (arith, old.fewer, same);
      few = omega (arith, old.few, same);
    }

pub returns-in_ok-add : goal.returns-in_ok-add
returns-in_ok-add c =
    let old = c.loop-index.invariant in let top = c.in-Some.ensures.top in let stays = c.in-Some.ensures.stays (omega arith) in
    let same = ap (λ (l : List (ℕ × ℕ)). length l) stays in
    let end : c.args.to - 1 + 1 ≡ c.args.to = omega arith in
    record {
      runs = λ decides greatest are.
          subst (λ n. AreRunsBelow decides n c.add.new.self) end
          (rw c.in_ok-add.ensures.added (AreRunsBelow-greatest c.args.from c.args.to (c.args.to - 1) c.in-Some.index c.in-Some.last
          greatest old.stay old.order top.is top.greatest (omega arith) (omega arith) (omega arith) (old.runs decides greatest are)));
      stay = subst (λ ends. StayOpen c.args.ends.now ends c.args.to) (sym stays) (StayOpen-later old.stay old.limit);
      fewer = omega (arith, old.fewer, same);
      few = omega (arith, old.few, same, c.in_ok-add.ensures.few, top.is.1);
    }
