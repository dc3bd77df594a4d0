use Rattle.std.proofs.Common.{rules, List, length, sym, subst}
use Rattle.std.specs.List.Sorted.{IsNonDecreasingBy}
use Rattle.std.proofs.lemmas.List.Sorted.{IsNonDecreasingBy-from_sort_by_key}
use Rattle.std.proofs.lemmas.Result.{IfOk-weaker}
use Rattle.cmap_runs.specs.DeclaredRanges.{AreRanges}
use Rattle.cmap_runs.specs.HeldRuns.{AreHeld}
use Rattle.cmap_runs.specs.Ranges.{Run, Span}
use Rattle.cmap_runs.proofs.RangesDecide.{AreRanges-IsPermutation}
use Rattle.cmap_runs.proofs.runs.sweep.sorted_and_swept.Goals as goal

pub sweep-requires : goal.sweep-requires
sweep-requires c =
    subst (IsNonDecreasingBy (λ (range : Run). range.low)) (sym c.as_slice.ensures.value)
    (IsNonDecreasingBy-from_sort_by_key (λ (range : Run). range.low) _ c.in_ok-sort_by_key.ensures.sorted (λ a r q k. search rules))

pub returns : goal.returns
returns c =
    IfOk-weaker c.sweep.result (λ runs. (spans : List Span) → AreRanges spans (length spans) c.as_slice.result.now → AreHeld spans runs)
    (λ runs. (spans : List Span) → AreRanges spans (length spans) c.args.ranges.items → AreHeld spans runs)
    (λ runs all spans are. all spans (subst (AreRanges spans (length spans)) (sym c.as_slice.ensures.value)
    (AreRanges-IsPermutation spans (length spans) _ c.sort_by_key.new.self.items c.sort_by_key.ensures.permutation are))) c.sweep.ensures
