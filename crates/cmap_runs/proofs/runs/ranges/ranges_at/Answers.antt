use Rattle.std.proofs.Common.{◌≡◌, ◌+◌, ◌<◌, [], ◌∷◌, ◌++◌, List, get_or, length, map, sym, ap, ◌∙◌, subst, arith}
use Rattle.std.specs.List.{range_with_len}
use Rattle.std.specs.Vec.{vec_capacity}
use Rattle.std.specs.List.Sorted.{IsNonDecreasingBy, IsPermutation}
use Rattle.std.proofs.lemmas.List.{length-map}
use Rattle.std.proofs.lemmas.Result.{IfOk-from_err}
use Rattle.cmap_runs.specs.DeclaredRanges.{AreRanges, range_at}
use Rattle.cmap_runs.specs.Ranges.{Run}
use Rattle.cmap_runs.proofs.RangesDecide.{AreRanges-from_indices, IsRange-at, RangesAt, RangesAt-none, RangesAt-push, RangesAt-skip, is_index}
use Rattle.cmap_runs.proofs.runs.ranges.ranges_at.Goals as goal
use Rattle.cmap_runs.proofs.runs.ranges.ranges_at.Goals.{then-range, else-range}

pub range_at-range-requires : goal.range_at-range-requires
range_at-range-requires g c =
    is_index _ c.deref-index-items.result.now
    (subst (IsPermutation (range_with_len 0 (length c.args.declarations.now))) (sym c.deref-index-items.ensures.value) c.requires.indices)
    c.loop-index.index-index 0 (omega arith)

pub loop-index-preserved : goal.loop-index-preserved
loop-index-preserved g c =
    let spans = map g.T.HasRange.span c.args.declarations.now in let indices = c.deref-index-items.result.now in let i = c.loop-index.index-index in
    let old = c.loop-index.ranges.items in let lt : i < length indices = omega arith in
    let order = subst (IsNonDecreasingBy (λ index. (range_at spans index).low)) (sym c.deref-index-items.ensures.value) c.requires.order in
    let is : c.range_at-range.result ≡ range_at spans (get_or indices i 0) = c.range_at-range.ensures in
    let low = ap (λ (r : Run). r.low) (c.range.view_is ∙ is) in let high = ap (λ (r : Run). r.high) (c.range.view_is ∙ is) in
    let are : RangesAt spans indices (i + 1) c.if-range.ranges.items =
    elim c.if-range.branch [
      | then-range w ↦
          let items_are : c.if-range.ranges.items ≡ old ++ range_at spans (get_or indices i 0) ∷ [] = ap (λ ranges. ranges.items) w.ranges-is ∙ w.push_reserved.ensures.items ∙ ap (λ r. old ++ r ∷ []) is in
          let within : get_or indices i 0 < length spans =
          subst (λ n. get_or indices i 0 < n) (sym (length-map c.args.declarations.now g.T.HasRange.span))
          (is_index _ indices (subst (IsPermutation (range_with_len 0 (length c.args.declarations.now))) (sym c.deref-index-items.ensures.value) c.requires.indices) i 0 lt)
          in
          subst (RangesAt spans indices (i + 1)) (sym items_are)
          (RangesAt-push spans indices i 0 old order lt c.loop-index.invariant.are (IsRange-at spans (get_or indices i 0) within (omega (arith, low, high, w.if-range.true)) (omega (arith, high))))
      | else-range w ↦
          subst (λ (ranges : List Run). RangesAt spans indices (i + 1) ranges) (sym (ap (λ ranges. ranges.items) w.ranges-is))
          (RangesAt-skip spans indices i 0 old lt c.loop-index.invariant.are (omega (arith, low, high, w.if-range.false)))
    ]
    in
    let same : vec_capacity c.if-range.ranges ≡ vec_capacity c.loop-index.ranges =
    elim c.if-range.branch [
      | then-range w ↦ ap vec_capacity w.ranges-is ∙ w.push_reserved.ensures.capacity
      | else-range w ↦ ap vec_capacity w.ranges-is
    ]
    in
    record { are = are; room = omega (arith, same, c.loop-index.invariant.room) }

pub push_reserved-requires : goal.push_reserved-requires
push_reserved-requires g c = omega (arith, c.loop-index.invariant.are.few, c.loop-index.invariant.room, c.loop-index.ranges.ok.0)

pub returns-clause-ranges : goal.returns-clause-ranges
returns-clause-ranges g c =
    let spans = map g.T.HasRange.span c.args.declarations.now in
    subst (λ n. AreRanges spans n c.loop-index.ranges.items) (sym (length-map c.args.declarations.now g.T.HasRange.span))
    (AreRanges-from_indices spans (length c.args.declarations.now) c.deref-index-items.result.now c.loop-index.ranges.items
    (subst (IsPermutation (range_with_len 0 (length c.args.declarations.now))) (sym c.deref-index-items.ensures.value) c.requires.indices)
    c.loop-index.invariant.are.each (λ k d lt. c.loop-index.invariant.are.every k d (omega arith)) (omega (arith, c.loop-index.invariant.are.few)))

pub returns-in_err-ranges : goal.returns-in_err-ranges
returns-in_err-ranges g c = record { ranges = IfOk-from_err _ _ c.from_residual.ensures.0; order = IfOk-from_err _ _ c.from_residual.ensures.0 }

pub loop-index-init : goal.loop-index-init
loop-index-init g c =
    let spans = map g.T.HasRange.span c.args.declarations.now in let indices = c.deref-index-items.result.now in
    record {
      are = subst (RangesAt spans indices 0) (sym c.in_ok-ranges.ensures.items) (RangesAt-none spans indices);
      room = omega (arith, c.in_ok-ranges.ensures.capacity, c.len.ensures, c.deref-index-items.ensures.len);
    }

pub returns-clause-order : goal.returns-clause-order
returns-clause-order g c = c.loop-index.invariant.are.order
