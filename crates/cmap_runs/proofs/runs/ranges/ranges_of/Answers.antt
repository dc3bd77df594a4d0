use Rattle.std.proofs.Common.{◌≡◌, ◌+◌, [], ◌∷◌, ◌++◌, length, map, sym, ap, ◌∙◌, subst, arith}
use Rattle.std.specs.Vec.{vec_capacity}
use Rattle.std.proofs.lemmas.List.{length-map}
use Rattle.std.proofs.lemmas.Result.{IfOk-from_err}
use Rattle.cmap_runs.specs.DeclaredRanges.{AreRanges}
use Rattle.cmap_runs.specs.Ranges.{Run}
use Rattle.cmap_runs.proofs.RangesDecide.{AreRanges-push, AreRanges-skip, span_at}
use Rattle.cmap_runs.proofs.runs.ranges.ranges_of.Goals as goal
use Rattle.cmap_runs.proofs.runs.ranges.ranges_of.Goals.{then-range, else-range}

pub loop-index-preserved : goal.loop-index-preserved
loop-index-preserved g c =
    let list = c.args.declarations.now in let index = c.loop-index.index in let spans = map g.T.HasRange.span list in
    let range = c.range-range.result.now in let old = c.loop-index.ranges.items in
    let at = span_at g.T.HasRange.span list index c.index-declarations-index.result range.start range.end (omega arith) c.index-declarations-index.is c.range-range.ensures.start c.range-range.ensures.end in
    let are : AreRanges spans (index + 1) c.if-range.ranges.items =
    elim c.if-range.branch [
      | then-range w ↦
          let run : Run = record { low = range.start; high = range.end; index = index } in
          let items_are : c.if-range.ranges.items ≡ old ++ run ∷ [] = ap (λ ranges. ranges.items) w.ranges-is ∙ subst (λ run. w.push_reserved.new.self.items ≡ old ++ run ∷ []) w.new.ensures w.push_reserved.ensures.items in
          subst (AreRanges spans (index + 1)) (sym items_are) (AreRanges-push spans index range.start range.end old c.loop-index.invariant.are at w.if-range.true (omega arith))
      | else-range w ↦
          subst (AreRanges spans (index + 1)) (sym (ap (λ ranges. ranges.items) w.ranges-is)) (AreRanges-skip spans index range.start range.end old c.loop-index.invariant.are at (omega arith))
    ]
    in
    let same : vec_capacity c.if-range.ranges ≡ vec_capacity c.loop-index.ranges =
    elim c.if-range.branch [
      | then-range w ↦ ap vec_capacity w.ranges-is ∙ w.push_reserved.ensures.capacity
      | else-range w ↦ ap vec_capacity w.ranges-is
    ]
    in
    record { are = are; room = omega (arith, same, c.loop-index.invariant.room) }

pub push_reserved-requires : goal.push_reserved-requires
push_reserved-requires g c = omega (arith, c.loop-index.invariant.are.few, c.loop-index.invariant.room, c.loop-index.ranges.ok.0)

pub returns : goal.returns
returns g c =
    let list = c.args.declarations.now in let spans = map g.T.HasRange.span list in
    subst (λ count. AreRanges spans count c.loop-index.ranges.items) (let e : c.loop-index.index ≡ length spans = omega (arith, length-map list g.T.HasRange.span) in e) c.loop-index.invariant.are

pub returns-in_err-ranges : goal.returns-in_err-ranges
returns-in_err-ranges g c = IfOk-from_err _ _ c.from_residual.ensures.0
