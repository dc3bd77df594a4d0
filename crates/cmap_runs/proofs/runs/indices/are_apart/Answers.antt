use Rattle.std.proofs.Common.{◌+◌, map, take, get_or, sym, ap, ◌∙◌, subst, arith}
use Rattle.std.proofs.lemmas.List.{take_all, take_more}
use Rattle.cmap_runs.specs.DeclaredRanges.{LieApart, LieApartBefore, range_at}
use Rattle.cmap_runs.specs.Ranges.{Run}
use Rattle.cmap_runs.proofs.LieApart.{LieApartBefore-none, LieApartBefore-push}
use Rattle.cmap_runs.proofs.runs.indices.are_apart.Goals as goal

pub loop-index-init : goal.loop-index-init
loop-index-init g c = LieApartBefore-none (map g.T.HasRange.span c.args.declarations.now)

pub loop-index-preserved : goal.loop-index-preserved
loop-index-preserved g c =
    let spans = map g.T.HasRange.span c.args.declarations.now in let indices = c.args.indices.now in let i = c.loop-index.index-index in
    let is = c.range.view_is ∙ c.range_at-range.ensures in
    let low = ap (λ (r : Run). r.low) is in let high = ap (λ (r : Run). r.high) is in
    subst (λ indices. LieApartBefore spans indices (c.from-from.result + 1)) (sym (take_more indices i 0 (omega arith)))
    (LieApartBefore-push spans (take i indices) (get_or indices i 0) c.loop-index.from c.from-from.result c.loop-index.invariant
    (omega (arith, low)) (omega (arith, low, high)) (omega (arith, high)) (omega (arith, high)))

pub returns : goal.returns
returns g c = λ _.
    subst (λ indices. LieApart (map (range_at (map g.T.HasRange.span c.args.declarations.now)) indices)) (take_all c.loop-index.index-index c.args.indices.now (omega arith)) c.loop-index.invariant.apart
