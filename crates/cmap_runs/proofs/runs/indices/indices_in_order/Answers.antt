use Rattle.std.proofs.Common.{rules, ◌≡◌, ℕ, length, map, refl, subst, arith}
use Rattle.std.specs.Prelude.{IfOk}
use Rattle.std.specs.Vec.{vec_items}
use Rattle.std.specs.List.{range_with_len}
use Rattle.std.specs.List.Sorted.{IsPermutation}
use Rattle.std.proofs.lemmas.Iterator.{YieldsList-from_range, items_from_collect}
use Rattle.std.proofs.lemmas.List.Sorted.{IsNonDecreasingBy-from_sort_by_key}
use Rattle.cmap_runs.specs.DeclaredRanges.{range_at}
use Rattle.cmap_runs.proofs.runs.indices.indices_in_order.Goals as goal

pub returns-clause-indices : goal.returns-clause-indices
returns-clause-indices g c =
    let count = length c.args.declarations.now in
    let items : c.in_ok-indices.indices.items ≡ range_with_len 0 count =
    subst (λ r. IfOk r (λ indices. vec_items indices ≡ range_with_len 0 count)) c.in_ok-indices.was
    (items_from_collect c.collect.result c.collect.ensures.ran (YieldsList-from_range 0 c.args.count count refl (omega arith)))
    in
    subst (λ items. IsPermutation items c.sort_by_key.new.self.items) items c.sort_by_key.ensures.permutation

pub returns-clause-order : goal.returns-clause-order
returns-clause-order g c =
    IsNonDecreasingBy-from_sort_by_key (λ (index : ℕ). (range_at (map g.T.HasRange.span c.args.declarations.now) index).low) _ c.in_ok-sort_by_key.ensures.sorted (λ a r q k. search rules)
