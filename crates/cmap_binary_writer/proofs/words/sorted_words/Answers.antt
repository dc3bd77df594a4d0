use Rattle.std.proofs.Common.{rules}
use Rattle.std.proofs.lemmas.List.Sorted.{IsNonDecreasingBy-from_sort_by_key}
use Rattle.std.proofs.lemmas.Result.{IfOk-from_err}
use Rattle.cmap_binary_writer.proofs.words.sorted_words.Goals as goal

pub returns-clause-sorted : goal.returns-clause-sorted
returns-clause-sorted c = IsNonDecreasingBy-from_sort_by_key (λ w. w.symbol) _ c.in_ok-sort_by_key.ensures.sorted (λ a r q k. search rules)

pub returns-in_err-sorted-clause-same : goal.returns-in_err-sorted-clause-same
returns-in_err-sorted-clause-same c = IfOk-from_err _ _ c.from_residual.ensures.0

pub returns-in_err-sorted-clause-sorted : goal.returns-in_err-sorted-clause-sorted
returns-in_err-sorted-clause-sorted c = IfOk-from_err _ _ c.from_residual.ensures.0

pub returns-in_err-extend_from_slice-clause-same : goal.returns-in_err-extend_from_slice-clause-same
returns-in_err-extend_from_slice-clause-same c = IfOk-from_err _ _ c.from_residual-in_err-extend_from_slice.ensures.0

pub returns-in_err-extend_from_slice-clause-sorted : goal.returns-in_err-extend_from_slice-clause-sorted
returns-in_err-extend_from_slice-clause-sorted c = IfOk-from_err _ _ c.from_residual-in_err-extend_from_slice.ensures.0

pub returns-in_err-sort_by_key-clause-same : goal.returns-in_err-sort_by_key-clause-same
returns-in_err-sort_by_key-clause-same c = IfOk-from_err _ _ c.from_residual-in_err-sort_by_key.ensures.0

pub returns-in_err-sort_by_key-clause-sorted : goal.returns-in_err-sort_by_key-clause-sorted
returns-in_err-sort_by_key-clause-sorted c = IfOk-from_err _ _ c.from_residual-in_err-sort_by_key.ensures.0
