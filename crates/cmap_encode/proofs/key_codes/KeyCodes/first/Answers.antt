use Rattle.std.proofs.Common.{rules, All, subst, sym}
use Rattle.std.proofs.lemmas.List.Sorted.{All-permutation, IsNonDecreasingBy-from_sort_by_key}
use Rattle.cmap_encode.specs.KeyCodesSeen.{AreFirsts, IsCodeRun, precedence_of}
use Rattle.cmap_encode.proofs.KeyCodesFound.{are_firsts}
use Rattle.cmap_encode.proofs.key_codes.KeyCodes.first.Goals as goal

pub invariant_of-result : goal.invariant_of-result
invariant_of-result c = subst (All IsCodeRun) (sym c.in_ok-table.ensures) (All-permutation IsCodeRun _ _ c.sort_by_key.ensures.permutation c.requires)

pub returns : goal.returns
returns c =
    subst (AreFirsts c.args.runs.items) (sym c.in_ok-table.ensures)
    (are_firsts _ _ (All-permutation IsCodeRun _ _ c.sort_by_key.ensures.permutation c.requires) c.sort_by_key.ensures.permutation
    (IsNonDecreasingBy-from_sort_by_key precedence_of _ c.in_ok-sort_by_key.ensures.sorted (λ a r q k. search rules)))
