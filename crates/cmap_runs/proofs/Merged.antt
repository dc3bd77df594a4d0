-- Ranges that are merged in the order of their codes, with the blocks that are made of them.
use Rattle.std.proofs.Common.{◌≡◌, ℕ, ◌+◌, ◌-◌, ◌*◌, ◌%◌, ◌<◌, ◌≤◌, ◌^◌, List, [], ◌∷◌, ◌++◌, length, map, sym, ap, ◌∙◌, subst, bit_or, arith}
use Rattle.std.proofs.lemmas.List.{get_or_push, length-append, length-map, map_push}
use Rattle.cmap_runs.specs.Blocks.{AreMade}
use Rattle.cmap_runs.specs.DeclaredRanges.{range_at}
use Rattle.cmap_runs.specs.Made.{AreMerged}
use Rattle.cmap_runs.specs.Order.{IsInOrder}
use Rattle.cmap_runs.specs.Ranges.{Run, Span}
use Rattle.cmap_runs.specs.declared.runs.blocks.Block.{Block}
use Rattle.cmap_runs.proofs.BlocksMade.{few_begun, made_longer, made_next}
use Rattle.cmap_runs.proofs.LieApart.{LieApartBefore-push, in_order}

-- one more range
pub AreMerged-push : (spans : List Span) (indices : List ℕ) (index next low high : ℕ) (list : List Block) (most begun starts : ℕ)
    → AreMerged spans indices next list most begun starts → (length list < most → low < 32 * length list + 32)
    → (range_at spans index).low ≡ low → (range_at spans index).high ≡ high → next ≤ low → low ≤ high → high < 2 ^ 32
    → AreMerged spans (indices ++ index ∷ []) (high + 1) list most begun (bit_or starts (1 * 2 ^ (31 - low % 32) % 2 ^ 32))
AreMerged-push spans indices index next low high list most begun starts old below low_is high_is after filled fits =
    let runs = map (range_at spans) indices in let run = range_at spans index in let more = runs ++ run ∷ [] in
    let pushed = map_push (range_at spans) indices index in
    let lie = LieApartBefore-push spans indices index next high old.lie (omega (arith, after, low_is)) (omega (arith, low_is, high_is, filled)) high_is fits in
    let len : length more ≡ length runs + 1 = length-append runs (run ∷ []) in
    let order = subst (λ runs. IsInOrder runs) pushed (in_order (map (range_at spans) (indices ++ index ∷ [])) lie.apart) in
    let now = made_next more list (length runs) most begun starts low order (omega (arith, len)) (λ d. ap (λ (r : Run). r.low) (get_or_push runs run d (length runs) (omega arith)) ∙ low_is) below
    (made_longer runs run list most begun starts (omega (arith, old.begin, after, low_is)) old.made) in
    record {
      lie = lie;
      begin = omega (arith, old.begin, after, filled);
      made = subst (λ runs. AreMade runs (length runs) list most begun (bit_or starts (1 * 2 ^ (31 - low % 32) % 2 ^ 32))) (sym pushed)
          (subst (λ n. AreMade more n list most begun (bit_or starts (1 * 2 ^ (31 - low % 32) % 2 ^ 32))) (sym len) now);
    }

-- no more of them than there are codes before the end of the block that is made
pub few_merged : (spans : List Span) (indices : List ℕ) (next : ℕ) (list : List Block) (most begun starts : ℕ)
    → AreMerged spans indices next list most begun starts → length list < most → length indices ≤ 32 * length list + 32
few_merged spans indices next list most begun starts are more =
    let runs = map (range_at spans) indices in
    omega (arith, length-map indices (range_at spans), few_begun runs (32 * length list + 32) (length runs) (in_order runs are.lie.apart) (omega arith) (are.made.unfinished more).last)
