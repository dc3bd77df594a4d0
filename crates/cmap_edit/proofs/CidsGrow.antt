-- How the differences of CIDs grow with the limit.
use Rattle.std.proofs.Common.{◌≡◌, ℕ, ◌+◌, ◌≤◌, List, [], ◌∷◌, ◌++◌, Option, refl, arith}
use Rattle.std.specs.Prelude.{◌≢◌, Some}
use Rattle.std.proofs.lemmas.List.Elements.{All-pop}
use Rattle.cmap_edit.specs.Differences.{AreCidDifferencesBelow, CouldBeOneOfCids, IsCidDifference}
use Rattle.cmap_edit.specs.declared.diff.cids.CidDifference.{CidDifference}
use Rattle.cmap_edit.proofs.Growing as growing

module _ (left right : ℕ → Option ℕ) where
  abbrev AreBelow : ℕ → List CidDifference → Type 0
  AreBelow limit ds = AreCidDifferencesBelow left right limit ds

  pub none_below : AreBelow 0 []
  none_below = growing.no_difference (λ (d : CidDifference). d.range) (IsCidDifference left right) (λ code. left code ≢ right code) (CouldBeOneOfCids left right)

  pub agreed : (next last : ℕ) (ds : List CidDifference) → AreBelow next ds → next ≤ last → ((code : ℕ) → next ≤ code → code ≤ last → left code ≡ right code) → AreBelow (last + 1) ds
  agreed next last ds are le same = growing.passed_over (λ (d : CidDifference). d.range) (IsCidDifference left right) (λ code. left code ≢ right code) (CouldBeOneOfCids left right) next last ds are le (λ code from to differs. differs (same code from to))

  pub is_last : (limit : ℕ) (front : List CidDifference) (last : CidDifference) → AreBelow limit (front ++ last ∷ []) → IsCidDifference left right last
  is_last limit front last are = (All-pop (IsCidDifference left right) _ front (Some last) refl are.each).1

  pub first_added : (next : CidDifference) → AreBelow next.range.start [] → IsCidDifference left right next → next.range.start ≤ next.range.end → AreBelow (next.range.end + 1) (next ∷ [])
  first_added next are is filled =
      growing.put_first (λ (d : CidDifference). d.range) (IsCidDifference left right) (λ code. left code ≢ right code) (CouldBeOneOfCids left right) next.range.start next.range.end next are filled is (omega arith) filled (omega arith) (λ code from to differs. (from, to))

  pub added_behind : (front : List CidDifference) (last next : CidDifference) → AreBelow next.range.start (front ++ last ∷ []) → IsCidDifference left right next → next.range.start ≤ next.range.end → (CouldBeOneOfCids left right last next → ⊥) → AreBelow (next.range.end + 1) ((front ++ last ∷ []) ++ next ∷ [])
  added_behind front last next are is filled unlike =
      growing.put_behind (λ (d : CidDifference). d.range) (IsCidDifference left right) (λ code. left code ≢ right code) (CouldBeOneOfCids left right) (λ d later could. could.meets) next.range.start next.range.end front last next are filled is (omega arith) filled (omega arith) (λ code from to differs. (from, to)) unlike

  pub added_as_one : (front : List CidDifference) (last next both : CidDifference) → AreBelow next.range.start (front ++ last ∷ []) → next.range.start ≤ next.range.end
      → (last.range.end + 1 ≡ next.range.start) × (both.range.start ≡ last.range.start) × (both.range.end ≡ next.range.end) × IsCidDifference left right both → AreBelow (next.range.end + 1) (front ++ both ∷ [])
  added_as_one front last next both are filled (meets, starts, ends, is) =
      growing.put_as_one (λ (d : CidDifference). d.range) (IsCidDifference left right) (λ code. left code ≢ right code) (CouldBeOneOfCids left right) next.range.start next.range.end front last both are filled is meets starts ends
      (λ e could. record {
        meets = omega (arith, could.meets);
        left_cids = (could.left_cids.0, λ code from to. could.left_cids.1 code from (omega arith));
        right_cids = (could.right_cids.0, λ code from to. could.right_cids.1 code from (omega arith));
      })
