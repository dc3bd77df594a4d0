-- How the differences of texts grow with the limit.
use Rattle.std.proofs.Common.{◌≡◌, ℕ, ◌+◌, ◌≤◌, List, [], ◌∷◌, ◌++◌, refl, inl, inr, arith, sym, ◌∙◌}
use Rattle.std.specs.Prelude.{◌≢◌, Some}
use Rattle.std.proofs.lemmas.Bool.{cases_lt}
use Rattle.std.proofs.lemmas.List.Elements.{All-pop}
use Rattle.cmap_layers.specs.Layers.{Layer}
use Rattle.cmap_layers.specs.Lookups.{bf_of}
use Rattle.cmap_edit.specs.Differences.{AreTextDifferencesBelow, CouldBeOneOfTexts, IsTextDifference}
use Rattle.cmap_edit.specs.declared.diff.texts.TextDifference.{TextDifference}
use Rattle.cmap_edit.proofs.Growing as growing

module _ (left right : List Layer) where
  abbrev AreBelow : ℕ → List TextDifference → Type 0
  AreBelow limit ds = AreTextDifferencesBelow left right limit ds

  pub agreed : (next last : ℕ) (ds : List TextDifference) → AreBelow next ds → next ≤ last → ((code : ℕ) → next ≤ code → code ≤ last → bf_of left code ≡ bf_of right code) → AreBelow (last + 1) ds
  agreed next last ds are le same = growing.passed_over (λ (d : TextDifference). d.range) (IsTextDifference left right) (λ code. bf_of left code ≢ bf_of right code) CouldBeOneOfTexts next last ds are le (λ code from to differs. differs (same code from to))

  pub added_behind : (front : List TextDifference) (last next : TextDifference) → AreBelow next.range.start (front ++ last ∷ []) → IsTextDifference left right next → next.range.start ≤ next.range.end → (CouldBeOneOfTexts last next → ⊥) → AreBelow (next.range.end + 1) ((front ++ last ∷ []) ++ next ∷ [])
  added_behind front last next are is filled unlike =
      growing.put_behind (λ (d : TextDifference). d.range) (IsTextDifference left right) (λ code. bf_of left code ≢ bf_of right code) CouldBeOneOfTexts (λ d later could. could.meets) next.range.start next.range.end front last next are filled is (omega arith) filled (omega arith) (λ code from to differs. (from, to)) unlike

  pub added_as_one : (front : List TextDifference) (last next both : TextDifference) → AreBelow next.range.start (front ++ last ∷ []) → IsTextDifference left right next → next.range.start ≤ next.range.end → CouldBeOneOfTexts last next
      → both ≡ record last { range = record { start = last.range.start; end = next.range.end } } → AreBelow (next.range.end + 1) (front ++ both ∷ [])
  added_as_one front last next both are is filled one made =
      let was = (All-pop (IsTextDifference left right) _ front (Some last) refl are.each).1 in
      rw made
      (growing.put_as_one (λ (d : TextDifference). d.range) (IsTextDifference left right) (λ code. bf_of left code ≢ bf_of right code) CouldBeOneOfTexts next.range.start next.range.end front last (record last { range = record { start = last.range.start; end = next.range.end } }) are filled
      (record {
        left_decides = λ code within. elim (cases_lt code next.range.start) [ inl before ↦ was.left_decides code (within.0, omega (arith, one.meets)) | inr after ↦ is.left_decides code (after, within.1) ∙ sym one.left_same ];
        right_decides = λ code within. elim (cases_lt code next.range.start) [ inl before ↦ was.right_decides code (within.0, omega (arith, one.meets)) | inr after ↦ is.right_decides code (after, within.1) ∙ sym one.right_same ];
        differs = λ code within. elim (cases_lt code next.range.start) [ inl before ↦ was.differs code (within.0, omega (arith, one.meets)) | inr after ↦ is.differs code (after, within.1) ];
      })
      one.meets refl refl
      (λ e could. record { meets = could.meets; left_same = could.left_same; right_same = could.right_same }))
