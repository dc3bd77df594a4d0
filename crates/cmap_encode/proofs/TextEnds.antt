-- Texts by their last characters.
use Rattle.std.proofs.Common.{◌≡◌, ℕ, ◌-◌, ◌⊎◌, List, [], ◌∷◌, ◌++◌, length, take, Some, refl, sym, ap, ◌∙◌, subst, inl, inr, arith, length-append}
use Rattle.std.specs.Prelude.{slice_get}
use Rattle.std.proofs.lemmas.List.{take_at}
use Rattle.std.proofs.lemmas.Option.{same_Some}
use Rattle.cmap_encode.proofs.ListElements.{push_last}

pub last_got : (prefix : List ℕ) (last : ℕ) → slice_get (prefix ++ last ∷ []) (length (prefix ++ last ∷ []) - 1) ≡ Some last
last_got prefix last =
    let at : length prefix ≡ length (prefix ++ last ∷ []) - 1 = omega (arith, length-append prefix (last ∷ [])) in
    subst (λ n. slice_get (prefix ++ last ∷ []) n ≡ Some last) at (push_last prefix last (length prefix) refl)

pub prefix_taken : (prefix : List ℕ) (last : ℕ) → take (length (prefix ++ last ∷ []) - 1) (prefix ++ last ∷ []) ≡ prefix
prefix_taken prefix last = take_at prefix (last ∷ []) (length (prefix ++ last ∷ []) - 1) (omega (arith, length-append prefix (last ∷ [])))

pub text_ends : (text : List ℕ) → (text ≡ []) ⊎ ((prefix : List ℕ) × (last : ℕ) × (text ≡ prefix ++ last ∷ []))
text_ends [] = inl refl
text_ends (c ∷ cs) =
    elim (text_ends cs) [
      | inl empty ↦ inr ([], c, ap (λ l. c ∷ l) empty)
      | inr (prefix, last, is) ↦ inr (c ∷ prefix, last, ap (λ l. c ∷ l) is)
    ]

pub same_end : (prefix other : List ℕ) (last also : ℕ) → prefix ++ last ∷ [] ≡ other ++ also ∷ [] → (prefix ≡ other) × (last ≡ also)
same_end prefix other last also same = (
  sym (prefix_taken prefix last) ∙ ap (λ (l : List ℕ). take (length l - 1) l) same ∙ prefix_taken other also,
  same_Some last also (sym (last_got prefix last) ∙ ap (λ (l : List ℕ). slice_get l (length l - 1)) same ∙ last_got other also),
)
