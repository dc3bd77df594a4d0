-- Bytes that end in bytes of a kind: which one before these is of another kind.
use Rattle.std.proofs.Common.{◌≡◌, ◌∙◌, Bool, true, false, ℕ, List, [], ◌∷◌, ◌++◌, ◌⊎◌, inl, inr, refl, sym, ap, true≢false}
use Rattle.std.specs.List.{list_all}
use Rattle.std.proofs.lemmas.Bool.{and_parts}

same_heads : {A : Type 0} (x y : A) (xs ys : List A) → x ∷ xs ≡ y ∷ ys → x ≡ y
same_heads x y xs ys is = cc

same_tails : {A : Type 0} (x y : A) (xs ys : List A) → x ∷ xs ≡ y ∷ ys → xs ≡ ys
same_tails x y xs ys is = cc

-- one among bytes of a kind is of this kind
pub of_kind : (P : ℕ → Bool) (before after : List ℕ) (b : ℕ) → list_all P (before ++ b ∷ after) ≡ true → P b ≡ true
of_kind P [] after b all = (and_parts _ _ all).0
of_kind P (x ∷ before) after b all = of_kind P before after b ((and_parts _ _ all).1)

-- so none of another kind stands there
pub none_other : (P : ℕ → Bool) (bytes before after : List ℕ) (b : ℕ) → list_all P bytes ≡ true → bytes ≡ before ++ b ∷ after → P b ≡ false → ⊥
none_other P bytes before after b all is other = true≢false (sym (of_kind P before after b (ap (list_all P) (sym is) ∙ all)) ∙ other)

-- the last one of another kind is one alone
pub same_last : (P : ℕ → Bool) (xs ys bs ds : List ℕ) (c d : ℕ) → xs ++ c ∷ bs ≡ ys ++ d ∷ ds
    → list_all P bs ≡ true → list_all P ds ≡ true → P c ≡ false → P d ≡ false → (xs ≡ ys) × (c ≡ d) × (bs ≡ ds)
same_last P [] [] bs ds c d is all all-2 not not-2 = (refl, same_heads _ _ _ _ is, same_tails _ _ _ _ is)
same_last P [] (y ∷ ys) bs ds c d is all all-2 not not-2 = absurd (none_other P bs ys ds d all (same_tails _ _ _ _ is) not-2)
same_last P (x ∷ xs) [] bs ds c d is all all-2 not not-2 = absurd (none_other P ds xs bs c all-2 (sym (same_tails _ _ _ _ is)) not)
same_last P (x ∷ xs) (y ∷ ys) bs ds c d is all all-2 not not-2 =
    let head : x ≡ y = same_heads _ _ _ _ is in
    let rest = same_last P xs ys bs ds c d (same_tails _ _ _ _ is) all all-2 not not-2 in
    ((λ i. head i ∷ rest.0 i), rest.1, rest.2)

-- no bytes, or a last one
pub with_last : (bytes : List ℕ) → (bytes ≡ []) ⊎ ((before : List ℕ) × (b : ℕ) × (bytes ≡ before ++ b ∷ []))
with_last [] = inl refl
with_last (x ∷ bytes) = elim (with_last bytes) [
  | inl none ↦ inr ([], x, ap (λ xs. x ∷ xs) none)
  | inr some ↦ inr (x ∷ some.0, some.1, ap (λ xs. x ∷ xs) some.2)
]
