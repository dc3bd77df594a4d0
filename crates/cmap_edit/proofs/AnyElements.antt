-- What holds of some element of a list.
use Rattle.std.proofs.Common.{zero, suc, List, [], ◌∷◌, ◌++◌, inl, inr, sym, subst, arith}
use Rattle.std.specs.Prelude.{◌⊎◌, Any}
use Rattle.std.specs.List.{Contains}
use Rattle.std.proofs.lemmas.List.Elements.{Contains-append_cases, Contains-append_left}

module _ {X : Type 0} (P : X → Type 0) where
  through : (xs ys : List X) → ((x : X) → Contains xs x → Contains ys x) → Any P xs → Any P ys
  through xs ys into (k, x, within, is, holds) = let (j, there, same) = into x (k, within, is) in (j, x, there, same, holds)

  pub Any-left : (xs ys : List X) → Any P xs → Any P (xs ++ ys)
  Any-left xs ys = through xs (xs ++ ys) (λ x. Contains-append_left xs ys x)

  pub Any-cases : (xs ys : List X) → Any P (xs ++ ys) → Any P xs ⊎ Any P ys
  Any-cases xs ys (k, x, within, is, holds) =
      elim (Contains-append_cases xs ys x (k, within, is)) [
        | inl (j, there, same) ↦ inl (j, x, there, same, holds)
        | inr (j, there, same) ↦ inr (j, x, there, same, holds)
      ]

  pub Any-nil : Any P [] → ⊥
  Any-nil (k, x, within, is, holds) = omega (arith, within)

  pub Any-one : (x : X) → Any P (x ∷ []) → P x
  Any-one x (zero, y, within, is, holds) = subst P (sym is) holds
  Any-one x (suc k, y, within, is, holds) = absurd (omega (arith, within))
