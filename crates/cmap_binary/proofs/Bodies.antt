-- What follows the header of a binary file.
use Rattle.std.proofs.Common.{◌≡◌, ℕ, ◌+◌, ◌<◌, ◌≤◌, refl, sym, ap, ◌∙◌, Bool, true, false, List, [], ◌∷◌, ◌++◌, length, take, drop, arith, Some, None, inl, inr}
use Rattle.std.specs.Borrow.{Bor}
use Rattle.std.specs.Prelude.{nat_eq, Option}
use Rattle.std.specs.List.{PartBy, starts_with}
use Rattle.std.proofs.lemmas.Bool.{false≢true}
use Rattle.std.proofs.lemmas.List.{length-drop, length-take-le, take-take, take_rest}
use Rattle.std.proofs.lemmas.Slice.Eq.{bytes_eq-Decides}
use Rattle.cmap_values.specs.Only.{HoldsOfNone}
use Rattle.cmap_values.specs.Outcomes.{Finds}
use Rattle.cmap_binary.specs.BinaryFiles.{BodyOf, magic}
use Rattle.cmap_binary.specs.BinarySalvage.{AfterHeader}
use Rattle.cmap_binary.specs.Fronts.{BytesAt}
use Rattle.cmap_binary.proofs.Fronts.{framed_alone, gives_if, split_only, then_none, then_only}

module _ (bytes : List ℕ) where
  -- the body stands after a header of ten bytes
  pub body_within : (body : List ℕ) → BodyOf bytes body → 10 + length body ≤ length bytes
  body_within body (file, after, (size, rest, field, (filled, split)), (head, is)) = omega (arith, split.3, split.4, filled, ap length is, length-drop 10 file)

  pub after_within : (rest : List ℕ) → AfterHeader bytes rest → 10 + length rest ≤ length bytes
  after_within rest (header, after, split, (head, is)) = omega (arith, split.4, ap length is)

  pub body_alone : (body other : List ℕ) → BodyOf bytes body → BodyOf bytes other → body ≡ other
  body_alone body other (file, after, framed, (head, is)) (file_too, after_too, framed_too, (head_too, is_too)) =
      is ∙ ap (λ p. drop 10 p.0) (framed_alone 6 (file, after) (file_too, after_too) framed framed_too) ∙ sym is_too

  pub after_alone : (rest other : List ℕ) → AfterHeader bytes rest → AfterHeader bytes other → rest ≡ other
  after_alone rest other (header, after, split, (head, is)) (header_too, after_too, split_too, (head_too, is_too)) = is ∙ split.2 ∙ sym split_too.2 ∙ sym is_too

  -- a body stands after a header
  pub body_follows : (body : List ℕ) → BodyOf bytes body → HoldsOfNone (AfterHeader bytes) → ⊥
  body_follows body (file, after, (size, rest, field, (filled, split)), (head, is)) none =
      let enough : 10 ≤ length bytes = omega (arith, filled, split.0) in
      let same : take 6 (take 10 bytes) ≡ take 6 file = take-take 6 10 bytes (omega arith) ∙ sym (ap (take 6) split.1 ∙ take-take 6 size bytes (omega (arith, filled))) in
      none (drop 10 bytes) (take 10 bytes, drop 10 bytes, (enough, refl, refl, length-take-le 10 bytes enough, omega (arith, length-drop 10 bytes, enough)), (same ∙ head, refl))

-- ---- the first bytes, as the code tests them
pub begins : (file : List ℕ) (test : Bool) → test ≡ starts_with nat_eq file (magic ++ 1 ∷ []) → test ≡ true → take 6 file ≡ magic ++ 1 ∷ []
begins file test is says = sym ((bytes_eq-Decides (magic ++ 1 ∷ []) (take 6 file)).0 (sym is ∙ says))

pub begins_otherwise : (file : List ℕ) (test : Bool) → test ≡ starts_with nat_eq file (magic ++ 1 ∷ []) → test ≡ false → take 6 file ≡ magic ++ 1 ∷ [] → ⊥
begins_otherwise file test is says begun = false≢true (sym says ∙ is ∙ (bytes_eq-Decides (magic ++ 1 ∷ []) (take 6 file)).1 (sym begun))

pub no_after : (bytes : List ℕ) → (take 6 bytes ≡ magic ++ 1 ∷ [] → ⊥) → HoldsOfNone (AfterHeader bytes)
no_after bytes other rest (header, after, split, (head, is)) = other (sym (ap (take 6) split.1 ∙ take-take 6 10 bytes (omega arith)) ∙ head)

pub too_short : (size : ℕ) (bytes : List ℕ) → length bytes < size → HoldsOfNone (BytesAt size bytes)
too_short size bytes short other split = omega (arith, short, split.0)

-- what is left of the bytes after those of a header
pub after_found : (bytes : List ℕ) → take 6 bytes ≡ magic ++ 1 ∷ [] → (rest : Option (Bor (List ℕ))) → PartBy (λ (r : Bor (List ℕ)). r.now) bytes 10 (length bytes) rest → Finds (AfterHeader bytes) (λ r. r.now) rest
after_found bytes head None part = then_none _ _ (too_short 10 bytes (elim part.0 [ inl short ↦ short | inr below ↦ absurd (omega (arith, below)) ]))
after_found bytes head (Some rest) part =
    let (from, to, is, size) = part.0 in
    let split = split_only 10 bytes (take 10 bytes) rest.now (from, refl, is ∙ take_rest bytes 10, length-take-le 10 bytes from, size) in
    then_only _ split (gives_if (take-take 6 10 bytes (omega arith) ∙ head))
