-- Codes with the same first bytes as one that lies outside of all codespace ranges.
use Rattle.std.proofs.Common.{◌≡◌, ℕ, ◌/◌, ◌%◌, ◌^◌, ◌<◌, ◌≤◌, List, length, ap, subst, inl, inr, arith}
use Rattle.std.proofs.lemmas.Bool.{cases_lt}
use Rattle.std.proofs.lemmas.List.{take_all}
use Rattle.cmap_codespaces.specs.CodesWithin.{IsWithin, byte_at}
use Rattle.cmap_values.specs.BigEndian.{big_endian}
use Rattle.cmap_values.specs.Files.{Codespace}
use Rattle.cmap_layers.specs.Layers.{Layer}
use Rattle.cmap_encode.specs.Codes.{IsWhole}
use Rattle.cmap_encode.specs.Outside.{BeginsSo, IsInside, MayBegin}

-- bytes before the last ones
pub same_byte : (n m after k : ℕ) → n / 256 ^ after ≡ m / 256 ^ after → 1 ≤ after → after ≤ 3 → after ≤ k → k < 4 → byte_at n k ≡ byte_at m k
same_byte n m after k same some few le lt =
    elim (cases_lt after 2) [
      | inl one ↦ let is : after ≡ 1 = omega arith in by_one (subst (λ a. n / 256 ^ a ≡ m / 256 ^ a) is same) k (omega arith) lt
      | inr more ↦
          elim (cases_lt after 3) [
            | inl two ↦ let is : after ≡ 2 = omega arith in by_two (subst (λ a. n / 256 ^ a ≡ m / 256 ^ a) is same) k (omega arith) lt
            | inr three ↦ let is : after ≡ 3 = omega arith in let at : 3 ≡ k = omega arith in subst (λ j. byte_at n j ≡ byte_at m j) at (last (subst (λ a. n / 256 ^ a ≡ m / 256 ^ a) is same))
          ]
    ]
  where
    last : n / 256 ^ 3 ≡ m / 256 ^ 3 → byte_at n 3 ≡ byte_at m 3
    last is = ap (λ q. q % 256) is

    by_two : n / 256 ^ 2 ≡ m / 256 ^ 2 → (k : ℕ) → 2 ≤ k → k < 4 → byte_at n k ≡ byte_at m k
    by_two is k from to =
        elim (cases_lt k 3) [
          | inl two ↦ let at : 2 ≡ k = omega arith in subst (λ j. byte_at n j ≡ byte_at m j) at (ap (λ q. q % 256) is)
          | inr three ↦ let at : 3 ≡ k = omega arith in let more : n / 256 ^ 3 ≡ m / 256 ^ 3 = omega (arith, is) in subst (λ j. byte_at n j ≡ byte_at m j) at (last more)
        ]

    by_one : n / 256 ^ 1 ≡ m / 256 ^ 1 → (k : ℕ) → 1 ≤ k → k < 4 → byte_at n k ≡ byte_at m k
    by_one is k from to =
        elim (cases_lt k 2) [
          | inl one ↦ let at : 1 ≡ k = omega arith in subst (λ j. byte_at n j ≡ byte_at m j) at (ap (λ q. q % 256) is)
          | inr more ↦ let next : n / 256 ^ 2 ≡ m / 256 ^ 2 = omega (arith, is) in by_two next k (omega arith) to
        ]

begins_so : (len n m after : ℕ) (space : Codespace) → n / 256 ^ after ≡ m / 256 ^ after → 1 ≤ after → after ≤ 3 → len ≤ 4 → IsWithin space n len → BeginsSo len m after space
begins_so len n m after space same some few short (long, bytes) = (
  long,
  λ k from to.
      let is = same_byte n m after k same some few from (omega arith) in
      let (low, high) = bytes k to in
      (subst (λ b. byte_at space.low k ≤ b) is low, subst (λ b. b ≤ byte_at space.high k) is high),
)

pub inside_begins : (layers : List Layer) (len n m after : ℕ) → n / 256 ^ after ≡ m / 256 ^ after → 1 ≤ after → after ≤ 3 → len ≤ 4 → IsInside layers len n → MayBegin layers len m after
inside_begins layers len n m after same some few short (k, layer, lt, at, (j, space, below, is, within)) = (k, layer, lt, at, (j, space, below, is, begins_so len n m after space same some few short within))

-- a whole code lies in a range
pub whole_inside : (layers : List Layer) (bytes : List ℕ) → IsWhole layers bytes → IsInside layers (length bytes) (big_endian bytes)
whole_inside layers bytes whole = subst (λ b. IsInside layers (length bytes) (big_endian b)) (take_all (length bytes) bytes (omega arith)) whole.0.1.3
