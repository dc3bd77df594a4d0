-- Codes gathered one after another.
use Rattle.std.proofs.Common.{◌≡◌, ℕ, ◌+◌, ◌^◌, ◌≤◌, ◌⊎◌, List, length, ap, inl, inr, arith}
use Rattle.std.specs.Prelude.{◌↔◌}
use Rattle.std.proofs.lemmas.Bool.{cases_lt}
use Rattle.cmap_values.specs.BigEndian.{big_endian}
use Rattle.cmap_layers.specs.Layers.{Layer}
use Rattle.cmap_encode.specs.Codes.{IsBefore, IsBetween, IsWhole}
use Rattle.cmap_encode.specs.Strings.{IsString}
use Rattle.cmap_encode.specs.GatheredSeen.{AreJust}
use Rattle.cmap_encode.specs.Ranks.{Candidate}
use Rattle.cmap_encode.proofs.CodesRead.{whole_length}
use Rattle.cmap_encode.proofs.Numbers.{number_below}

-- a kind of whole codes
module _ (layers : List Layer) (Kind : Candidate → Type 0) (real : (candidate : Candidate) → Kind candidate → IsString candidate.bytes × IsWhole layers candidate.bytes) where
  -- no code yet
  pub none_gathered : (Given : Candidate → Type 0) → ((candidate : Candidate) → Given candidate → ⊥) → AreJust 1 0 Kind Given
  none_gathered Given none candidate = (
    λ given. absurd (none candidate given),
    λ (before, is). absurd (no_bytes candidate before is),
  )
    where
      no_bytes : (candidate : Candidate) → IsBefore 1 0 candidate.bytes → Kind candidate → ⊥
      no_bytes candidate (inl shorter) is = omega (arith, (whole_length layers candidate.bytes (real candidate is).1).0)
      no_bytes candidate (inr (long, less)) is = omega arith

  -- all codes of a length
  pub length_gathered : (len limit : ℕ) (Given : Candidate → Type 0) → 256 ^ len ≤ limit → AreJust len limit Kind Given → AreJust (len + 1) 0 Kind Given
  length_gathered len limit Given all are candidate = (
    λ given. let (before, is) = (are candidate).0 given in (longer candidate.bytes before, is),
    λ (before, is). (are candidate).1 (old candidate.bytes (real candidate is).0 before, is),
  )
    where
      longer : (bytes : List ℕ) → IsBefore len limit bytes → IsBefore (len + 1) 0 bytes
      longer bytes (inl shorter) = inl (omega arith)
      longer bytes (inr (long, less)) = inl (omega arith)

      old : (bytes : List ℕ) → IsString bytes → IsBefore (len + 1) 0 bytes → IsBefore len limit bytes
      old bytes are (inl shorter) =
          elim (cases_lt (length bytes) len) [
            | inl fewer ↦ inl fewer
            | inr as_many ↦ let long : length bytes ≡ len = omega arith in inr (long, omega (arith, number_below bytes are, ap (λ n. 256 ^ n) long))
          ]
      old bytes are (inr (long, less)) = absurd (omega arith)

  module _ (len limit more : ℕ) (later : limit ≤ more) where
    still_before : (bytes : List ℕ) → IsBefore len limit bytes → IsBefore len more bytes
    still_before bytes (inl shorter) = inl shorter
    still_before bytes (inr (long, less)) = inr (long, omega arith)

    before_more : (bytes : List ℕ) → IsBetween len limit more bytes → IsBefore len more bytes
    before_more bytes (long, from, less) = inr (long, less)

    either_before : (bytes : List ℕ) → IsBefore len more bytes → IsBefore len limit bytes ⊎ IsBetween len limit more bytes
    either_before bytes (inl shorter) = inl (inl shorter)
    either_before bytes (inr (long, less)) = elim (cases_lt (big_endian bytes) limit) [ inl before ↦ inl (inr (long, before)) | inr from ↦ inr (long, from, less) ]

    -- codes from the limit on, below a further one
    pub more_gathered : (Given Row New : Candidate → Type 0) → ((candidate : Candidate) → New candidate ↔ (Given candidate ⊎ Row candidate)) → ((candidate : Candidate) → Row candidate ↔ (IsBetween len limit more candidate.bytes × Kind candidate)) → AreJust len limit Kind Given → AreJust len more Kind New
    more_gathered Given Row New grows row are candidate = (
      λ new.
          elim ((grows candidate).0 new) [
            | inl given ↦ let (before, is) = (are candidate).0 given in (still_before candidate.bytes before, is)
            | inr added ↦ let (between, is) = (row candidate).0 added in (before_more candidate.bytes between, is)
          ],
      λ (before, is).
          elim (either_before candidate.bytes before) [
            | inl old ↦ (grows candidate).1 (inl ((are candidate).1 (old, is)))
            | inr between ↦ (grows candidate).1 (inr ((row candidate).1 (between, is)))
          ],
    )

    -- codes of which none is of the kind
    pub none_more : (Given : Candidate → Type 0) → ((candidate : Candidate) → IsBetween len limit more candidate.bytes → Kind candidate → ⊥) → AreJust len limit Kind Given → AreJust len more Kind Given
    none_more Given none are candidate = (
      λ given. let (before, is) = (are candidate).0 given in (still_before candidate.bytes before, is),
      λ (before, is).
          elim (either_before candidate.bytes before) [
            | inl old ↦ (are candidate).1 (old, is)
            | inr between ↦ absurd (none candidate between is)
          ],
    )
