-- What holds of the bundle that C hands in, or of none.
use Rattle.std.proofs.Common.{◌≡◌, ◌≢◌, ℕ, List, [], ◌∷◌, Option, Some, None, suc, length, refl, ap, arith}
use Rattle.std.proofs.lemmas.List.{nil_from_length}
use Rattle.cmap_binary.specs.Bundles.{Bundle, IsBundle}
use Rattle.cmap_values.specs.Only.{IsOnly}
use Rattle.cmap_c.specs.NamedFiles.{OfGiven}

pub OfGiven-none : (bytes : List ℕ) (P : Option Bundle → Type 0) → bytes ≡ [] → P None → OfGiven bytes P
unfolding OfGiven
OfGiven-none [] P is holds = holds
OfGiven-none (byte ∷ bytes) P is holds = let some : suc (length bytes) ≡ 0 = ap length is in absurd (omega arith)

pub OfGiven-some : (bytes : List ℕ) (P : Option Bundle → Type 0) (bundle : Bundle) → bytes ≢ [] → IsOnly (IsBundle bytes) bundle → P (Some bundle) → OfGiven bytes P
unfolding OfGiven
OfGiven-some [] P bundle some only holds = absurd (some refl)
OfGiven-some (byte ∷ bytes) P bundle some only holds = (bundle, only, holds)

pub OfGiven-empty : (bytes : List ℕ) (P : Option Bundle → Type 0) → length bytes ≡ 0 → P None → OfGiven bytes P
OfGiven-empty bytes P none holds = OfGiven-none bytes P (nil_from_length bytes none) holds
