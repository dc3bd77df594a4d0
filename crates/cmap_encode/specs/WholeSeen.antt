-- Private aid: consecutive codes that are whole, or that aren't whole.
use Rattle.std.specs.Prelude.{◌≡◌, ℕ, ◌-◌, ◌/◌, ◌^◌, ◌<◌, ◌≤◌, ◌⊎◌, List, length}
use Rattle.std.specs.Bool.{MatchBool}
use Rattle.cmap_codespaces.specs.CodesWithin.{byte_at}
use Rattle.cmap_values.specs.BigEndian.{big_endian}
use Rattle.cmap_values.specs.Files.{Codespace}
use Rattle.cmap_layers.specs.Layers.{Layer}
use Rattle.cmap_encode.specs.Codes.{IsWhole}
use Rattle.cmap_encode.specs.Strings.{IsString}
use Rattle.cmap_encode.specs.Outside.{IsInside}
use Rattle.cmap_encode.specs.declared.whole.WholeStretch.{WholeStretch}

-- from the first to the last one, all codes of len bytes are whole, or none is
abbrev pub AreWhole : List Layer → ℕ → ℕ → WholeStretch → Type 0
AreWhole layers len first stretch = (bytes : List ℕ) → IsString bytes → length bytes ≡ len → first ≤ big_endian bytes → big_endian bytes ≤ stretch.last
    → MatchBool stretch.are_whole (IsWhole layers bytes) (IsWhole layers bytes → ⊥)

-- without its last bytes, after of them, a number is what another one is, or lies in a codespace range as a code of len bytes
abbrev pub HasPrefixInside : List Layer → ℕ → ℕ → ℕ → ℕ → Type 0
HasPrefixInside layers len after other number = (number / 256 ^ after ≡ other / 256 ^ after) ⊎ IsInside layers len (number / 256 ^ after)

-- the number is a whole code of len bytes: it lies in a codespace range, and without any last bytes it doesn't
pub record IsWholeNumber (layers : List Layer) (len number : ℕ) : Type 0 where
  pub inside : IsInside layers len number
  pub prefixes : (left : ℕ) → 1 ≤ left → left < len → IsInside layers (len - left) (number / 256 ^ left) → ⊥

-- the range has any last bytes, count of them
abbrev pub IsFull : Codespace → ℕ → Type 0
IsFull space count = (k : ℕ) → k < count → (byte_at space.low k ≡ 0) × (byte_at space.high k ≡ 255)
