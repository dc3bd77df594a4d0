-- The code that a string begins with, by the codespace ranges of all layers. ISO 32000-1, 9.7.6.2 and 9.7.6.3.
use Rattle.std.specs.Prelude.{◌≡◌, ◌↔◌, IsTrue, ℕ, suc, ◌-◌, ◌<◌, ◌≤◌, ◌⊎◌, min, List, [], length, take, slice_index, All, Any}
use Rattle.std.specs.Bool.{MatchBool}
use Rattle.std.specs.List.{flat_map}
use Rattle.cmap_values.specs.BigEndian.{big_endian}
use Rattle.cmap_values.specs.Files.{Codespace}
use Rattle.cmap_values.specs.Only.{HoldsOfNone}
use Rattle.cmap_codespaces.specs.CodesWithin.{byte_at}
use Rattle.cmap_layers.specs.Layers.{Layer}
use Rattle.cmap_layers.specs.Lookups.{InCodespace}
use Rattle.cmap_layers.specs.declared.string_codes.StringCode.{StringCode}

-- the big-endian number in the first n bytes of a string
abbrev pub front : List ℕ → ℕ → ℕ
front text n = big_endian (take n text)

-- the first n bytes of a string are a code in a codespace range
abbrev pub BeginsInside : List Layer → List ℕ → ℕ → Type 0
BeginsInside layers text n = (n ≤ length text) × InCodespace layers (front text n) n

-- the first n bytes of a string are a code in a codespace range, and no fewer bytes are
abbrev pub IsShortestInside : List Layer → List ℕ → ℕ → Type 0
IsShortestInside layers text n = BeginsInside layers text n × ((m : ℕ) → m < n → BeginsInside layers text m → ⊥)

-- the codespace ranges of all layers
abbrev pub ranges_of : List Layer → List Codespace
ranges_of layers = flat_map (λ layer. layer.lists.spaces) layers

-- a range matches the first n bytes of a string: each byte lies between the bytes of the range at the same index
abbrev pub Matches : Codespace → List ℕ → ℕ → Type 0
Matches space text n = (n ≤ space.len) × (n ≤ length text)
    × ((k : ℕ) → k < n → (byte_at space.low (space.len - suc k) ≤ slice_index text k) × (slice_index text k ≤ byte_at space.high (space.len - suc k)))

-- the best match of a string among these ranges: a range with codes of len bytes matches the first n bytes, no range matches more bytes, and no range that matches n bytes has shorter codes
pub record IsBestMatch (spaces : List Codespace) (text : List ℕ) (n len : ℕ) : Type 0 where
  pub one : Any (λ space. Matches space text n × (space.len ≡ len)) spaces
  pub longest : All (λ space. (m : ℕ) → Matches space text m → m ≤ n) spaces
  pub shortest : All (λ space. Matches space text n → len ≤ space.len) spaces

-- a code in no range wants len bytes: as many as the codes of the best match have, or one byte if there are no ranges
abbrev pub Wants : List Codespace → List ℕ → ℕ → Type 0
Wants spaces text len = ((n : ℕ) × IsBestMatch spaces text n len) ⊎ ((spaces ≡ []) × (len ≡ 1))

-- no prefix of a string lies in a range, and n bytes are taken: as many as are wanted, or all bytes if there are fewer
abbrev pub IsTakenOutside : List Layer → List ℕ → ℕ → Type 0
IsTakenOutside layers text n = HoldsOfNone (BeginsInside layers text) × (wanted : ℕ) × Wants (ranges_of layers) text wanted × (n ≡ min wanted (length text))

-- the string ends before its code does: no prefix of the string lies in a range, and more bytes are wanted than the string has
abbrev pub IsCutShort : List Layer → List ℕ → Type 0
IsCutShort layers text = HoldsOfNone (BeginsInside layers text) × (wanted : ℕ) × Wants (ranges_of layers) text wanted × (length text < wanted)

-- a string, which isn't empty, begins with this code
pub record IsNextCode (layers : List Layer) (text : List ℕ) (found : StringCode) : Type 0 where
  pub some : 0 < length text
  pub code : found.code ≡ front text found.byte_len
  pub taken : MatchBool found.in_codespace (IsShortestInside layers text found.byte_len) (IsTakenOutside layers text found.byte_len)
  pub cut_short : IsTrue found.cut_short ↔ IsCutShort layers text
