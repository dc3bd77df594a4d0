-- Private aid: the codes of a text, by their bytes.
use Rattle.std.specs.Prelude.{◌≡◌, ℕ, ◌-◌, ◌<◌, ◌≤◌, ◌⊎◌, List, length, drop}
use Rattle.std.specs.Int.{to_be_bytes, w32}
use Rattle.cmap_values.specs.BigEndian.{big_endian}
use Rattle.cmap_values.specs.CodeLengths.{length_of}
use Rattle.cmap_layers.specs.Layers.{Layer}
use Rattle.cmap_layers.specs.StringCodes.{IsShortestInside}
use Rattle.cmap_encode.specs.declared.code.Code.{Code}

-- the bytes of a code of this length, the high one first
abbrev pub bytes_of : ℕ → ℕ → List ℕ
bytes_of len number = drop (4 - len) (to_be_bytes w32 number)

abbrev pub code_bytes : Code → List ℕ
code_bytes code = bytes_of (length_of code.len) code.number

-- a string that begins with these bytes is read as their code, which lies in a codespace range, whatever follows them
abbrev pub IsWhole : List Layer → List ℕ → Type 0
IsWhole layers bytes = IsShortestInside layers bytes (length bytes)

-- the codes that are shorter, and the codes of this length with a number below a limit
abbrev pub IsBefore : ℕ → ℕ → List ℕ → Type 0
IsBefore len limit bytes = (length bytes < len) ⊎ ((length bytes ≡ len) × (big_endian bytes < limit))

-- the codes of len bytes with a number from a first number on and below a limit
abbrev pub IsBetween : ℕ → ℕ → ℕ → List ℕ → Type 0
IsBetween len first limit bytes = (length bytes ≡ len) × (first ≤ big_endian bytes) × (big_endian bytes < limit)
