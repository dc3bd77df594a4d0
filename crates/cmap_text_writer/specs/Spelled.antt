-- The spelling of codes, numbers, strings, entries and sections in a text.
use Rattle.std.specs.Prelude.{ℕ, ◌+◌, ◌/◌, ◌%◌, ◌^◌, nat_lt, List, [], ◌∷◌, ◌++◌, decimal, flat_map, if◌then◌else◌}
use Rattle.std.specs.Int.{bytes_high_first}
use Rattle.cmap_values.specs.Files.{BfEntry, CidEntry, Codespace}
use Rattle.cmap_tokens.specs.Ascii.{byte}
use Rattle.cmap_text.specs.TextFiles.{Extent, Section, range, single}
use Rattle.cmap_text.specs.TextReading.{closer, opener}

-- the hexadecimal digit of a number below 16
abbrev pub hex_digit : ℕ → ℕ
hex_digit n = if nat_lt n 10 then 48 + n else 55 + n

-- the two digits of a byte
abbrev pub hex_pair : ℕ → List ℕ
hex_pair byte = hex_digit (byte / 16) ∷ hex_digit (byte % 16) ∷ []

-- < digits >
abbrev pub hex_string : List ℕ → List ℕ
hex_string bytes = byte "<" ∷ flat_map hex_pair bytes ++ byte ">" ∷ []

-- a code of len bytes as a string, and the byte after it
abbrev pub code_spelled : ℕ → ℕ → ℕ → List ℕ
code_spelled len code end = hex_string (bytes_high_first len code) ++ end ∷ []

-- units as a string, two bytes each
abbrev pub units_spelled : List ℕ → List ℕ
units_spelled units = hex_string (flat_map (bytes_high_first 2) units)

-- the number of bytes of the last code of a range: as many as the first code has, or four where the
-- last code doesn't fit in them
abbrev pub end_length : ℕ → ℕ → ℕ
end_length len code = if nat_lt code (256 ^ len) then len else 4

-- ---- entries, a line each
abbrev pub space_spelled : Codespace → List ℕ
space_spelled s = code_spelled s.len s.low (byte " ") ++ code_spelled s.len s.high (byte "\n")

-- the code of a single entry, or both ends of a range, each with a space after it
abbrev pub codes_spelled : ℕ → ℕ → ℕ → Extent → List ℕ
codes_spelled len start end single = code_spelled len start (byte " ")
codes_spelled len start end range = code_spelled len start (byte " ") ++ code_spelled (end_length len end) end (byte " ")

abbrev pub cid_spelled : ℕ → Extent → CidEntry → List ℕ
cid_spelled len extent e = codes_spelled len e.start e.end extent ++ (decimal e.cid ++ byte "\n" ∷ [])

-- ---- a section
-- the count of entries and the first word
abbrev pub opener_spelled : ℕ → Section → List ℕ
opener_spelled count section = decimal count ++ (byte " " ∷ opener section ++ byte "\n" ∷ [])

abbrev pub closer_spelled : Section → List ℕ
closer_spelled section = closer section ++ byte "\n" ∷ []

abbrev pub text_spelled : ℕ → Extent → BfEntry → List ℕ
text_spelled len extent e = codes_spelled len e.start e.end extent ++ (units_spelled e.units ++ byte "\n" ∷ [])
