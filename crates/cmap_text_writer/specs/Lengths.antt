-- The number of bytes of the codes of texts, which a file doesn't keep.
use Rattle.std.specs.Prelude.{◌≡◌, ℕ, ◌-◌, ◌^◌, ◌==◌, ◌&&◌, Bool, nat_le, List, [], ◌∷◌, if◌then◌else◌, max, min}
use Rattle.cmap_values.specs.declared.range.Range.{Range}
use Rattle.cmap_values.specs.CodeLengths.{length_of}
use Rattle.cmap_values.specs.declared.code_length.CodeLength.{CodeLength}
use Rattle.cmap_values.specs.Files.{Codespace}
use Rattle.cmap_text_writer.specs.Spelled.{end_length}
use Rattle.cmap_text_writer.specs.declared.text_lengths.TextLengths.{TextLengths}

-- ---- by codespace ranges
-- the lowest code of the codespace ranges of a length; 2^32 - 1 where there are none
abbrev pub lowest : ℕ → List Codespace → ℕ
lowest len [] = 2 ^ 32 - 1
lowest len (s ∷ ss) = if s.len == len then min s.low (lowest len ss) else lowest len ss

-- the highest code of the codespace ranges of a length; 0 where there are none
abbrev pub highest : ℕ → List Codespace → ℕ
highest len [] = 0
highest len (s ∷ ss) = if s.len == len then max s.high (highest len ss) else highest len ss

abbrev pub is_among : List Codespace → ℕ → ℕ → Bool
is_among ss len code = nat_le (lowest len ss) code && nat_le code (highest len ss)

-- the least length whose lowest and highest codes in codespace ranges enclose the code; `other` where there is none
abbrev pub least_around : List Codespace → ℕ → ℕ → ℕ
least_around ss other code = if is_among ss 1 code then 1 else if is_among ss 2 code then 2 else if is_among ss 3 code then 3 else if is_among ss 4 code then 4 else other

-- the least such length, two where there is none, and four where the code doesn't fit in the length
abbrev pub length_by : List Codespace → ℕ → ℕ
length_by ss code = end_length (least_around ss 2 code) code

-- ---- by a caller
abbrev pub is_within : Range → ℕ → Bool
is_within range code = nat_le range.start code && nat_le code range.end

abbrev pub length_around : TextLengths → ℕ → ℕ
length_around l code = if is_within l.one code then 1 else if is_within l.two code then 2 else if is_within l.three code then 3 else if is_within l.four code then 4 else length_of l.other

-- the length around the code, or four where the code doesn't fit in it
abbrev pub text_length : TextLengths → ℕ → ℕ
text_length l code = end_length (length_around l code) code

-- ---- private aid
-- the range from the lowest to the highest code of the codespace ranges of a length
pub record Bounds (range : Range) (len : ℕ) (ss : List Codespace) : Type 0 where
  pub start : range.start ≡ lowest len ss
  pub end : range.end ≡ highest len ss

pub record AreBounds (l : TextLengths) (outside : CodeLength) (ss : List Codespace) : Type 0 where
  pub one : Bounds l.one 1 ss
  pub two : Bounds l.two 2 ss
  pub three : Bounds l.three 3 ss
  pub four : Bounds l.four 4 ss
  pub other : l.other ≡ outside
