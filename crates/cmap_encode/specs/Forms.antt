-- The encoding forms of Unicode: Unicode Standard, 3.9 and 3.10.
use Rattle.std.specs.Prelude.{◌≡◌, ℕ, ◌+◌, ◌-◌, ◌*◌, ◌/◌, ◌%◌, ◌≤◌, nat_lt, nat_le, ◌&&◌, ◌||◌, Bool, Any, List, Option, None, Some, option_map, if◌then◌else◌}
use Rattle.cmap_values.specs.declared.code_length.CodeLength.{CodeLength}
use Rattle.cmap_values.specs.declared.code_length.CodeLength.TheVariants.{One, Two, Three, Four}
use Rattle.cmap_layers.specs.Layers.{Layer}
use Rattle.cmap_encode.specs.Ranks.{code_after}
use Rattle.cmap_encode.specs.declared.code.Code.{Code}
use Rattle.cmap_encode.specs.declared.forms.Form.{Form}
use Rattle.cmap_encode.specs.declared.forms.Form.TheVariants.{Utf8, Utf16, Utf32}

abbrev pub code_with : CodeLength → ℕ → Code
code_with len number = record { number = number; len = len }

-- a scalar value is no surrogate
abbrev pub is_scalar : ℕ → Bool
is_scalar c = nat_lt c 0xD800 || (nat_le 0xE000 c && nat_lt c 0x110000)

-- ---- UTF-8: a last byte of six bits after the bytes of the bits above these
abbrev pub two_above : ℕ → ℕ
two_above q = 0xC0 + q

abbrev pub three_above : ℕ → ℕ
three_above q = (0xE0 + q / 0x40) * 0x100 + (0x80 + q % 0x40)

abbrev pub four_above : ℕ → ℕ
four_above q = ((0xF0 + q / 0x1000) * 0x100 + (0x80 + q / 0x40 % 0x40)) * 0x100 + (0x80 + q % 0x40)

abbrev pub with_last : (ℕ → ℕ) → ℕ → ℕ
with_last above c = above (c / 0x40) * 0x100 + (0x80 + c % 0x40)

abbrev pub utf8_code : ℕ → Code
utf8_code c =
    if nat_lt c 0x80 then code_with One c
    else if nat_lt c 0x800 then code_with Two (with_last two_above c)
    else if nat_lt c 0x10000 then code_with Three (with_last three_above c)
    else code_with Four (with_last four_above c)

-- ---- UTF-16: a pair of surrogates is one code
abbrev pub pair_of : ℕ → ℕ
pair_of d = (0xD800 + d / 0x400) * 0x10000 + (0xDC00 + d % 0x400)

abbrev pub utf16_code : ℕ → Code
utf16_code c = if nat_lt c 0x10000 then code_with Two c else code_with Four (pair_of (c - 0x10000))

abbrev pub scalar_code : Form → ℕ → Code
scalar_code Utf8 c = utf8_code c
scalar_code Utf16 c = utf16_code c
scalar_code Utf32 c = code_with Four c

-- the code of a character in a form; only scalar values have a code
abbrev pub code_in : Form → ℕ → Option Code
code_in form c = if is_scalar c then Some (scalar_code form c) else None

-- ---- the form of a map from Unicode
-- a codespace range has codes of len bytes
abbrev pub HasCodes : ℕ → List Layer → Type 0
HasCodes len layers = Any (λ layer. Any (λ space. space.len ≡ len) layer.lists.spaces) layers

-- by the shortest of its codes
abbrev pub IsFormOf : List Layer → Form → Type 0
IsFormOf layers Utf8 = HasCodes 1 layers
IsFormOf layers Utf16 = (HasCodes 1 layers → ⊥) × HasCodes 2 layers
IsFormOf layers Utf32 = (HasCodes 1 layers → ⊥) × (HasCodes 2 layers → ⊥)

-- ---- private aid
-- the last character up to which the codes of characters, none of them a surrogate, count on
abbrev pub last_with : Form → ℕ → ℕ
last_with Utf8 c = if nat_lt c 0x80 then 0x7F else c - c % 0x40 + 0x3F
last_with Utf16 c = if nat_lt c 0xE000 then 0xD7FF else if nat_lt c 0x10000 then 0xFFFF else c - c % 0x400 + 0x3FF
last_with Utf32 c = if nat_lt c 0xE000 then 0xD7FF else 0x10FFFF

-- characters from the first to the last one have codes that count on from this one, or none has a code
abbrev pub HaveCodes : Form → ℕ → ℕ → Option Code → Type 0
HaveCodes form first last code = (count : ℕ) → first + count ≤ last → code_in form (first + count) ≡ option_map (code_after count) code
