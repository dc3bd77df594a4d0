-- The classes of pieces in a section.
use Rattle.std.specs.Prelude.{ℕ, ◌++◌, ◌&&◌, Bool, true, false, List, [], ◌∷◌, codes, bytes_eq, map, Option, None, Ok, Err, if◌then◌else◌}
use Rattle.std.specs.List.{list_any}
use Rattle.cmap_tokens.specs.Malformed as malformed
use Rattle.cmap_tokens.specs.Malformed.{Malformed}
use Rattle.cmap_tokens.specs.Pieces.{Piece}
use Rattle.cmap_tokens.specs.Tokens.{Token}
use Rattle.cmap_text.specs.TextFiles.{Section, bf_char, bf_range, cids, codespace_range, range, single}
use Rattle.cmap_text.specs.TextReading.{closer, destination_in, opener, sections}

pub data Class : Type 0 where
  -- an executable name that ends a section
  known : Class
  -- a piece that takes no place of an entry
  alone : Class
  open_bracket : Class
  close_bracket : Class
  -- a piece that may be a part of an entry
  part : Class

abbrev pub known_words : List (List ℕ)
known_words =
    map opener sections
    ++ map closer sections
    ++ codes "begincmap" ∷ codes "endcmap" ∷ codes "usecmap" ∷ codes "begin" ∷ codes "end" ∷ codes "def" ∷ codes "dict" ∷ codes "dup" ∷ codes "pop" ∷ codes "currentdict" ∷ codes "defineresource" ∷ codes "findresource" ∷ codes "endstream" ∷ codes "endobj" ∷ []

abbrev pub lone_brackets : List (List ℕ)
lone_brackets = codes "{" ∷ codes "}" ∷ codes "<<" ∷ codes ">>" ∷ []

abbrev pub class_of_name : List ℕ → Class
class_of_name name =
    if bytes_eq name (codes "[") then open_bracket
    else if bytes_eq name (codes "]") then close_bracket
    else if list_any (bytes_eq name) lone_brackets then alone
    else if list_any (bytes_eq name) known_words then known
    else part

abbrev pub class_of_token : Token → Class
class_of_token (Token.Name false name) = class_of_name name
class_of_token _ = part

abbrev pub class_of_malformed : Malformed → Class
class_of_malformed malformed.unclosed_text = alone
class_of_malformed malformed.stray = alone
class_of_malformed malformed.unclosed_hexadecimal = part
class_of_malformed malformed.wrong_digit = part

abbrev pub class_of : Piece → Class
class_of piece = elim piece.token [ Ok t ↦ class_of_token t | Err w ↦ class_of_malformed w.kind ]

abbrev pub is_string : Token → Bool
is_string (Token.String raw) = true
is_string _ = false

abbrev pub is_known : Class → Bool
is_known known = true
is_known _ = false

abbrev pub is_part : Class → Bool
is_part part = true
is_part _ = false

-- a string, of any value
abbrev pub is_string_piece : Piece → Bool
is_string_piece piece = elim piece.token [ Ok t ↦ is_string t | Err w ↦ false ]

-- an executable name
abbrev pub is_name : Token → Bool
is_name (Token.Name false name) = true
is_name _ = false

abbrev pub is_name_piece : Piece → Bool
is_name_piece piece = elim piece.token [ Ok t ↦ is_name t | Err w ↦ false ]

-- an executable name that isn't known
abbrev pub is_stray : Piece → Bool
is_stray piece = is_name_piece piece && is_part (class_of piece)

-- the units of a text that isn't empty
abbrev pub text_in : Piece → Option (List ℕ)
text_in piece = elim piece.token [ Ok t ↦ destination_in t | Err w ↦ None ]

-- how many places an entry has
abbrev pub places_of : Section → ℕ
places_of codespace_range = 2
places_of (cids kind range) = 3
places_of (cids kind single) = 2
places_of bf_range = 3
places_of bf_char = 2
