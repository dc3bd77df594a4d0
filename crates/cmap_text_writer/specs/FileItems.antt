-- The items of a text with the content of a file.
use Rattle.std.specs.Prelude.{ℕ, pos, ◌==◌, ◌&&◌, nat_le, not, Bool, false, true, List, [], ◌∷◌, ◌++◌, Option, Some, None, bytes_eq, codes, find, flat_map, is_some, if◌then◌else◌}
use Rattle.std.specs.Fmt.{signed_decimal}
use Rattle.std.specs.List.{list_all}
use Rattle.cmap_values.specs.Files.{Collection, FileMetadata, Mode, horizontal, vertical}
use Rattle.cmap_values.specs.Names.{ordering_of, registry_of}
use Rattle.cmap_tokens.specs.Ascii.{byte}
use Rattle.cmap_tokens.specs.Bytes.{is_regular}
use Rattle.cmap_tokens.specs.Numbers.{Integer}
use Rattle.cmap_tokens.specs.Tokens.{Token}
use Rattle.cmap_text.specs.TextFiles.{Item, key, keys, other, use_of_base}
use Rattle.cmap_text_writer.specs.Spelled.{hex_string}

-- ---- tokens
abbrev pub word : List ℕ → Item
word bytes = other (Token.Name false bytes)

abbrev pub name : List ℕ → Item
name bytes = other (Token.Name true bytes)

abbrev pub number : ℕ → Token
number n = Token.Numeral (Integer (pos n))

-- a byte that stands for itself in ( .. ), and that a terminal prints
abbrev pub is_plain : ℕ → Bool
is_plain b = nat_le 32 b && nat_le b 126 && not (b == byte "(") && not (b == byte ")") && not (b == byte "\\")

-- ( bytes ) where all bytes are plain, otherwise < digits >
abbrev pub string_spelled : List ℕ → List ℕ
string_spelled bytes = if list_all is_plain bytes then byte "(" ∷ bytes ++ byte ")" ∷ [] else hex_string bytes

-- ---- items
-- the items of the header; the type is 2 where the codes of the file stand for Unicode, and 1 where they stand for CIDs
abbrev pub header_items : ℕ → List Item
header_items type = name (codes "CIDInit") ∷ name (codes "ProcSet") ∷ word (codes "findresource") ∷ word (codes "begin") ∷ other (number 12) ∷ word (codes "dict") ∷ word (codes "begin") ∷ word (codes "begincmap") ∷ name (codes "CMapType") ∷ other (number type) ∷ word (codes "def") ∷ []

abbrev pub footer_items : List Item
footer_items = word (codes "endcmap") ∷ word (codes "CMapName") ∷ word (codes "currentdict") ∷ name (codes "CMap") ∷ word (codes "defineresource") ∷ word (codes "pop") ∷ word (codes "end") ∷ word (codes "end") ∷ []

-- the name is the name of a key
abbrev pub is_key : List ℕ → Bool
is_key bytes = is_some (find (bytes_eq bytes) keys)

abbrev pub no_value : Token
no_value = Token.String (codes "()")

-- the use of a name; a name that is a key takes an empty value first
abbrev pub use_items : List ℕ → List Item
use_items bytes = (if is_key bytes then key bytes (Some no_value) else name bytes) ∷ use_of_base ∷ []

abbrev pub collection_items : Collection → List Item
collection_items c =
    name (codes "CIDSystemInfo") ∷ other (number 3) ∷ word (codes "dict") ∷ word (codes "dup") ∷ word (codes "begin")
    ∷ key (codes "Registry") (Some (Token.String (string_spelled (registry_of c.family)))) ∷ word (codes "def")
    ∷ key (codes "Ordering") (Some (Token.String (string_spelled (ordering_of c.family)))) ∷ word (codes "def")
    ∷ key (codes "Supplement") (Some (Token.Numeral (Integer c.supplement))) ∷ word (codes "def")
    ∷ word (codes "end") ∷ word (codes "def") ∷ []

-- a name of regular bytes is literal, and any other name is a bracket
abbrev pub name_items : List ℕ → List Item
name_items bytes = key (codes "CMapName") (Some (Token.Name (list_all is_regular bytes) bytes)) ∷ word (codes "def") ∷ []

abbrev pub mode_number : Mode → ℕ
mode_number horizontal = 0
mode_number vertical = 1

abbrev pub mode_items : Mode → List Item
mode_items mode = key (codes "WMode") (Some (number (mode_number mode))) ∷ word (codes "def") ∷ []

-- the list for an optional value
abbrev pub from_option : {A B : Type 0} → (A → List B) → Option A → List B
from_option say None = []
from_option say (Some x) = say x

abbrev pub metadata_items : FileMetadata → List Item
metadata_items m = from_option collection_items m.collection ++ (from_option name_items m.name ++ from_option mode_items m.mode)

-- the items of a file with these sections
abbrev pub file_items : ℕ → FileMetadata → List (List ℕ) → List Item → List Item
file_items type metadata uses sections = header_items type ++ (flat_map use_items uses ++ (metadata_items metadata ++ (sections ++ footer_items)))

-- ---- spelling
-- the comments before the file
abbrev pub resource_text : List ℕ → List ℕ
resource_text bytes = codes "%%BeginResource: CMap (" ++ (bytes ++ codes ")\n")

abbrev pub comments_text : Option (List ℕ) → List ℕ
comments_text None = codes "%!PS-Adobe-3.0 Resource-CMap\n"
comments_text (Some bytes) = codes "%!PS-Adobe-3.0 Resource-CMap\n" ++ resource_text bytes

abbrev pub type_text : Bool → List ℕ
type_text true = codes "/CMapType 2 def\n"
type_text false = codes "/CMapType 1 def\n"

abbrev pub header_text : Bool → List ℕ
header_text is_to_unicode = codes "/CIDInit /ProcSet findresource begin\n12 dict begin\nbegincmap\n" ++ type_text is_to_unicode

-- the comments after the file; a resource that has a name ends with a comment of its own
abbrev pub end_text : Bool → List ℕ
end_text true = codes "%%EndResource\n%%EOF\n"
end_text false = codes "%%EOF\n"

abbrev pub footer_text : Bool → List ℕ
footer_text has_name = codes "endcmap\nCMapName currentdict /CMap defineresource pop\nend\nend\n" ++ end_text has_name

abbrev pub use_text : List ℕ → List ℕ
use_text bytes = byte "/" ∷ bytes ++ (if is_key bytes then codes " () usecmap\n" else codes " usecmap\n")

abbrev pub collection_text : Collection → List ℕ
collection_text c =
    codes "/CIDSystemInfo 3 dict dup begin\n/Registry " ++ (string_spelled (registry_of c.family)
    ++ (codes " def\n/Ordering " ++ (string_spelled (ordering_of c.family)
    ++ (codes " def\n/Supplement " ++ (signed_decimal c.supplement ++ codes " def\nend def\n")))))

abbrev pub name_spelled : List ℕ → List ℕ
name_spelled bytes = if list_all is_regular bytes then byte "/" ∷ bytes else bytes

abbrev pub name_text : List ℕ → List ℕ
name_text bytes = codes "/CMapName " ++ (name_spelled bytes ++ codes " def\n")

abbrev pub mode_text : Mode → List ℕ
mode_text horizontal = codes "/WMode 0 def\n"
mode_text vertical = codes "/WMode 1 def\n"
