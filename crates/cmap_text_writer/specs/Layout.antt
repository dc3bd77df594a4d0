-- The layout of a file as text: it determines each byte, except for the ends of sections and the texts that stand in arrays.
use Rattle.std.specs.Prelude.{◌≡◌, ℕ, ◌+◌, ◌<◌, ◌==◌, ◌&&◌, All, Bool, not, List, [], ◌∷◌, ◌++◌, codes, flat_map, length, map, is_some}
use Rattle.cmap_values.specs.Files.{BfEntry, ByLength, CidEntry, Codespace, Declaration, File, FileMetadata, Lists}
use Rattle.cmap_values.specs.ListsByKind.{declarations_of}
use Rattle.cmap_tokens.specs.Ascii.{byte}
use Rattle.cmap_text.specs.TextFiles.{CidKind, Extent, Section, bf_char, bf_range, codespace_range, declares_cid, range, single}
use Rattle.cmap_text_writer.specs.FileItems.{collection_text, comments_text, footer_text, from_option, header_text, mode_text, name_text, use_text}
use Rattle.cmap_text_writer.specs.Spelled.{cid_spelled, closer_spelled, codes_spelled, opener_spelled, space_spelled, text_spelled, units_spelled}

-- ---- lines
-- a text of a single code, where `lengths` gives the number of bytes of a code
abbrev pub char_spelled : (ℕ → ℕ) → BfEntry → List ℕ
char_spelled lengths e = text_spelled (lengths e.start) single e

abbrev pub next_text_spelled : List ℕ → List ℕ
next_text_spelled units = byte " " ∷ units_spelled units

abbrev pub array_spelled : List (List ℕ) → List ℕ
array_spelled [] = []
array_spelled (text ∷ texts) = codes "[" ++ (units_spelled text ++ (flat_map next_text_spelled texts ++ codes "]\n"))

-- a text of a range, or an array of texts for codes from the first code on
abbrev pub line_spelled : (ℕ → ℕ) → List BfEntry → List ℕ
line_spelled lengths [] = []
line_spelled lengths (e ∷ []) = text_spelled (lengths e.start) range e
line_spelled lengths (e ∷ f ∷ es) = codes_spelled (lengths e.start) e.start (e.start + length (f ∷ es)) range ++ array_spelled (map (λ x. x.units) (e ∷ f ∷ es))

-- ---- sections
-- a section of a text, as its lines
pub data Block : Type 0 where
  spaces : List Codespace → Block
  -- with the number of bytes of the codes
  declares : CidKind → Extent → ℕ → List CidEntry → Block
  chars : List BfEntry → Block
  -- with the texts of each line: the first text, and the other texts of an array
  lines : List (BfEntry × List BfEntry) → Block

abbrev pub declared_in : Block → List Declaration
declared_in (spaces ss) = map Declaration.codespace ss
declared_in (declares kind extent len es) = map (declares_cid kind len) es
declared_in (chars es) = map Declaration.bf es
declared_in (lines ls) = flat_map (λ l. map Declaration.bf (l.0 ∷ l.1)) ls

-- a section for single codes has one entry or more, each for a single code; a section for ranges has an entry that isn't for a single code
abbrev pub Serves : {X : Type 0} → Extent → (X → Type 0) → List X → Type 0
Serves single IsSingle xs = (0 < length xs) × All IsSingle xs
Serves range IsSingle xs = All IsSingle xs → ⊥

-- the line is one text of a single code, and no array
abbrev pub IsSingleLine : BfEntry × List BfEntry → Type 0
IsSingleLine l = (l.0.start ≡ l.0.end) × (l.1 ≡ [])

-- the section isn't empty, and its entries are of its kind
abbrev pub IsSection : Block → Type 0
IsSection (spaces ss) = 0 < length ss
IsSection (declares kind extent len es) = Serves extent (λ e. e.start ≡ e.end) es
IsSection (chars es) = Serves single (λ e. e.start ≡ e.end) es
IsSection (lines ls) = Serves range IsSingleLine ls

-- the number of lines, the first word, the lines and the last word of a section
abbrev pub section_spelled : {X : Type 0} → Section → (X → List ℕ) → List X → List ℕ
section_spelled section line xs = opener_spelled (length xs) section ++ (flat_map line xs ++ closer_spelled section)

-- a section, where `lengths` gives the number of bytes of the codes of texts
abbrev pub block_spelled : (ℕ → ℕ) → Block → List ℕ
block_spelled lengths (spaces ss) = section_spelled codespace_range space_spelled ss
block_spelled lengths (declares kind extent len es) = section_spelled (Section.cids kind extent) (cid_spelled len extent) es
block_spelled lengths (chars es) = section_spelled bf_char (char_spelled lengths) es
block_spelled lengths (lines ls) = section_spelled bf_range (λ l. line_spelled lengths (l.0 ∷ l.1)) ls

-- ---- a file
abbrev pub metadata_text : FileMetadata → List ℕ
metadata_text m = from_option collection_text m.collection ++ (from_option name_text m.name ++ from_option mode_text m.mode)

abbrev pub has_none : ByLength → Bool
has_none lists = length lists.one == 0 && length lists.two == 0 && length lists.three == 0 && length lists.four == 0

-- codes have texts only, and no CIDs
abbrev pub is_to_unicode : Lists → Bool
is_to_unicode lists = not (length lists.bfs == 0) && has_none lists.cids && has_none lists.notdefs

-- the text before the sections
abbrev pub front_text : File → List ℕ
front_text file = comments_text file.metadata.name ++ (header_text (is_to_unicode file.lists) ++ (flat_map use_text file.uses ++ metadata_text file.metadata))

-- the text represents the file in these sections, where `lengths` gives the number of bytes of the codes of texts
pub record IsLaidOut (lengths : ℕ → ℕ) (file : File) (text : List ℕ) : Type 0 where
  pub blocks : List Block
  pub served : All IsSection blocks
  pub declared : flat_map declared_in blocks ≡ declarations_of file.lists
  pub spelled : text ≡ front_text file ++ (flat_map (block_spelled lengths) blocks ++ footer_text (is_some file.metadata.name))
