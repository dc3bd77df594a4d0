-- The content of a text apart from its faults: its pieces are read as items, sections and entries, as far as possible.
use Rattle.std.specs.Prelude.{◌≡◌, ℕ, ◌+◌, ◌-◌, ◌<◌, ◌≤◌, ◌&&◌, ◌||◌, ◌==◌, not, Bool, true, false, List, [], ◌∷◌, ◌++◌, ◌⊎◌, Contains, codes, flat_map, get_or, length, Option, Some, None, Ok, Err, if◌then◌else◌}
use Rattle.cmap_tokens.specs.Pieces.{Piece, Wrong, pieces_left}
use Rattle.cmap_tokens.specs.Strings.{IsValue}
use Rattle.cmap_tokens.specs.Tokens.{Token}
use Rattle.cmap_tokens.specs.TokensLeft.{start_of}
use Rattle.cmap_values.specs.BigEndian.{big_endian}
use Rattle.cmap_values.specs.Files.{Declaration, File, lists_of}
use Rattle.cmap_values.specs.declared.fault.Reason.{Reason}
use Rattle.cmap_values.specs.declared.fault.Reason.TheVariants.{BracketExpected, CidExpected, CodeExpected, EndWithinSection, TextExpected, UseWithoutName}
use Rattle.cmap_values.specs.declared.fault.Stop.{Stop}
use Rattle.cmap_text.specs.Classes.{alone, class_of, class_of_malformed, close_bracket, is_known, is_stray, is_string_piece, known, open_bracket, part, places_of}
use Rattle.cmap_text.specs.Rows.{are_rows, parts_on, rows_at, rows_of}
use Rattle.cmap_text.specs.declared.salvage.rows.Row.{Row}
use Rattle.cmap_text.specs.TextFiles.{IsCode, IsDestination, IsEntry, IsMetadata, IsOtherToken, Item, Opens, Section, bf_char, bf_range, cids, codespace_range, declared_by, declares_bf, entries, key, keys, literal_head, other, range, section_name, single, use_of_base}
use Rattle.cmap_text.specs.TextReading.{code_fault, codespace_fault}
use Rattle.cmap_text.specs.TokenParsers.{malformed_reason}

-- ---- faults
abbrev pub own_fault : Wrong → Stop
own_fault w = record { offset = w.offset; reason = malformed_reason w.kind }

-- the fault of a piece; the fault of a token is at its end
abbrev pub fault_of : Reason → Piece → Stop
fault_of reason piece = elim piece.token [ Ok t ↦ record { offset = piece.end; reason = reason } | Err w ↦ own_fault w ]

-- the offset of the fault of a piece
abbrev pub fault_offset : Piece → ℕ
fault_offset piece = elim piece.token [ Ok t ↦ piece.end | Err w ↦ w.offset ]

abbrev pub fault_at_end : ℕ → Stop
fault_at_end len = record { offset = len; reason = EndWithinSection }

-- ---- pieces on lines
-- a piece, and how many parts stand on its line
pub record Cell : Type 0 where
  pub piece : Piece
  pub parts : ℕ

-- the pieces of a text whose lines have these parts
abbrev pub cells_of : List Row → List Piece → List Cell
cells_of rows [] = []
cells_of rows (piece ∷ pieces) = record { piece = piece; parts = parts_on (rows_at rows piece) } ∷ cells_of (rows_at rows piece) pieces

-- in rows, whether a piece begins a line
abbrev pub starts_row : Bool → Cell → Bool
starts_row rows cell = rows && cell.piece.begins_line

-- where reading goes on after a part of a section
pub data Next : Type 0 where
  next_entry : List Cell → Next
  -- the section is over
  next_item : List Cell → Next

-- ---- a section is a table: each place of its entries is a column
pub data Column : Type 0 where
  code_column : Column
  -- a code of the same length
  end_column : Column
  cid_column : Column
  text_column : Column

abbrev pub columns : Section → List Column
columns codespace_range = code_column ∷ end_column ∷ []
columns (cids kind range) = code_column ∷ code_column ∷ cid_column ∷ []
columns (cids kind single) = code_column ∷ cid_column ∷ []
columns bf_range = code_column ∷ code_column ∷ text_column ∷ []
columns bf_char = code_column ∷ text_column ∷ []

-- the column of the next part, after these parts
abbrev pub next_column : Section → List Token → Column
next_column section parts = get_or (columns section) (length parts) text_column

-- why a part is missing, and why a token isn't the part
abbrev pub lacks : Column → Reason
lacks code_column = CodeExpected
lacks end_column = CodeExpected
lacks cid_column = CidExpected
lacks text_column = TextExpected

abbrev pub why_not : Column → Token → Reason
why_not code_column t = code_fault t
why_not end_column t = codespace_fault t
why_not cid_column t = CidExpected
why_not text_column t = TextExpected

-- the fault of a piece in the place after these parts
abbrev pub fault_after : Section → List Token → Piece → Stop
fault_after section parts piece = elim piece.token [ Ok t ↦ record { offset = piece.end; reason = why_not (next_column section parts) t } | Err w ↦ own_fault w ]

-- ---- pieces by themselves
abbrev pub IsToken : Piece → Token → Type 0
IsToken piece t = piece.token ≡ Ok t

-- a string without bytes
abbrev pub IsEmptyString : Token → Type 0
IsEmptyString t = (raw : List ℕ) × (t ≡ Token.String raw) × IsValue raw []

abbrev pub IsEmptyText : Piece → Type 0
IsEmptyText piece = (t : Token) × IsToken piece t × IsEmptyString t

-- a text that isn't empty
abbrev pub IsText : Piece → List ℕ → Type 0
IsText piece units = (t : Token) × IsToken piece t × IsDestination t units

abbrev pub IsBracket : Piece → Type 0
IsBracket piece = IsToken piece (Token.Name false (codes "["))

-- a piece that takes no place: it is alone or, in rows, it is a name that isn't known
abbrev pub TakesNoPlace : Bool → Piece → Type 0
TakesNoPlace rows piece = (class_of piece ≡ alone) ⊎ ((rows ≡ true) × (is_stray piece ≡ true))

-- ---- pieces that are passed over
-- the rest of a list, up to its ] or a known word
pub data PassesList : List Cell → Next → Type 0 where
  list_ends : PassesList [] (next_entry [])
  list_closes : {cells : List Cell} → (cell : Cell) → class_of cell.piece ≡ close_bracket → PassesList (cell ∷ cells) (next_entry cells)
  list_left : {cells : List Cell} → (cell : Cell) → class_of cell.piece ≡ known → PassesList (cell ∷ cells) (next_item (cell ∷ cells))
  list_goes_on : {cells : List Cell} {next : Next} → (cell : Cell) → (class_of cell.piece ≡ close_bracket → ⊥) → (class_of cell.piece ≡ known → ⊥) → PassesList cells next → PassesList (cell ∷ cells) next

-- the rest of a line, with the lists that begin on it, up to the next line or a known word
pub data PassesLine : List Cell → Next → Type 0 where
  line_ends : PassesLine [] (next_entry [])
  line_follows : {cells : List Cell} → (cell : Cell) → cell.piece.begins_line ≡ true → PassesLine (cell ∷ cells) (next_entry (cell ∷ cells))
  line_left : {cells : List Cell} → (cell : Cell) → cell.piece.begins_line ≡ false → class_of cell.piece ≡ known → PassesLine (cell ∷ cells) (next_item (cell ∷ cells))
  line_list : {cells others : List Cell} {next : Next} → (cell : Cell) → cell.piece.begins_line ≡ false → class_of cell.piece ≡ open_bracket → PassesList cells (next_entry others) → PassesLine others next → PassesLine (cell ∷ cells) next
  line_list_left : {cells others : List Cell} → (cell : Cell) → cell.piece.begins_line ≡ false → class_of cell.piece ≡ open_bracket → PassesList cells (next_item others) → PassesLine (cell ∷ cells) (next_item others)
  line_goes_on : {cells : List Cell} {next : Next} → (cell : Cell) → cell.piece.begins_line ≡ false → (class_of cell.piece ≡ open_bracket → ⊥) → (class_of cell.piece ≡ known → ⊥) → PassesLine cells next → PassesLine (cell ∷ cells) next

-- after an entry at fault, the rest of its line is passed over too, if the entry begins a line
abbrev pub AfterFaulty : Bool → List Cell → Next → Type 0
AfterFaulty false cells next = next ≡ next_entry cells
AfterFaulty true cells next = PassesLine cells next

-- the same after the list of an entry at fault, unless a known word ends the list
abbrev pub AfterList : Bool → Next → Next → Type 0
AfterList line (next_entry cells) next = AfterFaulty line cells next
AfterList line (next_item cells) next = next ≡ next_item cells

-- the rest of an entry at fault, with this number of places left, where each part takes one place; line states whether the entry begins a line, and may_begin whether in rows the next entry may begin here
pub data PassesEntry (rows line : Bool) : ℕ → Bool → List Cell → Next → Type 0 where
  entry_ends : {places : ℕ} {may_begin : Bool} → PassesEntry rows line places may_begin [] (next_entry [])
  row_follows : {places : ℕ} {cells : List Cell} → (cell : Cell) → starts_row rows cell ≡ true → PassesEntry rows line places true (cell ∷ cells) (next_entry (cell ∷ cells))
  entry_left : {places : ℕ} {may_begin : Bool} {cells : List Cell} → (cell : Cell) → (may_begin && starts_row rows cell) ≡ false → class_of cell.piece ≡ known → PassesEntry rows line places may_begin (cell ∷ cells) (next_item (cell ∷ cells))
  entry_lone : {places : ℕ} {may_begin : Bool} {cells : List Cell} {next : Next} → (cell : Cell) → (may_begin && starts_row rows cell) ≡ false → class_of cell.piece ≡ alone → PassesEntry rows line places true cells next → PassesEntry rows line places may_begin (cell ∷ cells) next
  entry_list : {places : ℕ} {may_begin : Bool} {cells : List Cell} {mid next : Next} → (cell : Cell) → (may_begin && starts_row rows cell) ≡ false → class_of cell.piece ≡ open_bracket → PassesList cells mid → AfterList line mid next → PassesEntry rows line places may_begin (cell ∷ cells) next
  entry_bracket : {places : ℕ} {may_begin : Bool} {cells : List Cell} {next : Next} → (cell : Cell) → (may_begin && starts_row rows cell) ≡ false → class_of cell.piece ≡ close_bracket → AfterFaulty line cells next → PassesEntry rows line places may_begin (cell ∷ cells) next
  entry_last : {places : ℕ} {may_begin : Bool} {cells : List Cell} {next : Next} → (cell : Cell) → (may_begin && starts_row rows cell) ≡ false → class_of cell.piece ≡ part → places ≤ 1 → AfterFaulty line cells next → PassesEntry rows line places may_begin (cell ∷ cells) next
  entry_part : {places : ℕ} {may_begin : Bool} {cells : List Cell} {next : Next} → (cell : Cell) → (may_begin && starts_row rows cell) ≡ false → class_of cell.piece ≡ part → 1 < places → PassesEntry rows line (places - 1) true cells next → PassesEntry rows line places may_begin (cell ∷ cells) next

-- ---- a list of texts, for the codes from first to last
-- the entry of the list begins a line, and the pieces of the list don't
abbrev pub stays_on_line : Bool → Cell → Bool
stays_on_line on_line cell = on_line && not cell.piece.begins_line

-- a string that begins a line shows that the ] is missing
abbrev pub is_next_row : Bool → Cell → Bool
is_next_row on_line cell = on_line && (cell.piece.begins_line && is_string_piece cell.piece)

-- more places are left than are filled
abbrev pub IsNominal : ℕ → ℕ → ℕ → Type 0
IsNominal first last code = code - first < last + 1 - code

abbrev pub TakesNoText : Piece → Type 0
TakesNoText piece = (class_of piece ≡ alone) ⊎ (class_of piece ≡ open_bracket)

-- the rest of a list from the place of a code on: the declarations of the texts, the faults, and whether the list is kept
pub data ListRead (first last : ℕ) (line : Bool) : ℕ → Bool → List Cell → List Declaration → List Stop → Bool → Next → Type 0 where
  texts_end : {code : ℕ} {on_line : Bool} → ListRead first last line code on_line [] [] [] true (next_entry [])
  -- a place is left
  text_read : {code : ℕ} {on_line kept : Bool} {cells : List Cell} {declared : List Declaration} {faults : List Stop} {next : Next} → (cell : Cell) (units : List ℕ) → code ≤ last → IsText cell.piece units
      → ListRead first last line (code + 1) (stays_on_line on_line cell) cells declared faults kept next → ListRead first last line code on_line (cell ∷ cells) (declares_bf code code units ∷ declared) faults kept next
  empty_read : {code : ℕ} {on_line kept : Bool} {cells : List Cell} {declared : List Declaration} {faults : List Stop} {next : Next} → (cell : Cell) → code ≤ last → IsEmptyText cell.piece
      → ListRead first last line (code + 1) (stays_on_line on_line cell) cells declared faults kept next → ListRead first last line code on_line (cell ∷ cells) (declares_bf code code [] ∷ declared) (fault_of TextExpected cell.piece ∷ faults) kept next
  other_read : {code : ℕ} {on_line kept : Bool} {cells : List Cell} {declared : List Declaration} {faults : List Stop} {next : Next} → (cell : Cell) → code ≤ last → class_of cell.piece ≡ part → ((units : List ℕ) → IsText cell.piece units → ⊥) → (IsEmptyText cell.piece → ⊥)
      → ListRead first last line (code + 1) (stays_on_line on_line cell) cells declared faults kept next → ListRead first last line code on_line (cell ∷ cells) declared (fault_of TextExpected cell.piece ∷ faults) kept next
  nothing_read : {code : ℕ} {on_line kept : Bool} {cells : List Cell} {declared : List Declaration} {faults : List Stop} {next : Next} → (cell : Cell) → code ≤ last → TakesNoText cell.piece
      → ListRead first last line code (stays_on_line on_line cell) cells declared faults kept next → ListRead first last line code on_line (cell ∷ cells) declared (fault_of TextExpected cell.piece ∷ faults) kept next
  -- a list that is too short is lost, unless its range is nominal
  nominal : {code : ℕ} {on_line : Bool} {cells : List Cell} {next : Next} → (cell : Cell) → code ≤ last → class_of cell.piece ≡ close_bracket → IsNominal first last code
      → AfterFaulty line cells next → ListRead first last line code on_line (cell ∷ cells) [] (fault_of TextExpected cell.piece ∷ []) true next
  too_short : {code : ℕ} {on_line : Bool} {cells : List Cell} {next : Next} → (cell : Cell) → code ≤ last → class_of cell.piece ≡ close_bracket → (IsNominal first last code → ⊥)
      → AfterFaulty line cells next → ListRead first last line code on_line (cell ∷ cells) [] (fault_of TextExpected cell.piece ∷ []) false next
  texts_left : {code : ℕ} {on_line : Bool} {cells : List Cell} → (cell : Cell) → code ≤ last → class_of cell.piece ≡ known
      → ListRead first last line code on_line (cell ∷ cells) [] (fault_of TextExpected cell.piece ∷ []) false (next_item (cell ∷ cells))
  -- all places are filled
  list_closed : {code : ℕ} {on_line : Bool} {cells : List Cell} → (cell : Cell) → last < code → class_of cell.piece ≡ close_bracket
      → ListRead first last line code on_line (cell ∷ cells) [] [] true (next_entry cells)
  between_texts : {code : ℕ} {on_line kept : Bool} {cells : List Cell} {declared : List Declaration} {faults : List Stop} {next : Next} → (cell : Cell) → last < code → TakesNoText cell.piece
      → ListRead first last line code (stays_on_line on_line cell) cells declared faults kept next → ListRead first last line code on_line (cell ∷ cells) declared (fault_of BracketExpected cell.piece ∷ faults) kept next
  list_word : {code : ℕ} {on_line : Bool} {cells : List Cell} → (cell : Cell) → last < code → class_of cell.piece ≡ known
      → ListRead first last line code on_line (cell ∷ cells) [] (fault_of BracketExpected cell.piece ∷ []) true (next_item (cell ∷ cells))
  row_read : {code : ℕ} {on_line : Bool} {cells : List Cell} → (cell : Cell) → last < code → class_of cell.piece ≡ part → is_next_row on_line cell ≡ true
      → ListRead first last line code on_line (cell ∷ cells) [] (fault_of BracketExpected cell.piece ∷ []) true (next_entry (cell ∷ cells))
  too_long : {code : ℕ} {on_line : Bool} {cells : List Cell} {mid next : Next} → (cell : Cell) → last < code → class_of cell.piece ≡ part → is_next_row on_line cell ≡ false
      → PassesList cells mid → AfterList line mid next → ListRead first last line code on_line (cell ∷ cells) [] (fault_of BracketExpected cell.piece ∷ []) false next

-- ---- an entry
-- an entry of the grammar begins with these tokens
abbrev pub BeginEntry : Section → List Token → Type 0
BeginEntry section tokens = (more : List Token) × (declared : List Declaration) × IsEntry section (tokens ++ more) declared []

-- a piece in the place after these parts shows the intended part: an empty string is the empty text, and bytes 0 stand before the first code if the second code is longer
abbrev pub IsMended : Section → List Token → Piece → List Declaration → Type 0
IsMended codespace_range parts piece declared = (a b : Token) × (low high : List ℕ) × (parts ≡ a ∷ []) × IsToken piece b × IsCode a low × IsCode b high × (length low < length high)
    × (declared ≡ Declaration.codespace (record { len = length high; low = big_endian low; high = big_endian high }) ∷ [])
IsMended (cids kind extent) parts piece declared = ⊥
IsMended bf_range parts piece declared = (a b : Token) × (start end : List ℕ) × (parts ≡ a ∷ b ∷ []) × IsCode a start × IsCode b end × IsEmptyText piece × (declared ≡ declares_bf (big_endian start) (big_endian end) [] ∷ [])
IsMended bf_char parts piece declared = (a : Token) × (code : List ℕ) × (parts ≡ a ∷ []) × IsCode a code × IsEmptyText piece × (declared ≡ declares_bf (big_endian code) (big_endian code) [] ∷ [])

-- the role of a piece in an entry
pub data Role : Type 0 where
  -- the closer of the section, before the first part
  closes : Role
  -- no part
  no_part : Role
  -- a part before the last part
  next_part : Token → Role
  -- the last part; the entry declares this
  last_part : List Declaration → Role
  mended_part : List Declaration → Role
  -- the [ of a list, for the codes from the first to the last
  begins_list : ℕ → ℕ → Role
  -- a part at fault
  wrong_part : Role

abbrev pub IsCloser : Section → List Token → Piece → Type 0
IsCloser section parts piece = (parts ≡ []) × IsToken piece (Token.Name false (codes "end" ++ section_name section))

-- the role of a piece after these parts
abbrev pub IsRole : Bool → Section → List Token → Piece → Role → Type 0
IsRole rows section parts piece closes = IsCloser section parts piece
IsRole rows section parts piece no_part = TakesNoPlace rows piece
IsRole rows section parts piece (next_part t) = IsToken piece t × BeginEntry section (parts ++ t ∷ []) × (length parts + 1 < places_of section)
IsRole rows section parts piece (last_part declared) = (t : Token) × IsToken piece t × IsEntry section (parts ++ t ∷ []) declared []
IsRole rows section parts piece (mended_part declared) = IsMended section parts piece declared
IsRole rows section parts piece (begins_list first last) = (a b : Token) × (start end : List ℕ) × (section ≡ bf_range) × (parts ≡ a ∷ b ∷ []) × IsCode a start × IsCode b end × (first ≡ big_endian start) × (last ≡ big_endian end) × IsBracket piece
IsRole rows section parts piece wrong_part = (IsCloser section parts piece → ⊥) × (TakesNoPlace rows piece → ⊥) × ((t : Token) → IsToken piece t → BeginEntry section (parts ++ t ∷ []) → ⊥) × ((declared : List Declaration) → IsMended section parts piece declared → ⊥)

-- in rows an entry that has begun is short if a line begins, unless the line begins with a known word or has exactly the number of the missing parts
abbrev pub is_short : Bool → Section → List Token → Cell → Bool
is_short rows section parts cell = starts_row rows cell && (not (length parts == 0) && (not (is_known (class_of cell.piece)) && not (cell.parts == places_of section - length parts)))

abbrev pub short_fault : Section → List Token → Piece → Stop
short_fault section parts piece = record { offset = fault_offset piece; reason = lacks (next_column section parts) }

abbrev pub HasRole : Bool → Section → List Token → Cell → Role → Type 0
HasRole rows section parts cell role = (is_short rows section parts cell ≡ false) × IsRole rows section parts cell.piece role

-- whether an entry begins a line, up to and including its first part, or the piece at fault in the place of the first part
abbrev pub line_begun : Bool → List Token → Cell → Bool
line_begun line parts cell = line || (length parts == 0 && cell.piece.begins_line)

-- the rest of an entry after these parts: its declarations, its faults, and where reading goes on
pub data EntryRead (rows : Bool) (section : Section) : Bool → List Token → List Cell → List Declaration → List Stop → Next → Type 0 where
  cut_off : {line : Bool} {parts : List Token} → EntryRead rows section line parts [] [] [] (next_entry [])
  short : {line : Bool} {parts : List Token} {cells : List Cell} → (cell : Cell) → is_short rows section parts cell ≡ true
      → EntryRead rows section line parts (cell ∷ cells) [] (short_fault section parts cell.piece ∷ []) (next_entry (cell ∷ cells))
  closer_read : {line : Bool} {parts : List Token} {cells : List Cell} → (cell : Cell) → HasRole rows section parts cell closes
      → EntryRead rows section line parts (cell ∷ cells) [] [] (next_item cells)
  passed_piece : {line : Bool} {parts : List Token} {cells : List Cell} {declared : List Declaration} {faults : List Stop} {next : Next} → (cell : Cell) → HasRole rows section parts cell no_part
      → EntryRead rows section (line_begun line parts cell) parts cells declared faults next → EntryRead rows section line parts (cell ∷ cells) declared (fault_after section parts cell.piece ∷ faults) next
  part_read : {line : Bool} {parts : List Token} {cells : List Cell} {declared : List Declaration} {faults : List Stop} {next : Next} → (cell : Cell) (t : Token) → HasRole rows section parts cell (next_part t)
      → EntryRead rows section (line_begun line parts cell) (parts ++ t ∷ []) cells declared faults next → EntryRead rows section line parts (cell ∷ cells) declared faults next
  whole_entry : {line : Bool} {parts : List Token} {cells : List Cell} {declared : List Declaration} → (cell : Cell) → HasRole rows section parts cell (last_part declared)
      → EntryRead rows section line parts (cell ∷ cells) declared [] (next_entry cells)
  mended_entry : {line : Bool} {parts : List Token} {cells : List Cell} {declared : List Declaration} → (cell : Cell) → HasRole rows section parts cell (mended_part declared)
      → EntryRead rows section line parts (cell ∷ cells) declared (fault_after section parts cell.piece ∷ []) (next_entry cells)
  list_read : {line kept : Bool} {parts : List Token} {cells : List Cell} {first last : ℕ} {declared : List Declaration} {faults : List Stop} {next : Next} → (cell : Cell) → HasRole rows section parts cell (begins_list first last)
      → ListRead first last line first line cells declared faults kept next → EntryRead rows section line parts (cell ∷ cells) (if kept then declared else []) faults next
  faulty_entry : {line : Bool} {parts : List Token} {cells : List Cell} {next : Next} → (cell : Cell) → HasRole rows section parts cell wrong_part
      → PassesEntry rows (line_begun line parts cell) (places_of section - length parts) false (cell ∷ cells) next → EntryRead rows section line parts (cell ∷ cells) [] (fault_after section parts cell.piece ∷ []) next

-- entries one after another up to the end of the section, in a text of this length
pub data EntriesRead (rows : Bool) (len : ℕ) (section : Section) : List Cell → List Declaration → List Stop → List Cell → Type 0 where
  section_cut_off : EntriesRead rows len section [] [] (fault_at_end len ∷ []) []
  section_over : {cell : Cell} {cells others : List Cell} {declared : List Declaration} {faults : List Stop} → EntryRead rows section false [] (cell ∷ cells) declared faults (next_item others)
      → EntriesRead rows len section (cell ∷ cells) declared faults others
  entry_read : {cell : Cell} {cells others rest : List Cell} {declared more : List Declaration} {faults later : List Stop} → EntryRead rows section false [] (cell ∷ cells) declared faults (next_entry others)
      → EntriesRead rows len section others more later rest → EntriesRead rows len section (cell ∷ cells) (declared ++ more) (faults ++ later) rest

-- ---- items
-- the item of this key and its value, or no item if the key keeps its earlier value
pub data ValueRead (k : List ℕ) : List Cell → List Item → List Stop → List Cell → Type 0 where
  no_value : ValueRead k [] (key k None ∷ []) [] []
  value_read : {cells : List Cell} → (cell : Cell) (t : Token) → IsToken cell.piece t → ValueRead k (cell ∷ cells) (key k (Some t) ∷ []) [] cells
  value_lost : {cells : List Cell} → (cell : Cell) (w : Wrong) → cell.piece.token ≡ Err w → (class_of_malformed w.kind ≡ alone → ⊥) → ValueRead k (cell ∷ cells) [] (own_fault w ∷ []) cells
  value_later : {cells others : List Cell} {items : List Item} {faults : List Stop} → (cell : Cell) (w : Wrong) → cell.piece.token ≡ Err w → class_of_malformed w.kind ≡ alone
      → ValueRead k cells items faults others → ValueRead k (cell ∷ cells) items (own_fault w ∷ faults) others

-- items, the names that they use, and the faults
pub record Found : Type 0 where
  pub items : List Item
  pub uses : List (List ℕ)
  pub faults : List Stop

abbrev pub nothing_found : Found
nothing_found = record { items = []; uses = []; faults = [] }

-- what is found, after some earlier items, names and faults
abbrev pub found_after : List Item → List (List ℕ) → List Stop → Found → Found
found_after items uses faults later = record { items = items ++ later.items; uses = uses ++ later.uses; faults = faults ++ later.faults }

-- the content of all items after an item that begins with this literal name, or with none
pub data ItemsRead (rows : Bool) (len : ℕ) : Option (List ℕ) → List Cell → Found → Type 0 where
  items_end : {before : Option (List ℕ)} → ItemsRead rows len before [] nothing_found
  malformed_read : {before : Option (List ℕ)} {cells : List Cell} {found : Found} → (cell : Cell) (w : Wrong) → cell.piece.token ≡ Err w
      → ItemsRead rows len before cells found → ItemsRead rows len before (cell ∷ cells) (found_after [] [] (own_fault w ∷ []) found)
  key_read : {before : Option (List ℕ)} {cells others : List Cell} {items : List Item} {faults : List Stop} {found : Found} → (cell : Cell) (k : List ℕ) → IsToken cell.piece (Token.Name true k) → Contains keys k → ValueRead k cells items faults others
      → ItemsRead rows len (Some k) others found → ItemsRead rows len before (cell ∷ cells) (found_after items [] faults found)
  section_read : {before : Option (List ℕ)} {cells others : List Cell} {declared : List Declaration} {faults : List Stop} {found : Found} → (cell : Cell) (t : Token) (section : Section) → IsToken cell.piece t → Opens t section → EntriesRead rows len section cells declared faults others
      → ItemsRead rows len None others found → ItemsRead rows len before (cell ∷ cells) (found_after (entries declared ∷ []) [] faults found)
  use_read : {cells : List Cell} {found : Found} → (cell : Cell) (name : List ℕ) → IsToken cell.piece (Token.Name false (codes "usecmap"))
      → ItemsRead rows len None cells found → ItemsRead rows len (Some name) (cell ∷ cells) (found_after (use_of_base ∷ []) (name ∷ []) [] found)
  unnamed_use : {cells : List Cell} {found : Found} → (cell : Cell) → IsToken cell.piece (Token.Name false (codes "usecmap"))
      → ItemsRead rows len None cells found → ItemsRead rows len None (cell ∷ cells) (found_after [] [] (fault_of UseWithoutName cell.piece ∷ []) found)
  token_read : {before : Option (List ℕ)} {cells : List Cell} {found : Found} → (cell : Cell) (t : Token) → IsToken cell.piece t → IsOtherToken t
      → ItemsRead rows len (literal_head (other t)) cells found → ItemsRead rows len before (cell ∷ cells) (found_after (other t ∷ []) [] [] found)

-- ---- the whole text
abbrev pub FirstRead : List ℕ → Found → Type 0
FirstRead text = ItemsRead false (length text) None (cells_of [] (pieces_left (start_of text)))

abbrev pub ReadInRows : List ℕ → Found → Type 0
ReadInRows text = ItemsRead true (length text) None (cells_of (rows_of text) (pieces_left (start_of text)))

-- a text with a fault is read in rows, if its lines are rows
abbrev pub has_rows : List ℕ → Found → Bool
has_rows text first = not (length first.faults == 0) && are_rows (rows_of text)

-- whether a text is read in rows
abbrev pub InRows : List ℕ → Bool → Type 0
InRows text rows = (first : Found) × FirstRead text first × (rows ≡ has_rows text first)

abbrev pub ReadAgain : Bool → List ℕ → Found → Found → Type 0
ReadAgain false text first found = found ≡ first
ReadAgain true text first found = ReadInRows text found

abbrev pub TextRead : List ℕ → Found → Type 0
TextRead text found = (first : Found) × FirstRead text first × ReadAgain (has_rows text first) text first found

-- the text has the content of the file, and has these faults
abbrev pub SalvagesFile : List ℕ → File → List Stop → Type 0
SalvagesFile text file faults = (found : Found) × TextRead text found
    × IsMetadata found.items file.metadata × (file.lists ≡ lists_of (flat_map declared_by found.items)) × (file.uses ≡ found.uses) × (faults ≡ found.faults)

-- the text has the content of no other file, and has no other faults
abbrev pub SalvagesNoOther : List ℕ → File → List Stop → Type 0
SalvagesNoOther text file faults = (other : File) (stops : List Stop) → SalvagesFile text other stops → (other ≡ file) × (stops ≡ faults)
