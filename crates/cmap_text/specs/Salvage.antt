-- Private aid: the reading of a text past its faults, piece by piece, as the code does it. FaultyTexts defines the content of such a text.
use Rattle.std.specs.Prelude.{ℕ, ◌+◌, ◌-◌, ◌&&◌, ◌||◌, ◌==◌, not, nat_le, nat_lt, Bool, true, false, List, [], ◌∷◌, ◌++◌, length, take, codes, Option, Some, None, option_and_then, option_map, Result, Ok, Err, if◌then◌else◌}
use Rattle.cmap_tokens.specs.Pieces.{Piece, pieces_left}
use Rattle.cmap_tokens.specs.Tokens.{Token}
use Rattle.cmap_tokens.specs.TokensLeft.{start_of}
use Rattle.cmap_values.specs.Files.{Declaration, Lists}
use Rattle.cmap_values.specs.declared.fault.Reason.{Reason}
use Rattle.cmap_values.specs.declared.fault.Reason.TheVariants.{BracketExpected, CidExpected, CodeExpected, EndWithinSection, TextExpected, UnequalLengths, UseWithoutName}
use Rattle.cmap_values.specs.declared.fault.Stop.{Stop}
pub use Rattle.cmap_text.specs.Classes.{Class, alone, class_of, class_of_malformed, class_of_name, class_of_token, close_bracket, is_known, is_name, is_name_piece, is_part, is_stray, is_string, is_string_piece, known, known_words, lone_brackets, open_bracket, part, places_of, text_in}
pub use Rattle.cmap_text.specs.FaultyTexts.{fault_of, fault_offset, own_fault}
pub use Rattle.cmap_text.specs.Rows.{are_rows, parts_on, rows_at, rows_of}
use Rattle.cmap_text.specs.declared.salvage.rows.Row.{Row}
use Rattle.cmap_text.specs.TextFiles.{CidKind, Section, bf_char, bf_range, cids, codespace_range, range, single, declares_cid}
use Rattle.cmap_text.specs.TextReading.{Code, Said, adding, cid_in, closer, code_fault, code_in, codespace, destination_in, filed, is_executable, key_in, nothing_said, opened_by, text_of, use_word, value_in, with_other, with_value}

-- ---- what is read so far
-- the parts of an entry that are read so far
pub data Parts : Type 0 where
  none : Parts
  one : Code → Parts
  two : Code → Code → Parts

pub record Entry : Type 0 where
  pub section : Section
  pub parts : Parts
  -- whether a piece of the entry begins a line, up to and including the piece in its first place
  pub begins_line : Bool

-- the rest of an entry at fault
pub record Rest : Type 0 where
  pub section : Section
  -- how many places are left
  pub places : ℕ
  pub begins_line : Bool

-- a list of texts
pub record Texts : Type 0 where
  -- the first code of the list, the code of its next place, and its last code
  pub first : ℕ
  pub next : ℕ
  pub last : ℕ
  -- how many texts there were before the list
  pub kept : ℕ
  pub begins_line : Bool
  -- whether the entry begins a line and no piece of the list does
  pub one_line : Bool

-- what comes next
pub data State : Type 0 where
  item : State
  value : List ℕ → State
  in_entry : Entry → State
  at_fault : Rest → State
  in_brackets : Rest → State
  in_line : Section → State
  in_list : Texts → State

-- the content so far, and the faults
pub record Salvaged : Type 0 where
  pub said : Said
  pub faults : List Stop

abbrev pub saying : Salvaged → Said → Salvaged
saying old said = record { said = said; faults = old.faults }

abbrev pub with_fault : Salvaged → Stop → Salvaged
with_fault old fault = record { said = old.said; faults = old.faults ++ fault ∷ [] }

abbrev pub having_lists : Salvaged → Lists → Salvaged
having_lists old lists = saying old (record { values = old.said.values; lists = lists; uses = old.said.uses; operand = old.said.operand })

abbrev pub having_value : Salvaged → List ℕ → Option Token → Salvaged
having_value old k v = saying old (record { values = with_value old.said.values k v; lists = old.said.lists; uses = old.said.uses; operand = old.said.operand })

abbrev pub having_use : Salvaged → List ℕ → Salvaged
having_use old name = saying old (record { values = old.said.values; lists = old.said.lists; uses = old.said.uses ++ name ∷ []; operand = old.said.operand })

-- ---- what comes next
abbrev pub new_entry : Section → Entry
new_entry section = record { section = section; parts = none; begins_line = false }

abbrev pub no_parts : Parts → Bool
no_parts none = true
no_parts (one code) = false
no_parts (two start end) = false

abbrev pub with_parts : Entry → Parts → Entry
with_parts entry parts = record { section = entry.section; parts = parts; begins_line = entry.begins_line }

abbrev pub with_piece : Entry → Piece → Entry
with_piece entry piece = record { section = entry.section; parts = entry.parts; begins_line = entry.begins_line || (no_parts entry.parts && piece.begins_line) }

abbrev pub count_of : Parts → ℕ
count_of none = 0
count_of (one code) = 1
count_of (two start end) = 2

abbrev pub rest_of : Entry → Rest
rest_of entry = record { section = entry.section; places = places_of entry.section - count_of entry.parts; begins_line = entry.begins_line }

abbrev pub after_entry : Rest → State
after_entry rest = if rest.begins_line then in_line rest.section else in_entry (new_entry rest.section)

abbrev pub after_part : Rest → State
after_part rest = if nat_le rest.places 1 then after_entry rest else at_fault (record { section = rest.section; places = rest.places - 1; begins_line = rest.begins_line })

abbrev pub rest_in_line : Section → Rest
rest_in_line section = record { section = section; places = 0; begins_line = true }

-- ---- items
abbrev pub take_use : Salvaged → Option (List ℕ) → ℕ → State × Salvaged
take_use old operand end = elim operand [ Some name ↦ (item, having_use old name) | None ↦ (item, with_fault old (record { offset = end; reason = UseWithoutName })) ]

-- the first token of an item, which ends at this offset
abbrev pub begin_item : Salvaged → Token → ℕ → State × Salvaged
begin_item old t end =
    elim (opened_by t) [
      | Some section ↦ (in_entry (new_entry section), saying old (with_other old.said t))
      | None ↦ elim (is_executable use_word t) [
        | true ↦ take_use (saying old (with_other old.said t)) old.said.operand end
        | false ↦ elim (key_in t) [ Some k ↦ (value k, saying old (with_other old.said t)) | None ↦ (item, saying old (with_other old.said t)) ]
      ]
    ]

abbrev pub take_item : Salvaged → Piece → State × Salvaged
take_item old piece = elim piece.token [ Ok t ↦ begin_item old t piece.end | Err w ↦ (item, with_fault old (own_fault w)) ]

-- the state after a malformed piece in the place of the value of a key; a piece that is alone doesn't take the place
abbrev pub after_malformed : List ℕ → Class → State
after_malformed k alone = value k
after_malformed k _ = item

abbrev pub take_value : Salvaged → List ℕ → Piece → State × Salvaged
take_value old k piece = elim piece.token [ Ok t ↦ (item, having_value old k (Some t)) | Err w ↦ (after_malformed k (class_of piece), with_fault old (own_fault w)) ]

-- ---- an entry at fault
abbrev pub pass_in_entry : Salvaged → Rest → Piece → State × Salvaged
pass_in_entry old rest piece = elim (class_of piece) [
  | known ↦ take_item old piece
  | alone ↦ (at_fault rest, old)
  | open_bracket ↦ (in_brackets rest, old)
  | close_bracket ↦ (after_entry rest, old)
  | part ↦ (after_part rest, old)
]

abbrev pub pass_in_list : Salvaged → Rest → Piece → State × Salvaged
pass_in_list old rest piece = elim (class_of piece) [
  | known ↦ take_item old piece
  | close_bracket ↦ (after_entry rest, old)
  | _ ↦ (in_brackets rest, old)
]

-- ---- a part at fault that shows the intended part
-- the empty text, if there are no bytes
abbrev pub empty_text_of : List ℕ → Option (List ℕ)
empty_text_of bytes = if length bytes == 0 then Some [] else None

-- the empty text, if a piece is an empty string
abbrev pub empty_text_in : Piece → Option (List ℕ)
empty_text_in piece = elim piece.token [ Ok t ↦ option_and_then empty_text_of (value_in t) | Err w ↦ None ]

abbrev pub code_of_piece : Piece → Option Code
code_of_piece piece = elim piece.token [ Ok t ↦ code_in t | Err w ↦ None ]

-- the codes from low, with bytes 0 before it, to a longer code
abbrev pub widened : Code → Code → Option (List Declaration)
widened low high = if nat_lt low.len high.len then Some (Declaration.codespace (record { len = high.len; low = low.number; high = high.number }) ∷ []) else None

-- the state and the lists after a part at fault fills its place all the same
abbrev pub Mended : Type 0
Mended = Option (State × Lists)

-- ---- an entry
-- the state and the lists after the next place is filled, or the reason why the place isn't filled
abbrev pub Filled : Type 0
Filled = Result (State × Lists) Reason

abbrev pub if_code : Token → (Code → Filled) → Filled
if_code t more = elim (code_in t) [ Some code ↦ more code | None ↦ Err (code_fault t) ]

abbrev pub if_cid : Token → (ℕ → Filled) → Filled
if_cid t more = elim (cid_in t) [ Some cid ↦ more cid | None ↦ Err CidExpected ]

abbrev pub if_text : Token → (List ℕ → Filled) → Filled
if_text t more = elim (destination_in t) [ Some units ↦ more units | None ↦ Err TextExpected ]

-- the high end of a codespace range
abbrev pub fill_high : Lists → Entry → Code → Token → Filled
fill_high lists entry low t = if_code t (λ high. elim (codespace low high) [ Some declared ↦ Ok (in_entry (new_entry entry.section), adding lists declared) | None ↦ Err UnequalLengths ])

-- the second code of a range
abbrev pub fill_end : Lists → Entry → Code → Token → Filled
fill_end lists entry start t = if_code t (λ end. Ok (in_entry (with_parts entry (two start end)), lists))

abbrev pub fill_cid : Lists → Entry → CidKind → Code → Code → Token → Filled
fill_cid lists entry kind start end t = if_cid t (λ cid. Ok (in_entry (new_entry entry.section), adding lists (declares_cid kind start.len (filed start end.number cid).1 ∷ [])))

abbrev pub fill_text : Lists → Entry → Code → Code → Token → Filled
fill_text lists entry start end t = if_text t (λ units. Ok (in_entry (new_entry entry.section), adding lists (text_of start.number end.number units)))

abbrev pub list_begun : Lists → Entry → Code → Code → Texts
list_begun lists entry start end = record { first = start.number; next = start.number; last = end.number; kept = length lists.bfs; begins_line = entry.begins_line; one_line = entry.begins_line }

-- one text, or a list of them
abbrev pub fill_texts : Lists → Entry → Code → Code → Token → Filled
fill_texts lists entry start end t = if is_executable (codes "[") t then Ok (in_list (list_begun lists entry start end), lists) else fill_text lists entry start end t

abbrev pub second_filled : Section → Lists → Entry → Code → Token → Filled
second_filled codespace_range = fill_high
second_filled (cids kind single) = λ lists entry start. fill_cid lists entry kind start start
second_filled (cids kind range) = fill_end
second_filled bf_range = fill_end
second_filled bf_char = λ lists entry start. fill_text lists entry start start

abbrev pub fill_second : Lists → Entry → Code → Token → Filled
fill_second lists entry = second_filled entry.section lists entry

abbrev pub third_filled : Section → Lists → Entry → Code → Code → Token → Filled
third_filled codespace_range = fill_texts
third_filled (cids kind extent) = λ lists entry. fill_cid lists entry kind
third_filled bf_range = fill_texts
third_filled bf_char = fill_texts

abbrev pub fill_third : Lists → Entry → Code → Code → Token → Filled
fill_third lists entry = third_filled entry.section lists entry

abbrev pub fill : Lists → Entry → Token → Filled
fill lists entry t = elim entry.parts [
  | none ↦ if_code t (λ code. Ok (in_entry (with_parts entry (one code)), lists))
  | one start ↦ fill_second lists entry start t
  | two start end ↦ fill_third lists entry start end t
]

-- an empty string fills the place of a text
abbrev pub mend_text : Lists → Entry → Code → Code → Piece → Mended
mend_text lists entry start end piece = option_map (λ units. (in_entry (new_entry entry.section), adding lists (text_of start.number end.number units))) (empty_text_in piece)

-- the high end of a codespace range
abbrev pub mend_high : Lists → Entry → Code → Piece → Mended
mend_high lists entry low piece = option_map (λ declared. (in_entry (new_entry entry.section), adding lists declared)) (option_and_then (widened low) (code_of_piece piece))

abbrev pub second_mended : Section → Lists → Entry → Code → Piece → Mended
second_mended codespace_range = mend_high
second_mended bf_char = λ lists entry start. mend_text lists entry start start
second_mended _ = λ lists entry start piece. None

abbrev pub third_mended : Section → Lists → Entry → Code → Code → Piece → Mended
third_mended bf_range = mend_text
third_mended _ = λ lists entry start end piece. None

abbrev pub mend : Lists → Entry → Piece → Mended
mend lists entry piece = elim entry.parts [
  | none ↦ None
  | one start ↦ second_mended entry.section lists entry start piece
  | two start end ↦ third_mended entry.section lists entry start end piece
]

-- a piece that is alone takes no place
abbrev pub passed_over : Salvaged → Entry → Piece → State × Salvaged
passed_over old entry piece = elim (class_of piece) [ alone ↦ (in_entry entry, old) | _ ↦ pass_in_entry old (rest_of entry) piece ]

-- a piece at fault may fill its place all the same
abbrev pub entry_fault : Salvaged → Entry → Piece → Stop → State × Salvaged
entry_fault old entry piece fault = elim (mend old.said.lists entry piece) [ Some p ↦ (p.0, having_lists (with_fault old fault) p.1) | None ↦ passed_over (with_fault old fault) entry piece ]

abbrev pub taken : Salvaged → Entry → Piece → Token → Filled → State × Salvaged
taken old entry piece t (Ok p) = (p.0, having_lists old p.1)
taken old entry piece t (Err reason) = entry_fault old entry piece (record { offset = piece.end; reason = reason })

abbrev pub take_part : Salvaged → Entry → Piece → State × Salvaged
take_part old entry piece = elim piece.token [ Ok t ↦ taken old entry piece t (fill old.said.lists entry t) | Err w ↦ entry_fault old entry piece (own_fault w) ]

abbrev pub is_closer : Section → Piece → Bool
is_closer section piece = elim piece.token [ Ok t ↦ is_executable (closer section) t | Err w ↦ false ]

abbrev pub take_in_entry : Salvaged → Entry → Piece → State × Salvaged
take_in_entry old entry piece = if no_parts entry.parts && is_closer entry.section piece then (item, old) else take_part old (with_piece entry piece) piece

-- the next entry begins with the next line
abbrev pub pass_in_line : Salvaged → Section → Piece → State × Salvaged
pass_in_line old section piece = if piece.begins_line then take_in_entry old (new_entry section) piece else elim (class_of piece) [
  | known ↦ take_item old piece
  | open_bracket ↦ (in_brackets (rest_in_line section), old)
  | _ ↦ (in_line section, old)
]

-- ---- a list of texts
abbrev pub list_after : Texts → Piece → ℕ → State
list_after list piece next = in_list (record { first = list.first; next = next; last = list.last; kept = list.kept; begins_line = list.begins_line; one_line = list.one_line && not piece.begins_line })

abbrev pub rest_of_list : Texts → Rest
rest_of_list list = record { section = bf_range; places = 1; begins_line = list.begins_line }

-- the list is lost
abbrev pub losing : Salvaged → Texts → Salvaged
losing old list = having_lists old (record { cids = old.said.lists.cids; notdefs = old.said.lists.notdefs; bfs = take list.kept old.said.lists.bfs; spaces = old.said.lists.spaces })

-- more places are left than are filled
abbrev pub is_nominal : Texts → Bool
is_nominal list = nat_lt (list.next - list.first) (list.last + 1 - list.next)

-- a list that is too short is lost, unless its range is nominal
abbrev pub short_list : Salvaged → Texts → Salvaged
short_list old list = if is_nominal list then old else losing old list

-- the empty text of a code is added, if the piece is an empty string
abbrev pub adding_empty : Salvaged → ℕ → Piece → Salvaged
adding_empty old code piece = elim (empty_text_in piece) [ Some units ↦ having_lists old (adding old.said.lists (text_of code code units)) | None ↦ old ]

abbrev pub no_text : Salvaged → Texts → Piece → State × Salvaged
no_text old list piece = elim (class_of piece) [
  | known ↦ take_item (losing old list) piece
  | part ↦ (list_after list piece (list.next + 1), adding_empty old list.next piece)
  | close_bracket ↦ (after_entry (rest_of_list list), short_list old list)
  | _ ↦ (list_after list piece list.next, old)
]

abbrev pub take_text : Salvaged → Texts → Piece → State × Salvaged
take_text old list piece = elim (text_in piece) [
  | Some units ↦ (list_after list piece (list.next + 1), having_lists old (adding old.said.lists (text_of list.next list.next units)))
  | None ↦ no_text (with_fault old (fault_of TextExpected piece)) list piece
]

-- a string that begins a line shows that the ] is missing
abbrev pub lacks_bracket : Texts → Piece → Bool
lacks_bracket list piece = list.one_line && (piece.begins_line && is_string_piece piece)

-- a part after all texts: the next entry begins with this part, or the list is too long
abbrev pub end_list : Salvaged → Texts → Piece → State × Salvaged
end_list old list piece = if lacks_bracket list piece then take_in_entry old (new_entry bf_range) piece else (in_brackets (rest_of_list list), losing old list)

abbrev pub past_texts : Salvaged → Texts → Piece → State × Salvaged
past_texts old list piece = elim (class_of piece) [
  | known ↦ take_item old piece
  | part ↦ end_list old list piece
  | _ ↦ (list_after list piece list.next, old)
]

abbrev pub take_after_texts : Salvaged → Texts → Piece → State × Salvaged
take_after_texts old list piece = elim (class_of piece) [ close_bracket ↦ (in_entry (new_entry bf_range), old) | _ ↦ past_texts (with_fault old (fault_of BracketExpected piece)) list piece ]

abbrev pub take_in_list : Salvaged → Texts → Piece → State × Salvaged
take_in_list old list piece = if nat_le list.next list.last then take_text old list piece else take_after_texts old list piece

-- ---- all pieces
abbrev pub take_piece : State × Salvaged → Piece → State × Salvaged
take_piece (item, old) piece = take_item old piece
take_piece (value k, old) piece = take_value old k piece
take_piece (in_entry entry, old) piece = take_in_entry old entry piece
take_piece (at_fault rest, old) piece = pass_in_entry old rest piece
take_piece (in_brackets rest, old) piece = pass_in_list old rest piece
take_piece (in_line section, old) piece = pass_in_line old section piece
take_piece (in_list list, old) piece = take_in_list old list piece

unfoldable pub take_all : State × Salvaged → List Piece → State × Salvaged
take_all now [] = now
take_all now (piece ∷ pieces) = take_all (take_piece now piece) pieces

-- at the end of a text of this length
abbrev pub finished : ℕ → State × Salvaged → Salvaged
finished len (item, old) = old
finished len (value k, old) = having_value old k None
finished len (in_entry entry, old) = with_fault old (record { offset = len; reason = EndWithinSection })
finished len (at_fault rest, old) = with_fault old (record { offset = len; reason = EndWithinSection })
finished len (in_brackets rest, old) = with_fault old (record { offset = len; reason = EndWithinSection })
finished len (in_line section, old) = with_fault old (record { offset = len; reason = EndWithinSection })
finished len (in_list list, old) = with_fault old (record { offset = len; reason = EndWithinSection })

abbrev pub nothing_salvaged : Salvaged
nothing_salvaged = record { said = nothing_said; faults = [] }

abbrev pub first_read : List ℕ → Salvaged
first_read text = finished (length text) (take_all (item, nothing_salvaged) (pieces_left (start_of text)))

-- ---- a text in rows
-- why the next place isn't filled
abbrev pub second_missing : Section → Reason
second_missing (cids kind single) = CidExpected
second_missing bf_char = TextExpected
second_missing _ = CodeExpected

abbrev pub third_missing : Section → Reason
third_missing (cids kind extent) = CidExpected
third_missing _ = TextExpected

abbrev pub missing : Entry → Reason
missing entry = elim entry.parts [ none ↦ CodeExpected | one start ↦ second_missing entry.section | two start end ↦ third_missing entry.section ]

-- a line with this number of parts begins within an entry and doesn't complete the entry
abbrev pub is_short : ℕ → Entry → Piece → Bool
is_short parts entry piece = not (no_parts entry.parts) && (not (is_known (class_of piece)) && not (parts == (rest_of entry).places))

abbrev pub short_fault : Entry → Piece → Stop
short_fault entry piece = record { offset = fault_offset piece; reason = missing entry }

-- an entry ends where a line begins, unless the line has exactly the parts that the entry lacks
abbrev pub begin_line : ℕ → State × Salvaged → Piece → State × Salvaged
begin_line parts (in_entry entry, old) piece = if is_short parts entry piece then (in_entry (new_entry entry.section), with_fault old (short_fault entry piece)) else (in_entry entry, old)
begin_line parts (at_fault rest, old) piece = (in_entry (new_entry rest.section), old)
begin_line parts (in_line section, old) piece = (in_entry (new_entry section), old)
begin_line parts now piece = now

-- a name that isn't known fills no place
abbrev pub take_unless_stray : State × Salvaged → Piece → State × Salvaged
take_unless_stray (in_entry entry, old) piece = if is_stray piece then (in_entry (with_piece entry piece), with_fault old (fault_of (missing entry) piece)) else take_in_entry old entry piece
take_unless_stray now piece = take_piece now piece

-- a piece on a line with this number of parts
abbrev pub take_in_row : ℕ → State × Salvaged → Piece → State × Salvaged
take_in_row parts now piece = take_unless_stray (if piece.begins_line then begin_line parts now piece else now) piece

-- pieces from the first of these rows on
unfoldable pub take_rows : List Row → State × Salvaged → List Piece → State × Salvaged
take_rows rows now [] = now
take_rows rows now (piece ∷ pieces) = let here = rows_at rows piece in take_rows here (take_in_row (parts_on here) now piece) pieces

abbrev pub read_in_rows : List Row → List ℕ → Salvaged
read_in_rows rows text = finished (length text) (take_rows rows (item, nothing_salvaged) (pieces_left (start_of text)))

-- ---- both readings
abbrev pub is_read_in_rows : List ℕ → Bool
is_read_in_rows text = not (length (first_read text).faults == 0) && are_rows (rows_of text)

-- a text with a fault is read in rows, if its lines are rows
abbrev pub salvaged : List ℕ → Salvaged
salvaged text = if is_read_in_rows text then read_in_rows (rows_of text) text else first_read text
