-- Texts in rows: whether each line of their sections contains one entry.
use Rattle.std.specs.Prelude.{ℕ, ◌+◌, ◌==◌, ◌&&◌, ◌||◌, nat_lt, min, not, Bool, true, false, List, [], ◌∷◌, ◌++◌, Option, Some, None, is_some, Ok, Err, if◌then◌else◌}
use Rattle.std.specs.List.{count_by}
use Rattle.cmap_tokens.specs.Pieces.{Piece, pieces_left}
use Rattle.cmap_tokens.specs.TokensLeft.{start_of}
use Rattle.cmap_text.specs.TextFiles.{Section}
use Rattle.cmap_text.specs.TextReading.{opened_by}
use Rattle.cmap_text.specs.Classes.{class_of, is_name_piece, places_of, known, alone, open_bracket, close_bracket, part}
use Rattle.cmap_text.specs.declared.salvage.rows.Row.{Row}

abbrev pub empty_row : Row
empty_row = record { parts = 0; places = 0 }

-- the lines of a text, as far as its pieces are read
pub record Lines : Type 0 where
  -- the lines before the last line, and the last line
  pub done : List Row
  pub row : Row
  -- a line without parts for each line end in a list on the last line
  pub inner : List Row
  -- the section that the last known word opens
  pub section : Option Section
  pub in_brackets : Bool

abbrev pub no_lines : Lines
no_lines = record { done = []; row = empty_row; inner = []; section = None; in_brackets = false }

-- one more part on a line of this section
abbrev pub with_part : Row → Section → Row
with_part row section = record { parts = min (row.parts + 1) 255; places = places_of section }

-- one more part on the last line; a list is one part, with all pieces in its brackets
abbrev pub part_added : Lines → Lines
part_added old = if old.in_brackets then old else elim old.section [
  | Some section ↦ record { done = old.done; row = with_part old.row section; inner = old.inner; section = old.section; in_brackets = old.in_brackets }
  | None ↦ old
]

abbrev pub in_brackets_now : Lines → Bool → Lines
in_brackets_now old now = record { done = old.done; row = old.row; inner = old.inner; section = old.section; in_brackets = now }

abbrev pub section_opened : Piece → Option Section
section_opened piece = elim piece.token [ Ok t ↦ opened_by t | Err w ↦ None ]

-- executable names are no parts
abbrev pub counted : Lines → Piece → Lines
counted old piece = elim (class_of piece) [
  | known ↦ record { done = old.done; row = old.row; inner = old.inner; section = section_opened piece; in_brackets = false }
  | alone ↦ old
  | open_bracket ↦ in_brackets_now (part_added old) true
  | close_bracket ↦ in_brackets_now old false
  | part ↦ if is_name_piece piece then old else part_added old
]

abbrev pub line_ended : Lines → Lines
line_ended old = record { done = (old.done ++ old.row ∷ []) ++ old.inner; row = empty_row; inner = []; section = old.section; in_brackets = old.in_brackets }

-- the opener of a section begins a line of the section
abbrev pub begins_row : Piece → Bool
begins_row piece = piece.begins_line || is_some (section_opened piece)

-- a line end in a list begins no line
abbrev pub row_begun : Lines → Piece → Lines
row_begun old piece = if old.in_brackets && not (is_some (section_opened piece)) then record { done = old.done; row = old.row; inner = old.inner ++ empty_row ∷ []; section = old.section; in_brackets = old.in_brackets } else line_ended old

abbrev pub line_taken : Lines → Piece → Lines
line_taken old piece = counted (if begins_row piece then row_begun old piece else old) piece

unfoldable pub lines_taken : Lines → List Piece → Lines
lines_taken old [] = old
lines_taken old (piece ∷ pieces) = lines_taken (line_taken old piece) pieces

-- an empty row for the part of the text before the first line, and the parts on each line
abbrev pub rows_of : List ℕ → List Row
rows_of text = (line_ended (lines_taken no_lines (pieces_left (start_of text)))).done

abbrev pub is_whole : Row → Bool
is_whole row = not (row.parts == 0) && row.parts == row.places

abbrev pub is_other : Row → Bool
is_other row = not (row.parts == 0) && not (row.parts == row.places)

-- more than half of the lines with parts have as many parts as an entry has places
abbrev pub are_rows : List Row → Bool
are_rows rows = nat_lt (count_by is_other rows) (count_by is_whole rows)

-- ---- the rest of the lines
abbrev pub after_line : List Row → List Row
after_line [] = []
after_line (row ∷ rows) = rows

-- the rows from the line of a piece on; the first of `rows` is the row of the piece before it
abbrev pub rows_at : List Row → Piece → List Row
rows_at rows piece = if begins_row piece then after_line rows else rows

abbrev pub parts_on : List Row → ℕ
parts_on [] = 0
parts_on (row ∷ rows) = row.parts
