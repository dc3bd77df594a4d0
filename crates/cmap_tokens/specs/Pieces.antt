-- The pieces of a text: tokens and malformed pieces.
use Rattle.std.specs.Prelude.{◌≡◌, ◌<◌, ℕ, zero, suc, ◌+◌, nat_le, Bool, true, false, List, [], ◌∷◌, length, get_or, take, drop, Some, None, Result, Ok, Err, if◌then◌else◌}
use Rattle.cmap_tokens.specs.Ascii.{byte}
use Rattle.cmap_tokens.specs.Malformed.{Malformed, blank_after, fault_len, malformed_kind, malformed_piece_len}
use Rattle.cmap_tokens.specs.Scanner.{Cursor, rest_of}
use Rattle.cmap_tokens.specs.Tokens.{Token}
use Rattle.cmap_tokens.specs.TokenReading.{first_piece, gap_len, text_len, opened}

-- the kind of a malformed piece, and the offset of its fault
pub record Wrong : Type 0 where
  pub kind : Malformed
  pub offset : ℕ

pub record Piece : Type 0 where
  -- the token of the piece, or the fault of a malformed piece
  pub token : Result Token Wrong
  -- the offset after the piece
  pub end : ℕ
  -- whether only blanks stand before the piece in its line
  pub begins_line : Bool

-- the malformed piece that begins a text, and its length in bytes; the text begins at the offset start of the source
abbrev pub malformed_at : ℕ → List ℕ → Result Token Wrong × ℕ
malformed_at start text = (Err (record { kind = malformed_kind text; offset = start + fault_len text }), malformed_piece_len text)

-- the piece that begins a text, and its length in bytes; the text begins at the offset start of the source
abbrev pub piece_at : ℕ → List ℕ → Result Token Wrong × ℕ
piece_at start text = elim (first_piece text) [
  | Some first ↦ (Ok first.0, first.1)
  | None ↦ malformed_at start text
]

-- the pieces of a source from an offset on, at most n
unfoldable pub pieces_within : ℕ → List ℕ → ℕ → List Piece
pieces_within zero source passed = []
pieces_within (suc n) source passed =
    let rest = drop passed source in
    let start = passed + gap_len false rest in
    if nat_le (length source) start then []
    else record {
      token = (piece_at start (drop start source)).0;
      end = start + (piece_at start (drop start source)).1;
      begins_line = blank_after true (take start source);
    } ∷ pieces_within n source (start + (piece_at start (drop start source)).1)

-- the pieces that are left from a cursor on
unfoldable pub pieces_left : Cursor → List Piece
pieces_left cursor = pieces_within (length (rest_of cursor)) cursor.source cursor.passed

-- ---- aids: the ( that aren't closed
-- an unclosed ( stands at this index of a text
abbrev pub IsUnclosed : List ℕ → ℕ → Type 0
IsUnclosed text i = (i < length text) × (get_or text i 0 ≡ byte "(") × (text_len opened (drop (suc i) text) ≡ None)

-- an unclosed ( stands at this offset of the source; the text begins at the offset start of the source
abbrev pub IsUnclosedFrom : ℕ → List ℕ → ℕ → Type 0
IsUnclosedFrom start text offset = (i : ℕ) × (offset ≡ start + i) × IsUnclosed text i
