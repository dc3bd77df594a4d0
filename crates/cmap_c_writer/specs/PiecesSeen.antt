-- The pieces of a text, as C gets them.
use Rattle.std.specs.Prelude.{◌≡◌, ◌⊎◌, ℕ, List, Result, map}
use Rattle.std.specs.Result.{MatchResult}
use Rattle.std.specs.Global.{Vec}
use Rattle.cmap_values.specs.declared.fault.Fault.{Fault}
use Rattle.cmap_handles.specs.Rooms.{IsPut}
use Rattle.cmap_handles.specs.Statuses.{number}
use Rattle.cmap_handles.specs.declared.status.Status.TheVariants.{NoMemory, Refused}
use Rattle.cmap_encode.specs.Maps.{Maps}
use Rattle.cmap_encode.specs.declared.choices.Grade.{Grade}
use Rattle.cmap_encode.specs.declared.choices.Grade.TheVariants.{Alike, Canonical, Collection, National, Stated}
use Rattle.cmap_encode.specs.declared.encoder.Unencodable.{Unencodable}
use Rattle.cmap_encode.specs.declared.pieces.Piece.{Piece}
use Rattle.cmap_c_writer.specs.Encoded.{ArePiecesOfText, EndsFailed, IsRefusedAt}
use Rattle.cmap_c_writer.specs.declared.pieces.EncodedPiece.{EncodedPiece}

-- the number of a grade in the header
abbrev pub grade_number : Grade → ℕ
grade_number Stated = 0
grade_number Canonical = 1
grade_number Collection = 2
grade_number Alike = 3
grade_number National = 4

abbrev pub piece_seen : Piece → EncodedPiece
piece_seen piece = record { text_len = piece.text_len; code_len = piece.code_len; grade = grade_number piece.grade }

-- the pieces of the text go to the buffer; or the place where the text is refused goes to the offset; or memory ran out. All other outputs keep their values
abbrev pub PutsPieces : Maps → List ℕ → List EncodedPiece → List EncodedPiece → ℕ → ℕ → ℕ → ℕ → ℕ → Type 0
PutsPieces maps text old new old_needed needed old_offset offset status =
    ((pieces : List Piece) × ArePiecesOfText maps text pieces × IsPut (map piece_seen pieces) old new needed status × (offset ≡ old_offset))
    ⊎ (((((status ≡ number Refused) × IsRefusedAt maps text offset) ⊎ ((status ≡ number NoMemory) × (offset ≡ old_offset))))
    × (new ≡ old) × (needed ≡ old_needed))

-- ---- private aid: of pieces that were made
abbrev pub EndsAsPieces : Result (Vec Piece) (Fault Unencodable) → List EncodedPiece → List EncodedPiece → ℕ → ℕ → ℕ → ℕ → ℕ → Type 0
EndsAsPieces made old new old_needed needed old_offset offset status = MatchResult made (λ pieces. IsPut (map piece_seen pieces.items) old new needed status × (offset ≡ old_offset))
    (λ failure. EndsFailed failure old_offset offset status × (new ≡ old) × (needed ≡ old_needed))
