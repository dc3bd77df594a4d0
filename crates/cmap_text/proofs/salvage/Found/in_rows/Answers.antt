use Rattle.std.proofs.Common.{◌≡◌, ◌∙◌, [], ◌∷◌, List, ap, sym, length}
use Rattle.cmap_tokens.specs.Pieces.{Piece, pieces_left}
use Rattle.cmap_tokens.specs.TokenSeen.{piece_seen}
use Rattle.cmap_tokens.specs.TokensLeft.{start_of}
use Rattle.cmap_text.specs.Rows.{parts_on}
use Rattle.cmap_text.specs.Salvage.{Salvaged, State, finished, item, take_in_row, take_rows}
use Rattle.cmap_text.specs.declared.salvage.rows.Row.{Row}
use Rattle.cmap_text.specs.SalvageSeen.{found_seen, state_seen}
use Rattle.cmap_text.proofs.salvage.Found.in_rows.Goals as goal

pub loop-reader-init : goal.loop-reader-init
loop-reader-init c = ap (take_rows c.args.rows.now (item, found_seen c.new-found.result)) c.new-reader.ensures ∙ ap (λ f. take_rows c.args.rows.now (item, f) (pieces_left (start_of c.args.text.now))) c.new-found.ensures

pub returns : goal.returns
unfolding take_rows
returns c =
    let none : c.loop-reader.reader ≡ [] = (rw c.in_default.is at c.in_ok-piece.ensures.piece).0 in
    let now : State × Salvaged = (state_seen c.loop-reader.state, found_seen c.loop-reader.found) in
    c.in_ok-finish.ensures ∙ ap (finished (length c.args.text.now)) (ap (take_rows c.loop-reader.rows.now now) (sym none) ∙ c.loop-reader.invariant)

pub loop-reader-preserved : goal.loop-reader-preserved
unfolding take_rows
loop-reader-preserved c =
    let rest : List Piece = c.next_piece.new.self in
    let is : c.loop-reader.reader ≡ piece_seen c.in-Some.piece ∷ rest = rw c.in-Some.is at c.in_ok-piece.ensures.piece in
    let piece = piece_seen c.in-Some.piece in
    let here : List Row = c.rows_at-rows.result.now in
    let now : State × Salvaged = (state_seen c.loop-reader.state, found_seen c.loop-reader.found) in
    ap (λ s. take_rows here s rest) c.in_ok-state.ensures
    ∙ ap (λ n. take_rows here (take_in_row n now piece) rest) c.parts_on.ensures
    ∙ ap (λ r. take_rows r (take_in_row (parts_on r) now piece) rest) c.rows_at-rows.ensures
    ∙ ap (take_rows c.loop-reader.rows.now now) (sym is)
    ∙ c.loop-reader.invariant
