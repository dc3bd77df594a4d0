use Rattle.std.proofs.Common.{◌≡◌, ◌∙◌, [], ◌∷◌, List, ap, sym}
use Rattle.cmap_tokens.specs.Pieces.{Piece, pieces_left}
use Rattle.cmap_tokens.specs.TokenSeen.{piece_seen}
use Rattle.cmap_tokens.specs.TokensLeft.{start_of}
use Rattle.cmap_text.specs.Rows.{Lines, line_ended, lines_taken, no_lines}
use Rattle.cmap_text.specs.SalvageSeen.{lines_seen}
use Rattle.cmap_text.proofs.salvage.rows.rows_of.Goals as goal

pub loop-lines-preserved : goal.loop-lines-preserved
unfolding lines_taken
loop-lines-preserved c =
    let rest : List Piece = c.next_piece.new.self in
    let is : c.loop-lines.reader ≡ piece_seen c.in-Some.piece ∷ rest = rw c.in-Some.is at c.in_ok-piece.ensures.piece in
    ap (λ lines. lines_taken lines rest) c.in_ok-take.ensures ∙ ap (lines_taken (lines_seen c.loop-lines.lines)) (sym is) ∙ c.loop-lines.invariant

pub returns : goal.returns
unfolding lines_taken
returns c =
    let none : c.loop-lines.reader ≡ [] = (rw c.in_default.is at c.in_ok-piece.ensures.piece).0 in
    let same : lines_seen c.loop-lines.lines ≡ lines_taken no_lines (pieces_left (start_of c.args.text.now)) = ap (lines_taken (lines_seen c.loop-lines.lines)) (sym none) ∙ c.loop-lines.invariant in
    ap (λ (lines : Lines). lines.done) (c.in_ok-end_line.ensures ∙ ap line_ended same)
