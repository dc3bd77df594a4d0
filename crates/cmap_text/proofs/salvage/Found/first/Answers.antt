use Rattle.std.proofs.Common.{◌≡◌, ◌∙◌, [], ◌∷◌, List, ap, sym, length}
use Rattle.cmap_tokens.specs.Pieces.{Piece, pieces_left}
use Rattle.cmap_tokens.specs.TokenSeen.{piece_seen}
use Rattle.cmap_tokens.specs.TokensLeft.{start_of}
use Rattle.cmap_text.specs.Salvage.{Salvaged, State, finished, item, take_all}
use Rattle.cmap_text.specs.SalvageSeen.{found_seen, state_seen}
use Rattle.cmap_text.proofs.salvage.Found.first.Goals as goal

pub loop-reader-preserved : goal.loop-reader-preserved
unfolding take_all
loop-reader-preserved c =
    let rest : List Piece = c.next_piece.new.self in
    let is : c.loop-reader.reader ≡ piece_seen c.in-Some.piece ∷ rest = rw c.in-Some.is at c.in_ok-piece.ensures.piece in
    ap (λ now. take_all now rest) c.in_ok-state.ensures ∙ ap (take_all (state_seen c.loop-reader.state, found_seen c.loop-reader.found)) (sym is) ∙ c.loop-reader.invariant

pub loop-reader-init : goal.loop-reader-init
loop-reader-init c = ap (take_all (item, found_seen c.new-found.result)) c.new-reader.ensures ∙ ap (λ f. take_all (item, f) (pieces_left (start_of c.args.text.now))) c.new-found.ensures

pub returns : goal.returns
unfolding take_all
returns c =
    let none : c.loop-reader.reader ≡ [] = (rw c.in_default.is at c.in_ok-piece.ensures.piece).0 in
    let now : State × Salvaged = (state_seen c.loop-reader.state, found_seen c.loop-reader.found) in
    c.in_ok-finish.ensures ∙ ap (finished (length c.args.text.now)) (ap (take_all now) (sym none) ∙ c.loop-reader.invariant)
