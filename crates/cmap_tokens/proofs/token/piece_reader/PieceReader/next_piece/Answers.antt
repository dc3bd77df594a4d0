use Rattle.std.proofs.Common.{sym, ap, ◌∙◌, false}
use Rattle.std.proofs.lemmas.List.{take_rest}
use Rattle.cmap_tokens.specs.TokenReading.{gap_len}
use Rattle.cmap_tokens.specs.TokenSeen.{piece_token_seen}
use Rattle.cmap_tokens.proofs.PiecesLeft.{left_none, left_piece}
use Rattle.cmap_tokens.proofs.token.piece_reader.PieceReader.next_piece.Goals as goal

pub returns-then-start-self-clause-piece : goal.returns-then-start-self-clause-piece
returns-then-start-self-clause-piece c =
    let source = c.self.inside.source.now in
    let none = sym c.self.view_is ∙ left_none source c.self.inside.offset c.gap_len.result (c.gap_len.ensures.exact ∙ ap (gap_len false) (take_rest source c.self.inside.offset)) c.if-start-self.true in
    (none, none)

pub returns-clause-piece : goal.returns-clause-piece
returns-clause-piece c =
    let source = c.self.inside.source.now in
    let gap = c.gap_len.ensures.exact ∙ ap (gap_len false) (take_rest source c.self.inside.offset) in
    sym c.self.view_is
    ∙ left_piece source c.self.inside.offset c.gap_len.result c.in_ok-token.len (piece_token_seen c.in_ok-token.token) c.ends_blank_line.result c.self.invariant.within gap c.if-start-self.false c.in_ok-token.ensures.piece c.ends_blank_line.ensures
