use Rattle.std.proofs.Common.{ap, sym, ◌∙◌}
use Rattle.std.proofs.lemmas.List.{take_rest}
use Rattle.std.proofs.lemmas.Result.{IfOk-from_err}
use Rattle.cmap_tokens.specs.TokenReading.{first_piece}
use Rattle.cmap_tokens.specs.TokenSeen.{token_seen}
use Rattle.cmap_tokens.proofs.PiecesLeft.{piece_none, piece_some, unclosed_none}
use Rattle.cmap_tokens.proofs.token.piece_reader.piece_at.Goals as goal

pub returns-then-has-clause-piece : goal.returns-then-has-clause-piece
returns-then-has-clause-piece c =
    let text = c.args.text.now in
    let start = c.args.start in
    c.malformed_piece.ensures.piece ∙ piece_none start _ (unclosed_none text start (c.has.ensures.has text c.requires.known c.if-has.true))

pub returns-in-Some-clause-piece : goal.returns-in-Some-clause-piece
returns-in-Some-clause-piece c =
    let rest = ap first_piece (take_rest c.args.text.now c.args.start) in
    piece_some c.args.start _ (token_seen c.in-Some.token) c.in-Some.len (c.in-Some.ensures.exact ∙ rest)

pub returns-clause-piece : goal.returns-clause-piece
returns-clause-piece c =
    let rest = ap first_piece (sym (take_rest c.args.text.now c.args.start)) in
    c.malformed_piece-2.ensures.piece ∙ piece_none c.args.start _ (rest ∙ sym c.in_default.ensures.exact)

pub returns-in_err-learn : goal.returns-in_err-learn
returns-in_err-learn c = record {
  piece = IfOk-from_err c.from_residual.result _ c.from_residual.ensures.0;
  within = IfOk-from_err c.from_residual.result _ c.from_residual.ensures.0;
  known = c.learn.ensures;
}
