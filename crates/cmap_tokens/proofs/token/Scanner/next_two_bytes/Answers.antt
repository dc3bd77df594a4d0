use Rattle.std.proofs.Common.{sym, ap, refl, ◌∙◌}
use Rattle.std.proofs.lemmas.List.{take_rest}
use Rattle.std.proofs.lemmas.Option.{MatchOption-from_none, none-some}
use Rattle.cmap_tokens.specs.Scanner.{past, spaced_two_bytes}
use Rattle.cmap_tokens.specs.Tokens.{String}
use Rattle.cmap_tokens.proofs.AfterBlank.{two_bytes_first}
use Rattle.cmap_tokens.proofs.Fronts.{left_after, left_is, read_token}
use Rattle.cmap_tokens.proofs.token.Scanner.next_two_bytes.Goals as goal

pub returns-clause-token : goal.returns-clause-token
returns-clause-token c =
    let (piece, first, writes) = two_bytes_first _ c.in_ok-number.number (sym c.in_ok-number.ensures.front) in
    let read = read_token _ _ _ 7 (String piece) c.self.view_is (take_rest _ c.self.inside.offset) first in
    (piece, read, writes, left_after _ _ _ read)

pub returns-clause-front : goal.returns-clause-front
returns-clause-front c = c.in_ok-number.ensures.front ∙ ap spaced_two_bytes (left_is _ _ _ c.self.view_is)

pub returns-in_err-number : goal.returns-in_err-number
returns-in_err-number c = record {
  token = MatchOption-from_none _ _ c.from_residual.ensures;
  front = c.from_residual.ensures ∙ c.in_err-number.ensures.front ∙ ap spaced_two_bytes (left_is _ _ _ c.self.view_is);
  moves = MatchOption-from_none _ _ c.from_residual.ensures;
  stays = λ _. refl;
}

pub returns-clause-moves : goal.returns-clause-moves
returns-clause-moves c = ap (past 7) c.self.view_is

pub returns-clause-stays : goal.returns-clause-stays
returns-clause-stays c = λ e. absurd (none-some _ (sym e))
