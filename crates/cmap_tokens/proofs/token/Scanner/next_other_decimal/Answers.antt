use Rattle.std.proofs.Common.{◌+◌, sym, ap, refl, ◌∙◌}
use Rattle.std.proofs.lemmas.List.{take_rest}
use Rattle.std.proofs.lemmas.Option.{MatchOption-from_none, none-some}
use Rattle.cmap_tokens.specs.Scanner.{past, spaced_decimal}
use Rattle.cmap_tokens.proofs.AfterBlank.{decimal_first}
use Rattle.cmap_tokens.proofs.Fronts.{left_after, left_is, read_token}
use Rattle.cmap_tokens.proofs.token.Scanner.next_other_decimal.Goals as goal

pub returns-in_err-number : goal.returns-in_err-number
returns-in_err-number c = record {
  token = MatchOption-from_none _ _ c.from_residual.ensures;
  front = rw c.from_residual.ensures (sym (c.in_err-number.ensures.front ∙ ap spaced_decimal (left_is _ _ _ c.self.view_is)));
  few = MatchOption-from_none _ _ c.from_residual.ensures;
  stays = λ _. refl;
}

pub returns : goal.returns
returns c =
    let (first, small) = decimal_first _ c.in_ok-number.number c.in_ok-number.len (sym c.in_ok-number.ensures.front) in
    let read = read_token _ _ _ (1 + c.in_ok-number.len) _ c.self.view_is (take_rest _ c.self.inside.offset) first in
    record {
      token = (read, left_after _ _ _ read);
      front = (c.in_ok-number.len, sym (c.in_ok-number.ensures.front ∙ ap spaced_decimal (left_is _ _ _ c.self.view_is)), ap (past (1 + c.in_ok-number.len)) c.self.view_is);
      few = small;
      stays = λ e. absurd (none-some _ (sym e));
    }
