use Rattle.std.proofs.Common.{◌+◌, sym, ap, ◌∙◌}
use Rattle.std.proofs.lemmas.List.{take_rest}
use Rattle.std.proofs.lemmas.Option.{none-some}
use Rattle.cmap_tokens.specs.Scanner.{past, rest_of, spaced_decimal}
use Rattle.cmap_tokens.proofs.AfterBlank.{decimal_first}
use Rattle.cmap_tokens.proofs.Fronts.{read_token, left_after}
use Rattle.cmap_tokens.proofs.token.Scanner.next_decimal.Goals as goal

pub returns : goal.returns
returns c = record {
  token = c.next_other_decimal.ensures.token;
  front = c.next_other_decimal.ensures.front;
  few = c.next_other_decimal.ensures.few;
  stays = c.next_other_decimal.ensures.stays;
}

pub returns-in-Some : goal.returns-in-Some
returns-in-Some c =
    let (first, small) = decimal_first _ c.in-Some.number c.in-Some.len c.in-Some.ensures.front in
    let read = read_token _ _ _ (1 + c.in-Some.len) _ c.self.view_is (take_rest _ c.self.inside.offset) first in
    record {
      token = (read, left_after _ _ _ read);
      front = (c.in-Some.len, ap spaced_decimal (sym (take_rest _ c.self.inside.offset ∙ ap rest_of c.self.view_is)) ∙ c.in-Some.ensures.front, ap (past (1 + c.in-Some.len)) c.self.view_is);
      few = small;
      stays = λ e. absurd (none-some _ (sym e));
    }
