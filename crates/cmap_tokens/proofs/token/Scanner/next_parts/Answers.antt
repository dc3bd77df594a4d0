use Rattle.std.proofs.Common.{◌+◌, ◌*◌, sym, ap, refl, ◌∙◌}
use Rattle.std.proofs.lemmas.List.{take_rest}
use Rattle.std.proofs.lemmas.Option.{MatchOption-from_none, none-some}
use Rattle.cmap_tokens.specs.Scanner.{past, spaced_parts}
use Rattle.cmap_tokens.specs.Tokens.{String}
use Rattle.cmap_tokens.proofs.AfterBlank.{parts_first}
use Rattle.cmap_tokens.proofs.Fronts.{left_after, left_is, read_token}
use Rattle.cmap_tokens.proofs.token.Scanner.next_parts.Goals as goal

pub returns-in_err-count : goal.returns-in_err-count
returns-in_err-count c = record {
  token = MatchOption-from_none _ _ c.from_residual.ensures;
  front = c.from_residual.ensures ∙ c.in_err-count.ensures.front ∙ ap spaced_parts (left_is _ _ _ c.self.view_is);
  few = MatchOption-from_none _ _ c.from_residual.ensures;
  moves = MatchOption-from_none _ _ c.from_residual.ensures;
  stays = λ _. refl;
}

pub returns : goal.returns
returns c =
    let (piece, first, writes) = parts_first _ c.in_ok-count.count c.in_ok-count.high c.in_ok-count.low c.from.result c.from.ensures (sym c.in_ok-count.ensures.front) in
    let read = read_token _ _ _ (3 + 2 * c.from.result) (String piece) c.self.view_is (take_rest _ c.self.inside.offset) first in
    record {
      token = (piece, read, writes, left_after _ _ _ read);
      front = c.in_ok-count.ensures.front ∙ ap spaced_parts (left_is _ _ _ c.self.view_is);
      few = c.in_ok-count.ensures.few;
      moves = ap (past (3 + 2 * c.from.result)) c.self.view_is ∙ ap (λ n. past (3 + 2 * n) c.args.self.now) c.from.ensures;
      stays = λ e. absurd (none-some _ (sym e));
    }
