use Rattle.std.proofs.Common.{◌+◌, sym}
use Rattle.std.proofs.lemmas.List.{take_rest}
use Rattle.std.proofs.lemmas.Option.{none-some}
use Rattle.cmap_tokens.proofs.AfterBlank.{padded_first}
use Rattle.cmap_tokens.proofs.Fronts.{left_after, read_token}
use Rattle.cmap_tokens.proofs.token.Scanner.next_padded_decimal.Goals as goal

pub returns : goal.returns
returns c =
    let found = c.in_ok-number in
    let (first, small) = padded_first _ found.number found.len found.ensures.blank found.ensures.front in
    let read = read_token _ _ _ (1 + (1 + found.len)) _ c.self.view_is (take_rest _ c.self.inside.offset) first in
    record { token = (read, left_after _ _ _ read); few = small; stays = λ e. absurd (none-some _ (sym e)) }
