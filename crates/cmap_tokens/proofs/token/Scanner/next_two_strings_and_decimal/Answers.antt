use Rattle.std.proofs.lemmas.List.{take_rest}
use Rattle.cmap_tokens.specs.Tokens.{String}
use Rattle.cmap_tokens.proofs.AfterBlank.{two_bytes_first}
use Rattle.cmap_tokens.proofs.Fronts.{three_read}
use Rattle.cmap_tokens.proofs.token.Scanner.next_two_strings_and_decimal.Goals as goal

pub returns-clause-tokens : goal.returns-clause-tokens
returns-clause-tokens c =
    let found = c.in_ok-low in
    let (low, low_first, low_writes) = two_bytes_first _ found.low found.ensures.first in
    let (high, high_first, high_writes) = two_bytes_first _ found.high found.ensures.second in
    let (first, second, read, left, next, after, last, end) = three_read _ _ _ 7 7 found.len (String low) (String high) _ c.self.view_is (take_rest _ c.self.inside.offset) low_first high_first found.ensures.decimal in
    (first, second, low, high, read, low_writes, left, next, high_writes, after, last, end)
