use Rattle.std.proofs.lemmas.List.{take_rest}
use Rattle.cmap_tokens.specs.Tokens.{String}
use Rattle.cmap_tokens.proofs.AfterBlank.{two_bytes_first}
use Rattle.cmap_tokens.proofs.Fronts.{two_read}
use Rattle.cmap_tokens.proofs.token.Scanner.next_two_strings.Goals as goal

pub returns-clause-tokens : goal.returns-clause-tokens
returns-clause-tokens c =
    let found = c.in_ok-first in
    let (first, first_is, first_writes) = two_bytes_first _ found.first found.ensures.first in
    let (second, second_is, second_writes) = two_bytes_first _ found.second found.ensures.second in
    let (between, read, left, next, after) = two_read _ _ _ 7 7 (String first) (String second) c.self.view_is (take_rest _ c.self.inside.offset) first_is second_is in
    (between, first, second, read, first_writes, left, next, second_writes, after)
