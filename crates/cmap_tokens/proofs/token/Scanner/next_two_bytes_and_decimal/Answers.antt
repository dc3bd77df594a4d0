use Rattle.std.proofs.lemmas.List.{take_rest}
use Rattle.cmap_tokens.specs.Tokens.{String}
use Rattle.cmap_tokens.proofs.AfterBlank.{two_bytes_first}
use Rattle.cmap_tokens.proofs.Fronts.{two_read}
use Rattle.cmap_tokens.proofs.token.Scanner.next_two_bytes_and_decimal.Goals as goal

pub returns-clause-tokens : goal.returns-clause-tokens
returns-clause-tokens c =
    let found = c.in_ok-bytes in
    let (piece, first, writes) = two_bytes_first _ found.bytes found.ensures.string in
    let (between, read, left, then, after) = two_read _ _ _ 7 found.len (String piece) _ c.self.view_is (take_rest _ c.self.inside.offset) first found.ensures.decimal in
    (between, piece, read, writes, left, then, after)
