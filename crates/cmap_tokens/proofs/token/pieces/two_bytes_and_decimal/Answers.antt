use Rattle.std.proofs.Common.{subst}
use Rattle.std.specs.Prelude.{pos}
use Rattle.std.proofs.lemmas.List.{take_rest}
use Rattle.cmap_tokens.specs.Numbers.{Integer}
use Rattle.cmap_tokens.specs.Scanner.{FirstToken}
use Rattle.cmap_tokens.specs.Tokens.{Numeral}
use Rattle.cmap_tokens.proofs.token.pieces.two_bytes_and_decimal.Goals as goal

pub returns-clause-decimal : goal.returns-clause-decimal
returns-clause-decimal c =
    let found = c.in_ok-decimal in
    subst (λ text. FirstToken text (Numeral (Integer (pos found.decimal))) found.len) (take_rest c.args.text.now 7) found.ensures.token
