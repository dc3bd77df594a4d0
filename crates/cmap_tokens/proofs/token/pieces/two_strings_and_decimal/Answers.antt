use Rattle.std.proofs.Common.{drop, sym, ap, ◌∙◌, subst}
use Rattle.std.specs.Prelude.{pos}
use Rattle.std.proofs.lemmas.List.{take_rest}
use Rattle.cmap_tokens.specs.Numbers.{Integer}
use Rattle.cmap_tokens.specs.Scanner.{FirstToken, spaced_two_bytes}
use Rattle.cmap_tokens.specs.Tokens.{Numeral}
use Rattle.cmap_tokens.proofs.token.pieces.two_strings_and_decimal.Goals as goal

pub returns-clause-second : goal.returns-clause-second
returns-clause-second c = ap spaced_two_bytes (sym (take_rest c.args.text.now 7)) ∙ c.in_ok-second.ensures.string

pub returns-clause-decimal : goal.returns-clause-decimal
returns-clause-decimal c =
    let found = c.in_ok-second in
    subst (λ text. FirstToken (drop 7 text) (Numeral (Integer (pos found.decimal))) found.len) (take_rest c.args.text.now 7) found.ensures.decimal
