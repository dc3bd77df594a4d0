use Rattle.std.proofs.Common.{sym, ap, ◌∙◌}
use Rattle.std.proofs.lemmas.List.{take_rest}
use Rattle.cmap_tokens.specs.Scanner.{spaced_decimal}
use Rattle.cmap_tokens.proofs.AfterBlank.{decimal_first, padded_first}
use Rattle.cmap_tokens.proofs.token.numerals.other_decimal.Goals as goal

pub returns-in_ok-number-in-len2-up-clause-token : goal.returns-in_ok-number-in-len2-up-clause-token
returns-in_ok-number-in-len2-up-clause-token c =
    let found = c.in_ok-number-in-len2-up in
    (padded_first _ found.number found.len (sym c.if-is_white.ensures) (ap spaced_decimal (sym (take_rest c.args.text.now 1)) ∙ found.ensures.front)).0

pub returns-in_ok-number-in_default-clause-token : goal.returns-in_ok-number-in_default-clause-token
returns-in_ok-number-in_default-clause-token c =
    let found = c.in_ok-number-in_default in
    (decimal_first _ found.number found.len found.ensures.front).0
