use Rattle.std.proofs.Common.{◌≡◌, sym, ap, ◌∙◌}
use Rattle.std.specs.Prelude.{Option, Some, None, IfSome}
use Rattle.std.proofs.lemmas.List.{take_rest}
use Rattle.cmap_tokens.specs.Scanner.{spaced_decimal}
use Rattle.cmap_tokens.proofs.token.numerals.padded_decimal.Goals as goal

found_is : {A : Type 0} (found other : Option A) → found ≡ other → IfSome found (λ first. other ≡ Some first)
found_is None other is = tt
found_is (Some first) other is = sym is

pub returns-in-len1-up-clause-front : goal.returns-in-len1-up-clause-front
returns-in-len1-up-clause-front c =
    let rest = ap spaced_decimal (take_rest c.args.text.now 1) in
    found_is c.blank_decimal.result _ (c.blank_decimal.ensures.front ∙ rest)
