use Rattle.std.proofs.Common.{ap, sym, ◌∙◌}
use Rattle.std.proofs.lemmas.Bool.{cond-false}
use Rattle.std.proofs.lemmas.List.{take_rest}
use Rattle.cmap_tokens.specs.Numbers.{decimal_front}
use Rattle.cmap_tokens.proofs.FirstBytes.{decimal_after}
use Rattle.cmap_tokens.proofs.token.numerals.blank_decimal.Goals as goal

pub returns-in-len1-up-clause-front : goal.returns-in-len1-up-clause-front
returns-in-len1-up-clause-front c =
    c.decimal.ensures.front ∙ ap decimal_front (take_rest c.args.text.now 1) ∙ decimal_after c.args.text.now (sym c.if-is_white.ensures)

pub returns-in_default-2 : goal.returns-in_default-2
returns-in_default-2 c = record { front = sym (cond-false _ _ _ (sym c.if-is_white.ensures)); within = tt }
