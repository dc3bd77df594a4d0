use Rattle.std.proofs.Common.{◌≡◌, ◌∙◌, arith}
use Rattle.std.proofs.lemmas.Bool.{ltb-true}
use Rattle.std.proofs.lemmas.List.{get_or_past}
use Rattle.cmap_tokens.specs.Numbers.{digits_value, integer}
use Rattle.cmap_tokens.proofs.NumbersSpelled.{minus_integer, plain_integer, plus_integer, positive}
use Rattle.cmap_tokens.proofs.token.numerals.integer_of.Goals as goal
use Rattle.cmap_tokens.proofs.token.numerals.integer_of.Goals.{in_default-via-then-run-lt1, in_default-via-else-run-lt1+in_default-1}

pub returns-in-45 : goal.returns-in-45
returns-in-45 c = c.integer.ensures ∙ minus_integer c.args.run.now (omega arith)

pub returns-in-43 : goal.returns-in-43
returns-in-43 c = c.integer-in-43.ensures ∙ plus_integer c.args.run.now (omega arith)

pub returns-in_default : goal.returns-in_default
returns-in_default c =
    let run = c.args.run.now in
    let is : positive (digits_value 10 run) ≡ integer run =
    elim c.in_default-1.branch [
      | in_default-via-then-run-lt1 w ↦ let none = get_or_past run 0 0 (omega (arith, ltb-true)) in plain_integer run (λ same. omega (arith, same, none)) (λ same. omega (arith, same, none))
      | in_default-via-else-run-lt1+in_default-1 w ↦ plain_integer run (λ same. omega (arith, same)) (λ same. omega (arith, same))
    ] in
    c.integer-in_default.ensures ∙ is
