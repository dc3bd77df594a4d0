use Rattle.std.proofs.Common.{◌≡◌, take, drop, get_or, ap, ◌∙◌, arith}
use Rattle.std.proofs.lemmas.List.{get_or_past, take_rest}
use Rattle.cmap_tokens.specs.Numbers.{integer_in_base, radix_integer}
use Rattle.cmap_tokens.proofs.FirstBytes.{no_radix, radix_one, radix_two}
use Rattle.cmap_tokens.proofs.token.numerals.radix_integer_of.Goals as goal
use Rattle.cmap_tokens.proofs.token.numerals.radix_integer_of.Goals.{then-run-lt3+in-35-1, else-run-lt3+in-35-1}

pub returns-in-35-2 : goal.returns-in-35-2
returns-in-35-2 c =
    let run = c.args.run.now in
    c.integer_in_base.ensures ∙ ap (integer_in_base (take 2 run)) (take_rest run 3) ∙ radix_two run (λ same. omega (arith, same)) (omega arith)

pub returns-in-35 : goal.returns-in-35
returns-in-35 c =
    let run = c.args.run.now in
    let is : integer_in_base (take 1 run) (drop 2 run) ≡ radix_integer run =
    elim c.in-35-1.branch [
      | then-run-lt3+in-35-1 w ↦ radix_one run (omega arith)
      | else-run-lt3+in-35-1 w ↦ radix_one run (omega arith)
    ] in
    c.integer_in_base-in-35.ensures ∙ ap (integer_in_base (take 1 run)) (take_rest run 2) ∙ is

pub returns-in_default : goal.returns-in_default
returns-in_default c =
    let first : get_or c.args.run.now 1 0 ≡ 0 = get_or_past c.args.run.now 1 0 (omega arith) in
    let second : get_or c.args.run.now 2 0 ≡ 0 = get_or_past c.args.run.now 2 0 (omega arith) in
    no_radix c.args.run.now (λ same. omega (arith, same, first)) (λ same. omega (arith, same, second))

pub returns-in_default-2 : goal.returns-in_default-2
returns-in_default-2 c =
    let second : get_or c.args.run.now 2 0 ≡ 0 = get_or_past c.args.run.now 2 0 (omega arith) in
    no_radix c.args.run.now (λ same. omega (arith, same)) (λ same. omega (arith, same, second))

pub returns-in_default-3 : goal.returns-in_default-3
returns-in_default-3 c = no_radix c.args.run.now (λ same. omega (arith, same)) (λ same. omega (arith, same))
