use Rattle.std.proofs.Common.{◌∙◌, arith}
use Rattle.std.proofs.lemmas.List.{take_rest}
use Rattle.cmap_binary.proofs.Fronts.{bytes_found, finds_under, then_finds, then_next, then_none}
use Rattle.cmap_binary.proofs.pieces.take_framed.Goals as goal

pub returns-in_err-size : goal.returns-in_err-size
returns-in_err-size c =
    let rest = c.in_ok-head.ensures.lookup.0.2 ∙ take_rest c.args.text.now.now c.args.before in
    rw c.from_residual-in_err-size.ensures (then_none _ _ (rw rest at c.in_err-size.ensures))

pub returns-then-size-before : goal.returns-then-size-before
returns-then-size-before c =
    let rest = c.in_ok-head.ensures.lookup.0.2 ∙ take_rest c.args.text.now.now c.args.before in
    then_next _ (rw rest at c.in_ok-size.ensures) (λ other is. omega (arith, is.0, c.if-size-before.true))

pub returns : goal.returns
returns c =
    let rest = c.in_ok-head.ensures.lookup.0.2 ∙ take_rest c.args.text.now.now c.args.before in
    then_finds _ (rw rest at c.in_ok-size.ensures) _ _ (finds_under _ _ _ (rw c.from.ensures at c.if-size-before.false) (bytes_found _ _ _ _ _ c.split_off.ensures.cases c.split_off.ensures.variant))
