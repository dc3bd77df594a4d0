use Rattle.std.proofs.Common.{sym, ap, ◌∙◌}
use Rattle.std.proofs.lemmas.List.{take_rest}
use Rattle.cmap_tokens.specs.Scanner.{spaced_two_bytes}
use Rattle.cmap_tokens.proofs.token.pieces.two_strings.Goals as goal

pub returns-in_err-first : goal.returns-in_err-first
returns-in_err-first c = rw c.from_residual.ensures (record { first = tt; second = tt; within = tt })

pub returns-in_err-second : goal.returns-in_err-second
returns-in_err-second c = rw c.from_residual-in_err-second.ensures (record { first = tt; second = tt; within = tt })

pub returns : goal.returns
returns c = record {
  first = sym c.in_ok-first.ensures.front;
  second = ap spaced_two_bytes (sym (take_rest c.args.text.now 7)) ∙ sym c.in_ok-second.ensures.front;
  within = c.if-text.false;
}
