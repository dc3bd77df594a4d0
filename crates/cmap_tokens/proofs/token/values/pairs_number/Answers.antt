use Rattle.std.proofs.Common.{arith}
use Rattle.std.proofs.lemmas.Option.{MatchOption-from_none}
use Rattle.cmap_tokens.proofs.Digits.{Written, no_pairs, pairs_read, written_uncapped}
use Rattle.cmap_tokens.proofs.token.values.pairs_number.Goals as goal
use Rattle.cmap_tokens.proofs.token.values.pairs_number.Goals.{In_ok-number, then-len-gt8-via-then-len-gt8, then-len-gt8-via-else-len-gt8+then-len-ne0}

read : (c : In_ok-number) → Written 16 8 c.args.digits.now c.in_ok-number.number
read c = written_uncapped 16 8 c.args.digits.now _ (omega arith) (omega (arith, c.if-len-gt8.false)) (omega arith) c.in_ok-number.ensures

pub overflow_cast-result-2 : goal.overflow_cast-result-2
overflow_cast-result-2 c = omega (arith, (read c).small)

pub returns-clause-value : goal.returns-clause-value
returns-clause-value c = pairs_read _ _ (read c) (omega (arith, c.if-len-gt8.false)) (omega (arith, c.if-len-ne0.false))

pub returns-clause-some : goal.returns-clause-some
returns-clause-some c = omega (arith, (read c).filled, c.if-len-ne0.false)

pub returns-then-len-gt8 : goal.returns-then-len-gt8
returns-then-len-gt8 c =
    elim c.then-len-gt8.branch [
      | then-len-gt8-via-then-len-gt8 w ↦ record { value = λ pairs. omega (arith, pairs.3, w.if-len-gt8.true); some = tt; few = tt }
      | then-len-gt8-via-else-len-gt8+then-len-ne0 w ↦ record { value = λ pairs. w.if-len-ne0.true pairs.1; some = tt; few = tt }
    ]

pub returns-in_err-number : goal.returns-in_err-number
returns-in_err-number c = record {
  value = rw c.from_residual.ensures (no_pairs c.args.digits.now c.in_err-number.ensures);
  some = MatchOption-from_none _ _ c.from_residual.ensures;
  few = MatchOption-from_none _ _ c.from_residual.ensures;
}
