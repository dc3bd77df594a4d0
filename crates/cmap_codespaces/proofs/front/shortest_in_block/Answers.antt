use Rattle.std.proofs.Common.{arith}
use Rattle.std.proofs.lemmas.Nat.Bits.{bit_at_ones}
use Rattle.cmap_codespaces.proofs.front.shortest_in_block.Goals as goal

pub ends_at-requires-clause-before : goal.ends_at-requires-clause-before
ends_at-requires-clause-before c = record {
  set = λ i is k below. absurd (omega arith);
  all = λ i small each. bit_at_ones 64 i small;
  none = λ n few inside. let some = inside.0.0 in omega arith;
}

pub returns-then-most-eq1 : goal.returns-then-most-eq1
returns-then-most-eq1 c = λ n inside. let (some, few, within) = inside.0 in c.if-ends_at.ensures.none n (omega (arith, c.min-most.ensures, c.if-most-eq1.true)) inside

pub returns : goal.returns
returns c = λ n inside. let (some, few, within) = inside.0 in c.loop-place.invariant.none n (omega (arith, c.min-most.ensures)) inside
