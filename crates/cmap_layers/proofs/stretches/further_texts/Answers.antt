use Rattle.std.proofs.Common.{sym, arith}
use Rattle.cmap_layers.proofs.TextsCounted.{counted_at}
use Rattle.cmap_layers.proofs.stretches.further_texts.Goals as goal

pub returns-then-unit-lt65536-clause-count : goal.returns-then-unit-lt65536-clause-count
returns-then-unit-lt65536-clause-count c = λ k le. counted_at c.args.units.now c.in-Some.last.now c.args.offset k (sym (rw c.in-Some.is at c.last.ensures.value)) (λ below. omega (arith, le, c.from.ensures, c.from-2.ensures))
