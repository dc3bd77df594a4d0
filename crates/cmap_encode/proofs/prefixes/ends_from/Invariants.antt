use Rattle.std.proofs.Common.{take}
use Rattle.cmap_encode.specs.Prefixes.{EndsFrom}
use Rattle.cmap_encode.proofs.prefixes.ends_from.Given as goal

abbrev pub invariant-loop-node : goal.invariant-loop-node
invariant-loop-node l = EndsFrom l.choices (take l.node-index l.nodes) l.last → ⊥
