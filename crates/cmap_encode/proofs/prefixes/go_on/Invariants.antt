use Rattle.std.proofs.Common.{take}
use Rattle.cmap_encode.specs.Prefixes.{WentOn}
use Rattle.cmap_encode.proofs.prefixes.go_on.Given as goal

abbrev pub invariant-loop-node : goal.invariant-loop-node
invariant-loop-node l = WentOn l.choices l.character l.may_begin (take l.node-index l.nodes) l.after.items
