use Rattle.std.proofs.Common.{take}
use Rattle.cmap_values.specs.DeclarationsSeen.{lists_seen}
use Rattle.cmap_c_writer.proofs.AllDeclared.{AreDeclared}
use Rattle.cmap_c_writer.proofs.declarations.declared_lists.Given as goal

abbrev pub invariant-loop-declaration : goal.invariant-loop-declaration
invariant-loop-declaration l = AreDeclared (take l.declaration-index l.declarations) (lists_seen l.lists)
