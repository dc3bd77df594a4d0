use Rattle.std.proofs.Common.{◌≡◌, ◌++◌, drop, take}
use Rattle.cmap_handles.proofs.room.fill.Given as goal

abbrev pub invariant-loop-index : goal.invariant-loop-index
invariant-loop-index g l = l.room ≡ take l.index (g.L.Items.items l.list) ++ drop l.index l.initial.room
