use Rattle.std.proofs.Common.{refl}
use Rattle.cmap_binary.proofs.Fronts.{then_none}
use Rattle.cmap_binary.proofs.entries.read_destination.Goals as goal

pub returns-in_default : goal.returns-in_default
returns-in_default c = rw c.in-None.is (tt, (then_none _ _ c.in_default.ensures, refl))
