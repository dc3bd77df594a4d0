use Rattle.std.proofs.Common.{refl}
use Rattle.cmap_binary.proofs.Reading.{made_only}
use Rattle.cmap_binary.proofs.segments.set_mode.Goals as goal

pub returns : goal.returns
returns c = (record { content = _; only = made_only c.in-Some.ensures; says = rw c.numbered-file.ensures refl }, tt)
