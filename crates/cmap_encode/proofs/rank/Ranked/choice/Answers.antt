use Rattle.std.proofs.Common.{refl}
use Rattle.cmap_encode.proofs.rank.Ranked.choice.Goals as goal

pub returns : goal.returns
returns c = rw c.grade.ensures refl
