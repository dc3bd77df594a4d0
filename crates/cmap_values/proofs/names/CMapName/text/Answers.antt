use Rattle.std.proofs.Common.{refl}
use Rattle.cmap_values.specs.Names.{known_names}
use Rattle.cmap_values.proofs.names.CMapName.text.Goals as goal

pub returns-in-EucH : goal.returns-in-EucH
unfolding known_names
returns-in-EucH c = rw c.in-EucH.is refl
