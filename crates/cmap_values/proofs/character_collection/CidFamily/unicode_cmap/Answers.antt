use Rattle.std.proofs.Common.{refl}
use Rattle.cmap_values.specs.Names.{known_names}
use Rattle.cmap_values.proofs.character_collection.CidFamily.unicode_cmap.Goals as goal

pub returns-in-AdobeGB1-clause-text : goal.returns-in-AdobeGB1-clause-text
unfolding known_names
returns-in-AdobeGB1-clause-text c = rw c.in-AdobeGB1.is refl
