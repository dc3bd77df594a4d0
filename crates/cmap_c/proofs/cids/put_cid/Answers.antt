use Rattle.std.proofs.Common.{refl, sym}
use Rattle.cmap_handles.proofs.HandlesRead.{no_map, of_map}
use Rattle.cmap_c.proofs.cids.put_cid.Goals as goal

pub returns-in-Some : goal.returns-in-Some
returns-in-Some c = of_map _ c.in-Some.found _ _ (sym c.in-Some.is) (refl, refl)

pub returns-in-None : goal.returns-in-None
returns-in-None c = no_map _ _ _ (sym c.in-None.is) (refl, refl)
