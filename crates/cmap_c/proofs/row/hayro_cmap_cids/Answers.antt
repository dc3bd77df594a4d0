use Rattle.std.proofs.Common.{refl}
use Rattle.cmap_handles.proofs.HandlesRead.{no_map, of_map}
use Rattle.cmap_c.proofs.row.hayro_cmap_cids.Goals as goal

pub returns-in_default-clause-cids : goal.returns-in_default-clause-cids
returns-in_default-clause-cids c = no_map _ _ _ c.in_default.ensures.map (refl, refl)

pub returns-clause-cids : goal.returns-clause-cids
returns-clause-cids c = of_map _ c.in-Some.layers.now _ _ c.in-Some.ensures.map (refl, c.fill_cids.ensures)
