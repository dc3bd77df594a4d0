use Rattle.std.proofs.Common.{refl}
use Rattle.cmap_handles.proofs.HandlesRead.{no_map, of_map}
use Rattle.cmap_c.proofs.decode.hayro_cmap_decode.Goals as goal

pub returns-in_default-clause-codes : goal.returns-in_default-clause-codes
returns-in_default-clause-codes c = no_map _ _ _ c.in_default.ensures.map (c.number.ensures, refl, refl, refl)

pub returns-clause-codes : goal.returns-clause-codes
returns-clause-codes c = of_map _ c.in-Some.layers.now _ _ c.in-Some.ensures.map c.decode.ensures
