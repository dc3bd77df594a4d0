use Rattle.std.proofs.Common.{refl}
use Rattle.cmap_handles.proofs.HandlesRead.{answered_in, none_found}
use Rattle.cmap_c.proofs.cids.hayro_cmap_cid.Goals as goal

pub returns-in-Some-clause-value : goal.returns-in-Some-clause-value
returns-in-Some-clause-value c = answered_in _ _ c.in-Some.layers.now c.cid.result _ _ c.in-Some.ensures.map c.cid.ensures.value c.put_cid.ensures

pub returns-in-None-clause-value : goal.returns-in-None-clause-value
returns-in-None-clause-value c = none_found _ _ _ _ c.in-None.ensures.map (refl, refl)
