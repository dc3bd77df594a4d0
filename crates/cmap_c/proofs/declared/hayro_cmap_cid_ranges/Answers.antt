use Rattle.cmap_handles.specs.Handles.{layer_in}
use Rattle.cmap_handles.proofs.HandlesRead.{given_in}
use Rattle.cmap_c.proofs.declared.hayro_cmap_cid_ranges.Goals as goal

pub returns-clause-ranges : goal.returns-clause-ranges
returns-clause-ranges c = given_in (λ map. layer_in map c.args.layer) _ _ _ _ _ c.layer_at.ensures c.layers.ensures.map c.put_cids.ensures
