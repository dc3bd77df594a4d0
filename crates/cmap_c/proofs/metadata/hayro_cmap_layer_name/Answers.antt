use Rattle.cmap_handles.specs.Handles.{layer_name}
use Rattle.cmap_handles.proofs.HandlesRead.{given_in}
use Rattle.cmap_c.proofs.metadata.hayro_cmap_layer_name.Goals as goal

pub returns-clause-name : goal.returns-clause-name
returns-clause-name c = given_in (λ map. layer_name map c.args.layer) _ _ _ _ _ c.name_at.ensures c.layers.ensures.map c.put_found.ensures
