use Rattle.cmap_codespaces.specs.CodesWithin.{HasFront}
use Rattle.cmap_codespaces.specs.SpaceBits.{InRows}
use Rattle.cmap_layers.specs.LayersSeen.{layers_seen}
use Rattle.cmap_layers.proofs.SpacesFound.{any_weaker}
use Rattle.cmap_layers.proofs.codespaces.any_has_front.Goals as goal

pub returns : goal.returns
returns c =
    let layers = layers_seen c.args.layers.now in let asked = InRows c.of_front.result in let wanted = HasFront c.args.byte_len c.args.front.now in
    (λ yes. any_weaker asked wanted layers (λ space. (c.of_front.ensures.ranges space).0) (c.any.ensures.0 yes), λ some. c.any.ensures.1 (any_weaker wanted asked layers (λ space. (c.of_front.ensures.ranges space).1) some))
