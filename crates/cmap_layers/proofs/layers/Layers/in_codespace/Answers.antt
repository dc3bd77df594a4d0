use Rattle.cmap_values.specs.CodeLengths.{length_of}
use Rattle.cmap_values.specs.Files.{Codespace}
use Rattle.cmap_codespaces.specs.CodesWithin.{IsWithin}
use Rattle.cmap_codespaces.specs.SpaceBits.{InRows}
use Rattle.cmap_layers.specs.LayersSeen.{layers_seen}
use Rattle.cmap_layers.proofs.SpacesFound.{any_weaker}
use Rattle.cmap_layers.proofs.layers.Layers.in_codespace.Goals as goal

pub returns-then-fits_in : goal.returns-then-fits_in
returns-then-fits_in c =
    let layers = layers_seen c.as_slice.result.now in let asked = InRows c.of_code.result in let wanted : Codespace → Type 0 = λ space. IsWithin space c.args.code (length_of c.in-Some.len) in
    let fits = c.fits_in.ensures.0 c.if-fits_in.true in
    let (few, same) = c.in-Some.ensures in
    rw (← same, ← c.as_slice.ensures.layers) (
      λ yes. (rw same few.0, rw same few.1, fits, any_weaker asked wanted layers (λ space. (c.of_code.ensures.ranges space).0) (c.any.ensures.0 yes)),
      λ within. c.any.ensures.1 (any_weaker wanted asked layers (λ space. (c.of_code.ensures.ranges space).1) within.3),
    )
