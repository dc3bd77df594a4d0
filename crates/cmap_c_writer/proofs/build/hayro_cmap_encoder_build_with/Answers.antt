use Rattle.std.proofs.Common.{List, Option}
use Rattle.cmap_handles.proofs.HandlesRead.{no_map, of_map}
use Rattle.cmap_layers.specs.Layers.{Layer}
use Rattle.cmap_unicode.specs.TextsOfCodes.{Font}
use Rattle.cmap_c_writer.specs.Encoded.{IsBuilt}
use Rattle.cmap_c_writer.proofs.StringsPut.{built, of_maps}
use Rattle.cmap_c_writer.proofs.build.hayro_cmap_encoder_build_with.Goals as goal

pub returns-in_default-clause-encoder : goal.returns-in_default-clause-encoder
returns-in_default-clause-encoder c = no_map _ _ _ c.in_default.ensures.map (c.number.ensures, c.clear.ensures)

pub returns-clause-encoder : goal.returns-clause-encoder
returns-clause-encoder c =
    let P : Font → Option (List Layer) → Type 0 = λ font unicode. IsBuilt font unicode c.args.exact c.keep.new.self.slot.encoder c.keep.result in
    of_map _ c.in-Some.layers.now _ _ c.in-Some.ensures.map
    (of_maps P _ _ _ _ _ _ _ _ c.font-font.ensures c.layers-2.ensures.map c.layers-3.ensures.map c.layers-4.ensures.map (built _ c.built.result _ _ _ _ _ c.built.ensures c.keep.ensures))
