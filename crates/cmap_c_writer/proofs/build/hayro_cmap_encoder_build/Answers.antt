use Rattle.std.proofs.Common.{◌≡◌, List, MatchOption, Option, None, false, subst}
use Rattle.cmap_handles.specs.Statuses.{number}
use Rattle.cmap_handles.specs.declared.status.Status.TheVariants.{Absent}
use Rattle.cmap_layers.specs.Layers.{Layer}
use Rattle.cmap_c_writer.specs.Encoded.{IsBuilt}
use Rattle.cmap_c_writer.proofs.build.hayro_cmap_encoder_build.Goals as goal

pub returns-clause-encoder : goal.returns-clause-encoder
returns-clause-encoder c =
    let call = c.hayro_cmap_encoder_build_with in let now = call.new.encoder.slot.encoder in
    let P : Option (List Layer) → Type 0 = λ unicode. MatchOption c.args.encoding.now.slot.map ((call.result ≡ number Absent) × (now ≡ None))
    (λ layers. IsBuilt (record { encoding = layers; to_unicode = c.args.to_unicode.now.slot.map; collection = c.args.collection.now.slot.map }) unicode false now call.result) in
    subst P c.empty-none.ensures call.ensures.encoder
