use Rattle.std.proofs.Common.{refl}
use Rattle.cmap_handles.proofs.HandlesRead.{no_map, of_map}
use Rattle.cmap_c_writer.proofs.StringsPut.{lossy_put}
use Rattle.cmap_c_writer.proofs.encode.hayro_cmap_encode_lossy.Goals as goal

pub returns-in_default-clause-string : goal.returns-in_default-clause-string
returns-in_default-clause-string c = no_map _ _ _ c.in_default.ensures.encoder (c.number.ensures, refl, refl)

pub returns-clause-string : goal.returns-clause-string
returns-clause-string c = of_map _ c.in-Some.encoder.now _ _ c.in-Some.ensures.encoder
    (λ font is. lossy_put font c.args.missing.now c.args.text.now c.lossy_string_of.result _ _ _ _ _ _ _ (c.lossy_string_of.ensures font is) c.put_string.ensures)
