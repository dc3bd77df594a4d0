use Rattle.std.proofs.Common.{refl}
use Rattle.cmap_handles.proofs.HandlesRead.{no_map, of_map}
use Rattle.cmap_c_writer.proofs.StringsPut.{pieces_put}
use Rattle.cmap_c_writer.proofs.pieces.hayro_cmap_encode_pieces.Goals as goal

pub returns-in_default-clause-pieces : goal.returns-in_default-clause-pieces
returns-in_default-clause-pieces c = no_map _ _ _ c.in_default.ensures.encoder (c.number.ensures, refl, refl, refl)

pub returns-clause-pieces : goal.returns-clause-pieces
returns-clause-pieces c = of_map _ c.in-Some.encoder.now _ _ c.in-Some.ensures.encoder
    (λ font is. pieces_put font c.args.text.now c.pieces_of.result _ _ _ _ _ _ _ (c.pieces_of.ensures font is) c.put_pieces.ensures)
