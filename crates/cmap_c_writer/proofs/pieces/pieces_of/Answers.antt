use Rattle.cmap_c_writer.proofs.StringsPut.{pieces_known}
use Rattle.cmap_c_writer.proofs.pieces.pieces_of.Goals as goal

pub returns : goal.returns
returns c = λ maps is.
    let (same, utf8) = c.in_ok-utf8.ensures.0 in
    pieces_known maps c.args.text.now c.in_ok-utf8.field-0.now c.pieces.result same utf8 (c.pieces.ensures maps is)
