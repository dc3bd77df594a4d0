use Rattle.cmap_c_writer.proofs.StringsPut.{string_known}
use Rattle.cmap_c_writer.proofs.encode.string_of.Goals as goal

pub returns : goal.returns
returns c = λ maps is.
    let (same, utf8) = c.in_ok-utf8.ensures.0 in
    string_known maps c.args.text.now c.in_ok-utf8.field-0.now c.encode.result same utf8 (c.encode.ensures maps is)
