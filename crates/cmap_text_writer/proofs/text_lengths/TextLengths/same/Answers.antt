use Rattle.cmap_text_writer.proofs.LengthsTold.{text_outside}
use Rattle.cmap_text_writer.proofs.text_lengths.TextLengths.same.Goals as goal

pub returns : goal.returns
returns c = λ code. text_outside c.outside.result c.args.len code c.outside.ensures
