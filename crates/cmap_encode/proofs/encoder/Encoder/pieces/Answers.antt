use Rattle.std.specs.Str.{chars}
use Rattle.cmap_encode.proofs.ChosenBy.{pieces_by}
use Rattle.cmap_encode.proofs.encoder.Encoder.pieces.Goals as goal

pub returns : goal.returns
returns c = λ maps is. pieces_by maps c.args.self.now is (chars c.args.text.now) c.parted.result c.parted.ensures
