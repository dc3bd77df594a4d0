use Rattle.std.specs.Str.{chars}
use Rattle.cmap_encode.proofs.ChosenBy.{encoding_by}
use Rattle.cmap_encode.proofs.encoder.Encoder.encode.Goals as goal

pub returns : goal.returns
returns c = λ maps is. encoding_by maps c.args.self.now is (chars c.args.text.now) c.encoded.result c.encoded.ensures
