use Rattle.std.specs.Str.{chars}
use Rattle.cmap_encode.proofs.ChosenBy.{lossy_by}
use Rattle.cmap_encode.proofs.encoder.Encoder.encode_lossy.Goals as goal

pub returns : goal.returns
returns c = λ maps is. lossy_by maps c.args.self.now is c.args.missing.now (chars c.args.text.now) c.encoded_lossy.result c.encoded_lossy.ensures
