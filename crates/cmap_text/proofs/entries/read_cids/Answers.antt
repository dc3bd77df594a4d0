use Rattle.std.proofs.Common.{rules}
use Rattle.cmap_text.proofs.entries.read_cids.Goals as goal

pub returns : goal.returns
returns c = search rules
