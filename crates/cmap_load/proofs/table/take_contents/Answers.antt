use Rattle.std.proofs.Common.{refl}
use Rattle.cmap_load.proofs.table.take_contents.Goals as goal

pub returns-clause-left : goal.returns-clause-left
returns-clause-left c = (c.replace.new.dest, refl)
