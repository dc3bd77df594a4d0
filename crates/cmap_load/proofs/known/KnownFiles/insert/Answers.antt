use Rattle.cmap_load.proofs.UsedAgain.{known_set}
use Rattle.cmap_load.proofs.known.KnownFiles.insert.Goals as goal

pub returns-clause-known : goal.returns-clause-known
returns-clause-known c = λ other. known_set c.args.self.now.files.items c.args.name other c.args.file c.requires
