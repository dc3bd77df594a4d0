use Rattle.std.specs.Prelude.{Some}
use Rattle.cmap_load.proofs.CopiedNames.{copies_updated}
use Rattle.cmap_load.proofs.names.NameCopies.insert.Goals as goal

pub returns-clause-numbers : goal.returns-clause-numbers
returns-clause-numbers c = copies_updated c.args.name.items c.args.self.now.numbers c.insert.new.self (Some c.args.number) c.in_ok-_earlier.ensures.updates
