use Rattle.std.specs.Prelude.{Some}
use Rattle.std.proofs.lemmas.Map.Text.{btree_map_updates_str}
use Rattle.cmap_load.proofs.names.NameSlices.insert.Goals as goal

pub returns-in-Ok-clause-numbers : goal.returns-in-Ok-clause-numbers
returns-in-Ok-clause-numbers c = btree_map_updates_str c.args.name.now c.args.self.now.numbers c.insert.new.self (Some c.args.number) c.in-Ok.ensures.updates
