use Rattle.cmap_load.specs.declared.table.Table.{Table}
use Rattle.cmap_load.proofs.TableGrowing.{IsTable-kept}
use Rattle.cmap_load.proofs.table.Table.push.Goals as goal

pub returns-in_err-add-clause-table : goal.returns-in_err-add-clause-table
returns-in_err-add-clause-table c =
    let old = c.args.self.now in let new : Table = record { graph = c.add.new.self; contents = c.reserve.new.self } in
    IsTable-kept old new (record { graph = c.in_err-add.ensures.kept; contents = c.reserve.ensures.items }) c.requires.table
