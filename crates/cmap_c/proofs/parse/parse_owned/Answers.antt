use Rattle.cmap_c.specs.NamedFiles.{ExceedsBudgetOver, FitsBudgetOver, HasNoMapOver, IsMapOver}
use Rattle.cmap_c.proofs.parse.parse_owned.Goals as goal

pub returns : goal.returns
unfolding ExceedsBudgetOver FitsBudgetOver HasNoMapOver IsMapOver
returns c = rw c.tables_of.ensures at c.parse_from.ensures
