-- The failure of a run whose file has no map within its budget.
use Rattle.hayro_cmap.specs.declared.budget.ParseError.{ParseError}
use Rattle.hayro_cmap.specs.declared.budget.ParseError.TheVariants as parse
use Rattle.cmap_queries.specs.declared.failure.Failure.{Failure}
use Rattle.cmap_queries.specs.declared.failure.Failure.TheVariants.{NoMemory, OverBudget}

abbrev pub failure_of : ParseError → Failure
failure_of parse.Memory = NoMemory
failure_of parse.OverBudget = OverBudget
