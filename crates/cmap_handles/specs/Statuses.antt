-- The numbers of the outcomes of a call.
use Rattle.std.specs.Prelude.{ℕ}
use Rattle.cmap_handles.specs.declared.status.Status.{Status}
use Rattle.cmap_handles.specs.declared.status.Status.TheVariants.{Done, Refused, NoMemory, OverBudget, NotABundle, Absent, NoRoom}

abbrev pub number : Status → ℕ
number Done = 0
number Refused = 1
number NoMemory = 2
number OverBudget = 3
number NotABundle = 4
number Absent = 5
number NoRoom = 6
