-- The reasons for which a run ends.
use Rattle.std.specs.Prelude.{ℕ}
use Rattle.cmap_io.specs.Statuses.{failed, reader_gone, refused}
use Rattle.cmap_io.specs.declared.failure.Failure.{Failure}
use Rattle.cmap_io.specs.declared.failure.Failure.TheVariants.{Message, ReaderGone, Refused}

abbrev pub status_of : Failure → ℕ
status_of ReaderGone = reader_gone
status_of Refused = refused
status_of failure = failed

-- the run may go on after the failure
abbrev pub IsMessage : Failure → Type 0
IsMessage (Message line) = Unit {0}
IsMessage failure = ⊥
