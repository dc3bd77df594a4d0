-- The statuses of a run.
use Rattle.std.specs.Prelude.{ℕ}

abbrev pub accepted : ℕ
accepted = 0

abbrev pub refused : ℕ
refused = 1

abbrev pub failed : ℕ
failed = 2

-- the status that shells give to a program that SIGPIPE ends
abbrev pub reader_gone : ℕ
reader_gone = 141
