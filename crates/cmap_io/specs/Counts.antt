-- The numbers that contracts see for counts.
use Rattle.std.specs.Prelude.{ℕ, ◌+◌, ◌-◌, ◌^◌, min}
use Rattle.cmap_io.specs.declared.count.Count.{Count}

abbrev pub number_seen : Count → ℕ
number_seen count = count.number

-- a number with `further` added; it saturates
abbrev pub counted : ℕ → ℕ → ℕ
counted number further = min (number + further) (2 ^ 64 - 1)
