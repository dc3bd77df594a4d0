-- Decimal digits.
use Rattle.std.specs.Prelude.{ℕ, ◌<◌, ◌^◌, List}
use Rattle.std.specs.Str.Parse.{IsNumeral, digits_value}

-- decimal digits of a number of 64 bits
abbrev pub SpellsNumber : List ℕ → Type 0
SpellsNumber digits = IsNumeral 10 digits × (digits_value 10 digits < 2 ^ 64)
