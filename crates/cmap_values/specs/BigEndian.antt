-- Bytes, and the number that they write.
use Rattle.std.specs.Prelude.{ℕ, List}
use Rattle.std.specs.Int.Digits.{number_from_digits}

-- the number that bytes write, the high byte first
abbrev pub big_endian : List ℕ → ℕ
big_endian bytes = number_from_digits 256 bytes
