-- The lengths of codes in bytes, and the numbers that the bytes of codes write.
use Rattle.std.specs.Prelude.{ℕ, ◌≤◌, ◌&&◌, if◌then◌else◌, List, length, nat_le, Option, Some, None}
use Rattle.cmap_values.specs.BigEndian.{big_endian}
use Rattle.cmap_values.specs.declared.code_length.CodeLength.{CodeLength}
use Rattle.cmap_values.specs.declared.code_length.CodeLength.TheVariants.{One, Two, Three, Four}

-- codes have one to four bytes
abbrev pub IsCodeLength : ℕ → Type 0
IsCodeLength count = (1 ≤ count) × (count ≤ 4)

abbrev pub length_of : CodeLength → ℕ
length_of One = 1
length_of Two = 2
length_of Three = 3
length_of Four = 4

-- the number of the bytes, and the number that they write, if there are one to four bytes
abbrev pub code_written : List ℕ → Option (ℕ × ℕ)
code_written bytes = if nat_le 1 (length bytes) && nat_le (length bytes) 4 then Some (length bytes, big_endian bytes) else None

abbrev pub code_seen : CodeLength × ℕ → ℕ × ℕ
code_seen code = (length_of code.0, code.1)
