-- The bytes of ASCII characters.
use Prim.Native.Char.{Char, code}
use Rattle.std.specs.Prelude.{ℕ}

-- the byte of an ASCII character, such as byte "("
abbrev pub byte : Char → ℕ
byte c = code c
