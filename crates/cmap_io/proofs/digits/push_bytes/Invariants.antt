use Rattle.std.proofs.Common.{◌≡◌, ◌++◌, take, string_bytes}
use Rattle.cmap_io.specs.Escapes.{AddsPrintable, bytes_shown}
use Rattle.cmap_io.proofs.digits.push_bytes.Given as goal

abbrev pub invariant-loop-byte : goal.invariant-loop-byte
invariant-loop-byte l = AddsPrintable (string_bytes l.initial.out) (string_bytes l.out)
    × (string_bytes l.out ≡ string_bytes l.initial.out ++ bytes_shown (take l.byte-index l.bytes))
