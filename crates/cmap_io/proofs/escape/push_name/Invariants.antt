use Rattle.std.proofs.Common.{◌≡◌, ◌++◌, take, string_bytes}
use Rattle.cmap_io.specs.Escapes.{AddsPrintable, name_shown}
use Rattle.cmap_io.proofs.escape.push_name.Given as goal

abbrev pub invariant-loop-byte : goal.invariant-loop-byte
invariant-loop-byte l = AddsPrintable (string_bytes l.initial.out) (string_bytes l.out)
    × (string_bytes l.out ≡ string_bytes l.initial.out ++ name_shown (take l.byte-index l.name))
