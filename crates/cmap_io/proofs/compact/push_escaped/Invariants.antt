use Rattle.std.proofs.Common.{◌≡◌, ◌++◌, encode_utf8_all, string_bytes}
use Rattle.cmap_io.specs.Json.{text_spelled}
use Rattle.cmap_io.proofs.compact.push_escaped.Given as goal

abbrev pub invariant-loop-character : goal.invariant-loop-character
invariant-loop-character l = string_bytes l.out ≡ string_bytes l.initial.out ++ text_spelled (encode_utf8_all l.yielded)
