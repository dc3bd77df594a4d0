use Rattle.std.proofs.Common.{◌≡◌, encode_utf8_all, string_bytes}
use Rattle.cmap_encode.specs.Folding.{folded}
use Rattle.cmap_encode.proofs.folding.fold.Given as goal

abbrev pub invariant-loop-character : goal.invariant-loop-character
invariant-loop-character l = string_bytes l.shown ≡ encode_utf8_all (folded l.yielded)
