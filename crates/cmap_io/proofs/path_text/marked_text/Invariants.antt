use Rattle.std.proofs.Common.{◌≡◌, take, string_bytes}
use Rattle.cmap_io.specs.PathTexts.{marked}
use Rattle.cmap_io.proofs.path_text.marked_text.Given as goal

abbrev pub invariant-loop-byte : goal.invariant-loop-byte
invariant-loop-byte l = string_bytes l.text ≡ marked (take l.byte-index l.path)
