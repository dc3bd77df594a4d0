use Rattle.std.proofs.Common.{◌≡◌, false, take}
use Rattle.std.specs.List.{list_any}
use Rattle.cmap_tokens.specs.Malformed.{ends_line}
use Rattle.cmap_tokens.proofs.token.malformed_pieces.has_line_end.Given as goal

abbrev pub invariant-loop-byte : goal.invariant-loop-byte
invariant-loop-byte l = list_any ends_line (take l.byte-index l.text) ≡ false
