use Rattle.std.proofs.Common.{◌≡◌, ◌+◌, drop}
use Rattle.cmap_tokens.specs.Malformed.{hex_left}
use Rattle.cmap_tokens.proofs.token.malformed_pieces.hex_left.Given as goal

abbrev pub invariant-loop-i : goal.invariant-loop-i
invariant-loop-i l = l.i + hex_left (drop l.i l.text) ≡ hex_left l.text
