use Rattle.std.proofs.Common.{◌≡◌, true, take}
use Rattle.cmap_tokens.specs.Malformed.{blank_after}
use Rattle.cmap_tokens.proofs.token.malformed_pieces.ends_blank_line.Given as goal

abbrev pub invariant-loop-i : goal.invariant-loop-i
invariant-loop-i l = blank_after true (take l.i l.text) ≡ blank_after true l.text
