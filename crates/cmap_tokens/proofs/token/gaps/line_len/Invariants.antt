use Rattle.std.proofs.Common.{◌≡◌, ◌+◌, true, drop}
use Rattle.cmap_tokens.specs.TokenReading.{gap_len}
use Rattle.cmap_tokens.proofs.token.gaps.line_len.Given as goal

abbrev pub invariant-loop-i : goal.invariant-loop-i
invariant-loop-i l = l.i + gap_len true (drop l.i l.text) ≡ gap_len true l.text
