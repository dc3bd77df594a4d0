use Rattle.std.proofs.Common.{◌≡◌, ◌+◌, ◌-◌, ◌≤◌, true, drop, length}
use Rattle.cmap_tokens.specs.TokenReading.{gap_len}
use Rattle.cmap_tokens.proofs.token.gaps.plain_len.Given as goal

abbrev pub invariant-loop-i : goal.invariant-loop-i
invariant-loop-i l = record {
  within : l.i ≤ length l.text;
  passed : gap_len true l.text ≡ l.i + gap_len true (drop l.i l.text);
}

abbrev pub decreases-loop-i : goal.decreases-loop-i
decreases-loop-i l = length l.text - l.i
