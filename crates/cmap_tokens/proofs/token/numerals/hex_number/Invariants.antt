use Rattle.std.proofs.Common.{◌≡◌, ◌+◌, ◌*◌, ◌^◌, ◌≤◌, take, map}
use Rattle.std.specs.Int.Digits.{number_from_digits}
use Rattle.cmap_tokens.specs.TokenReading.{weight}
use Rattle.cmap_tokens.proofs.token.numerals.hex_number.Given as goal

abbrev pub invariant-loop-i : goal.invariant-loop-i
invariant-loop-i l = record {
  value : l.number ≡ number_from_digits 16 (map (weight 16) (take (2 * l.i) l.digits));
  bound : l.number + 2 ^ 32 ≤ 2 ^ 32 * 16 ^ (2 * l.i);
}
