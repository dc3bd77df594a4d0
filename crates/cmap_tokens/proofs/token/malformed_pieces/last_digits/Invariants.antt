use Rattle.std.proofs.Common.{◌≡◌, ◌≤◌, take}
use Rattle.cmap_tokens.specs.Malformed.{last_digits}
use Rattle.cmap_tokens.proofs.token.malformed_pieces.last_digits.Given as goal

abbrev pub invariant-loop-byte : goal.invariant-loop-byte
invariant-loop-byte l = record {
  same : l.count ≡ last_digits 0 (take l.byte-index l.text);
  within : l.count ≤ l.byte-index;
}
