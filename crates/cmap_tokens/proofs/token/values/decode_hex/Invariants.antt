use Rattle.std.proofs.Common.{◌≡◌, ◌+◌, ◌-◌, ◌<◌, ◌≤◌, ◌++◌, length, drop, vec_len, vec_capacity}
use Rattle.std.specs.Prelude.{IfSome, is_some, if◌then◌else◌}
use Rattle.cmap_tokens.specs.Strings.{hex_value}
use Rattle.cmap_tokens.specs.TokenReading.{hex_digits, pairs_after}
use Rattle.cmap_tokens.proofs.token.values.decode_hex.Given as goal

abbrev pub invariant-loop-byte : goal.invariant-loop-byte
invariant-loop-byte l = record {
  digit : IfSome l.high (λ high. high < 16);
  room : vec_len l.out + (if is_some l.high then 1 else 0) + (length l.digits - l.byte-index) ≤ vec_capacity l.out;
  bytes : l.out.items ++ pairs_after l.high (hex_digits (drop l.byte-index l.digits)) ≡ l.initial.out.items ++ hex_value l.digits;
}
