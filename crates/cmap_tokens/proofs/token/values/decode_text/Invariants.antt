use Rattle.std.proofs.Common.{◌≡◌, ℕ, ◌+◌, ◌≤◌, ◌++◌, length, vec_len, vec_capacity}
use Rattle.cmap_tokens.specs.TokenReading.{parts_value, text_value}
use Rattle.cmap_tokens.proofs.token.values.decode_text.Given as goal

abbrev pub invariant-loop-rest : goal.invariant-loop-rest
invariant-loop-rest l = record {
  room : vec_len l.out + length l.rest ≤ vec_capacity l.out;
  bytes : (n : ℕ) × (length l.rest ≤ n) × (l.out.items ++ parts_value n l.rest ≡ l.initial.out.items ++ text_value l.body);
}

abbrev pub decreases-loop-rest : goal.decreases-loop-rest
decreases-loop-rest l = length l.rest
