use Rattle.std.proofs.Common.{◌≡◌, ◌+◌, ◌<◌, ◌≤◌, drop, Some}
use Rattle.std.specs.Prelude.{option_map}
use Rattle.cmap_tokens.specs.TokenReading.{text_len, opened}
use Rattle.cmap_tokens.proofs.token.lengths.text_len.Given as goal

abbrev pub invariant-loop-i : goal.invariant-loop-i
invariant-loop-i l = record {
  inside : 0 < l.depth;
  within : l.depth ≤ 1 + l.i;
  rest : option_map (λ n. l.i + n) (text_len (Some (record { escaped = l.escaped; depth = l.depth })) (drop l.i l.text)) ≡ text_len opened l.text;
}
