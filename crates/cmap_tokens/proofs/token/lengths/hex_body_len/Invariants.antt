use Rattle.std.proofs.Common.{◌≡◌, ◌+◌, drop}
use Rattle.std.specs.List.{prefix_len}
use Rattle.cmap_tokens.specs.Tokens.{is_hex_body}
use Rattle.cmap_tokens.proofs.token.lengths.hex_body_len.Given as goal

abbrev pub invariant-loop-i : goal.invariant-loop-i
invariant-loop-i l = l.i + prefix_len is_hex_body (drop l.i l.text) ≡ prefix_len is_hex_body l.text
