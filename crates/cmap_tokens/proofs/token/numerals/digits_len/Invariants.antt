use Rattle.std.proofs.Common.{◌≡◌, ◌+◌, drop}
use Rattle.std.specs.List.{prefix_len}
use Rattle.std.specs.Char.{is_digit}
use Rattle.cmap_tokens.proofs.token.numerals.digits_len.Given as goal

abbrev pub invariant-loop-i : goal.invariant-loop-i
invariant-loop-i l = l.i + prefix_len (λ b. is_digit b l.base) (drop l.i l.text) ≡ prefix_len (λ b. is_digit b l.base) l.text
