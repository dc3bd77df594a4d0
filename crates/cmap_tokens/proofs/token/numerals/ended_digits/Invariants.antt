use Rattle.std.proofs.Common.{◌≡◌, ◌+◌, take, drop}
use Rattle.cmap_tokens.specs.Numbers.{digits_len, digits_number}
use Rattle.cmap_tokens.proofs.token.numerals.ended_digits.Given as goal

abbrev pub invariant-loop-i : goal.invariant-loop-i
invariant-loop-i l = record {
  digits : l.i + digits_len 10 (drop l.i l.text) ≡ digits_len 10 l.text;
  value : l.number ≡ digits_number 10 (take l.i l.text);
}
