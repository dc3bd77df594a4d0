use Rattle.std.proofs.Common.{◌≡◌, ◌-◌, ◌^◌, min, true, take}
use Rattle.std.specs.List.{list_all}
use Rattle.std.specs.Char.{is_digit}
use Rattle.cmap_tokens.specs.Numbers.{digits_number}
use Rattle.cmap_tokens.proofs.token.numerals.digits_number.Given as goal

abbrev pub invariant-loop-byte : goal.invariant-loop-byte
invariant-loop-byte l = record {
  digits : list_all (λ c. is_digit c l.base) (take l.byte-index l.text) ≡ true;
  capped : l.number ≡ min (digits_number l.base (take l.byte-index l.text)) (2 ^ 64 - 1);
}
