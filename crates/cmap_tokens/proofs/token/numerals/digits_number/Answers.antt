use Rattle.std.proofs.Common.{◌≡◌, ◌+◌, ◌*◌, ◌-◌, ◌^◌, min, get_or, length, take, sym, ap, ◌∙◌, arith}
use Rattle.std.specs.Char.{digit_value, is_digit}
use Rattle.std.specs.List.{list_all}
use Rattle.std.proofs.lemmas.Bool.{and_from, and_left, and_right, eqb-false, eqb-true, le-ltb, lt-ltb}
use Rattle.std.proofs.lemmas.List.{take_all}
use Rattle.std.proofs.lemmas.List.Folds.{list_all_more}
use Rattle.cmap_tokens.specs.Numbers.{digits_number}
use Rattle.cmap_tokens.proofs.Digits.{digits_number_more, is_capped, min_step, not_capped}
use Rattle.cmap_tokens.proofs.BytesPassed.{not_all}
use Rattle.cmap_tokens.proofs.token.numerals.digits_number.Goals as goal

pub loop-byte-preserved : goal.loop-byte-preserved
loop-byte-preserved c =
    let number = c.loop-byte.number in let base = c.args.base in let d = c.from-digit.result in
    let text = c.args.text.now in let i = c.loop-byte.byte-index in
    let next : c.saturating_add-number.result ≡ min (min (number * base) (2 ^ 64 - 1) + d) (2 ^ 64 - 1) = c.saturating_add-number.ensures ∙ ap (λ n. min (n + d) (2 ^ 64 - 1)) c.saturating_mul.ensures in
    let more : digits_number base (take (i + 1) text) ≡ digits_number base (take i text) * base + d = digits_number_more base text i c.loop-byte-test.true ∙ ap (λ k. digits_number base (take i text) * base + k) (sym (c.from-digit.ensures ∙ c.digit_value.ensures)) in
    record {
      digits = list_all_more (λ b. is_digit b base) text i 0 c.loop-byte-test.true ∙ and_from _ _ c.loop-byte.invariant.digits (lt-ltb _ base (omega arith));
      capped = next ∙ ap (λ n. min (min (n * base) (2 ^ 64 - 1) + d) (2 ^ 64 - 1)) c.loop-byte.invariant.capped ∙ min_step _ base d (2 ^ 64 - 1) (omega arith) ∙ ap (λ n. min n (2 ^ 64 - 1)) (sym more);
    }

pub returns-then-is_empty : goal.returns-then-is_empty
returns-then-is_empty c = not_capped c.args.base c.args.text.now (and_left _ _ (le-ltb 0 (length c.args.text.now) (omega (arith, eqb-true _ 0 (sym c.if-is_empty.ensures)))))

pub returns-then-digit-base : goal.returns-then-digit-base
returns-then-digit-base c =
    let text = c.args.text.now in let i = c.loop-byte.byte-index in
    let fails = le-ltb (digit_value (get_or text i 0)) c.args.base (omega (arith, c.from-digit.ensures, c.digit_value.ensures, c.if-digit-base.true)) in
    not_capped c.args.base text (and_right _ _ (not_all (λ b. is_digit b c.args.base) text i c.loop-byte-test.true fails))

pub returns : goal.returns
returns c =
    let text = c.args.text.now in let base = c.args.base in
    let whole = take_all c.loop-byte.byte-index text c.loop-byte-test.false in
    is_capped base c.loop-byte.number text (omega (arith, eqb-false _ 0 (sym c.if-is_empty.ensures))) (ap (list_all (λ b. is_digit b base)) (sym whole) ∙ c.loop-byte.invariant.digits)
    (c.loop-byte.invariant.capped ∙ ap (λ digits. min (digits_number base digits) (2 ^ 64 - 1)) whole)
