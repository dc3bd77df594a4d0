use Rattle.std.proofs.Common.{◌≡◌, ℕ, ◌+◌, ◌-◌, ◌/◌, ◌<◌, ◌≤◌, ◌^◌, sym, ap, ◌∙◌, w64, arith}
use Rattle.std.specs.Int.{bit_at, trailing_zeros}
use Rattle.std.proofs.lemmas.Nat.Bits.{bit_at-trailing_zeros, bit_at-zero}
use Rattle.cmap_codespaces.proofs.SpacesFound.{set_below, shifted}
use Rattle.cmap_codespaces.proofs.search.next_bit.Goals as goal

left_bit : (bits from n : ℕ) → from ≤ n → bit_at (bits / 2 ^ from) (n - from) ≡ bit_at bits n
left_bit bits from n later =
    let at : from + (n - from) ≡ n = omega arith in
    shifted bits from (n - from) ∙ ap (bit_at bits) at

-- the lowest bit that is left
lowest : (bits from : ℕ) → bits < 2 ^ 64 → 0 < bits / 2 ^ from → let bit = from + trailing_zeros w64 (bits / 2 ^ from) in (bit_at bits bit ≡ 1) × ((n : ℕ) → from ≤ n → n < bit → bit_at bits n ≡ 0)
lowest bits from fits some =
    let left = bits / 2 ^ from in
    let less : left < 2 ^ 64 = omega arith in
    let low = bit_at-trailing_zeros w64 left some less in
    (sym (shifted bits from (trailing_zeros w64 left)) ∙ low.1, λ n later below. sym (left_bit bits from n later) ∙ low.2 (n - from) (omega arith))

pub returns-then-from-ge64-clause-first : goal.returns-then-from-ge64-clause-first
returns-then-from-ge64-clause-first c = λ n holds. let later = holds.0 in omega (arith, set_below c.args.bits n c.ranges.bits.fits holds.1)

pub returns-then-left-eq0-clause-first : goal.returns-then-left-eq0-clause-first
returns-then-left-eq0-clause-first c = λ n holds.
    let from = c.args.from in
    omega (arith, left_bit c.args.bits from n holds.0, ap (λ m. bit_at m (n - from)) c.if-left-eq0.true, bit_at-zero (n - from), holds.1)

pub returns-clause-within : goal.returns-clause-within
returns-clause-within c = let low = lowest c.args.bits c.args.from c.ranges.bits.fits (omega arith) in set_below c.args.bits _ c.ranges.bits.fits low.0

pub returns-clause-first : goal.returns-clause-first
returns-clause-first c =
    let low = lowest c.args.bits c.args.from c.ranges.bits.fits (omega arith) in
    ((omega arith, low.0), λ n below holds. omega (arith, low.1 n holds.0 below, holds.1))
