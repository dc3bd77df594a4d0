-- The order of codespace ranges.
use Rattle.std.proofs.Common.{Ordering, Less, Equal, Greater, ◌≡◌, ℕ, Bool, true, refl, sym, ap, ◌∙◌}
use Rattle.std.specs.Prelude.{◌==◌, ◌&&◌}
use Rattle.std.specs.Cmp.{IsEquivalence, IsTotalOrder, unsigned_tied}
use Rattle.std.specs.Ordering.{eq_by_cmp, is_eq, nat_cmp, ordering_then}
use Rattle.std.proofs.lemmas.Bool.{and_parts, eqb-true}
use Rattle.std.proofs.lemmas.Cmp.{and_equiv, nat_cmp_total, nat_eq_equiv, on_equiv, on_total, then_total}
use Rattle.cmap_values.specs.Files.{Codespace}

-- by their lengths, then by their first codes, then by their last
abbrev pub order : Codespace → Codespace → Ordering
order a b = ordering_then (ordering_then (nat_cmp a.len b.len) (nat_cmp a.low b.low)) (nat_cmp a.high b.high)

abbrev pub alike : Codespace → Codespace → Bool
alike a b = ((a.len == b.len) && (a.low == b.low)) && (a.high == b.high)

pub order_total : IsTotalOrder order
order_total = then_total (then_total (on_total (λ (a : Codespace). a.len) nat_cmp_total) (on_total (λ (a : Codespace). a.low) nat_cmp_total)) (on_total (λ (a : Codespace). a.high) nat_cmp_total)

pub alike_equiv : IsEquivalence alike
alike_equiv = and_equiv (and_equiv (on_equiv (λ (a : Codespace). a.len) nat_eq_equiv) (on_equiv (λ (a : Codespace). a.low) nat_eq_equiv)) (on_equiv (λ (a : Codespace). a.high) nat_eq_equiv)

both : (a b : Ordering) → is_eq (ordering_then a b) ≡ (is_eq a && is_eq b)
both Less b = refl
both Equal b = refl
both Greater b = refl

pub alike_tied : (a b : Codespace) → alike a b ≡ eq_by_cmp order a b
alike_tied a b =
    let len = nat_cmp a.len b.len in let low = nat_cmp a.low b.low in let high = nat_cmp a.high b.high in
    sym (both (ordering_then len low) high ∙ ap (λ x. x && is_eq high) (both len low) ∙ ap (λ x. (x && is_eq low) && is_eq high) (unsigned_tied a.len b.len)
    ∙ ap (λ x. ((a.len == b.len) && x) && is_eq high) (unsigned_tied a.low b.low) ∙ ap (λ x. ((a.len == b.len) && (a.low == b.low)) && x) (unsigned_tied a.high b.high))

abbrev made : ℕ → ℕ → ℕ → Codespace
made len low high = record { len = len; low = low; high = high }

pub alike_same : (a b : Codespace) → alike a b ≡ true → a ≡ b
alike_same a b are =
    let (front, high) = and_parts _ _ are in let (len, low) = and_parts _ _ front in
    ap (λ len. made len a.low a.high) (eqb-true _ _ len) ∙ ap (λ low. made b.len low a.high) (eqb-true _ _ low) ∙ ap (made b.len b.low) (eqb-true _ _ high)
