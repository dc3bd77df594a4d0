-- Code points in ranges that rise.
use Rattle.std.proofs.Common.{◌≡◌, ℕ, zero, suc, ◌+◌, ◌<◌, ◌≤◌, Bool, true, false, ◌&&◌, ◌||◌, nat_le, List, [], ◌∷◌, length, get_or, refl, sym, ap, ap₂, ◌∙◌, arith, inl, inr, leb-true, le-leb}
use Rattle.std.specs.Bool.{beq}
use Rattle.std.proofs.lemmas.Bool.{and_from, and_left, and_parts, and_right, cases_lt, lt-leb}
use Rattle.std.proofs.lemmas.List.Sorted.{IsNonDecreasingBy-from_default}
use Rattle.std.specs.List.Sorted.{IsNonDecreasingBy}
use Rattle.ucd_table.specs.Rows.{HasExactly, Range, in_ranges, is_range, ranges_rise}
use Rattle.ucd_table.proofs.Facts.{always, same_from_beq, Stepped-always}
use Rattle.ucd_table.proofs.Stepped.{Stepped, of_ranges, zip_stepped}
use Rattle.ucd_table.proofs.StepsLemmas.{range_rows, rises_from}

-- ranges hold what passes a test, where both agree in each step
pub has_exactly : (ranges : List Range) (test : ℕ → Bool) (stepped : Stepped test) (rises : rises_from 0 (range_rows ranges) ≡ true)
    → always (λ c. beq (in_ranges ranges c) (test c)) (zip_stepped beq (in_ranges ranges) test (of_ranges ranges rises) stepped) ≡ true → HasExactly ranges test
has_exactly ranges test stepped rises agree c within = same_from_beq (in_ranges ranges c) (test c) (Stepped-always (λ x. beq (in_ranges ranges x) (test x)) (zip_stepped beq (in_ranges ranges) test (of_ranges ranges rises) stepped) agree c within)

rise_parts : (n : ℕ) (r : Range) (rs : List Range) → ranges_rise n (r ∷ rs) ≡ true → (n ≤ r.0) × (r.0 ≤ r.1) × (ranges_rise (r.1 + 1) rs ≡ true)
unfolding ranges_rise
rise_parts n r rs rising =
    let parts = and_parts (nat_le n r.0 && is_range r) (ranges_rise (r.1 + 1) rs) rising in
    let head = and_parts (nat_le n r.0) (is_range r) parts.0 in
    let own = and_parts (nat_le r.0 r.1) (nat_le r.1 0x10_FFFF) head.1 in
    (leb-true n r.0 head.0, leb-true r.0 r.1 own.0, parts.1)

in_before : (r : Range) (rs : List Range) (c : ℕ) → c < r.0 → in_ranges (r ∷ rs) c ≡ in_ranges rs c
unfolding in_ranges
in_before r rs c below = ap (λ here. here || in_ranges rs c) (and_left (nat_le r.0 c) (nat_le c r.1) (lt-leb r.0 c below))

in_after : (r : Range) (rs : List Range) (c : ℕ) → r.1 < c → in_ranges (r ∷ rs) c ≡ in_ranges rs c
unfolding in_ranges
in_after r rs c above = ap (λ here. here || in_ranges rs c) (and_right (nat_le r.0 c) (nat_le c r.1) (lt-leb c r.1 above))

in_first : (r : Range) (rs : List Range) (c : ℕ) → r.0 ≤ c → c ≤ r.1 → in_ranges (r ∷ rs) c ≡ true
unfolding in_ranges
in_first r rs c low high = ap (λ here. here || in_ranges rs c) (and_from (nat_le r.0 c) (nat_le c r.1) (le-leb r.0 c low) (le-leb c r.1 high))

in_none : (n : ℕ) (rs : List Range) (c : ℕ) → ranges_rise n rs ≡ true → c < n → in_ranges rs c ≡ false
unfolding in_ranges
in_none n [] c rising below = refl
in_none n (r ∷ rs) c rising below =
    let parts = rise_parts n r rs rising in
    in_before r rs c (omega arith) ∙ in_none (r.1 + 1) rs c parts.2 (omega arith)

end_above : (n : ℕ) (rs : List Range) (i : ℕ) (d : Range) → ranges_rise n rs ≡ true → i < length rs → n ≤ (get_or rs i d).1
end_above n [] i d rising within = absurd (omega arith)
end_above n (r ∷ rs) zero d rising within = let parts = rise_parts n r rs rising in omega arith
end_above n (r ∷ rs) (suc i) d rising within =
    let parts = rise_parts n r rs rising in
    let later = end_above (r.1 + 1) rs i d parts.2 (omega arith) in omega arith

ends_rise : (n : ℕ) (rs : List Range) (d : Range) → ranges_rise n rs ≡ true → (i j : ℕ) → i ≤ j → j < length rs → (get_or rs i d).1 ≤ (get_or rs j d).1
ends_rise n [] d rising i j order within = absurd (omega arith)
ends_rise n (r ∷ rs) d rising zero zero order within = omega arith
ends_rise n (r ∷ rs) d rising zero (suc j) order within =
    let parts = rise_parts n r rs rising in
    let later = end_above (r.1 + 1) rs j d parts.2 (omega arith) in omega arith
ends_rise n (r ∷ rs) d rising (suc i) zero order within = absurd (omega arith)
ends_rise n (r ∷ rs) d rising (suc i) (suc j) order within =
    let parts = rise_parts n r rs rising in ends_rise (r.1 + 1) rs d parts.2 i j (omega arith) (omega arith)

-- the ends of the ranges are in order
pub ends_in_order : (n : ℕ) (rs : List Range) → ranges_rise n rs ≡ true → IsNonDecreasingBy (λ (r : Range). r.1) rs
ends_in_order n rs rising = IsNonDecreasingBy-from_default (λ (r : Range). r.1) rs (0, 0) (ends_rise n rs (0, 0) rising)

-- after the ranges that end before a code point, the next one has it or none
pub in_found : (n : ℕ) (rs : List Range) (c k : ℕ) (d : Range) → ranges_rise n rs ≡ true → k < length rs → ((i : ℕ) → i < k → (get_or rs i d).1 < c) → c ≤ (get_or rs k d).1
    → in_ranges rs c ≡ nat_le (get_or rs k d).0 c
in_found n [] c k d rising within before upto = absurd (omega arith)
in_found n (r ∷ rs) c zero d rising within before upto =
    let parts = rise_parts n r rs rising in
    elim (cases_lt c r.0) [
      | inl below ↦ in_before r rs c below ∙ in_none (r.1 + 1) rs c parts.2 (omega arith) ∙ sym (lt-leb r.0 c below)
      | inr from ↦ in_first r rs c from upto ∙ sym (le-leb r.0 c from)
    ]
in_found n (r ∷ rs) c (suc k) d rising within before upto =
    let parts = rise_parts n r rs rising in
    in_after r rs c (before 0 (omega arith)) ∙ in_found (r.1 + 1) rs c k d parts.2 (omega arith) (λ i below. before (suc i) (omega arith)) upto

-- a code point after the ends of all ranges is in none
pub in_no_range : (rs : List Range) (c : ℕ) (d : Range) → ((i : ℕ) → i < length rs → (get_or rs i d).1 < c) → in_ranges rs c ≡ false
unfolding in_ranges
in_no_range [] c d before = refl
in_no_range (r ∷ rs) c d before = in_after r rs c (before 0 (omega arith)) ∙ in_no_range rs c d (λ i below. before (suc i) (omega arith))
