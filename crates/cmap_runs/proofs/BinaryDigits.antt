-- `digits m` is the least d with m < 2 ^ d, and so a half has fewer digits.
use Rattle.std.proofs.Common.{ℕ, zero, suc, ◌+◌, ◌-◌, ◌/◌, ◌^◌, ◌<◌, ◌≤◌, arith}
use Rattle.std.proofs.Math.Nat.{pow-suc}
use Rattle.cmap_runs.specs.Ranges.{HasDigits, digits, digits_within}

digits_within_least : (most m d : ℕ) → m ≤ most → m < 2 ^ d → digits_within most m ≤ d
digits_within_least zero m d le lt = omega arith
digits_within_least (suc most) zero d le lt = omega arith
digits_within_least (suc most) (suc m) zero le lt = absurd (omega arith)
digits_within_least (suc most) (suc m) (suc d) le lt =
    omega (arith, digits_within_least most (suc m / 2) d (omega arith) (omega (arith, pow-suc 2 d)))

digits_within_room : (most m : ℕ) → m ≤ most → m < 2 ^ digits_within most m
digits_within_room zero m le = omega arith
digits_within_room (suc most) zero le = omega arith
digits_within_room (suc most) (suc m) le =
    omega (arith, digits_within_room most (suc m / 2) (omega arith), pow-suc 2 (digits_within most (suc m / 2)))

-- a number below 2 ^ d has at most d digits
pub digits_least : (m d : ℕ) → m < 2 ^ d → digits m ≤ d
unfolding digits
digits_least m d lt = digits_within_least m m d (omega arith) lt

pub digits_room : (m : ℕ) → m < 2 ^ digits m
unfolding digits
digits_room m = digits_within_room m m (omega arith)

half_of_power : (m n d : ℕ) → 0 < m → n ≤ m / 2 → m < 2 ^ d → digits n + 1 ≤ d
half_of_power m n zero pos half lt = absurd (omega arith)
half_of_power m n (suc d) pos half lt = omega (arith, digits_least n d (omega (arith, pow-suc 2 d)))

-- after a look at one of m, at most half of them are left
pub digits_half : (m n : ℕ) → 0 < m → n ≤ m / 2 → digits n + 1 ≤ digits m
digits_half m n pos half = half_of_power m n (digits m) pos half (digits_room m)

-- a look at the middle, and what may be looked at in what it leaves
pub looks_half : (low high looks most : ℕ) → low < high → looks + digits (high - low) ≤ most
    → (looks + 1 + digits (low + (high - low) / 2 - low) ≤ most) × (looks + 1 + digits (high - (low + (high - low) / 2 + 1)) ≤ most)
looks_half low high looks most lt left = (
  omega (arith, digits_half (high - low) (low + (high - low) / 2 - low) (omega arith) (omega arith)),
  omega (arith, digits_half (high - low) (high - (low + (high - low) / 2 + 1)) (omega arith) (omega arith)),
)

pub HasDigits-digits : (n : ℕ) → HasDigits n (digits n)
HasDigits-digits n = (digits_room n, digits_least n)
