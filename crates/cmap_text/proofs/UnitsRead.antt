-- The units of destinations that are read as two numbers.
use Rattle.std.proofs.Common.{◌≡◌, ℕ, ◌+◌, ◌*◌, ◌/◌, ◌%◌, ◌^◌, ◌<◌, List, [], ◌∷◌, ◌++◌, length, refl, arith}
use Rattle.std.specs.Int.Digits.{number_from_digits}
use Rattle.std.specs.List.{AllByRecursion}
use Rattle.cmap_tokens.specs.Texts.{units_of}

abbrev Bytes : List ℕ → Type 0
Bytes bytes = AllByRecursion (λ b. b < 2 ^ 8) bytes

-- the two units that four bytes write
two_units : (a b c d n : ℕ) → a < 2 ^ 8 → b < 2 ^ 8 → c < 2 ^ 8 → d < 2 ^ 8 → n ≡ number_from_digits 256 (a ∷ b ∷ c ∷ d ∷ []) → (n / 65536 ≡ 256 * a + b) × (n % 65536 ≡ 256 * c + d)
two_units a b c d n first second third fourth is = (omega arith, omega arith)

pub three_units : (front rest : List ℕ) (high low : ℕ) → Bytes front → Bytes rest → length front ≡ 4 → length rest ≡ 2 → high ≡ number_from_digits 256 front → low ≡ number_from_digits 256 rest
    → high / 65536 ∷ high % 65536 ∷ low % 65536 ∷ [] ≡ units_of (front ++ rest)
three_units (a ∷ b ∷ c ∷ d ∷ []) (e ∷ f ∷ []) high low (a_is, (b_is, (c_is, (d_is, _)))) (e_is, (f_is, _)) four two high_is low_is =
    let units = two_units a b c d high a_is b_is c_is d_is high_is in
    let last : low % 65536 ≡ 256 * e + f = omega arith in
    rw (units.0, units.1, last) refl
three_units front rest high low front_are rest_are four two high_is low_is = absurd (omega (arith, four, two))

pub four_units : (front rest : List ℕ) (high low : ℕ) → Bytes front → Bytes rest → length front ≡ 4 → length rest ≡ 4 → high ≡ number_from_digits 256 front → low ≡ number_from_digits 256 rest
    → high / 65536 ∷ high % 65536 ∷ low / 65536 ∷ low % 65536 ∷ [] ≡ units_of (front ++ rest)
four_units (a ∷ b ∷ c ∷ d ∷ []) (e ∷ f ∷ g ∷ h ∷ []) high low (a_is, (b_is, (c_is, (d_is, _)))) (e_is, (f_is, (g_is, (h_is, _)))) four others high_is low_is =
    let units = two_units a b c d high a_is b_is c_is d_is high_is in
    let last = two_units e f g h low e_is f_is g_is h_is low_is in
    rw (units.0, units.1, last.0, last.1) refl
four_units front rest high low front_are rest_are four others high_is low_is = absurd (omega (arith, four, others))

pub one_unit : (bytes : List ℕ) (n : ℕ) → length bytes ≡ 2 → n ≡ number_from_digits 256 bytes → units_of bytes ≡ n ∷ []
one_unit (a ∷ b ∷ []) n two is = let same : n ≡ 256 * a + b = omega (arith, is) in rw same refl
one_unit bytes n two is = absurd (omega (arith, two))
