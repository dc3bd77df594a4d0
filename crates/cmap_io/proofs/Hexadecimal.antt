-- The digits of a number, the last one after the others.
use Rattle.std.proofs.Common.{◌≡◌, ℕ, zero, suc, ◌/◌, ◌%◌, ◌^◌, ◌<◌, ◌≤◌, Bool, true, false, if◌then◌else◌, List, [], ◌∷◌, ◌++◌, refl, sym, ap, ◌∙◌, append_assoc, arith, eq-eqb}
use Rattle.std.proofs.lemmas.Bool.{ne_eqb}
use Rattle.std.proofs.lemmas.Fmt.{hex_one_digit}
use Rattle.std.specs.Fmt.{digits, digits_onto, digit_glyph}
use Rattle.cmap_io.specs.Escapes.{digit_of}
use Rattle.cmap_io.specs.declared.digits.Letters.TheVariants.{Capital}

-- `digits` with a bound on how many there are, before what stands after them
abbrev spelled : ℕ → ℕ → List ℕ → List ℕ
spelled most n after = digits_onto most 16 true n after

abbrev last_of : ℕ → ℕ
last_of n = digit_glyph true (n % 16)

spelled_last : (most n : ℕ) (after : List ℕ) → n < 16 → spelled (suc most) n after ≡ last_of n ∷ after
spelled_last most n after below =
    ap (λ (none : Bool). if none then last_of n ∷ after else spelled most (n / 16) (last_of n ∷ after)) (eq-eqb (n / 16) 0 (omega arith))

spelled_next : (most n : ℕ) (after : List ℕ) → 16 ≤ n → spelled (suc most) n after ≡ spelled most (n / 16) (last_of n ∷ after)
spelled_next most n after high =
    ap (λ (none : Bool). if none then last_of n ∷ after else spelled most (n / 16) (last_of n ∷ after)) (ne_eqb (n / 16) 0 (λ none. omega arith))

branch : (none : Bool) (last : ℕ) (front xs ys : List ℕ) (longer : List ℕ) → longer ≡ front ++ ys → (if none then last ∷ (xs ++ ys) else longer) ≡ (if none then last ∷ xs else front) ++ ys
branch true last front xs ys longer is = refl
branch false last front xs ys longer is = is

spelled-append : (most n : ℕ) (xs ys : List ℕ) → spelled most n (xs ++ ys) ≡ spelled most n xs ++ ys
spelled-append zero n xs ys = refl
spelled-append (suc most) n xs ys =
    branch _ (last_of n) (spelled most (n / 16) (last_of n ∷ xs)) xs ys _ (spelled-append most (n / 16) (last_of n ∷ xs) ys)

same_branch : (none : Bool) (one these those : List ℕ) → these ≡ those → (if none then one else these) ≡ (if none then one else those)
same_branch true one these those is = refl
same_branch false one these those is = is

-- the bound doesn't matter where the number has no more digits
spelled_enough : (most n : ℕ) (after : List ℕ) → n < 16 ^ suc most → spelled (suc most) n after ≡ spelled (suc (suc most)) n after
spelled_enough zero n after below = spelled_last zero n after (omega arith) ∙ sym (spelled_last (suc zero) n after (omega arith))
spelled_enough (suc most) n after below =
    same_branch _ (last_of n ∷ after) _ _ (spelled_enough most (n / 16) (last_of n ∷ after) (omega arith))

whole : (n : ℕ) → spelled 64 n [] ≡ digits 16 true n
unfolding digits
whole n = refl

-- any number has one more digit than its sixteenth, unless it has just one
more_digits : (n : ℕ) → 16 ≤ n → n < 2 ^ 32 → digits 16 true n ≡ digits 16 true (n / 16) ++ digit_glyph true (n % 16) ∷ []
more_digits n low high =
    sym (whole n) ∙ spelled_next 63 n [] low ∙ spelled_enough 62 (n / 16) (last_of n ∷ []) (omega arith)
    ∙ spelled-append 64 (n / 16) [] (last_of n ∷ []) ∙ ap (λ front. front ++ last_of n ∷ []) (whole (n / 16))

-- the last digit after those of a sixteenth
pub last_digit_added : (old now new : List ℕ) (n : ℕ) → 16 ≤ n → n < 2 ^ 32 → now ≡ old ++ digits 16 true (n / 16) → new ≡ now ++ digit_of Capital (n % 16) ∷ [] → new ≡ old ++ digits 16 true n
last_digit_added old now new n low high now_is new_is =
    new_is ∙ ap (λ front. front ++ digit_of Capital (n % 16) ∷ []) now_is ∙ append_assoc old (digits 16 true (n / 16)) (digit_of Capital (n % 16) ∷ [])
    ∙ ap (λ added. old ++ added) (sym (more_digits n low high))

-- the only digit of a number below 16
pub one_digit_added : (old new : List ℕ) (n : ℕ) → n < 16 → new ≡ old ++ digit_of Capital n ∷ [] → new ≡ old ++ digits 16 true n
one_digit_added old new n below is = is ∙ ap (λ added. old ++ added) (sym (hex_one_digit true n below))
