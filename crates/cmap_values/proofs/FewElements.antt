-- A list of so few numbers is what its indices give, and what so few bytes write.
use Rattle.std.proofs.Common.{◌≡◌, ℕ, ◌+◌, ◌*◌, ◌<◌, ◌≤◌, List, [], ◌∷◌, length, get_or, Some, refl, ap, ◌∙◌, arith}
use Rattle.cmap_values.specs.CodeLengths.{code_written}

pub one_is : (xs : List ℕ) → 1 ≤ length xs → length xs < 2 → get_or xs 0 0 ∷ [] ≡ xs
one_is [] least below = absurd (omega arith)
one_is (a ∷ []) least below = refl
one_is (a ∷ b ∷ xs) least below = absurd (omega arith)

pub two_is : (xs : List ℕ) → 2 ≤ length xs → length xs < 3 → get_or xs 0 0 ∷ get_or xs 1 0 ∷ [] ≡ xs
two_is [] least below = absurd (omega arith)
two_is (a ∷ xs) least below = ap (λ l. a ∷ l) (one_is xs (omega arith) (omega arith))

pub three_is : (xs : List ℕ) → 3 ≤ length xs → length xs < 4 → get_or xs 0 0 ∷ get_or xs 1 0 ∷ get_or xs 2 0 ∷ [] ≡ xs
three_is [] least below = absurd (omega arith)
three_is (a ∷ xs) least below = ap (λ l. a ∷ l) (two_is xs (omega arith) (omega arith))

pub four_is : (xs : List ℕ) → 4 ≤ length xs → length xs < 5 → get_or xs 0 0 ∷ get_or xs 1 0 ∷ get_or xs 2 0 ∷ get_or xs 3 0 ∷ [] ≡ xs
four_is [] least below = absurd (omega arith)
four_is (a ∷ xs) least below = ap (λ l. a ∷ l) (three_is xs (omega arith) (omega arith))

pub one_written : (bytes : List ℕ) (n : ℕ) → 1 ≤ length bytes → length bytes < 2 → n ≡ get_or bytes 0 0 → Some (1, n) ≡ code_written bytes
one_written bytes n least below is =
    let number : n ≡ 0 * 256 + get_or bytes 0 0 = omega (arith, is) in
    ap (λ n. Some (1, n)) number ∙ ap code_written (one_is bytes least below)

pub two_written : (bytes : List ℕ) (n : ℕ) → 2 ≤ length bytes → length bytes < 3 → n ≡ 0 + get_or bytes 0 0 * 256 + get_or bytes 1 0 → Some (2, n) ≡ code_written bytes
two_written bytes n least below is =
    let number : n ≡ (0 * 256 + get_or bytes 0 0) * 256 + get_or bytes 1 0 = omega (arith, is) in
    ap (λ n. Some (2, n)) number ∙ ap code_written (two_is bytes least below)

pub three_written : (bytes : List ℕ) (n : ℕ) → 3 ≤ length bytes → length bytes < 4 → n ≡ 0 + get_or bytes 0 0 * 65536 + get_or bytes 1 0 * 256 + get_or bytes 2 0 → Some (3, n) ≡ code_written bytes
three_written bytes n least below is =
    let number : n ≡ ((0 * 256 + get_or bytes 0 0) * 256 + get_or bytes 1 0) * 256 + get_or bytes 2 0 = omega (arith, is) in
    ap (λ n. Some (3, n)) number ∙ ap code_written (three_is bytes least below)

pub four_written : (bytes : List ℕ) (n : ℕ) → 4 ≤ length bytes → length bytes < 5 → n ≡ get_or bytes 0 0 * 16777216 + get_or bytes 1 0 * 65536 + get_or bytes 2 0 * 256 + get_or bytes 3 0 → Some (4, n) ≡ code_written bytes
four_written bytes n least below is =
    let number : n ≡ (((0 * 256 + get_or bytes 0 0) * 256 + get_or bytes 1 0) * 256 + get_or bytes 2 0) * 256 + get_or bytes 3 0 = omega (arith, is) in
    ap (λ n. Some (4, n)) number ∙ ap code_written (four_is bytes least below)
