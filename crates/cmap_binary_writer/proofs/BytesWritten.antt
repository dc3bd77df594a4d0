-- Numbers that are written in bytes, and read back.
use Rattle.std.proofs.Common.{◌≡◌, ℕ, zero, suc, ◌+◌, ◌-◌, ◌*◌, ◌/◌, ◌%◌, ◌^◌, ◌<◌, List, [], ◌∷◌, length, refl, ap, ◌∙◌, sym, arith}
use Rattle.std.specs.Prelude.{bit_and}
use Rattle.std.specs.List.{flat_map}
use Rattle.std.specs.Int.Digits.{number_from_digits_after}
use Rattle.std.proofs.lemmas.List.{length-append}
use Rattle.std.proofs.lemmas.Nat.{and_mask, mod-pow-add, pow-add}
use Rattle.std.proofs.Math.Nat.{add-mul, mod-eq_of_lt, mul_assoc}
use Rattle.cmap_values.specs.BigEndian.{big_endian}
use Rattle.cmap_binary_writer.specs.Written.{bytes_of}

pub length-bytes_of : (width n : ℕ) → length (bytes_of width n) ≡ width
length-bytes_of zero n = refl
length-bytes_of (suc width) n = ap suc (length-bytes_of width n)

-- one byte more of a number
pub bytes_of-byte : (left n byte : ℕ) → 0 < left → byte ≡ bit_and (n / 2 ^ (8 * (left - 1))) 255 → byte ∷ bytes_of (left - 1) n ≡ bytes_of left n
bytes_of-byte zero n byte some is = absurd (omega arith)
bytes_of-byte (suc left) n byte some is =
    let e : suc left - 1 ≡ left = omega arith in
    ap (λ b. b ∷ bytes_of (suc left - 1) n) (is ∙ and_mask (n / 2 ^ (8 * (suc left - 1))) 8) ∙ ap (λ k. n / 2 ^ (8 * k) % 2 ^ 8 ∷ bytes_of k n) e

-- ---- the number that the bytes write
stepped : (m d p r : ℕ) → (m * 256 + d) * p + r ≡ m * (256 * p) + (d * p + r)
stepped m d p r = omega (arith, add-mul (m * 256) d p, mul_assoc m 256 p)

pub number_after-bytes_of : (width m n : ℕ) → number_from_digits_after 256 m (bytes_of width n) ≡ m * 2 ^ (8 * width) + n % 2 ^ (8 * width)
number_after-bytes_of zero m n = omega arith
number_after-bytes_of (suc width) m n =
    let p = 2 ^ (8 * width) in
    let d = n / p % 2 ^ 8 in
    let e : 8 + 8 * width ≡ 8 * suc width = omega arith in
    let whole : 256 * p ≡ 2 ^ (8 * suc width) = sym (pow-add 2 8 (8 * width)) ∙ ap (λ k. 2 ^ k) e in
    let low : d * p + n % p ≡ n % 2 ^ (8 * suc width) = sym (mod-pow-add n 8 (8 * width)) ∙ ap (λ k. n % 2 ^ k) e in
    number_after-bytes_of width (m * 256 + d) n ∙ stepped m d p (n % p) ∙ ap (λ q. m * q + (d * p + n % p)) whole ∙ ap (λ r. m * 2 ^ (8 * suc width) + r) low

pub big_endian-bytes_of : (width n : ℕ) → n < 2 ^ (8 * width) → big_endian (bytes_of width n) ≡ n
big_endian-bytes_of width n small = omega (arith, number_after-bytes_of width 0 n, mod-eq_of_lt small)

-- ---- numbers in a row
pub length-row : (width : ℕ) (xs : List ℕ) → length (flat_map (λ n. bytes_of width n) xs) ≡ width * length xs
length-row width [] = omega arith
length-row width (x ∷ xs) = omega (arith, length-append (bytes_of width x) (flat_map (λ n. bytes_of width n) xs), length-bytes_of width x, length-row width xs)
