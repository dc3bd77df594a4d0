-- Bits that are written one after another, and the bytes that hold them.
use Rattle.std.proofs.Common.{◌≡◌, ℕ, zero, suc, ◌+◌, ◌-◌, ◌*◌, ◌/◌, ◌%◌, ◌^◌, ◌<◌, ◌≤◌, List, [], ◌∷◌, ◌++◌, length, replicate, refl, ap, ◌∙◌, sym, arith}
use Rattle.std.proofs.lemmas.List.{append_assoc, append-nil}
use Rattle.std.proofs.lemmas.List.Concat.{flat_map-append}
use Rattle.std.specs.Prelude.{bit_and}
use Rattle.std.proofs.lemmas.Nat.{and_mask, pow-add, shl-shr, shl_whole}
use Rattle.std.proofs.Math.Nat.{mul_assoc, pow-le-pow_right}
use Rattle.cmap_binary.specs.PrefixWords.{bits, bits_of}
use Rattle.cmap_binary.proofs.BitsOfBytes.{bits_of-split, length-bits_of}

-- one bit more
pub bits_of-push : (count n bit : ℕ) → bit < 2 → bits_of (count + 1) (n * 2 + bit) ≡ bits_of count n ++ bit ∷ []
bits_of-push count n bit small =
    let high : (n * 2 + bit) / 2 ^ 1 ≡ n = omega arith in
    let low : (n * 2 + bit) / 2 ^ 0 % 2 ≡ bit = omega arith in
    bits_of-split count 1 (n * 2 + bit) ∙ ap (λ h. bits_of count h ++ bits_of 1 (n * 2 + bit)) high ∙ ap (λ l. bits_of count n ++ l ∷ []) low

-- bits that follow bytes, with one bit more
pub pushed : (bytes : List ℕ) (count n bit : ℕ) → bit < 2 → bits bytes ++ bits_of (count + 1) (n * 2 + bit) ≡ (bits bytes ++ bits_of count n) ++ bit ∷ []
pushed bytes count n bit small = ap (λ bs. bits bytes ++ bs) (bits_of-push count n bit small) ∙ sym (append_assoc (bits bytes) (bits_of count n) (bit ∷ []))

-- a byte that these bits begin
pub padded : (bytes : List ℕ) (count n : ℕ) → count ≤ 8 → bits (bytes ++ n * 2 ^ (8 - count) ∷ []) ≡ (bits bytes ++ bits_of count n) ++ bits_of (8 - count) (n * 2 ^ (8 - count))
padded bytes count n few =
    let e : 8 ≡ count + (8 - count) = omega arith in
    let byte = n * 2 ^ (8 - count) in
    let whole : bits_of 8 byte ≡ bits_of count n ++ bits_of (8 - count) byte =
    ap (λ k. bits_of k byte) e ∙ bits_of-split count (8 - count) byte ∙ ap (λ h. bits_of count h ++ bits_of (8 - count) byte) (shl-shr n (8 - count)) in
    flat_map-append (bits_of 8) bytes (byte ∷ []) ∙ ap (λ bs. bits bytes ++ bs) (append-nil (bits_of 8 byte) ∙ whole) ∙ sym (append_assoc (bits bytes) (bits_of count n) (bits_of (8 - count) byte))

-- the low bits of a number that is shifted to the left
zero_bits : (count more n : ℕ) → bits_of count (n * 2 ^ (count + more)) ≡ replicate count 0
zero_bits zero more n = refl
zero_bits (suc count) more n =
    let byte = n * 2 ^ (suc count + more) in
    let pair = n * 2 ^ more * 2 in
    let order : suc count + more ≡ more + (1 + count) = omega arith in
    let shifted : byte ≡ pair * 2 ^ count =
    ap (λ k. n * k) (ap (λ k. 2 ^ k) order ∙ pow-add 2 more (1 + count) ∙ ap (λ k. 2 ^ more * k) (pow-add 2 1 count))
    ∙ sym (mul_assoc n (2 ^ more) (2 * 2 ^ count))
    ∙ sym (mul_assoc (n * 2 ^ more) 2 (2 ^ count)) in
    let even : byte / 2 ^ count % 2 ≡ 0 = ap (λ b. b / 2 ^ count % 2) shifted ∙ ap (λ q. q % 2) (shl-shr pair count) ∙ omega arith in
    let next : suc count + more ≡ count + (1 + more) = omega arith in
    ap (λ b. b ∷ bits_of count byte) even ∙ ap (λ bs. 0 ∷ bs) (ap (λ k. bits_of count (n * 2 ^ k)) next ∙ zero_bits count (1 + more) n)

padding : (count n : ℕ) → bits_of count (n * 2 ^ count) ≡ replicate (length (bits_of count (n * 2 ^ count))) 0
padding count n =
    let same : count + 0 ≡ count = omega arith in
    let zeros : bits_of count (n * 2 ^ count) ≡ replicate count 0 = ap (λ k. bits_of count (n * 2 ^ k)) (sym same) ∙ zero_bits count 0 n in
    zeros ∙ ap (λ k. replicate k 0) (sym (length-bits_of count (n * 2 ^ count)))

pub finished : (bytes new view : List ℕ) (count n : ℕ) → 0 < count → count < 8 → n < 2 ^ count → new ≡ bytes ++ n * 2 ^ (8 - count) % 2 ^ 8 ∷ [] → bits bytes ++ bits_of count n ≡ view → (rest : List ℕ) × (bits new ≡ view ++ rest) × (length rest < 8) × (rest ≡ replicate (length rest) 0)
finished bytes new view count n some few small made seen =
    let whole : n * 2 ^ (8 - count) % 2 ^ 8 ≡ n * 2 ^ (8 - count) = shl_whole n count (8 - count) 8 small (omega arith) in
    let rest = bits_of (8 - count) (n * 2 ^ (8 - count)) in
    (rest, ap bits (made ∙ ap (λ b. bytes ++ b ∷ []) whole) ∙ padded bytes count n (omega arith) ∙ ap (λ v. v ++ rest) seen, omega (arith, length-bits_of (8 - count) (n * 2 ^ (8 - count))), padding (8 - count) n)

pub finished_full : (bytes new view : List ℕ) (count n : ℕ) → count ≤ 0 → new ≡ bytes → bits bytes ++ bits_of count n ≡ view → (rest : List ℕ) × (bits new ≡ view ++ rest) × (length rest < 8) × (rest ≡ replicate (length rest) 0)
finished_full bytes new view count n none made seen =
    let e : count ≡ 0 = omega arith in
    let front : bits bytes ++ [] ≡ view = rw e at seen in
    ([], ap bits made ∙ sym (append-nil (bits bytes)) ∙ front ∙ sym (append-nil view), omega arith, refl)

-- one bit more of a number, the high one first
pub bits_of-bit : (left n bit : ℕ) → 0 < left → bit ≡ bit_and (n / 2 ^ (left - 1)) 1 → bit ∷ bits_of (left - 1) n ≡ bits_of left n
bits_of-bit zero n bit some is = absurd (omega arith)
bits_of-bit (suc left) n bit some is =
    let e : suc left - 1 ≡ left = omega arith in
    ap (λ b. b ∷ bits_of (suc left - 1) n) (is ∙ and_mask (n / 2 ^ (suc left - 1)) 1) ∙ ap (λ k. n / 2 ^ k % 2 ∷ bits_of k n) e

-- a number of fewer than eight bits has at most seven
pub few_bits : (count n : ℕ) → count < 8 → n < 2 ^ count → n < 2 ^ 7
few_bits count n few small = omega (arith, small, pow-le-pow_right {n = 2} (omega arith) {i = count} {j = 7} (omega (arith, few)))

-- with a bit after it, a number has one bit more
pub bit_fits : (count n bit : ℕ) → n < 2 ^ count → bit < 2 → n * 2 + bit < 2 ^ (count + 1)
bit_fits count n bit small one = omega (arith, small, one, pow-add 2 count 1)

-- seven bits and one more are a byte
pub filled : (bytes new : List ℕ) (n bit : ℕ) → bit < 2 → new ≡ bytes ++ (n * 2 + bit) ∷ [] → bits new ++ [] ≡ (bits bytes ++ bits_of 7 n) ++ bit ∷ []
filled bytes new n bit small is =
    append-nil (bits new) ∙ ap bits is ∙ flat_map-append (bits_of 8) bytes ((n * 2 + bit) ∷ []) ∙ ap (λ bs. bits bytes ++ bs) (append-nil (bits_of 8 (n * 2 + bit))) ∙ pushed bytes 7 n bit small
