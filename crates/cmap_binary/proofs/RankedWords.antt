-- The word that begins bits: one that begins them is found, as it is looked for length by length, and one that is found begins them.
use Rattle.std.proofs.Common.{◌≡◌, ℕ, suc, ◌+◌, ◌-◌, ◌*◌, ◌^◌, ◌<◌, ◌≤◌, List, [], ◌∷◌, ◌++◌, inl, inr, length, get_or, take, replicate, Some, refl, ap, ◌∙◌, sym, arith}
use Rattle.std.specs.List.{All}
use Rattle.std.specs.Int.Digits.{number_from_digits_after}
use Rattle.std.proofs.lemmas.Bool.{cases_lt, lt-ltb, le-ltb}
use Rattle.std.proofs.lemmas.Int.Digits.{number_after_lt}
use Rattle.std.proofs.lemmas.List.{get_or-append-add, get_or-replicate, get_or_append_left, length-append, length-replicate, length-take-le, take-append-le, take-replicate}
use Rattle.std.proofs.lemmas.List.Elements.{All-append, All-drop, All-nil, All-replicate, All-take, recursion_from_All}
use Rattle.std.proofs.lemmas.List.Folds.{sum_by-replicate}
use Rattle.std.proofs.lemmas.List.Sums.{sum_by-append}
use Rattle.std.proofs.lemmas.Option.{none-some, same_Some}
use Rattle.std.proofs.Math.Nat.{mul-le-mul_right, mul_assoc, mul_comm, pow-suc}
use Rattle.std.proofs.Math.Seq.{take-append-add}
use Rattle.cmap_binary.specs.PrefixWords.{lengths_from, number_after}
use Rattle.cmap_binary.specs.WordsByLength.{AreBits, Progress, Ranked, with_bit, word_in}

-- the number that bits write after the sum of two others
number_after-add : (m n : ℕ) (ds : List ℕ) → number_from_digits_after 2 (m + n) ds ≡ m * 2 ^ length ds + number_from_digits_after 2 n ds
number_after-add m n [] = omega arith
number_after-add m n (d ∷ ds) =
    let p = 2 ^ length ds in
    let doubled : (m + n) * 2 + d ≡ m * 2 + (n * 2 + d) = omega arith in
    ap (λ k. number_from_digits_after 2 k ds) doubled
    ∙ number_after-add (m * 2) (n * 2 + d) ds
    ∙ ap (λ k. k + number_from_digits_after 2 (n * 2 + d) ds) (mul_assoc m 2 p ∙ ap (λ k. m * k) (mul_comm 2 p ∙ sym (pow-suc 2 (length ds))))

pub lengths_from-least : (len : ℕ) (counts : List ℕ) → All (λ l. len ≤ l) (lengths_from len counts)
lengths_from-least len [] = All-nil (λ l. len ≤ l)
lengths_from-least len (count ∷ counts) =
    All-append (λ l. len ≤ l) (replicate count len) (lengths_from (len + 1) counts) (All-replicate (λ l. len ≤ l) count len (omega arith)) (λ k d h. omega (arith, lengths_from-least (len + 1) counts k d h))

-- the words of one length, and those after them
module _ (count len : ℕ) (later : List ℕ) where
  size : length (replicate count len) ≡ count
  size = length-replicate count len

  pub words_sized : length (replicate count len ++ later) ≡ count + length later
  words_sized = rw size at (length-append (replicate count len) later)

  pub word_here : (k : ℕ) → k < count → (get_or (replicate count len ++ later) k 0 ≡ len) × (number_after (take k (replicate count len ++ later)) len ≡ k)
  word_here k below =
      let f : ℕ → ℕ = λ l. 2 ^ (len - l) in
      let one : len - len ≡ 0 = omega arith in (
        get_or_append_left (replicate count len) later 0 k (omega (arith, size)) ∙ get_or-replicate count k len 0 below,
        ap (λ ls. number_after ls len) (take-append-le k (replicate count len) later (omega (arith, size)) ∙ take-replicate k count len (omega arith)) ∙ omega (arith, sum_by-replicate f k len, ap (λ n. k * 2 ^ n) one),
      )

  pub word_later : (k l : ℕ) → (get_or (replicate count len ++ later) (count + k) 0 ≡ get_or later k 0) × (number_after (take (count + k) (replicate count len ++ later)) l ≡ count * 2 ^ (l - len) + number_after (take k later) l)
  word_later k l =
      let f : ℕ → ℕ = λ j. 2 ^ (l - j) in (
        rw size at (get_or-append-add (replicate count len) later k 0),
        ap (λ ls. number_after ls l) (rw size at (take-append-add (replicate count len) later k)) ∙ omega (arith, sum_by-append f (replicate count len) (take k later), sum_by-replicate f count len),
      )

-- of the words that have more bits than have been read, the one of rank k has len bits: as many bits come next as it has more, and they are as far past as the words before it
pub record Begins (p : Progress) (counts s : List ℕ) (k more len : ℕ) : Type 0 where
  pub longer : len ≡ p.len + more
  pub within : k < length (lengths_from (p.len + 1) counts)
  pub length_is : get_or (lengths_from (p.len + 1) counts) k 0 ≡ len
  pub enough : more ≤ length s
  pub number_is : number_from_digits_after 2 p.past (take more s) ≡ number_after (take k (lengths_from (p.len + 1) counts)) len

pub Begins-more : {p : Progress} {counts s : List ℕ} {k more len : ℕ} → Begins p counts s k more len → p.len < len
Begins-more {p = p} {counts = counts} {k = k} b = omega (arith, b.length_is, lengths_from-least (p.len + 1) counts k 0 b.within)

-- past the words of one bit more
module _ (p : Progress) (count bit : ℕ) (counts s : List ℕ) (k more len : ℕ) where
  abbrev next : ℕ
  next = p.past * 2 + bit

  number_later : len ≡ p.len + suc more → number_after (take (count + k) (lengths_from (p.len + 1) (count ∷ counts))) len ≡ count * 2 ^ more + number_after (take k (lengths_from (p.len + 1 + 1) counts)) len
  number_later longer =
      let e : len - (p.len + 1) ≡ more = omega arith in
      rw e at ((word_later count (p.len + 1) (lengths_from (p.len + 1 + 1) counts) k len).1)

  number_past : more ≤ length s → count ≤ next → number_from_digits_after 2 next (take more s) ≡ count * 2 ^ more + number_from_digits_after 2 (next - count) (take more s)
  number_past enough above =
      let e : next ≡ count + (next - count) = omega arith in
      ap (λ n. number_from_digits_after 2 n (take more s)) e ∙ rw (length-take-le more s enough) at (number_after-add count (next - count) (take more s))

  Begins-longer : count ≤ next → Begins (with_bit p count bit) counts s k more len → Begins p (count ∷ counts) (bit ∷ s) (count + k) (suc more) len
  Begins-longer above b = record {
    longer = omega (arith, b.longer);
    within = omega (arith, b.within, words_sized count (p.len + 1) (lengths_from (p.len + 1 + 1) counts));
    length_is = (word_later count (p.len + 1) (lengths_from (p.len + 1 + 1) counts) k 0).0 ∙ b.length_is;
    enough = omega (arith, b.enough);
    number_is = omega (arith, number_past b.enough above, number_later (omega (arith, b.longer)), b.number_is);
  }

  module _ (bits : AreBits s) (b : Begins p (count ∷ counts) (bit ∷ s) (count + k) (suc more) len) where
    past_words : count ≤ next
    past_words =
        let most = rw (length-take-le more s (omega (arith, b.enough))) at (number_after_lt 2 next (take more s) (recursion_from_All (λ d. d < 2) (take more s) (All-take (λ d. d < 2) more s bits))) in
        elim (cases_lt next count) [
          | inl below ↦ let least : (next + 1) * 2 ^ more ≤ count * 2 ^ more = mul-le-mul_right (2 ^ more) (omega arith) in absurd (omega (arith, most, least, number_later b.longer, b.number_is))
          | inr above ↦ above
        ]

    Begins-rest : Begins (with_bit p count bit) counts s k more len
    Begins-rest = record {
      longer = omega (arith, b.longer);
      within = omega (arith, b.within, words_sized count (p.len + 1) (lengths_from (p.len + 1 + 1) counts));
      length_is = sym (word_later count (p.len + 1) (lengths_from (p.len + 1 + 1) counts) k 0).0 ∙ b.length_is;
      enough = omega (arith, b.enough);
      number_is = omega (arith, number_past (omega (arith, b.enough)) past_words, number_later b.longer, b.number_is);
    }

pub begun_is_found : (counts s : List ℕ) (p : Progress) (k more len : ℕ) → AreBits s → Begins p counts s k more len → word_in p counts s ≡ Some (record { rank = p.rank + k; len = len })
begun_is_found [] s p k more len bits b = absurd (omega (arith, b.within))
begun_is_found (count ∷ counts) [] p k more len bits b = absurd (omega (arith, b.longer, b.enough, Begins-more b))
begun_is_found (count ∷ counts) (bit ∷ s) p k more len bits b =
    elim (cases_lt k count) [
      | inl below ↦
          let (size, number) = word_here count (p.len + 1) (lengths_from (p.len + 1 + 1) counts) k below in
          let long : len ≡ p.len + 1 = sym b.length_is ∙ size in
          let one : more ≡ 1 = omega (arith, long, b.longer) in
          let same : p.past * 2 + bit ≡ k = rw (one, long) at b.number_is ∙ number in
          rw (lt-ltb (p.past * 2 + bit) count (omega (arith, same))) (λ i. Some (record { rank = p.rank + same i; len = sym long i }))
      | inr above ↦
          let j = k - count in
          let less = more - 1 in
          let placed : k ≡ count + j = omega arith in
          let long : more ≡ suc less = omega (arith, b.longer, Begins-more b) in
          let all = rw (placed, long) at b in
          let low = All-drop (λ d. d < 2) 1 (bit ∷ s) bits in
          let rank : p.rank + count + j ≡ p.rank + k = omega arith in
          rw (le-ltb (p.past * 2 + bit) count (past_words p count bit counts s j less len low all))
          (begun_is_found counts s (with_bit p count bit) j less len low (Begins-rest p count bit counts s j less len low all) ∙ (λ i. Some (record { rank = rank i; len = len })))
    ]

pub found_begins : (counts s : List ℕ) (p : Progress) (found : Ranked) → word_in p counts s ≡ Some found → (k more : ℕ) × (found.rank ≡ p.rank + k) × Begins p counts s k more found.len
found_begins [] [] p found is = absurd (none-some found is)
found_begins (count ∷ counts) [] p found is = absurd (none-some found is)
found_begins [] (bit ∷ s) p found is = absurd (none-some found is)
found_begins (count ∷ counts) (bit ∷ s) p found is =
    let here = p.past * 2 + bit in
    let later = lengths_from (p.len + 1 + 1) counts in
    elim (cases_lt here count) [
      | inl below ↦
          let (size, number) = word_here count (p.len + 1) later here below in
          let same = same_Some _ _ (rw (lt-ltb here count below) at is) in
          rw (← same) (here, 1, refl, record { longer = refl; within = omega (arith, words_sized count (p.len + 1) later); length_is = size; enough = omega arith; number_is = sym number })
      | inr above ↦
          let (k, more, rank, b) = found_begins counts s (with_bit p count bit) found (rw (le-ltb here count above) at is) in
          (count + k, suc more, omega (arith, rank), Begins-longer p count bit counts s k more found.len above b)
    ]
