-- The word that begins bits, looked for bit by bit.
use Rattle.std.proofs.Common.{◌≡◌, ℕ, ◌+◌, ◌*◌, ◌^◌, ◌<◌, ◌≤◌, List, [], ◌∷◌, ◌++◌, inl, inr, length, get_or, drop, Some, None, refl, ap, ◌∙◌, sym, arith}
use Rattle.std.specs.Prelude.{◌⊎◌, Option}
use Rattle.std.proofs.lemmas.Bool.{lt-ltb, le-ltb}
use Rattle.std.proofs.lemmas.List.{append-nil, append_assoc, drop_all, drop_more, get_or_append_left, length-append}
use Rattle.std.proofs.Math.Nat.{pow-suc}
use Rattle.std.proofs.Math.Numerals.{add-one}
use Rattle.cmap_binary.specs.WordsByLength.{IsSearched, IsTable, Progress, Ranked, first_word, start, with_bit, word_in}
use Rattle.cmap_binary.proofs.RankedWords.{Begins-more, found_begins}

pub IsSearched-start : (counts s : List ℕ) → IsSearched counts s start
IsSearched-start counts s = record { enough = omega arith; most = omega arith; small = omega arith; few = omega arith; same = λ more. refl }

-- the bit that comes next, and how many words end with it
pub record NextBit (counts s : List ℕ) (i count bit : ℕ) : Type 0 where
  pub within : i < length s
  pub bit_is : bit ≡ get_or s i 0
  pub small : bit < 2
  pub counted : i < length counts
  pub count_is : count ≡ get_or counts i 0

no_counts : (p : Progress) (s : List ℕ) → word_in p [] s ≡ None
no_counts p [] = refl
no_counts p (bit ∷ s) = refl

module _ {counts s : List ℕ} {p : Progress} (h : IsSearched counts s p) where
  pub IsSearched-more : (later : List ℕ) → IsSearched counts (s ++ later) p
  IsSearched-more later = record {
    enough = omega (arith, h.enough, length-append s later);
    most = h.most;
    small = h.small;
    few = h.few;
    same = λ more. rw append_assoc (h.same (later ++ more));
  }

  -- where no word is left, or no bit
  from_here : first_word counts s ≡ word_in p (drop p.len counts) (drop p.len s)
  from_here = rw append-nil at (h.same [])

  pub searched_counts : length counts ≤ p.len → first_word counts s ≡ None
  searched_counts end = from_here ∙ ap (λ cs. word_in p cs (drop p.len s)) (drop_all p.len counts end) ∙ no_counts p (drop p.len s)

  pub searched_bits : length s ≤ p.len → first_word counts s ≡ None
  searched_bits end = from_here ∙ ap (word_in p (drop p.len counts)) (drop_all p.len s end)

  none_longer : {symbols : List ℕ} → IsTable counts symbols → 32 ≤ p.len → (o : Option Ranked) → first_word counts s ≡ o → o ≡ None
  none_longer table end None is = refl
  none_longer table end (Some found) is =
      let (k, more, rank, word) = found_begins counts s start found is in
      let (j, further, later, after) = found_begins (drop p.len counts) (drop p.len s) p found (sym from_here ∙ is) in
      absurd (omega (arith, Begins-more after, word.length_is, table.sound.lengths k 0 word.within))

  pub searched_all : {symbols : List ℕ} → IsTable counts symbols → 32 ≤ p.len → first_word counts s ≡ None
  searched_all table end = none_longer table end _ refl

  module _ {count bit : ℕ} (at : NextBit counts s p.len count bit) where
    opened : (more : List ℕ) → first_word counts (s ++ more) ≡ word_in p (count ∷ drop (p.len + 1) counts) (bit ∷ drop (p.len + 1) (s ++ more))
    opened more =
        let bits = drop_more (s ++ more) p.len 0 (omega (arith, at.within, length-append s more)) ∙ ap (λ b. b ∷ drop (p.len + 1) (s ++ more)) (get_or_append_left s more 0 p.len at.within ∙ sym at.bit_is) in
        let words = drop_more counts p.len 0 at.counted ∙ ap (λ c. c ∷ drop (p.len + 1) counts) (sym at.count_is) in
        rw (words, bits) at (h.same more)

    pub searched_hit : p.past * 2 + bit < count → (more : List ℕ) → first_word counts (s ++ more) ≡ Some (record { rank = p.rank + (p.past * 2 + bit); len = p.len + 1 })
    searched_hit below more = rw (lt-ltb (p.past * 2 + bit) count below) at (opened more)

    pub symbol_within : {symbols : List ℕ} → IsTable counts symbols → p.past * 2 + bit < count → p.rank + (p.past * 2 + bit) < length symbols
    symbol_within table below =
        let (k, more, rank, word) = found_begins counts (s ++ []) start _ (searched_hit below []) in
        omega (arith, rank, word.within, table.a_symbol_each)

    pub searched_next : count < 2 ^ 32 → p.len < 32 → count ≤ p.past * 2 + bit → IsSearched counts s (with_bit p count bit)
    searched_next fits room above = record {
      enough = omega (arith, at.within);
      most = omega arith;
      small = rw (add-one, pow-suc) (omega (arith, at.small, h.small));
      few = omega (arith, h.few);
      same = λ more. rw (le-ltb (p.past * 2 + bit) count above) at (opened more);
    }

-- whatever follows the bits, where no word is left
pub searched_counts-on : {counts s : List ℕ} {p : Progress} → IsSearched counts s p → length counts ≤ p.len → (more : List ℕ) → first_word counts (s ++ more) ≡ None
searched_counts-on h end more = searched_counts (IsSearched-more h more) end

-- what follows the bits, where they are as many as the longest word has, or nothing does
pub searched_end : {counts symbols s : List ℕ} {p : Progress} → IsTable counts symbols → IsSearched counts s p → (32 ≤ p.len) ⊎ (length s ≤ p.len) → (more : List ℕ) → (32 ≤ length s) ⊎ (more ≡ []) → first_word counts (s ++ more) ≡ None
searched_end table h (inl all) more follows = searched_all (IsSearched-more h more) table all
searched_end table h (inr end) more (inl long) = searched_all (IsSearched-more h more) table (omega (arith, end, long))
searched_end {s = s} table h (inr end) more (inr none) = rw (none, append-nil) (searched_bits h end)
