-- Tables of code words for numbers.
use Rattle.std.proofs.Common.{◌≡◌, ℕ, zero, suc, ◌+◌, ◌-◌, ◌*◌, ◌^◌, ◌<◌, ◌≤◌, Bool, true, false, max, inl, inr, Some, None, List, [], ◌∷◌, ◌++◌, get_or, length, map, replicate, set, take, refl, ap, ◌∙◌, sym, subst, arith}
use Rattle.std.specs.Prelude.{◌==◌, ◌&&◌, MatchOption, Option, cond, nat_le, nat_lt}
use Rattle.std.specs.List.{All, Any, Contains, count_by, sum_by}
use Rattle.std.specs.List.Sorted.{IsNonDecreasing, IsPermutation, IsSortedByKey}
use Rattle.std.specs.Ordering.{is_lt, nat_cmp, ordering_then}
use Rattle.std.specs.declared.cmp.Ordering.{Ordering}
use Rattle.std.proofs.lemmas.Bool.{and_from, and_left, and_parts, and_right, cases_Bool, cases_order, eq-eqb, eqb-true, le-leb, le-ltb, leb-true, lt-leb, lt-ltb, ne_eqb}
use Rattle.std.proofs.lemmas.List.{append-nil, append_assoc, get_or-map, get_or-replicate, get_or-take, length-map, length-replicate, length-take-le, take_more}
use Rattle.std.proofs.lemmas.List.Elements.{All-append, All-contains, All-contains_itself, All-head, All-map, All-nil, All-replicate, All-tail, All-weaker, Contains-get_or}
use Rattle.std.proofs.lemmas.List.Folds.{sum_by-replicate}
use Rattle.std.proofs.lemmas.List.Sorted.{All-permutation, Contains-permutation, IsPermutation-map, IsPermutation-sym, sum_by-IsPermutation}
use Rattle.std.proofs.lemmas.List.Sums.{AllPass-from_list_all, list_all-from_AllPass, sum_by-append, get_or-le-sum_by, sum_by-cons, sum_by-le-sum_by, sum_by-take-le, sum_by_more, sum_by_more_le}
use Rattle.std.proofs.lemmas.Option.{get_or_from_slice_get, none-some, same_Some, slice_get_within}
use Rattle.std.proofs.Math.Pow.{pow_mono}
use Rattle.cmap_binary.specs.PrefixWords.{AreWordLengths, CodeWord, lengths_from, lengths_of, zip_words}
use Rattle.cmap_binary_writer.proofs.Told.{All-back}
use Rattle.cmap_binary_writer.specs.Encoded.{HasOneWordEach}
use Rattle.cmap_bundle_maker.specs.Counted.{AreDistinct, AreSortedWords}
use Rattle.cmap_bundle_maker.specs.Huffman.{Frequency, frequencies_in, huffman_words, is_rarer, times_in}
use Rattle.cmap_bundle_maker.specs.InOrder.{AreInOrder, in_order}
use Rattle.cmap_bundle_maker.specs.Tables.{filled, fits, flat_table, huffman_table, is_shorter, table_for}
use Rattle.cmap_bundle_maker.proofs.HuffmanWords.{all_in_words, all_of_map, from_before, is_before, order_rarer, order_shorter, room_for_words, sum_map, words_sum}
use Rattle.cmap_bundle_maker.proofs.ListsInOrder.{all_kept, contains_map, in_order_is, is_first, is_later, none_added, order_made, ordered_by_next}
use Rattle.cmap_bundle_maker.proofs.NumbersCounted.{earlier}

-- ---- lengths that are counted
none_under : (from : ℕ) (counts : List ℕ) → All (λ l. from ≤ l) (lengths_from from counts)
none_under from [] = All-nil (λ l. from ≤ l)
none_under from (count ∷ counts) = All-append (λ l. from ≤ l) (replicate count from) (lengths_from (from + 1) counts) (All-replicate (λ l. from ≤ l) count from (omega arith)) (All-weaker (λ l. from + 1 ≤ l) (λ l. from ≤ l) (λ l more. omega (arith, more)) (lengths_from (from + 1) counts) (none_under (from + 1) counts))

none_over : (from : ℕ) (counts : List ℕ) → All (λ l. l < from + length counts) (lengths_from from counts)
none_over from [] = All-nil (λ l. l < from + 0)
none_over from (count ∷ counts) =
    let all = count ∷ counts in
    All-append (λ l. l < from + length all) (replicate count from) (lengths_from (from + 1) counts) (All-replicate (λ l. l < from + length all) count from (omega arith)) (All-weaker (λ l. l < from + 1 + length counts) (λ l. l < from + length all) (λ l less. omega (arith, less)) (lengths_from (from + 1) counts) (none_over (from + 1) counts))

none_equal : (n : ℕ) (ls : List ℕ) → All (λ l. n + 1 ≤ l) ls → count_by (λ l. l == n) ls ≡ 0
none_equal n [] more = refl
none_equal n (l ∷ ls) more =
    let above = All-head (λ l. n + 1 ≤ l) l ls more in
    let no = ne_eqb l n (λ e. omega (arith, above, e)) in
    omega (arith, sum_by-cons (λ l. cond (l == n) 1 0) l ls, ap {B = ℕ} (λ b. cond b 1 0) no, none_equal n ls (All-tail (λ l. n + 1 ≤ l) l ls more))

pub counted_lengths : (from : ℕ) (counts : List ℕ) (k : ℕ) → k < length counts → count_by (λ l. l == from + k) (lengths_from from counts) ≡ get_or counts k 0
counted_lengths from [] k within = absurd (omega (arith, within))
counted_lengths from (count ∷ counts) zero within =
    let f : ℕ → ℕ = λ l. cond (l == from + 0) 1 0 in
    let here : from + 0 ≡ from = omega arith in
    let yes = eq-eqb from (from + 0) (sym here) in
    let first = sum_by-replicate f count from ∙ ap (λ n. count * n) (ap {B = ℕ} (λ b. cond b 1 0) yes) in
    let rest = none_equal (from + 0) (lengths_from (from + 1) counts) (All-weaker (λ l. from + 1 ≤ l) (λ l. from + 0 + 1 ≤ l) (λ l more. omega (arith, more)) (lengths_from (from + 1) counts) (none_under (from + 1) counts)) in
    omega (arith, sum_by-append f (replicate count from) (lengths_from (from + 1) counts), first, rest)
counted_lengths from (count ∷ counts) (suc k) within =
    let f : ℕ → ℕ = λ l. cond (l == from + suc k) 1 0 in
    let no = ne_eqb from (from + suc k) (λ e. omega (arith, e)) in
    let first = sum_by-replicate f count from ∙ ap (λ n. count * n) (ap {B = ℕ} (λ b. cond b 1 0) no) in
    let next : from + 1 + k ≡ from + suc k = omega arith in
    let later = subst (λ n. count_by (λ l. l == n) (lengths_from (from + 1) counts) ≡ get_or counts k 0) next (counted_lengths (from + 1) counts k (omega (arith, within))) in
    omega (arith, sum_by-append f (replicate count from) (lengths_from (from + 1) counts), first, later)

replicate_more : (n x : ℕ) → replicate (n + 1) x ≡ replicate n x ++ x ∷ []
replicate_more zero x = refl
replicate_more (suc n) x = let next : suc n + 1 ≡ suc (n + 1) = omega arith in ap (λ m. replicate m x) next ∙ ap (λ xs. x ∷ xs) (replicate_more n x)

no_more : (from : ℕ) (ls : List ℕ) → All (λ l. from + 1 ≤ l) ls → All (λ l. l ≤ from) ls → ls ≡ []
no_more from [] above below = refl
no_more from (l ∷ ls) above below = absurd (omega (arith, All-head (λ l. from + 1 ≤ l) l ls above, All-head (λ l. l ≤ from) l ls below))

-- the longest length once more
pub length_pushed : (from : ℕ) (counts : List ℕ) (k : ℕ) → k < length counts → All (λ l. l ≤ from + k) (lengths_from from counts) → lengths_from from (set counts k (get_or counts k 0 + 1)) ≡ lengths_from from counts ++ (from + k) ∷ []
length_pushed from [] k within most = absurd (omega (arith, within))
length_pushed from (count ∷ counts) zero within most =
    let rest = lengths_from (from + 1) counts in
    let here : from + 0 ≡ from = omega arith in
    let below = All-back (λ l. l ≤ from + 0) (replicate count from) rest most in
    let none = no_more from rest (none_under (from + 1) counts) (All-weaker (λ l. l ≤ from + 0) (λ l. l ≤ from) (λ l le. omega (arith, le)) rest below) in
    ap (λ ls. replicate (count + 1) from ++ ls) none ∙ append-nil (replicate (count + 1) from) ∙ replicate_more count from ∙ ap (λ n. replicate count from ++ n ∷ []) (sym here) ∙ ap (λ ls. ls ++ (from + 0) ∷ []) (sym (append-nil (replicate count from)) ∙ ap (λ ls. replicate count from ++ ls) (sym none))
length_pushed from (count ∷ counts) (suc k) within most =
    let rest = lengths_from (from + 1) counts in
    let next : from + 1 + k ≡ from + suc k = omega arith in
    let below = All-weaker (λ l. l ≤ from + suc k) (λ l. l ≤ from + 1 + k) (λ l le. omega (arith, le)) rest (All-back (λ l. l ≤ from + suc k) (replicate count from) rest most) in
    ap (λ ls. replicate count from ++ ls) (length_pushed (from + 1) counts k (omega (arith, within)) below ∙ ap (λ n. rest ++ n ∷ []) next) ∙ sym (append_assoc (replicate count from) rest ((from + suc k) ∷ []))

-- ---- the lengths of words
abbrev pub word_bits : List CodeWord → List ℕ
word_bits words = map (λ w. max 1 w.len) words

pub lengths_filled : (words : List CodeWord) → lengths_of (map filled words) ≡ word_bits words
lengths_filled [] = refl
lengths_filled (w ∷ words) = ap (λ ls. max 1 w.len ∷ ls) (lengths_filled words)

not_longer : (v w : CodeWord) → is_shorter v w ≡ true → max 1 v.len ≤ max 1 w.len
not_longer v w before = elim (is_before (λ (w : CodeWord). w.len) (λ (w : CodeWord). w.symbol) v w before) [
  | inl less ↦ omega (arith, less)
  | inr tie ↦ omega (arith, tie.0)
]

pub bits_rise : (words : List CodeWord) → AreInOrder is_shorter words → IsNonDecreasing (word_bits words)
bits_rise [] order i j d under within = absurd (omega (arith, within))
bits_rise (w ∷ words) order zero zero d under within = omega arith
bits_rise (w ∷ words) order (suc i) zero d under within = absurd (omega (arith, under))
bits_rise (w ∷ words) (first, order) zero (suc j) d under within = All-map (λ l. max 1 w.len ≤ l) (λ (v : CodeWord). max 1 v.len) words (All-weaker (λ v. is_shorter w v ≡ true) (λ v. max 1 w.len ≤ max 1 v.len) (λ v before. not_longer w v before) words first) j d (omega (arith, within))
bits_rise (w ∷ words) (first, order) (suc i) (suc j) d under within = bits_rise words order i j d (omega (arith, under)) (omega (arith, within))

-- ---- tables that fit
abbrev passes : List CodeWord → CodeWord → Bool
passes table w = nat_le w.len 32 && nat_lt (count_by (λ v. v.len == w.len) table) (2 ^ 16)

misfits : (table : List CodeWord) (i : ℕ) (d : CodeWord) → i < length table → passes table (get_or table i d) ≡ false → fits table ≡ false
misfits table i d within fails = elim (cases_Bool (fits table)) [
  | inl yes-fits ↦ let clash : true ≡ false = sym (AllPass-from_list_all (passes table) table yes-fits i d within) ∙ fails in cc
  | inr misfit ↦ misfit
]

same_count : (table : List CodeWord) (l : ℕ) → count_by (λ l'. l' == l) (lengths_of table) ≡ count_by (λ v. v.len == l) table
same_count table l = sum_map (λ l'. cond (l' == l) 1 0) (λ (v : CodeWord). v.len) table

module _ (words : List CodeWord) (i : ℕ) (d : CodeWord) (within : i < length words) where
  at_word : get_or (map filled words) i d ≡ filled (get_or words i d)
  at_word = get_or-map filled words i d d within

  size : length (map filled words) ≡ length words
  size = length-map words filled

  pub too_long : 32 < (get_or words i d).len → fits (map filled words) ≡ false
  too_long long =
      let table = map filled words in
      let w = get_or table i d in
      let len : w.len ≡ max 1 (get_or words i d).len = ap (λ (w : CodeWord). w.len) at_word in
      misfits table i d (omega (arith, within, size)) (and_left (nat_le w.len 32) (nat_lt (count_by (λ v. v.len == w.len) table) (2 ^ 16)) (lt-leb w.len 32 (omega (arith, len, long))))

  pub too_many : 2 ^ 16 ≤ count_by (λ l. l == max 1 (get_or words i d).len) (word_bits words) → fits (map filled words) ≡ false
  too_many many =
      let table = map filled words in
      let w = get_or table i d in
      let len : w.len ≡ max 1 (get_or words i d).len = ap (λ (w : CodeWord). w.len) at_word in
      let count : count_by (λ v. v.len == w.len) table ≡ count_by (λ l. l == max 1 (get_or words i d).len) (word_bits words) =
      sym (same_count table w.len) ∙ ap (λ ls. count_by (λ l. l == w.len) ls) (lengths_filled words) ∙ ap (λ n. count_by (λ l. l == n) (word_bits words)) len in
      misfits table i d (omega (arith, within, size)) (and_right (nat_le w.len 32) (nat_lt (count_by (λ v. v.len == w.len) table) (2 ^ 16)) (le-ltb (count_by (λ v. v.len == w.len) table) (2 ^ 16) (omega (arith, many, count))))

pub counts_fit : (words : List CodeWord) (counts : List ℕ) → length counts ≡ 32 → All (λ n. n < 2 ^ 16) counts → lengths_from 1 counts ≡ word_bits words → fits (map filled words) ≡ true
counts_fit words counts size small same =
    let table = map filled words in
    let lens : lengths_from 1 counts ≡ lengths_of table = same ∙ sym (lengths_filled words) in
    let over : All (λ l. l < 1 + length counts) (lengths_of table) = subst (All (λ l. l < 1 + length counts)) lens (none_over 1 counts) in
    let under : All (λ l. 1 ≤ l) (lengths_of table) = subst (All (λ l. 1 ≤ l)) lens (none_under 1 counts) in
    list_all-from_AllPass (passes table) table (λ k d within.
    let w = get_or table k d in
    let at : get_or (lengths_of table) k 0 ≡ w.len = get_or-map (λ (w : CodeWord). w.len) table k d 0 within in
    let inside : k < length (lengths_of table) = omega (arith, within, length-map table (λ (w : CodeWord). w.len)) in
    let index = w.len - 1 in
    let back : 1 + index ≡ w.len = omega (arith, at, under k 0 inside) in
    let low : index < length counts = omega (arith, at, over k 0 inside, under k 0 inside) in
    let count : count_by (λ v. v.len == w.len) table ≡ get_or counts index 0 = sym (same_count table w.len) ∙ ap (λ ls. count_by (λ l. l == w.len) ls) (sym lens) ∙ ap (λ n. count_by (λ l. l == n) (lengths_from 1 counts)) (sym back) ∙ counted_lengths 1 counts index low in
    and_from (nat_le w.len 32) (nat_lt (count_by (λ v. v.len == w.len) table) (2 ^ 16)) (le-leb w.len 32 (omega (arith, low, size))) (lt-ltb (count_by (λ v. v.len == w.len) table) (2 ^ 16) (omega (arith, count, small index 0 low))))

-- ---- words and their symbols
abbrev pub symbols_of : List CodeWord → List ℕ
symbols_of table = map (λ w. w.symbol) table

zip_filled : (words : List CodeWord) → zip_words (word_bits words) (symbols_of words) ≡ map filled words
zip_filled [] = refl
zip_filled (w ∷ words) = ap (λ ws. filled w ∷ ws) (zip_filled words)

pub zip_flat : {X : Type 0} (f : X → Frequency) (xs : List X) → zip_words (replicate (length xs) 16) (map (λ x. (f x).number) xs) ≡ flat_table (map f xs)
zip_flat f [] = refl
zip_flat f (x ∷ xs) = ap (λ ws. (record { len = 16; symbol = (f x).number }) ∷ ws) (zip_flat f xs)

-- the words of Huffman's method, sorted, are a table where they fit
pub huffman_lengths : (fs : List Frequency) (words : List CodeWord) → AreSortedWords (huffman_words fs) words → fits (map filled words) ≡ true → AreWordLengths (word_bits words)
huffman_lengths fs words sorted fit =
    let table = map filled words in
    let passed = AllPass-from_list_all (passes table) table fit in
    let short : All (λ w. max 1 w.len ≤ 32) words = all_of_map (λ (w : CodeWord). w.len ≤ 32) filled words (λ k d within. let w = get_or table k d in leb-true w.len 32 (and_parts (nat_le w.len 32) (nat_lt (count_by (λ v. v.len == w.len) table) (2 ^ 16)) (passed k d within)).0) in
    let within : All (λ w. w.len ≤ 32) (huffman_words fs) = All-permutation (λ w. w.len ≤ 32) words (huffman_words fs) (IsPermutation-sym (huffman_words fs) words sorted.same) (All-weaker (λ w. max 1 w.len ≤ 32) (λ w. w.len ≤ 32) (λ w le. omega (arith, le)) words short) in
    let more : (w : CodeWord) → 2 ^ (32 - max 1 w.len) ≤ 2 ^ (32 - w.len) = λ w. pow_mono {i = 32 - max 1 w.len} {j = 32 - w.len} (omega arith) in
    record {
      lengths = All-map (λ l. (1 ≤ l) × (l ≤ 32)) (λ (w : CodeWord). max 1 w.len) words (All-weaker (λ w. max 1 w.len ≤ 32) (λ w. (1 ≤ max 1 w.len) × (max 1 w.len ≤ 32)) (λ w le. (omega arith, le)) words short);
      rising = bits_rise words sorted.order;
      room = omega (arith, sum_map (λ l. 2 ^ (32 - l)) (λ (w : CodeWord). max 1 w.len) words, sum_by-le-sum_by (λ (w : CodeWord). 2 ^ (32 - max 1 w.len)) (λ w. 2 ^ (32 - w.len)) words more, sum_by-IsPermutation (λ (w : CodeWord). 2 ^ (32 - w.len)) (huffman_words fs) words sorted.same, room_for_words fs 32 within);
    }

-- ---- each symbol has one word
twice_in : {X : Type 0} (p : X → Bool) (xs : List X) (i j : ℕ) (d : X) → i < j → j < length xs → p (get_or xs i d) ≡ true → p (get_or xs j d) ≡ true → 2 ≤ count_by p xs
twice_in {X} p xs i j d under within first second =
    let f : X → ℕ = λ x. cond (p x) 1 0 in
    omega (arith, sum_by_more_le f xs j d within, sum_by-take-le f xs (j + 1), sum_by_more f (take j xs) i d (omega (arith, under, within, length-take-le j xs (omega (arith, within)))), ap {B = ℕ} (λ b. cond b 1 0) first, ap {B = ℕ} (λ b. cond b 1 0) second, sum_by-take-le f (take j xs) (i + 1), ap f (get_or-take j xs i d under))

pub one_word_each : (table : List CodeWord) → ((n : ℕ) → count_by (λ w. w.symbol == n) table ≤ 1) → HasOneWordEach table
one_word_each table once i j a b at_i at_j same =
    let n = a.symbol in
    let p : CodeWord → Bool = λ w. w.symbol == n in
    let first = eq-eqb n n refl in
    let second = eq-eqb b.symbol n (sym same) in
    let here = slice_get_within table i a at_i in
    let there = slice_get_within table j b at_j in
    elim (cases_order i j) [
      | inl is ↦ is
      | inr (inl less) ↦ absurd (omega (arith, once n, twice_in p table i j a less there (ap p (get_or_from_slice_get table i a a at_i) ∙ first) (ap p (get_or_from_slice_get table j b a at_j) ∙ second)))
      | inr (inr more) ↦ absurd (omega (arith, once n, twice_in p table j i a more here (ap p (get_or_from_slice_get table j b a at_j) ∙ second) (ap p (get_or_from_slice_get table i a a at_i) ∙ first)))
    ]

pub huffman_once : (words : List CodeWord) → ((n : ℕ) → count_by (λ w. w.symbol == n) words ≤ 1) → HasOneWordEach (map filled words)
huffman_once words once = one_word_each (map filled words) (λ n. omega (arith, once n, sum_map (λ (w : CodeWord). cond (w.symbol == n) 1 0) filled words))

pub flat_once : (fs : List Frequency) → AreDistinct fs → HasOneWordEach (flat_table fs)
flat_once fs once = one_word_each (flat_table fs) (λ n. omega (arith, once n, sum_map (λ (w : CodeWord). cond (w.symbol == n) 1 0) (λ (f : Frequency). record { len = 16; symbol = f.number }) fs))

-- ---- words that are sorted
pub sorted_is : (words sorted : List CodeWord) → AreSortedWords words sorted → sorted ≡ in_order is_shorter words
sorted_is words sorted h = in_order_is is_shorter order_shorter words sorted h.order
    (λ k d within. Contains-permutation words sorted (get_or words k d) h.same (Contains-get_or words k d within))
    (λ k d within. Contains-permutation sorted words (get_or sorted k d) (IsPermutation-sym words sorted h.same) (Contains-get_or sorted k d within))

abbrev pub pair_cmp : ℕ × ℕ → ℕ × ℕ → Ordering
pair_cmp x y = ordering_then (nat_cmp x.0 y.0) (nat_cmp x.1 y.1)

less_first : (a b c d : ℕ) → a < b → is_lt (pair_cmp (a, c) (b, d)) ≡ true
less_first a b c d less = let yes = lt-ltb a b less in rw yes refl

less_second : (a b c d : ℕ) → a ≡ b → c < d → is_lt (pair_cmp (a, c) (b, d)) ≡ true
less_second a b c d same less =
    let no = le-ltb a b (omega (arith, same)) in
    let tie = eq-eqb a b same in
    let yes = lt-ltb c d less in
    rw (no, tie, yes) refl

module _ {X : Type 0} (f : X → CodeWord) (fs : List Frequency) (once : AreDistinct fs) (words sorted : List X) (made : map f words ≡ huffman_words fs) (same : IsPermutation words sorted) (up : IsSortedByKey (λ x. ((f x).len, (f x).symbol)) pair_cmp sorted) where
  moved : IsPermutation (huffman_words fs) (map f sorted)
  moved = subst (λ ws. IsPermutation ws (map f sorted)) made (IsPermutation-map f words sorted same)

  distinct : (n : ℕ) → count_by (λ w. w.symbol == n) (map f sorted) ≤ 1
  distinct n = omega (arith, once n, words_sum (λ m. cond (m == n) 1 0) fs, sum_by-IsPermutation (λ (w : CodeWord). cond (w.symbol == n) 1 0) (huffman_words fs) (map f sorted) moved)

  two_symbols : (k : ℕ) (d : X) → k + 1 < length sorted → (f (get_or sorted k d)).symbol ≡ (f (get_or sorted (k + 1) d)).symbol → ⊥
  two_symbols k d within tie =
      let n = (f (get_or sorted k d)).symbol in
      let twice = twice_in (λ x. (f x).symbol == n) sorted k (k + 1) d (omega arith) within (eq-eqb n n refl) (eq-eqb ((f (get_or sorted (k + 1) d)).symbol) n (sym tie)) in
      omega (arith, twice, distinct n, sum_map (λ (w : CodeWord). cond (w.symbol == n) 1 0) f sorted)

  next_shorter : (k : ℕ) (d : X) → k + 1 < length sorted → is_shorter (f (get_or sorted k d)) (f (get_or sorted (k + 1) d)) ≡ true
  next_shorter k d within =
      let v = f (get_or sorted k d) in
      let w = f (get_or sorted (k + 1) d) in
      let rises = up k d (omega arith) within in
      from_before (λ (w : CodeWord). w.len) (λ (w : CodeWord). w.symbol) v w (elim (cases_order v.len w.len) [
        | inl tie ↦ elim (cases_order v.symbol w.symbol) [
          | inl twice ↦ absurd (two_symbols k d within twice)
          | inr (inl less) ↦ inr (tie, less)
          | inr (inr more) ↦ let clash : true ≡ false = sym (less_second w.len v.len w.symbol v.symbol (sym tie) more) ∙ rises in cc
        ]
        | inr (inl less) ↦ inl less
        | inr (inr more) ↦ let clash : true ≡ false = sym (less_first w.len v.len w.symbol v.symbol more) ∙ rises in cc
      ])

  pub words_sorted : AreSortedWords (huffman_words fs) (map f sorted)
  words_sorted = record { same = moved; order = ordered_by_next is_shorter order_shorter f sorted next_shorter; distinct = distinct }

-- the table that is made of them
pub huffman_made : (fs : List Frequency) (words : List CodeWord) (lens symbols : List ℕ) (o : Option (List CodeWord)) → AreSortedWords (huffman_words fs) words → lens ≡ lengths_of (map filled words) → symbols ≡ symbols_of words → fits (map filled words) ≡ true
    → MatchOption o (length symbols ≡ length lens → AreWordLengths lens → ⊥) (λ table. (length symbols ≡ length lens) × (table ≡ zip_words lens symbols))
    → MatchOption o (fits (huffman_table fs) ≡ false) (λ table. (table ≡ huffman_table fs) × (fits (huffman_table fs) ≡ true) × HasOneWordEach table)
huffman_made fs words lens symbols None sorted lens_are symbols_are fit none =
    let bits = lens_are ∙ lengths_filled words in
    absurd (none (omega (arith, ap length symbols_are, ap length bits, length-map words (λ (w : CodeWord). w.symbol), length-map words (λ (w : CodeWord). max 1 w.len))) (subst AreWordLengths (sym bits) (huffman_lengths fs words sorted fit)))
huffman_made fs words lens symbols (Some table) sorted lens_are symbols_are fit (each, is) =
    let bits = lens_are ∙ lengths_filled words in
    let all = is ∙ ap (λ ls. zip_words ls symbols) bits ∙ ap (zip_words (word_bits words)) symbols_are ∙ zip_filled words in
    let here = ap (map filled) (sorted_is (huffman_words fs) words sorted) in
    (all ∙ here, ap fits (sym here) ∙ fit, subst HasOneWordEach (sym all) (huffman_once words sorted.distinct))

pub huffman_misfit : (fs : List Frequency) (words : List CodeWord) → AreSortedWords (huffman_words fs) words → fits (map filled words) ≡ false → fits (huffman_table fs) ≡ false
huffman_misfit fs words sorted misfit = ap (λ ws. fits (map filled ws)) (sym (sorted_is (huffman_words fs) words sorted)) ∙ misfit

-- ---- words that are counted
module _ {X : Type 0} (f : X → CodeWord) (xs : List X) (counts : List ℕ) (i k : ℕ) (d : X) (within : i < length xs) (index : k ≡ (f (get_or xs i d)).len - 1) where
  word_here : get_or (map f xs) i (f d) ≡ f (get_or xs i d)
  word_here = get_or-map f xs i d (f d) within

  words_size : length (map f xs) ≡ length xs
  words_size = length-map xs f

  bits_at : get_or (word_bits (map f xs)) i 0 ≡ 1 + k
  bits_at =
      let len : (get_or (map f xs) i (f d)).len ≡ (f (get_or xs i d)).len = ap (λ (w : CodeWord). w.len) word_here in
      omega (arith, get_or-map (λ (w : CodeWord). max 1 w.len) (map f xs) i (f d) 0 (omega (arith, within, words_size)), len, index)

  pub none_counted : 32 ≤ k → fits (map filled (map f xs)) ≡ false
  none_counted past = too_long (map f xs) i (f d) (omega (arith, within, words_size)) (omega (arith, past, index, ap (λ (w : CodeWord). w.len) word_here))

  module _ (counted : lengths_from 1 counts ≡ take i (word_bits (map f xs))) (inside : k < length counts) where
    pub over_many : 2 ^ 16 ≤ get_or counts k 0 + 1 → fits (map filled (map f xs)) ≡ false
    over_many many =
        let ls = word_bits (map f xs) in
        let w = get_or (map f xs) i (f d) in
        let len : max 1 w.len ≡ 1 + k = omega (arith, index, ap (λ (w : CodeWord). w.len) word_here) in
        let yes = eq-eqb (get_or ls i 0) (1 + k) bits_at in
        let one : ℕ → ℕ = λ l. cond (l == 1 + k) 1 0 in
        let past : i < length ls = omega (arith, within, words_size, length-map (map f xs) (λ (w : CodeWord). max 1 w.len)) in
        let count : 2 ^ 16 ≤ count_by (λ l. l == 1 + k) ls = omega (arith, many, counted_lengths 1 counts k inside, ap (sum_by one) counted, sum_by_more one ls i 0 past, ap {B = ℕ} (λ b. cond b 1 0) yes, sum_by-take-le one ls (i + 1)) in
        too_many (map f xs) i (f d) (omega (arith, within, words_size)) (subst (λ n. 2 ^ 16 ≤ count_by (λ l. l == n) ls) (sym len) count)

    pub once_counted : AreInOrder is_shorter (map f xs) → (more : ℕ) → more ≡ get_or counts k 0 + 1 → lengths_from 1 (set counts k more) ≡ take (i + 1) (word_bits (map f xs))
    once_counted order more is =
        let ls = word_bits (map f xs) in
        let past : i < length ls = omega (arith, within, words_size, length-map (map f xs) (λ (w : CodeWord). max 1 w.len)) in
        let up = earlier ls i past (bits_rise (map f xs) order) in
        let most = subst (All (λ l. l ≤ 1 + k)) (sym counted) (All-weaker (λ l. l ≤ get_or ls i 0) (λ l. l ≤ 1 + k) (λ l le. omega (arith, le, bits_at)) (take i ls) up) in
        ap (λ n. lengths_from 1 (set counts k n)) is ∙ length_pushed 1 counts k inside most ∙ ap (λ ns. ns ++ (1 + k) ∷ []) counted ∙ ap (λ n. take i ls ++ n ∷ []) (sym bits_at) ∙ sym (take_more ls i 0 past)

-- ---- the symbols of a table are the numbers
abbrev pub HasWordFor : List CodeWord → ℕ → Type 0
HasWordFor table n = Any (λ w. w.symbol ≡ n) table

word_for : (table : List CodeWord) (w : CodeWord) (n : ℕ) → Contains table w → w.symbol ≡ n → HasWordFor table n
word_for table w n (k, within, is) symbol = (k, w, within, is, symbol)

counted_once : {X : Type 0} (p : X → Bool) (xs : List X) (x : X) → Contains xs x → p x ≡ true → 1 ≤ count_by p xs
counted_once {X} p xs x (k, within, is) passed =
    let f : X → ℕ = λ x. cond (p x) 1 0 in
    omega (arith, get_or-le-sum_by f xs k x within, ap f is, ap {B = ℕ} (λ b. cond b 1 0) passed)

is_counted : {X : Type 0} (p : X → Bool) (xs : List X) → 1 ≤ count_by p xs → (x : X) × Contains xs x × (p x ≡ true)
is_counted p [] some = absurd (omega (arith, some))
is_counted p (x ∷ xs) some = elim (cases_Bool (p x)) [
  | inl passes-it ↦ (x, is_first x xs, passes-it)
  | inr fails ↦
      let (y, later, passes-it) = is_counted p xs (omega (arith, some, sum_by-cons (λ x. cond (p x) 1 0) x xs, ap {B = ℕ} (λ b. cond b 1 0) fails)) in
      (y, is_later x y xs later, passes-it)
]

module _ (numbers : List ℕ) where
  abbrev frequency : ℕ → Frequency
  frequency n = record { number = n; times = times_in numbers n }

  all_found : All (λ f. Contains numbers f.number) (frequencies_in numbers)
  all_found = none_added is_rarer order_rarer (λ f. Contains numbers f.number) (map frequency numbers) (All-map (λ f. Contains numbers f.number) frequency numbers (All-contains_itself numbers))

  each_kept : (n : ℕ) → Contains numbers n → Contains (frequencies_in numbers) (frequency n)
  each_kept n among = All-contains (Contains (frequencies_in numbers)) (map frequency numbers) (frequency n) (all_kept is_rarer order_rarer (map frequency numbers)) (contains_map frequency numbers n among)

  huffman_handed : All (λ w. Contains numbers w.symbol) (huffman_table (frequencies_in numbers))
  huffman_handed = All-map (λ w. Contains numbers w.symbol) filled (in_order is_shorter (huffman_words (frequencies_in numbers))) (none_added is_shorter order_shorter (λ w. Contains numbers w.symbol) (huffman_words (frequencies_in numbers)) (all_in_words (Contains numbers) (frequencies_in numbers) all_found))

  huffman_known : (n : ℕ) → Contains numbers n → HasWordFor (huffman_table (frequencies_in numbers)) n
  huffman_known n among =
      let fs = frequencies_in numbers in
      let words = huffman_words fs in
      let yes = eq-eqb n n refl in
      let some = counted_once (λ (f : Frequency). f.number == n) fs (frequency n) (each_kept n among) yes in
      let (w, inside, symbol) = is_counted (λ (w : CodeWord). w.symbol == n) words (omega (arith, some, words_sum (λ m. cond (m == n) 1 0) fs)) in
      word_for (huffman_table fs) (filled w) n (contains_map filled (in_order is_shorter words) w (All-contains (Contains (in_order is_shorter words)) words w (all_kept is_shorter order_shorter words) inside)) (eqb-true w.symbol n symbol)

  flat_handed : All (λ w. Contains numbers w.symbol) (flat_table (frequencies_in numbers))
  flat_handed = All-map (λ (w : CodeWord). Contains numbers w.symbol) (λ f. record { len = 16; symbol = f.number }) (frequencies_in numbers) all_found

  flat_known : (n : ℕ) → Contains numbers n → HasWordFor (flat_table (frequencies_in numbers)) n
  flat_known n among =
      let word : Frequency → CodeWord = λ f. record { len = 16; symbol = f.number } in
      word_for (flat_table (frequencies_in numbers)) (word (frequency n)) n (contains_map word (frequencies_in numbers) (frequency n) (each_kept n among)) refl

  -- each number has a code word, and no other has one
  pub record HasWords (table : List CodeWord) : Type 0 where
    pub known : All (HasWordFor table) numbers
    pub handed : All (λ w. Contains numbers w.symbol) table

  pub has_words : (table : List CodeWord) → table_for numbers ≡ Some table → HasWords table
  has_words table is =
      let fs = frequencies_in numbers in
      elim (cases_Bool (fits (huffman_table fs))) [
        | inl fit ↦
            let same = same_Some (huffman_table fs) table (rw fit at is) in
            subst HasWords same (record { known = λ k d within. huffman_known (get_or numbers k d) (Contains-get_or numbers k d within); handed = huffman_handed })
        | inr misfit ↦ elim (cases_Bool (nat_lt (length fs) (2 ^ 16))) [
          | inl few ↦
              let same = same_Some (flat_table fs) table (rw (misfit, few) at is) in
              subst HasWords same (record { known = λ k d within. flat_known (get_or numbers k d) (Contains-get_or numbers k d within); handed = flat_handed })
          | inr many ↦ absurd (none-some table (rw (misfit, many) at is))
        ]
      ]

-- ---- numbers come once among the frequencies
module _ (numbers : List ℕ) where
  none_again : (f : Frequency) (fs : List Frequency) → f.times ≡ times_in numbers f.number → All (λ g. is_rarer f g ≡ true) fs → All (λ g. g.times ≡ times_in numbers g.number) fs → count_by (λ g. g.number == f.number) fs ≡ 0
  none_again f [] times later each = refl
  none_again f (g ∷ fs) times later each =
      let here = All-head (λ g. is_rarer f g ≡ true) g fs later in
      let other = ne_eqb g.number f.number (λ e. elim (is_before (λ (f : Frequency). f.times) (λ (f : Frequency). f.number) f g here) [
        | inl less ↦ omega (arith, less, times, All-head (λ g. g.times ≡ times_in numbers g.number) g fs each, ap (times_in numbers) e)
        | inr tie ↦ omega (arith, tie.1, e)
      ]) in
      omega (arith, sum_by-cons (λ (g : Frequency). cond (g.number == f.number) 1 0) g fs, ap {B = ℕ} (λ b. cond b 1 0) other, none_again f fs times (All-tail (λ g. is_rarer f g ≡ true) g fs later) (All-tail (λ g. g.times ≡ times_in numbers g.number) g fs each))

  once_each : (fs : List Frequency) → AreInOrder is_rarer fs → All (λ g. g.times ≡ times_in numbers g.number) fs → AreDistinct fs
  once_each [] order each n = omega arith
  once_each (f ∷ fs) (first, order) each n = elim (cases_Bool (f.number == n)) [
    | inl same ↦
        let is : f.number ≡ n = eqb-true f.number n same in
        let none = none_again f fs (All-head (λ g. g.times ≡ times_in numbers g.number) f fs each) first (All-tail (λ g. g.times ≡ times_in numbers g.number) f fs each) in
        omega (arith, sum_by-cons (λ (g : Frequency). cond (g.number == n) 1 0) f fs, ap {B = ℕ} (λ b. cond b 1 0) same, none, ap (λ m. count_by (λ (g : Frequency). g.number == m) fs) is)
    | inr other ↦ omega (arith, sum_by-cons (λ (g : Frequency). cond (g.number == n) 1 0) f fs, ap {B = ℕ} (λ b. cond b 1 0) other, once_each fs order (All-tail (λ g. g.times ≡ times_in numbers g.number) f fs each) n)
  ]

  pub distinct_frequencies : AreDistinct (frequencies_in numbers)
  distinct_frequencies =
      let all = map (frequency numbers) numbers in
      once_each (frequencies_in numbers) (order_made is_rarer order_rarer all) (none_added is_rarer order_rarer (λ g. g.times ≡ times_in numbers g.number) all (All-map (λ g. g.times ≡ times_in numbers g.number) (frequency numbers) numbers (λ k d within. refl)))

  pub order_frequencies : AreInOrder is_rarer (frequencies_in numbers)
  order_frequencies = order_made is_rarer order_rarer (map (frequency numbers) numbers)

-- ---- numbers without a table are many
under_more : (m : ℕ) (fs : List Frequency) → count_by (λ f. nat_lt f.number (suc m)) fs ≤ count_by (λ f. nat_lt f.number m) fs + count_by (λ f. f.number == m) fs
under_more m [] = omega arith
under_more m (f ∷ fs) =
    let later = under_more m fs in
    let all = sum_by-cons (λ (f : Frequency). cond (nat_lt f.number (suc m)) 1 0) f fs in
    let some = sum_by-cons (λ (f : Frequency). cond (nat_lt f.number m) 1 0) f fs in
    let one = sum_by-cons (λ (f : Frequency). cond (f.number == m) 1 0) f fs in
    elim (cases_order f.number m) [
      | inl is ↦ omega (arith, later, all, some, one, ap {B = ℕ} (λ b. cond b 1 0) (lt-ltb f.number (suc m) (omega (arith, is))), ap {B = ℕ} (λ b. cond b 1 0) (eq-eqb f.number m is))
      | inr (inl less) ↦ omega (arith, later, all, some, one, ap {B = ℕ} (λ b. cond b 1 0) (lt-ltb f.number (suc m) (omega (arith, less))), ap {B = ℕ} (λ b. cond b 1 0) (lt-ltb f.number m less))
      | inr (inr more) ↦ omega (arith, later, all, some, one, ap {B = ℕ} (λ b. cond b 1 0) (le-ltb f.number (suc m) (omega (arith, more))))
    ]

none_under_zero : (fs : List Frequency) → count_by (λ f. nat_lt f.number 0) fs ≤ 0
none_under_zero [] = omega arith
none_under_zero (f ∷ fs) = omega (arith, sum_by-cons (λ (f : Frequency). cond (nat_lt f.number 0) 1 0) f fs, ap {B = ℕ} (λ b. cond b 1 0) (le-ltb f.number 0 (omega arith)), none_under_zero fs)

few_under : (fs : List Frequency) → AreDistinct fs → (m : ℕ) → count_by (λ f. nat_lt f.number m) fs ≤ m
few_under fs once zero = none_under_zero fs
few_under fs once (suc m) = omega (arith, under_more m fs, few_under fs once m, once m)

all_under : (fs : List Frequency) (m : ℕ) → All (λ f. f.number < m) fs → count_by (λ f. nat_lt f.number m) fs ≡ length fs
all_under [] m all = refl
all_under (f ∷ fs) m all = omega (arith, sum_by-cons (λ (f : Frequency). cond (nat_lt f.number m) 1 0) f fs, ap {B = ℕ} (λ b. cond b 1 0) (lt-ltb f.number m (All-head (λ f. f.number < m) f fs all)), all_under fs m (All-tail (λ f. f.number < m) f fs all))

pub few_frequencies : (numbers : List ℕ) (m : ℕ) → All (λ n. n < m) numbers → length (frequencies_in numbers) ≤ m
few_frequencies numbers m all =
    let fs = frequencies_in numbers in
    let small = All-weaker (λ (f : Frequency). Contains numbers f.number) (λ f. f.number < m) (λ f among. All-contains (λ n. n < m) numbers f.number all among) fs (all_found numbers) in
    omega (arith, few_under fs (distinct_frequencies numbers) m, all_under fs m small)

pub some_table : (numbers : List ℕ) → length (frequencies_in numbers) < 2 ^ 16 → table_for numbers ≡ None → ⊥
some_table numbers few none =
    let fs = frequencies_in numbers in
    let less = lt-ltb (length fs) (2 ^ 16) few in
    elim (cases_Bool (fits (huffman_table fs))) [
      | inl fit ↦ none-some (huffman_table fs) (sym (rw fit at none))
      | inr misfit ↦ none-some (flat_table fs) (sym (rw (misfit, less) at none))
    ]

-- ---- words of sixteen bits each
pub flat_lengths : (n : ℕ) → lengths_from 1 (set (replicate 16 0) 15 n) ≡ replicate n 16
flat_lengths n = append-nil (replicate n 16)

pub AreWordLengths-flat : (n : ℕ) → n < 2 ^ 16 → AreWordLengths (replicate n 16)
AreWordLengths-flat n few = record {
  lengths = All-replicate (λ l. (1 ≤ l) × (l ≤ 32)) n 16 (omega arith, omega arith);
  rising = λ i j d below inside.
      let few : length {A = ℕ} (replicate n 16) ≡ n = length-replicate n 16 in
      omega (arith, get_or-replicate n i 16 d (omega (arith, few, below, inside)), get_or-replicate n j 16 d (omega (arith, few, inside)));
  room = omega (arith, few, sum_by-replicate (λ l. 2 ^ (32 - l)) n 16);
}
