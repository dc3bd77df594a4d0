-- Code words that are made one after another.
use Rattle.std.proofs.Common.{◌≡◌, ℕ, zero, suc, ◌+◌, ◌-◌, ◌*◌, ◌^◌, ◌<◌, ◌≤◌, ◌⊎◌, inl, inr, List, [], ◌∷◌, ◌++◌, length, get_or, take, Some, refl, ap, ◌∙◌, sym, subst, arith}
use Rattle.std.specs.List.{All, slice_get, sum_by}
use Rattle.std.proofs.lemmas.List.{length-map, length-take-le, map-append, take-append-le, take_at}
use Rattle.std.proofs.lemmas.List.Elements.{All-head, All-tail, All-nil, All-push, All-weaker}
use Rattle.std.proofs.lemmas.List.Sums.{sum_by-cons, sum_by_more_le, sum_by_push}
use Rattle.std.proofs.lemmas.List.Sorted.{IsNonDecreasingBy-push}
use Rattle.std.proofs.lemmas.Nat.{pow-add, pow_pos}
use Rattle.std.proofs.lemmas.Option.{same_Some, none-some}
use Rattle.std.proofs.Math.Nat.{add-mul, mul_assoc, mul-le-mul_right}
use Rattle.std.proofs.Math.Numerals.{add-one}
use Rattle.cmap_binary.specs.PrefixWords.{CodeWord, AreWordLengths, IsSound, lengths_of, number_after, zip_words}
use Rattle.cmap_binary_writer.specs.declared.words.Word.{Word}
use Rattle.cmap_binary_writer.specs.WordsHeld.{word_lengths, word_seen, words_seen, AreWords, AreWordsTo}

-- ---- words as numbers of more bits
pub number_after-longer : (lens : List ℕ) (last len : ℕ) → last ≤ len → All (λ l. (1 ≤ l) × (l ≤ last)) lens → number_after lens len ≡ number_after lens last * 2 ^ (len - last)
number_after-longer [] last len more h = omega arith
number_after-longer (l ∷ lens) last len more h =
    let first = All-head (λ l. (1 ≤ l) × (l ≤ last)) l lens h in
    let split : len - l ≡ (last - l) + (len - last) = omega (arith, first.1) in
    sum_by-cons (λ l. 2 ^ (len - l)) l lens
    ∙ ap (λ s. 2 ^ (len - l) + s) (number_after-longer lens last len more (All-tail (λ l. (1 ≤ l) × (l ≤ last)) l lens h))
    ∙ ap (λ n. n + number_after lens last * 2 ^ (len - last)) (ap (λ n. 2 ^ n) split ∙ pow-add 2 (last - l) (len - last))
    ∙ sym (add-mul (2 ^ (last - l)) (number_after lens last) (2 ^ (len - last)))
    ∙ ap (λ s. s * 2 ^ (len - last)) (sym (sum_by-cons (λ l. 2 ^ (last - l)) l lens))

-- ---- one element more
slice_get-push_cases : {X : Type 0} (xs : List X) (y w : X) (i : ℕ) → slice_get (xs ++ y ∷ []) i ≡ Some w → ((slice_get xs i ≡ Some w) × (i < length xs)) ⊎ ((i ≡ length xs) × (y ≡ w))
slice_get-push_cases [] y w zero e = inr (refl, same_Some y w e)
slice_get-push_cases [] y w (suc i) e = absurd (none-some w e)
slice_get-push_cases (x ∷ xs) y w zero e = inl (e, omega arith)
slice_get-push_cases (x ∷ xs) y w (suc i) e = elim (slice_get-push_cases xs y w i e) [
  | inl h ↦ let l = h.1 in inl (h.0, omega arith)
  | inr h ↦ let l = h.0 in inr (omega arith, h.1)
]

pub AreWordsTo-none : AreWordsTo [] 0 0
AreWordsTo-none = record {
  held = λ i w e. absurd (none-some w e);
  most = omega arith;
  room = omega arith;
  value_is = refl;
  lengths = All-nil (λ l. (1 ≤ l) × (l ≤ 0));
  rising = λ i j d h k. absurd (omega arith);
}

module _ (words : List Word) (last next : ℕ) (w : Word) (h : AreWordsTo words last next) (some : 1 ≤ w.len) (more : last ≤ w.len) (most : w.len ≤ 32) (value : w.value ≡ next * 2 ^ (w.len - last)) (room : w.value < 2 ^ w.len) where
  seen : word_lengths (words ++ w ∷ []) ≡ word_lengths words ++ w.len ∷ []
  seen = ap lengths_of (map-append word_seen words (w ∷ [])) ∙ map-append (λ (w : CodeWord). w.len) (words_seen words) (word_seen w ∷ [])

  size : length (word_lengths words) ≡ length words
  size = length-map (words_seen words) (λ (w : CodeWord). w.len) ∙ length-map words word_seen

  here : w.value ≡ number_after (word_lengths words) w.len
  here = value ∙ ap (λ n. n * 2 ^ (w.len - last)) h.value_is ∙ sym (number_after-longer (word_lengths words) last w.len more h.lengths)

  held : AreWords (words ++ w ∷ [])
  held i v e = elim (slice_get-push_cases words w v i e) [
    | inl before ↦
        let within = before.1 in
        let old = h.held i v before.0 in
        (old.0 ∙ ap (λ ls. number_after ls v.len) (sym (ap (take i) seen ∙ take-append-le i (word_lengths words) (w.len ∷ []) (omega (arith, size)))), old.1)
    | inr last_one ↦
        let front : take i (word_lengths (words ++ w ∷ [])) ≡ word_lengths words = ap (take i) seen ∙ take_at (word_lengths words) (w.len ∷ []) i (size ∙ sym last_one.0) in
        subst (λ v. (v.value ≡ number_after (take i (word_lengths (words ++ w ∷ []))) v.len) × (v.value < 2 ^ v.len)) last_one.1 (here ∙ ap (λ ls. number_after ls w.len) (sym front), room)
  ]

  pub AreWordsTo-push : AreWordsTo (words ++ w ∷ []) w.len (w.value + 1)
  AreWordsTo-push =
      let lens = word_lengths words in
      let alone : w.len - w.len ≡ 0 = omega arith in
      record {
        held = held;
        most = most;
        room = omega arith;
        value_is = ap (λ n. n + 1) here ∙ ap (λ k. number_after lens w.len + 2 ^ k) (sym alone) ∙ sym (sum_by_push (λ l. 2 ^ (w.len - l)) lens w.len) ∙ ap (λ ls. number_after ls w.len) (sym seen);
        lengths = subst (λ ls. All (λ l. (1 ≤ l) × (l ≤ w.len)) ls) (sym seen) (All-push (λ l. (1 ≤ l) × (l ≤ w.len)) lens w.len (All-weaker (λ l. (1 ≤ l) × (l ≤ last)) (λ l. (1 ≤ l) × (l ≤ w.len)) (λ l b. (b.0, omega (arith, b.1))) lens h.lengths) (some, omega arith));
        rising = subst (λ ls. (i j : ℕ) (d : ℕ) → i ≤ j → j < length ls → get_or ls i d ≤ get_or ls j d) (sym seen) (IsNonDecreasingBy-push (λ x. x) lens w.len h.rising (λ d filled. omega (arith, h.lengths (length lens - 1) d (omega arith))));
      }

pub IsSound-made : (words : List Word) (last next : ℕ) → AreWordsTo words last next → IsSound (words_seen words)
IsSound-made words last next h =
    let lens = word_lengths words in
    let whole : last + (32 - last) ≡ 32 = omega (arith, h.most) in
    let all : 2 ^ 32 ≡ 2 ^ last * 2 ^ (32 - last) = ap (λ n. 2 ^ n) (sym whole) ∙ pow-add 2 last (32 - last) in
    let sum : sum_by (λ l. 2 ^ (32 - l)) lens ≡ next * 2 ^ (32 - last) = number_after-longer lens last 32 h.most h.lengths ∙ ap (λ n. n * 2 ^ (32 - last)) (sym h.value_is) in
    record {
      lengths = All-weaker (λ l. (1 ≤ l) × (l ≤ last)) (λ l. (1 ≤ l) × (l ≤ 32)) (λ l b. (b.0, omega (arith, b.1, h.most))) lens h.lengths;
      rising = h.rising;
      room = omega (arith, sum, all, mul-le-mul_right (2 ^ (32 - last)) h.room);
    }

-- ---- words of lengths and symbols
pub lengths-zip_words : (lens symbols : List ℕ) → length symbols ≡ length lens → lengths_of (zip_words lens symbols) ≡ lens
lengths-zip_words [] symbols each = refl
lengths-zip_words (l ∷ lens) [] each = absurd (omega arith)
lengths-zip_words (l ∷ lens) (s ∷ symbols) each = ap (λ ls. l ∷ ls) (lengths-zip_words lens symbols (omega arith))

zip_words-suc : (i : ℕ) (lens symbols : List ℕ) → i < length lens → i < length symbols → zip_words (take (suc i) lens) (take (suc i) symbols) ≡ zip_words (take i lens) (take i symbols) ++ record { len = get_or lens i 0; symbol = get_or symbols i 0 } ∷ []
zip_words-suc i [] symbols h k = absurd (omega arith)
zip_words-suc i (l ∷ lens) [] h k = absurd (omega arith)
zip_words-suc zero (l ∷ lens) (s ∷ symbols) h k = refl
zip_words-suc (suc i) (l ∷ lens) (s ∷ symbols) h k = ap (λ ps. record { len = l; symbol = s } ∷ ps) (zip_words-suc i lens symbols (omega arith) (omega arith))

pub zip_words-more : (i : ℕ) (lens symbols : List ℕ) (words : List Word) (w : Word) → i < length lens → i < length symbols → words_seen words ≡ zip_words (take i lens) (take i symbols) → w.len ≡ get_or lens i 0 → w.symbol ≡ get_or symbols i 0
    → words_seen (words ++ w ∷ []) ≡ zip_words (take (i + 1) lens) (take (i + 1) symbols)
zip_words-more i lens symbols words w h k seen len_is symbol_is =
    map-append word_seen words (w ∷ [])
    ∙ ap (λ ps. ps ++ word_seen w ∷ []) seen
    ∙ ap (λ n. zip_words (take i lens) (take i symbols) ++ record { len = n; symbol = w.symbol } ∷ []) len_is
    ∙ ap (λ n. zip_words (take i lens) (take i symbols) ++ record { len = get_or lens i 0; symbol = n } ∷ []) symbol_is
    ∙ sym (zip_words-suc i lens symbols h k)
    ∙ ap (λ n. zip_words (take n lens) (take n symbols)) (sym (add-one i))

-- ---- no word of the next length is left
rises : (lens : List ℕ) (i : ℕ) → i < length lens → AreWordLengths lens → get_or (0 ∷ lens) i 0 ≤ get_or lens i 0
rises lens zero within sound = omega arith
rises lens (suc i) within sound = sound.rising i (suc i) 0 (omega arith) within

pub no_word_more : (lens symbols : List ℕ) (words : List Word) (last next i : ℕ) → i < length lens → length symbols ≡ length lens → words_seen words ≡ zip_words (take i lens) (take i symbols) → AreWordsTo words last next → last ≡ get_or (0 ∷ lens) i 0
    → (let len = get_or lens i 0 in 1 ≤ len → last ≤ len → len ≤ 32 → 2 ^ len ≤ next * 2 ^ (len - last)) → AreWordLengths lens → ⊥
no_word_more lens symbols words last next i within each seen h last_is full sound =
    let f : ℕ → ℕ = λ l. 2 ^ (32 - l) in
    let len = get_or lens i 0 in
    let b = sound.lengths i 0 within in
    let up : last ≤ len = omega (arith, rises lens i within sound) in
    let same : word_lengths words ≡ take i lens = ap lengths_of seen ∙ lengths-zip_words (take i lens) (take i symbols) (omega (arith, length-take-le i lens (omega arith), length-take-le i symbols (omega arith))) in
    let sum : sum_by f (take i lens) ≡ next * 2 ^ (32 - last) = ap (sum_by f) (sym same) ∙ number_after-longer (word_lengths words) last 32 h.most h.lengths ∙ ap (λ n. n * 2 ^ (32 - last)) (sym h.value_is) in
    let split : 32 - last ≡ (len - last) + (32 - len) = omega (arith, b.1) in
    let parts : next * 2 ^ (32 - last) ≡ next * 2 ^ (len - last) * 2 ^ (32 - len) = ap (λ k. next * k) (ap (λ k. 2 ^ k) split ∙ pow-add 2 (len - last) (32 - len)) ∙ sym (mul_assoc next (2 ^ (len - last)) (2 ^ (32 - len))) in
    let whole : len + (32 - len) ≡ 32 = omega (arith, b.1) in
    let all : 2 ^ 32 ≡ 2 ^ len * 2 ^ (32 - len) = ap (λ n. 2 ^ n) (sym whole) ∙ pow-add 2 len (32 - len) in
    omega (arith, sum, parts, all, mul-le-mul_right (2 ^ (32 - len)) (full b.0 up b.1), sum_by_more_le f lens i 0 within, sound.room, pow_pos (32 - len))
