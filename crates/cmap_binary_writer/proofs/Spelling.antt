-- Symbols that are spelled one after another.
use Rattle.std.proofs.Common.{◌≡◌, ℕ, zero, suc, ◌+◌, ◌*◌, ◌/◌, ◌%◌, ◌^◌, ◌<◌, ◌≤◌, List, [], ◌∷◌, ◌++◌, Some, refl, ap, ◌∙◌, sym, subst, arith}
use Rattle.std.specs.Int.Digits.{number_from_digits, number_from_digits_after}
use Rattle.std.specs.List.{slice_get}
use Rattle.std.specs.Prelude.{option_map}
use Rattle.std.proofs.lemmas.List.{append_assoc, append-nil}
use Rattle.std.proofs.lemmas.List.Elements.{All-cons, All-nil}
use Rattle.std.proofs.lemmas.Nat.{mod-pow-add, mod_below, pow-add}
use Rattle.std.proofs.lemmas.Option.{slice_get-map, slice_get_within, get_or_from_slice_get}
use Rattle.std.proofs.Math.Nat.{add-mul, mod-eq_of_lt, mul_assoc}
use Rattle.cmap_binary.specs.PrefixWords.{CodeWord, IsSound, Decodes, BeginWithWordsOf, bits_of}
use Rattle.cmap_binary.specs.WordsByLength.{AreBits}
use Rattle.cmap_binary.proofs.BitsOfBytes.{length-bits_of}
use Rattle.cmap_binary_writer.specs.Spelled.{HasWord, IsSpelled}
use Rattle.cmap_binary_writer.specs.declared.words.Word.{Word}
use Rattle.cmap_binary_writer.specs.WordsHeld.{word_lengths, word_seen, words_seen, AreWords}

Decodes-more : (table : List CodeWord) (stream : List ℕ) (symbol len : ℕ) (rest more : List ℕ) → Decodes table stream symbol len rest → Decodes table (stream ++ more) symbol len (rest ++ more)
Decodes-more table stream symbol len rest more d = record {
  index = d.index;
  word = d.word;
  word_is = d.word_is;
  bits_are = ap (λ s. s ++ more) d.bits_are ∙ append_assoc d.word rest more;
}

Decodes-word : (table : List CodeWord) (symbol len value : ℕ) → HasWord table symbol len value → Decodes table (bits_of len value) symbol len []
Decodes-word table symbol len value h = record {
  index = h.index;
  word = bits_of len value;
  word_is = h.is;
  bits_are = sym (append-nil (bits_of len value));
}

-- one symbol more
pub IsSpelled-push : (table : List CodeWord) (symbols stream : List ℕ) (symbol len value : ℕ) → IsSpelled table symbols stream → HasWord table symbol len value → IsSpelled table (symbols ++ symbol ∷ []) (stream ++ bits_of len value)
IsSpelled-push table [] stream symbol len value is h =
    subst (λ s. IsSpelled table (symbol ∷ []) (s ++ bits_of len value)) (sym is) (len, [], Decodes-word table symbol len value h, refl)
IsSpelled-push table (s ∷ symbols) stream symbol len value (n, rest, d, later) h =
    (n, rest ++ bits_of len value, Decodes-more table stream s n rest (bits_of len value) d, IsSpelled-push table symbols rest symbol len value later h)

-- whatever follows
pub BeginWithWordsOf-spelled : (table : List CodeWord) (symbols stream more : List ℕ) → IsSpelled table symbols stream → BeginWithWordsOf table symbols (stream ++ more)
BeginWithWordsOf-spelled table [] stream more is = tt
BeginWithWordsOf-spelled table (s ∷ symbols) stream more (n, rest, d, later) = (n, rest ++ more, Decodes-more table stream s n rest more d, BeginWithWordsOf-spelled table symbols rest more later)

-- ---- the number that bits write
AreBits-bits_of : (count n : ℕ) → AreBits (bits_of count n)
AreBits-bits_of zero n = All-nil (λ d. d < 2)
AreBits-bits_of (suc count) n = All-cons (λ d. d < 2) _ _ (mod_below (n / 2 ^ count) 2 (omega arith)) (AreBits-bits_of count n)

stepped : (m d p r : ℕ) → (m * 2 + d) * p + r ≡ m * (2 * p) + (d * p + r)
stepped m d p r = omega (arith, add-mul (m * 2) d p, mul_assoc m 2 p)

number_after-bits_of : (count m n : ℕ) → number_from_digits_after 2 m (bits_of count n) ≡ m * 2 ^ count + n % 2 ^ count
number_after-bits_of zero m n = omega arith
number_after-bits_of (suc count) m n =
    let p = 2 ^ count in
    let d = n / p % 2 in
    let e : 1 + count ≡ suc count = omega arith in
    let whole : 2 * p ≡ 2 ^ suc count = sym (pow-add 2 1 count) ∙ ap (λ k. 2 ^ k) e in
    let low : d * p + n % p ≡ n % 2 ^ suc count = sym (mod-pow-add n 1 count) ∙ ap (λ k. n % 2 ^ k) e in
    number_after-bits_of count (m * 2 + d) n ∙ stepped m d p (n % p) ∙ ap (λ q. m * q + (d * p + n % p)) whole ∙ ap (λ r. m * 2 ^ suc count + r) low

pub number-bits_of : (count n : ℕ) → n < 2 ^ count → number_from_digits 2 (bits_of count n) ≡ n
number-bits_of count n small = omega (arith, number_after-bits_of count 0 n, mod-eq_of_lt small)

-- the word that is held at an index
pub HasWord-held : (words : List Word) (w : Word) (i : ℕ) → IsSound (words_seen words) → AreWords words → slice_get words i ≡ Some w → HasWord (words_seen words) w.symbol w.len w.value
HasWord-held words w i sound held at =
    let entry_is : slice_get (words_seen words) i ≡ Some (word_seen w) = slice_get-map word_seen words i ∙ ap (option_map word_seen) at in
    let len_is : slice_get (word_lengths words) i ≡ Some w.len = slice_get-map (λ (w : CodeWord). w.len) (words_seen words) i ∙ ap (option_map (λ (w : CodeWord). w.len)) entry_is in
    let within = slice_get_within _ i w.len len_is in
    record {
      index = i;
      is = record {
        entry_is = entry_is;
        are_bits = AreBits-bits_of w.len w.value;
        length_is = length-bits_of w.len w.value;
        number_is = number-bits_of w.len w.value (held i w at).1 ∙ (held i w at).0;
      };
      most = subst (λ n. n ≤ 32) (get_or_from_slice_get (word_lengths words) i w.len 0 len_is) (sound.lengths i 0 within).1;
    }
