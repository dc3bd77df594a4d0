-- The code word of a table that begins bits is the one that is found by how many words there are of each length.
use Rattle.std.proofs.Common.{◌≡◌, ℕ, zero, suc, ◌+◌, ◌<◌, ◌≤◌, List, [], ◌∷◌, ◌++◌, length, get_or, take, drop, Some, None, refl, ap, ◌∙◌, sym, arith}
use Rattle.std.specs.List.{slice_get}
use Rattle.std.proofs.lemmas.List.{append-nil, length-append, length-map, length-take-le, take-append-drop, take_at}
use Rattle.std.proofs.lemmas.List.Elements.{All-take}
use Rattle.std.proofs.lemmas.Option.{none-some, same_Some, slice_get_within}
use Rattle.cmap_binary.specs.PrefixWords.{BeginsAt, CodeWord, Decodes, IsPrefixFree, IsSound, IsWord, lengths_from, lengths_of, zip_words}
use Rattle.cmap_binary.specs.WordsByLength.{AreBits, IsFirst, IsTable, Ranked, first_word, start, words_of}
use Rattle.cmap_binary.proofs.RankedWords.{Begins, begun_is_found, found_begins}

-- ---- code words that are made of lengths and symbols
lengths-zip_words : (lens symbols : List ℕ) → length symbols ≡ length lens → lengths_of (zip_words lens symbols) ≡ lens
lengths-zip_words [] symbols each = refl
lengths-zip_words (l ∷ lens) [] each = absurd (omega arith)
lengths-zip_words (l ∷ lens) (s ∷ symbols) each = ap (λ ls. l ∷ ls) (lengths-zip_words lens symbols (omega arith))

slice_get-zip_words : (lens symbols : List ℕ) (i : ℕ) → length symbols ≡ length lens → i < length lens → slice_get (zip_words lens symbols) i ≡ Some (record { len = get_or lens i 0; symbol = get_or symbols i 0 })
slice_get-zip_words [] symbols i each h = absurd (omega arith)
slice_get-zip_words (l ∷ lens) [] i each h = absurd (omega arith)
slice_get-zip_words (l ∷ lens) (s ∷ symbols) zero each h = refl
slice_get-zip_words (l ∷ lens) (s ∷ symbols) (suc i) each h = slice_get-zip_words lens symbols i (omega arith) (omega arith)

-- ---- the code words of a table
module _ {counts symbols : List ℕ} (table : IsTable counts symbols) where
  pub lens_are : lengths_of (words_of counts symbols) ≡ lengths_from 1 counts
  lens_are = lengths-zip_words (lengths_from 1 counts) symbols table.a_symbol_each

  pub IsSound-table : IsSound (words_of counts symbols)
  IsSound-table = rw lens_are table.sound

  IsWord-begins : (stream : List ℕ) (i : ℕ) (entry : CodeWord) (word rest : List ℕ) → IsWord (words_of counts symbols) i entry word → stream ≡ word ++ rest → Begins start counts stream i entry.len entry.len
  IsWord-begins stream i entry word rest is cut =
      let within : i < length (lengths_from 1 counts) = omega (arith, slice_get_within (words_of counts symbols) i entry is.entry_is, ap length lens_are, length-map (words_of counts symbols) (λ (w : CodeWord). w.len)) in
      let front : take entry.len stream ≡ word = ap (take entry.len) cut ∙ take_at word rest entry.len is.length_is in
      record {
        longer = omega arith;
        within = within;
        length_is = ap (λ (w : CodeWord). w.len) (same_Some _ _ (sym (slice_get-zip_words (lengths_from 1 counts) symbols i table.a_symbol_each within) ∙ is.entry_is));
        enough = omega (arith, ap length cut, length-append word rest, is.length_is);
        number_is = rw (front, ← lens_are) is.number_is;
      }

  -- a word that begins the bits is found
  begun : (stream : List ℕ) (i : ℕ) → AreBits stream → BeginsAt (words_of counts symbols) stream i → (len : ℕ) × (first_word counts stream ≡ Some (record { rank = 0 + i; len = len }))
  begun stream i bits (word, rest, (entry, is), cut) = (entry.len, begun_is_found counts stream start i entry.len entry.len bits (IsWord-begins stream i entry word rest is cut))

  pub BeginsAt-only : (stream : List ℕ) → AreBits stream → (i j : ℕ) → BeginsAt (words_of counts symbols) stream i → BeginsAt (words_of counts symbols) stream j → i ≡ j
  BeginsAt-only stream bits i j p q = omega (arith, ap (λ (w : Ranked). w.rank) (same_Some _ _ (sym (begun stream i bits p).1 ∙ (begun stream j bits q).1)))

  pub BeginsAt-none : (stream : List ℕ) → AreBits stream → first_word counts stream ≡ None → (i : ℕ) → BeginsAt (words_of counts symbols) stream i → ⊥
  BeginsAt-none stream bits none i p = none-some _ (sym none ∙ (begun stream i bits p).1)

  pub IsPrefixFree-table : IsPrefixFree (words_of counts symbols)
  IsPrefixFree-table i j word rest p q = BeginsAt-only (word ++ rest) q.1.are_bits i j (word, rest, p, refl) (word ++ rest, [], q, sym (append-nil (word ++ rest)))

  -- what is found begins the bits
  pub first_decodes : (stream : List ℕ) (symbol len : ℕ) → AreBits stream → IsFirst counts symbols stream symbol len → Decodes (words_of counts symbols) stream symbol len (drop len stream) × (len ≤ length stream)
  first_decodes stream symbol len bits (rank, is, symbol_is) =
      let (k, more, found, b) = found_begins counts stream start _ is in
      let at : k ≡ rank = omega (arith, found) in
      let size : more ≡ len = omega (arith, b.longer) in
      let word = rw (at, size) at b in (
        record {
          index = rank;
          word = take len stream;
          word_is = record {
            entry_is = rw (word.length_is, ← symbol_is) at (slice_get-zip_words (lengths_from 1 counts) symbols rank table.a_symbol_each word.within);
            are_bits = All-take (λ d. d < 2) len stream bits;
            length_is = length-take-le len stream word.enough;
            number_is = rw (← lens_are) at word.number_is;
          };
          bits_are = sym (take-append-drop len stream);
        },
        word.enough,
      )

  pub first_few : (stream : List ℕ) (symbol len : ℕ) → IsFirst counts symbols stream symbol len → len ≤ 32
  first_few stream symbol len (rank, is, symbol_is) =
      let (k, more, found, b) = found_begins counts stream start _ is in
      omega (arith, b.length_is, table.sound.lengths k 0 b.within)
