-- A prefix table that is written, and read back.
use Rattle.std.proofs.Common.{◌≡◌, ℕ, suc, ◌+◌, ◌*◌, ◌^◌, ◌<◌, ◌≤◌, List, [], ◌∷◌, ◌++◌, length, map, replicate, refl, ap, ◌∙◌, sym, subst, arith}
use Rattle.std.specs.List.{All, flat_map}
use Rattle.std.proofs.lemmas.List.{append_assoc, append-nil, length-append, length-map, length-replicate}
use Rattle.std.proofs.lemmas.List.Elements.{All-cons, All-head, All-nil, All-tail}
use Rattle.cmap_binary.specs.PrefixWords.{AreWordLengths, CodeWord, IsSound, lengths_from, lengths_of, zip_words}
use Rattle.cmap_binary.specs.Fronts.{FieldAt, RowOf}
use Rattle.cmap_binary.specs.TableFronts.{TableAt}
use Rattle.cmap_binary_writer.specs.Written.{bytes_of, Appends, Writes}
use Rattle.cmap_binary_writer.specs.WordsHeld.{word_seen, words_seen}
use Rattle.cmap_binary_writer.specs.declared.words.Word.{Word}
use Rattle.cmap_binary_writer.proofs.BytesWritten.{length-bytes_of, length-row}
use Rattle.cmap_binary_writer.proofs.FrontsWritten.{FieldAt-written, fields, fields_written}

-- one length more
pub lengths_from-push : (len : ℕ) (counts : List ℕ) (count : ℕ) → lengths_from len (counts ++ count ∷ []) ≡ lengths_from len counts ++ replicate count (len + length counts)
lengths_from-push len [] count = let e : len + 0 ≡ len = omega arith in append-nil (replicate count len) ∙ ap (replicate count) (sym e)
lengths_from-push len (c ∷ counts) count =
    let e : len + 1 + length counts ≡ len + suc (length counts) = omega arith in
    ap (λ ls. replicate c len ++ ls) (lengths_from-push (len + 1) counts count ∙ ap (λ n. lengths_from (len + 1) counts ++ replicate count n) e) ∙ sym (append_assoc (replicate c len) (lengths_from (len + 1) counts) (replicate count (len + suc (length counts))))

-- the bytes of a table
abbrev text : ℕ → List ℕ → List ℕ → List ℕ
text width counts symbols = ((bytes_of 2 1 ++ length counts ∷ []) ++ fields 2 counts) ++ fields width symbols

pub TableAt-written : (width : ℕ) (counts symbols : List ℕ) → All (λ n. n < 2 ^ 16) counts → All (λ n. n < 2 ^ (8 * width)) symbols → length symbols ≡ length (lengths_from 1 counts) → AreWordLengths (lengths_from 1 counts) → Writes (TableAt width) (zip_words (lengths_from 1 counts) symbols) (text width counts symbols)
TableAt-written width counts symbols small fit each sound rest =
    let later = fields width symbols ++ rest in
    let tail = fields 2 counts ++ later in
    let parts : text width counts symbols ++ rest ≡ bytes_of 2 1 ++ (length counts ∷ tail) = simp append_assoc in
    let symbols_are = subst (λ n. RowOf (FieldAt width) n later (symbols, rest)) each (fields_written width symbols rest fit) in
    subst (λ bs. TableAt width bs (zip_words (lengths_from 1 counts) symbols, rest)) (sym parts) (
      counts,
      later,
      (length counts, tail, (1, length counts ∷ tail, FieldAt-written 2 1 (length counts ∷ tail) (omega arith), (length counts, tail, refl, refl)), fields_written 2 counts later small),
      (symbols, rest, symbols_are, (sound, refl)),
    )

-- ---- the symbols of words
symbols_of : List Word → List ℕ
symbols_of words = map (λ w. w.symbol) words

fields-symbols : (width : ℕ) (words : List Word) → flat_map (λ w. bytes_of width w.symbol) words ≡ fields width (symbols_of words)
unfolding symbols_of
fields-symbols width [] = refl
fields-symbols width (w ∷ words) = ap (λ bs. bytes_of width w.symbol ++ bs) (fields-symbols width words)

zip_words-seen : (words : List Word) → zip_words (lengths_of (words_seen words)) (symbols_of words) ≡ words_seen words
unfolding symbols_of
zip_words-seen [] = refl
zip_words-seen (w ∷ words) = ap (λ ps. word_seen w ∷ ps) (zip_words-seen words)

All-symbols : (limit : ℕ) (words : List Word) → All (λ p. p.symbol < limit) (words_seen words) → All (λ n. n < limit) (symbols_of words)
unfolding symbols_of
All-symbols limit [] h = All-nil (λ n. n < limit)
All-symbols limit (w ∷ words) h = All-cons (λ n. n < limit) w.symbol (symbols_of words) (All-head (λ p. p.symbol < limit) (word_seen w) (words_seen words) h) (All-symbols limit words (All-tail (λ p. p.symbol < limit) (word_seen w) (words_seen words) h))

pub table_written : (width m : ℕ) (old a b c d counts : List ℕ) (words : List Word) → a ≡ old ++ bytes_of 2 1 → b ≡ a ++ m ∷ [] → c ≡ b ++ fields 2 counts → d ≡ c ++ flat_map (λ w. bytes_of width w.symbol) words → m ≡ length counts
    → All (λ n. n < 2 ^ 16) counts → All (λ p. p.symbol < 2 ^ (8 * width)) (words_seen words) → IsSound (words_seen words) → lengths_of (words_seen words) ≡ lengths_from 1 counts → Appends old d (Writes (TableAt width) (words_seen words))
unfolding symbols_of
table_written width m old a b c d counts words first second third last size small fit sound lens =
    let symbols = symbols_of words in
    let each : length symbols ≡ length (lengths_from 1 counts) = length-map words (λ w. w.symbol) ∙ sym (length-map words word_seen) ∙ sym (length-map (words_seen words) (λ (w : CodeWord). w.len)) ∙ ap length lens in
    let table : zip_words (lengths_from 1 counts) symbols ≡ words_seen words = ap (λ ls. zip_words ls symbols) (sym lens) ∙ zip_words-seen words in
    let bytes = ((bytes_of 2 1 ++ length counts ∷ []) ++ fields 2 counts) ++ fields width symbols in
    let whole : d ≡ old ++ bytes =
    last ∙ ap (λ bs. c ++ bs) (fields-symbols width words)
    ∙ ap (λ bs. bs ++ fields width symbols) (third ∙ ap (λ bs. bs ++ fields 2 counts) (second ∙ ap (λ bs. bs ++ m ∷ []) first ∙ ap (λ n. (old ++ bytes_of 2 1) ++ n ∷ []) size))
    ∙ simp append_assoc in
    (bytes, whole, subst (λ t. Writes (TableAt width) t bytes) table (TableAt-written width counts symbols small (All-symbols (2 ^ (8 * width)) words fit) each (subst AreWordLengths lens sound)))

-- ---- how long a table is
few_words : (len : ℕ) (counts : List ℕ) → All (λ n. n < 2 ^ 16) counts → length (lengths_from len counts) ≤ 65535 * length counts
few_words len [] small = omega arith
few_words len (count ∷ counts) small =
    let here : count < 2 ^ 16 = All-head (λ n. n < 2 ^ 16) count counts small in
    omega (arith, here, length-append (replicate count len) (lengths_from (len + 1) counts), length-replicate {A = ℕ} count len, few_words (len + 1) counts (All-tail (λ n. n < 2 ^ 16) count counts small))

length-symbols : (width : ℕ) (words : List Word) → width ≤ 4 → length (flat_map (λ w. bytes_of width w.symbol) words) ≤ 4 * length words
length-symbols width [] few = omega arith
length-symbols width (w ∷ words) few = omega (arith, few, length-append (bytes_of width w.symbol) (flat_map (λ (w : Word). bytes_of width w.symbol) words), length-bytes_of width w.symbol, length-symbols width words few)

pub table_len : (width m : ℕ) (words : List Word) (counts old a b c new : List ℕ) → a ≡ old ++ bytes_of 2 1 → b ≡ a ++ m ∷ [] → c ≡ b ++ fields 2 counts → new ≡ c ++ flat_map (λ w. bytes_of width w.symbol) words
    → width ≤ 4 → All (λ n. n < 2 ^ 16) counts → length counts ≤ 32 → lengths_of (words_seen words) ≡ lengths_from 1 counts → length new < length old + 2 ^ 24
table_len width m words counts old a b c new first second third last narrow small few are =
    let size : length words ≡ length (lengths_from 1 counts) = sym (length-map (words_seen words) (λ (w : CodeWord). w.len) ∙ length-map words word_seen) ∙ ap length are in
    omega (arith, size, few, few_words 1 counts small, ap length first, length-append old (bytes_of 2 1), ap length second, length-append {A = ℕ}, ap length third, length-append b (fields 2 counts), length-row 2 counts, ap length last, length-append c (flat_map (λ (w : Word). bytes_of width w.symbol) words), length-symbols width words narrow)
