-- How many code words there are of each length, where no word has more than 32 bits.
use Rattle.std.proofs.Common.{◌≡◌, ℕ, zero, suc, ◌+◌, ◌*◌, ◌<◌, ◌≤◌, ◌^◌, inl, inr, List, [], ◌∷◌, ◌++◌, get_or, length, replicate, take, true, refl, ap, ◌∙◌, sym, subst, arith}
use Rattle.std.specs.Prelude.{◌==◌, MatchOption, None, Option, Some, cond}
use Rattle.std.specs.List.{All, Any, count_by}
use Rattle.std.proofs.lemmas.Bool.{cases_Bool, eqb-false}
use Rattle.std.proofs.lemmas.List.{get_or_default}
use Rattle.std.proofs.lemmas.List.Elements.{All-head}
use Rattle.std.proofs.lemmas.List.Folds.{sum_by-replicate}
use Rattle.std.proofs.lemmas.List.Sums.{sum_by-append}
use Rattle.cmap_binary.specs.PrefixWords.{AreWordLengths, CodeWord, lengths_from, lengths_of, zip_words}
use Rattle.cmap_binary_writer.specs.ManyWords.{HasManyWords}
use Rattle.cmap_binary_writer.proofs.Told.{All-back}
use Rattle.cmap_binary_writer.proofs.WordsMade.{lengths-zip_words}

abbrev Fits : ℕ → Type 0
Fits len = (1 ≤ len) × (len ≤ 32)

-- no words are longer
none_longer : (from : ℕ) (counts : List ℕ) → 32 < from → All Fits (lengths_from from counts) → lengths_from from counts ≡ []
none_longer from [] past fit = refl
none_longer from (zero ∷ counts) past fit = none_longer (from + 1) counts (omega (arith, past)) fit
none_longer from (suc count ∷ counts) past fit = absurd (omega (arith, past, (All-head Fits from (replicate count from ++ lengths_from (from + 1) counts) fit).1))

first_lengths : (from most : ℕ) (counts : List ℕ) → from + most ≡ 33 → All Fits (lengths_from from counts) → lengths_from from (take most counts) ≡ lengths_from from counts
first_lengths from zero counts end fit = sym (none_longer from counts (omega (arith, end)) fit)
first_lengths from (suc most) [] end fit = refl
first_lengths from (suc most) (count ∷ counts) end fit = ap (λ ls. replicate count from ++ ls) (first_lengths (from + 1) most counts (omega (arith, end)) (All-back Fits (replicate count from) (lengths_from (from + 1) counts) fit))

-- the first 32 counts have all words
pub all_lengths : (counts : List ℕ) → AreWordLengths (lengths_from 1 counts) → lengths_from 1 (take 32 counts) ≡ lengths_from 1 counts
all_lengths counts sound = first_lengths 1 32 counts (omega arith) sound.lengths

-- as many words as are counted
same_number : (n : ℕ) → (n == n) ≡ true
same_number n = elim (cases_Bool (n == n)) [ inl is ↦ is | inr not ↦ absurd (eqb-false n n not refl) ]

counted : (from : ℕ) (counts : List ℕ) (k : ℕ) → k < length counts → get_or counts k 0 ≤ count_by (λ l. l == from + k) (lengths_from from counts)
counted from [] k within = absurd (omega (arith, within))
counted from (count ∷ counts) zero within =
    let f : ℕ → ℕ = λ l. cond (l == from + 0) 1 0 in
    let here : from + 0 ≡ from = omega arith in
    let one : f from ≡ 1 = ap f (sym here) ∙ ap (λ b. cond b 1 0) (same_number (from + 0)) in
    let first = sum_by-replicate f count from ∙ ap (λ n. count * n) one in
    omega (arith, sum_by-append f (replicate count from) (lengths_from (from + 1) counts), first)
counted from (count ∷ counts) (suc k) within =
    let f : ℕ → ℕ = λ l. cond (l == from + suc k) 1 0 in
    let here : from + 1 + k ≡ from + suc k = omega arith in
    let later = subst (λ n. get_or counts k 0 ≤ count_by (λ l. l == n) (lengths_from (from + 1) counts)) here (counted (from + 1) counts k (omega (arith, within))) in
    omega (arith, sum_by-append f (replicate count from) (lengths_from (from + 1) counts), later)

-- a count that two bytes can't say is that of many words
pub many_words : (counts symbols : List ℕ) (table : List CodeWord) → zip_words (lengths_from 1 counts) symbols ≡ table → AreWordLengths (lengths_from 1 counts) → length symbols ≡ length (lengths_from 1 counts) → Any (λ n. 2 ^ 16 ≤ n) (take 32 counts) → HasManyWords table
many_words counts symbols table words sound each (k, n, within, is, many) =
    let lens : lengths_of table ≡ lengths_from 1 (take 32 counts) = ap lengths_of (sym words) ∙ lengths-zip_words (lengths_from 1 counts) symbols each ∙ sym (all_lengths counts sound) in
    let read : get_or (take 32 counts) k 0 ≡ n = get_or_default (take 32 counts) k 0 n within ∙ is in
    (1 + k, subst (λ ls. 2 ^ 16 ≤ count_by (λ l. l == 1 + k) ls) (sym lens) (omega (arith, many, read, counted 1 (take 32 counts) k within)))

-- the words of as many as are counted are those of the table
pub made_of : {E : Type 0} (seen : E → List CodeWord) (o : Option E) (counts narrow symbols : List ℕ) (table : List CodeWord) → zip_words (lengths_from 1 counts) symbols ≡ table → AreWordLengths (lengths_from 1 counts) → length symbols ≡ length (lengths_from 1 counts) → narrow ≡ take 32 counts
    → MatchOption o (length symbols ≡ length (lengths_from 1 narrow) → AreWordLengths (lengths_from 1 narrow) → ⊥) (λ e. (length symbols ≡ length (lengths_from 1 narrow)) × (seen e ≡ zip_words (lengths_from 1 narrow) symbols)) → MatchOption o (HasManyWords table) (λ e. seen e ≡ table)
made_of seen None counts narrow symbols table words sound each first none =
    let same : lengths_from 1 narrow ≡ lengths_from 1 counts = ap (lengths_from 1) first ∙ all_lengths counts sound in
    absurd (none (each ∙ ap length (sym same)) (subst AreWordLengths (sym same) sound))
made_of seen (Some e) counts narrow symbols table words sound each first made =
    let same : lengths_from 1 narrow ≡ lengths_from 1 counts = ap (lengths_from 1) first ∙ all_lengths counts sound in
    made.1 ∙ ap (λ lens. zip_words lens symbols) same ∙ words
