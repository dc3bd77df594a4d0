use Rattle.std.proofs.Common.{◌≡◌, ℕ, ◌<◌, ◌++◌, List, [], ◌∷◌, inl, inr, length, get_or, ap, sym, subst, arith}
use Rattle.std.proofs.lemmas.Bool.{cases_lt}
use Rattle.std.proofs.lemmas.List.{get_or_append_left, get_or_push, length_push}
use Rattle.cmap_binary.specs.WordsFound.{IsKnown, IsSearchedByte}
use Rattle.cmap_binary.proofs.prefix.words.search_bytes.Goals as goal

one_more : {A : Type 0} (P : ℕ → A → Type 0) (xs : List A) (next : A) → ((k : ℕ) (d : A) → k < length xs → P k (get_or xs k d)) → P (length xs) next → (k : ℕ) (d : A) → k < length (xs ++ next ∷ []) → P k (get_or (xs ++ next ∷ []) k d)
one_more P xs next before here k d within =
    elim (cases_lt k (length xs)) [
      | inl below ↦ rw (get_or_append_left xs (next ∷ []) d k below) (before k d below)
      | inr past ↦ let last : length xs ≡ k = omega (arith, length_push xs next) in rw (get_or_push xs next d k last) (subst (λ n. P n next) last here)
    ]

none_within : {n : ℕ} (k : ℕ) → n ≡ 0 → k < n → ⊥
none_within k none within = omega (arith, none, within)

pub loop-byte-init : goal.loop-byte-init
loop-byte-init c =
    let words = ap length c.in_ok-words.ensures.items in let searches = ap length c.in_ok-searches.ensures.items in
    record {
      words_size = words;
      searches_size = searches;
      words = λ byte other within. absurd (none_within byte words within);
      searches = λ byte other within. absurd (none_within byte searches within);
    }

pub loop-byte-preserved : goal.loop-byte-preserved
loop-byte-preserved c =
    let h = c.loop-byte.invariant in
    let counts = c.args.counts.now in
    let symbols = c.args.symbols.now in
    let (word, looked) = c.search_byte.result in
    record {
      words_size = rw c.in_ok-push.ensures.items (omega (arith, h.words_size, length_push c.loop-byte.words.items word));
      searches_size = rw c.in_ok-push-2.ensures.items (omega (arith, h.searches_size, length_push c.loop-byte.searches.items looked));
      words = rw c.in_ok-push.ensures.items (one_more (IsKnown counts symbols) c.loop-byte.words.items word h.words (subst (λ n. IsKnown counts symbols n word) (sym h.words_size) c.search_byte.ensures.word));
      searches = rw c.in_ok-push-2.ensures.items (one_more (IsSearchedByte counts) c.loop-byte.searches.items looked h.searches (subst (λ n. IsSearchedByte counts n looked) (sym h.searches_size) c.search_byte.ensures.search));
    }
