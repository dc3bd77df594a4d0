-- The ( that are open, byte by byte: those that are open at the end of a text aren't closed.
use Rattle.std.proofs.Common.{◌≡◌, ℕ, ◌+◌, ◌<◌, ◌≤◌, Bool, true, false, List, [], ◌∷◌, ◌++◌, length, get_or, drop, suc, Some, None, ap, refl, sym, ◌∙◌, arith, inl, inr, subst}
use Rattle.std.specs.Prelude.{not, ◌⊎◌}
use Rattle.std.specs.List.{All}
use Rattle.std.proofs.lemmas.Bool.{cases_Bool, ne_eqb, not-false, not-true}
use Rattle.std.proofs.lemmas.Bool.Decides.{nat_tests}
use Rattle.std.proofs.lemmas.List.{at_drop_all, at_drop_more}
use Rattle.std.proofs.lemmas.List.Elements.{All-cons, All-nil}
use Rattle.cmap_tokens.specs.OpenSeen.{Tracks, plain_count}
use Rattle.cmap_tokens.specs.Pieces.{IsUnclosed}
use Rattle.cmap_tokens.specs.Tokens.{Inside, after_byte}
use Rattle.cmap_tokens.specs.TokenReading.{one_more, text_len, opened}
use Rattle.cmap_tokens.specs.declared.token.unclosed.Open.{Open}

abbrev inside : Bool → ℕ → Inside
inside escaped depth = record { escaped = escaped; depth = depth }

-- where what comes after a byte isn't closed, what comes with it isn't
step : (text : List ℕ) (i : ℕ) (old new : Inside) → i < length text → after_byte old (get_or text i 0) ≡ Some new → text_len (Some new) (drop (i + 1) text) ≡ None → text_len (Some old) (drop i text) ≡ None
step text i old new within is none = at_drop_more (text_len (Some old)) text i 0 within ∙ ap (λ o. one_more (text_len o (drop (i + 1) text))) is ∙ ap one_more none

plain_append : (xs ys : List Open) → plain_count (xs ++ ys) ≡ plain_count xs + plain_count ys
plain_append [] ys = omega arith
plain_append (one ∷ xs) ys = elim (cases_Bool one.escaped) [ inl is ↦ rw is (plain_append xs ys) | inr not ↦ rw not (omega (arith, plain_append xs ys)) ]

pub plain_first : (one : Open) (rest : List Open) → not one.escaped ≡ true → plain_count rest ≡ 0 → plain_count (one ∷ rest) ≡ 1
plain_first one rest plain none = rw (not-true one.escaped plain) (omega (arith, none))

pub escaped_first : (one : Open) (rest : List Open) → not one.escaped ≡ false → plain_count rest ≡ 0 → plain_count (one ∷ rest) ≡ 0
escaped_first one rest escaped none = rw (not-false one.escaped escaped) none

one_closed : (depth : ℕ) → 0 < depth → after_byte (inside false (suc depth)) 41 ≡ Some (inside false depth)
one_closed depth deep = grind (arith, nat_tests, deep)

backslash : (escaped : Bool) (depth : ℕ) → after_byte (inside escaped depth) 92 ≡ Some (inside (not escaped) depth)
backslash true depth = refl
backslash false depth = refl

other_byte : (b : ℕ) (escaped : Bool) (depth : ℕ) → (b ≡ 92 → ⊥) → (b ≡ 40 → ⊥) → (escaped ≡ false → b ≡ 41 → ⊥) → after_byte (inside escaped depth) b ≡ Some (inside false depth)
other_byte b true depth plain not_open not_close = refl
other_byte b false depth plain not_open not_close = rw (ne_eqb b 92 plain, ne_eqb b 40 not_open, ne_eqb b 41 (not_close refl)) refl

module _ (text : List ℕ) (i : ℕ) (within : i < length text) where
  -- a byte that opens and closes none
  pub keeps : (old new : Bool) (xs : List Open) → ((depth : ℕ) → after_byte (inside old depth) (get_or text i 0) ≡ Some (inside new depth)) → Tracks text i old xs → Tracks text (i + 1) new xs
  keeps old new [] same tracked = tt
  keeps old new (one ∷ rest) same (is_within, is, none, more) =
      (is_within, is, λ later. none (step text i (inside old (suc (plain_count rest))) (inside new (suc (plain_count rest))) within (same (suc (plain_count rest))) later), keeps old new rest same more)

  -- a ( with a backslash before it or without one
  begun : (one : Open) → one.offset ≡ i → get_or text i 0 ≡ 40 → Tracks text (i + 1) false (one ∷ [])
  begun one at is =
      let next : i + 1 ≡ suc one.offset = omega (arith, at) in
      (omega (arith, at, within), ap (λ n. get_or text n 0) at ∙ is, λ later. subst (λ n. text_len opened (drop n text) ≡ None) next later, tt)

  pub opens_plain : (one : Open) (xs : List Open) → one.offset ≡ i → one.escaped ≡ false → get_or text i 0 ≡ 40 → Tracks text i false xs → Tracks text (i + 1) false (xs ++ one ∷ [])
  opens_plain one [] at plain is tracked = begun one at is
  opens_plain one (x ∷ rest) at plain is (is_within, opens, none, more) =
      let deeper : after_byte (inside false (suc (plain_count rest))) (get_or text i 0) ≡ Some (inside false (suc (plain_count (rest ++ one ∷ [])))) =
      let count : plain_count (one ∷ []) ≡ 1 = rw plain refl in
      let sum : suc (plain_count rest) + 1 ≡ suc (plain_count (rest ++ one ∷ [])) = omega (arith, plain_append rest (one ∷ []), count) in
      rw is (ap (λ n. Some (inside false n)) sum) in
      (is_within, opens, λ later. none (step text i (inside false (suc (plain_count rest))) (inside false (suc (plain_count (rest ++ one ∷ [])))) within deeper later), opens_plain one rest at plain is more)

  pub opens_escaped : (one : Open) (xs : List Open) → one.offset ≡ i → one.escaped ≡ true → get_or text i 0 ≡ 40 → Tracks text i true xs → Tracks text (i + 1) false (xs ++ one ∷ [])
  opens_escaped one [] at escaped is tracked = begun one at is
  opens_escaped one (x ∷ rest) at escaped is (is_within, opens, none, more) =
      let same : suc (plain_count rest) ≡ suc (plain_count (rest ++ one ∷ [])) =
      let count : plain_count (one ∷ []) ≡ 0 = rw escaped refl in omega (arith, plain_append rest (one ∷ []), count) in
      (is_within, opens, λ later. none (step text i (inside true (suc (plain_count rest))) (inside false (suc (plain_count (rest ++ one ∷ [])))) within (ap (λ n. Some (inside false n)) same) later), opens_escaped one rest at escaped is more)

  -- a ) that closes one
  pub closes : (ys dropped : List Open) → plain_count dropped ≡ 1 → get_or text i 0 ≡ 41 → Tracks text i false (ys ++ dropped) → Tracks text (i + 1) false ys
  closes [] dropped one is tracked = tt
  closes (y ∷ rest) dropped one is (is_within, opens, none, more) =
      let less : after_byte (inside false (suc (plain_count (rest ++ dropped)))) (get_or text i 0) ≡ Some (inside false (suc (plain_count rest))) =
      let count : suc (plain_count (rest ++ dropped)) ≡ suc (suc (plain_count rest)) = omega (arith, plain_append rest dropped, one) in
      rw (is, count) (one_closed (suc (plain_count rest)) (omega arith)) in
      (is_within, opens, λ later. none (step text i (inside false (suc (plain_count (rest ++ dropped)))) (inside false (suc (plain_count rest))) within less later), closes rest dropped one is more)

-- each kind of byte, by what it is at this index
pub backslash_passed : (text : List ℕ) (i b : ℕ) (escaped : Bool) (xs : List Open) → i < length text → b ≡ get_or text i 0 → b ≡ 92 → Tracks text i escaped xs → Tracks text (i + 1) (not escaped) xs
backslash_passed text i b escaped xs within at is tracked = keeps text i within escaped (not escaped) xs (λ depth. rw (sym at ∙ is) (backslash escaped depth)) tracked

pub other_passed : (text : List ℕ) (i b : ℕ) (escaped : Bool) (xs : List Open) → i < length text → b ≡ get_or text i 0 → (b ≡ 92 → ⊥) → (b ≡ 40 → ⊥) → (escaped ≡ false → b ≡ 41 → ⊥) → Tracks text i escaped xs → Tracks text (i + 1) false xs
other_passed text i b escaped xs within at plain not_open not_close tracked = keeps text i within escaped false xs (λ depth. rw (sym at) (other_byte b escaped depth plain not_open not_close)) tracked

pub open_passed : (text : List ℕ) (i b : ℕ) (escaped : Bool) (xs : List Open) → i < length text → b ≡ get_or text i 0 → b ≡ 40 → Tracks text i escaped xs → Tracks text (i + 1) false (xs ++ record { offset = i; escaped = escaped } ∷ [])
open_passed text i b true xs within at is tracked = opens_escaped text i within _ xs refl refl (sym at ∙ is) tracked
open_passed text i b false xs within at is tracked = opens_plain text i within _ xs refl refl (sym at ∙ is) tracked

-- an empty list tracks nothing
pub close_passed : (text : List ℕ) (i b : ℕ) (old new : List Open) → i < length text → b ≡ get_or text i 0 → b ≡ 41 → (dropped : List Open) × (old ≡ new ++ dropped) × ((new ≡ []) ⊎ (plain_count dropped ≡ 1)) → Tracks text i false old → Tracks text (i + 1) false new
close_passed text i b old new within at is (dropped, whole, inl none) tracked = rw none tt
close_passed text i b old new within at is (dropped, whole, inr one) tracked = closes text i within new dropped one (sym at ∙ is) (rw whole at tracked)

-- at the end
pub ended : (text : List ℕ) (i : ℕ) (escaped : Bool) (xs : List Open) → length text ≤ i → Tracks text i escaped xs → All (λ one. IsUnclosed text one.offset) xs
ended text i escaped [] past tracked = All-nil (λ one. IsUnclosed text one.offset)
ended text i escaped (one ∷ rest) past (is_within, opens, none, more) = All-cons (λ one. IsUnclosed text one.offset) one rest (is_within, opens, none (at_drop_all (text_len (Some (inside escaped (suc (plain_count rest))))) text i past)) (ended text i escaped rest past more)
