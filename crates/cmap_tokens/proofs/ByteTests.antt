-- What a test of bytes tells of a byte, and of the bytes that a text begins with.
use Rattle.std.proofs.Common.{◌≡◌, ℕ, ◌+◌, ◌<◌, ◌≤◌, Bool, true, false, ◌==◌, List, [], ◌∷◌, ◌++◌, length, get_or, take, drop, zero, suc, one-add, refl, sym, ap, ◌∙◌, subst, inl, inr, arith}
use Rattle.std.specs.Prelude.{Option, None, Some, if◌then◌else◌}
use Rattle.std.proofs.lemmas.Option.{none-some}
use Rattle.std.specs.List.{list_any, list_all, prefix_len}
use Rattle.std.proofs.lemmas.Bool.{and_from, and_parts, both_ways, cases_Bool, cases_lt, eqb-true, false_from_ne_true, false≢true, ne_eqb, or_from, or_parts}
use Rattle.std.proofs.lemmas.List.{get_or_past}
use Rattle.cmap_tokens.specs.Bytes.{begins}
use Rattle.cmap_tokens.specs.TokenReading.{begins_with}

-- what a test chose in place of nothing
pub chosen : {A : Type 0} (test : Bool) (x : Option A) (y : A) → (if test then x else None) ≡ Some y → (test ≡ true) × (x ≡ Some y)
chosen true x y e = (refl, e)
chosen false x y e = absurd (none-some y e)

-- a byte that passes is none that fails
pub other_byte : (p : ℕ → Bool) (k c : ℕ) → p k ≡ false → p c ≡ true → (c == k) ≡ false
other_byte p k c fails passes = ne_eqb c k (λ same. both_ways (p c) (ap p same ∙ fails) passes)

-- by whether a byte is this one
pub by_byte : (b k : ℕ) (P : ℕ → Type 0) → P k → ((b == k) ≡ false → P b) → P b
by_byte b k P is other = elim (cases_Bool (b == k)) [ inl same ↦ subst P (sym (eqb-true b k same)) is | inr fails ↦ other fails ]

-- a byte that isn't 0 lies within the text
pub byte_within : (text : List ℕ) (i b : ℕ) → get_or text i 0 ≡ b → 0 < b → i < length text
byte_within text i b is some = elim (cases_lt i (length text)) [ inl within ↦ within | inr past ↦ absurd (omega (arith, is, some, get_or_past text i 0 past)) ]

pub begins_with_is : (c : ℕ) (text : List ℕ) → begins_with c text ≡ true → (rest : List ℕ) × (text ≡ c ∷ rest)
begins_with_is c [] e = absurd (false≢true e)
begins_with_is c (b ∷ rest) e = (rest, ap (λ k. k ∷ rest) (eqb-true b c e))

-- the longest front that passes
pub all_front : (p : ℕ → Bool) (n : ℕ) (text : List ℕ) → n ≤ prefix_len p text → list_all p (take n text) ≡ true
all_front p zero text few = refl
all_front p (suc n) [] few = refl
all_front p (suc n) (b ∷ text) few =
    elim (cases_Bool (p b)) [
      | inl passes ↦ let more = rw passes at few in and_from _ _ passes (all_front p n text (omega (arith, more)))
      | inr fails ↦ let none = rw fails at few in absurd (omega (arith, none))
    ]

pub all_prefix : (p : ℕ → Bool) (text : List ℕ) → list_all p (take (prefix_len p text) text) ≡ true
all_prefix p text = all_front p (prefix_len p text) text (omega arith)

pub prefix_none : (p : ℕ → Bool) (text : List ℕ) → begins p text ≡ false → prefix_len p text ≡ 0
prefix_none p [] stops = refl
prefix_none p (b ∷ text) stops = rw stops refl

pub prefix_len-append_all : (p : ℕ → Bool) (front rest : List ℕ) → list_all p front ≡ true → prefix_len p (front ++ rest) ≡ length front + prefix_len p rest
prefix_len-append_all p [] rest all = omega arith
prefix_len-append_all p (b ∷ front) rest all = let (first, others) = and_parts (p b) (list_all p front) all in rw first (omega (arith, prefix_len-append_all p front rest others))

-- a front that passes is the longest one where what follows doesn't
pub prefix_ends : (p : ℕ → Bool) (front rest : List ℕ) → list_all p front ≡ true → begins p rest ≡ false → prefix_len p (front ++ rest) ≡ length front
prefix_ends p front rest all stops = omega (arith, prefix_len-append_all p front rest all, prefix_none p rest stops)

pub prefix_stops : (p : ℕ → Bool) (text : List ℕ) → begins p (drop (prefix_len p text) text) ≡ false
prefix_stops p [] = refl
prefix_stops p (b ∷ text) = elim (cases_Bool (p b)) [ inl passes ↦ rw (passes, one-add (prefix_len p text)) (prefix_stops p text) | inr fails ↦ rw fails fails ]

-- nor one of several that fail
pub none_of : (p : ℕ → Bool) (c : ℕ) (bytes : List ℕ) → list_any p bytes ≡ false → p c ≡ true → list_any (λ k. c == k) bytes ≡ false
none_of p c [] fail passes = refl
none_of p c (k ∷ bytes) fail passes = let (first, others) = or_parts (p k) (list_any p bytes) fail in or_from _ _ (other_byte p k c first passes) (none_of p c bytes others passes)

pub one_of : (p : ℕ → Bool) (c : ℕ) (bytes : List ℕ) → list_any p bytes ≡ false → list_any (λ k. c == k) bytes ≡ true → p c ≡ false
one_of p c bytes fail is = false_from_ne_true (p c) (λ passes. both_ways _ (none_of p c bytes fail passes) is)

pub all_weaker : (p q : ℕ → Bool) (text : List ℕ) → ((c : ℕ) → p c ≡ true → q c ≡ true) → list_all p text ≡ true → list_all q text ≡ true
all_weaker p q [] weaker all = refl
all_weaker p q (b ∷ text) weaker all = let (first, others) = and_parts (p b) (list_all p text) all in and_from _ _ (weaker b first) (all_weaker p q text weaker others)

pub all_append : (p : ℕ → Bool) (front rest : List ℕ) → list_all p front ≡ true → list_all p rest ≡ true → list_all p (front ++ rest) ≡ true
all_append p [] rest all others = others
all_append p (b ∷ front) rest all others = let (first, more) = and_parts (p b) (list_all p front) all in and_from _ _ first (all_append p front rest more others)
