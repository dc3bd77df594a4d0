-- Texts in UTF-16, character by character.
use Rattle.std.proofs.Common.{◌≡◌, ℕ, ◌+◌, ◌*◌, ◌<◌, ◌==◌, Bool, true, false, ◌&&◌, ltb, List, [], ◌∷◌, ◌++◌, inl, inr, length, get_or, take, drop, ◌-◌, ◌^◌, Option, Some, None, Result, Ok, Err, is_some, option_map, option_and_then, nat_lt, refl, ap, ◌∙◌, sym, subst, arith, append_assoc, append-nil, length-append, length-drop}
use Rattle.std.specs.Prelude.{IfSome, SomeIff, if◌then◌else◌, nat_le}
use Rattle.std.specs.Ordering.{is_le, is_lt, nat_cmp}
use Rattle.std.specs.Bool.{then_some}
use Rattle.std.specs.Option.{IsSomeAnd}
use Rattle.std.specs.Result.{OkIff, OnErr, result_ok}
use Rattle.std.specs.Char.{InScalarRange, IsScalar, encode_utf8}
use Rattle.std.specs.Char.Utf16.{utf16_chars, lone_unit_char, surrogate_pair_char, is_high_surrogate, is_low_surrogate}
use Rattle.std.specs.Str.{chars, IsUtf8}
use Rattle.std.proofs.lemmas.Bool.{and_from, and_parts, cases_Bool, cases_lt, cases_order, cond-false, cond-true, eq-eqb, false≢true, le-leb, le-ltb, lt-leb, lt-ltb, ltb-true, ne_eqb}
use Rattle.std.proofs.lemmas.Bool.Decides.{nat_tests}
use Rattle.std.proofs.lemmas.List.{drop_all, drop_more, get_or_past}
use Rattle.std.proofs.lemmas.Option.{none-some, slice_get-get_or}
use Rattle.std.proofs.lemmas.Result.{OkIff-at_err, OkIff-at_ok}
use Rattle.std.proofs.lemmas.Str.{utf16_chars-nil, chars-append, chars-encodes}
use Rattle.cmap_tokens.proofs.ByteTests.{chosen}
use Rattle.cmap_tokens.specs.Texts.{all_some, characters, one, only_character, shifted, text_at, text_of_characters}

-- what is left of the characters, from an index on
abbrev pub characters_from : List ℕ → ℕ → Option (List ℕ)
characters_from us i = characters (drop i us)

pub characters_end : (front : List ℕ) (last i : ℕ) → length front < i → characters_from (front ++ last ∷ []) i ≡ Some []
characters_end front last i past = ap characters (drop_all i (front ++ last ∷ []) (omega (arith, past, length-append front (last ∷ [])))) ∙ ap all_some utf16_chars-nil

-- ---- a pair of surrogates
order_le : (a b : ℕ) → is_le (nat_cmp a b) ≡ nat_le a b
order_le a b =
    elim (cases_order a b) [
      | inl same ↦ let not_less : nat_lt a b ≡ false = le-ltb a b (omega (arith, same)) in let equal : (a == b) ≡ true = eq-eqb a b same in let at_most : nat_le a b ≡ true = le-leb a b (omega (arith, same)) in rw (not_less, equal, at_most) refl
      | inr (inl less) ↦ let below : nat_lt a b ≡ true = lt-ltb a b less in let at_most : nat_le a b ≡ true = le-leb a b (omega (arith, less)) in rw (below, at_most) refl
      | inr (inr more) ↦
          let not_less : nat_lt a b ≡ false = le-ltb a b (omega (arith, more)) in
          let other : (a == b) ≡ false = ne_eqb a b (λ same. omega (arith, more, same)) in
          let above : nat_le a b ≡ false = lt-leb a b more in
          rw (not_less, other, above) refl
    ]

order_lt : (a b : ℕ) → is_lt (nat_cmp a b) ≡ nat_lt a b
order_lt a b =
    elim (cases_Bool (nat_lt a b)) [
      | inl less ↦ rw less refl
      | inr not_less ↦ elim (cases_Bool (a == b)) [ inl same ↦ rw (not_less, same) refl | inr other ↦ rw (not_less, other) refl ]
    ]

-- a range contains a number, or doesn't
pub contained : (a b x : ℕ) (found is : Bool) → found ≡ (is_le (nat_cmp a x) && is_lt (nat_cmp x b)) → found ≡ is → (nat_le a x && nat_lt x b) ≡ is
contained a b x found is value found_is = sym (value ∙ ap (λ t. t && is_lt (nat_cmp x b)) (order_le a x) ∙ ap (λ t. nat_le a x && t) (order_lt x b)) ∙ found_is

made : (r : Option ℕ) (P : Type 0) (v : ℕ) → SomeIff r P v → is_some r ≡ true → (r ≡ Some v) × P
made None P v value some = absurd (false≢true some)
made (Some x) P v value some = (ap Some value.1, value.0)

pub pair_made : (high low h l : ℕ) (r : Option ℕ) → is_high_surrogate high ≡ true → is_low_surrogate low ≡ true → h ≡ high - 0xD800 → l ≡ low - 0xDC00 → SomeIff r (IsScalar (65536 + h * 1024 + l)) (65536 + h * 1024 + l)
    → (InScalarRange (65536 + h * 1024 + l) → is_some r ≡ true) → (r ≡ (if is_high_surrogate high && is_low_surrogate low then Some (surrogate_pair_char high low) else None)) × IfSome r IsScalar
pair_made high low h l r high_in low_in h_is l_is value succeeds =
    let n = 65536 + h * 1024 + l in
    let (high_from, high_to) = and_parts (nat_le 0xD800 high) (nat_lt high 0xDC00) high_in in
    let (low_from, low_to) = and_parts (nat_le 0xDC00 low) (nat_lt low 0xE000) low_in in
    let high_small : high < 0xDC00 = ltb-true high 0xDC00 high_to in
    let low_small : low < 0xE000 = ltb-true low 0xE000 low_to in
    let (is, scalar) = made r (IsScalar n) n value (succeeds (inr (omega (arith, h_is), omega (arith, h_is, l_is, high_small, low_small)))) in
    let same : n ≡ surrogate_pair_char high low = rw (h_is, l_is) refl in
    (is ∙ ap Some same ∙ sym (cond-true _ _ _ (and_from _ _ high_in low_in)), subst (λ o. IfSome o IsScalar) (sym is) scalar)

-- ---- the character at an index
low_within : (us : List ℕ) (i v : ℕ) → v ≡ get_or us i 0 → is_low_surrogate v ≡ true → i < length us
low_within us i v v_is low = grind (arith, nat_tests, v_is, low, get_or_past us i 0)

pub pair_within : (us : List ℕ) (i u v c : ℕ) → v ≡ get_or us (i + 1) 0 → Some c ≡ (if is_high_surrogate u && is_low_surrogate v then Some (surrogate_pair_char u v) else None) → i + 1 < length us
pair_within us i u v c v_is found =
    let (pair, same) = chosen (is_high_surrogate u && is_low_surrogate v) (Some (surrogate_pair_char u v)) c (sym found) in
    low_within us (i + 1) v v_is (and_parts (is_high_surrogate u) (is_low_surrogate v) pair).1

pub pair_at : (us : List ℕ) (i u v c : ℕ) → i < length us → u ≡ get_or us i 0 → v ≡ get_or us (i + 1) 0 → Some c ≡ (if is_high_surrogate u && is_low_surrogate v then Some (surrogate_pair_char u v) else None)
    → characters_from us i ≡ option_map (λ cs. c ∷ cs) (characters_from us (i + 2))
unfolding utf16_chars
pair_at us i u v c within u_is v_is found =
    elim (cases_Bool (is_high_surrogate u && is_low_surrogate v)) [
      | inl pair ↦
          let next = low_within us (i + 1) v v_is (and_parts (is_high_surrogate u) (is_low_surrogate v) pair).1 in
          let two : i + 1 + 1 ≡ i + 2 = omega arith in
          let same : Some c ≡ Some (surrogate_pair_char u v) = rw pair at found in
          let char : c ≡ surrogate_pair_char u v = cc in
          rw (drop_more us i 0 within, drop_more us (i + 1) 0 next, ← u_is, ← v_is, two, pair, char) refl
      | inr lone ↦ let clash = rw lone at found in cc
    ]

pub lone_at : (us : List ℕ) (i u v : ℕ) → i < length us → u ≡ get_or us i 0 → v ≡ get_or us (i + 1) 0 → None ≡ (if is_high_surrogate u && is_low_surrogate v then Some (surrogate_pair_char u v) else None)
    → characters_from us i ≡ all_some (lone_unit_char u ∷ utf16_chars (drop (i + 1) us))
unfolding utf16_chars
lone_at us i u v within u_is v_is none_found =
    elim (cases_Bool (is_high_surrogate u && is_low_surrogate v)) [
      | inl pair ↦ let clash = rw pair at none_found in cc
      | inr lone ↦
          elim (cases_lt (i + 1) (length us)) [
            | inl next ↦ rw (drop_more us i 0 within, drop_more us (i + 1) 0 next, ← u_is, ← v_is, lone) refl
            | inr past ↦ rw (drop_more us i 0 within, drop_all (i + 1) us (omega (arith, past)), ← u_is) refl
          ]
    ]

-- units spell a character at least
not_empty : (c : ℕ) (o : Option (List ℕ)) → option_map (λ cs. c ∷ cs) o ≡ Some [] → ⊥
not_empty c None e = cc
not_empty c (Some cs) e = cc

first_not_empty : (o : Option ℕ) (found : List (Option ℕ)) → all_some (o ∷ found) ≡ Some [] → ⊥
first_not_empty None found e = cc
first_not_empty (Some c) found e = not_empty c (all_some found) e

characters-some : (us : List ℕ) → 0 < length us → characters us ≡ Some [] → ⊥
unfolding utf16_chars
characters-some [] some e = omega (arith, some)
characters-some (u ∷ []) some e = first_not_empty (lone_unit_char u) [] e
characters-some (u ∷ v ∷ us) some e =
    elim (cases_Bool (is_high_surrogate u && is_low_surrogate v)) [
      | inl pair ↦ not_empty (surrogate_pair_char u v) (characters us) (rw pair at e)
      | inr lone ↦ first_not_empty (lone_unit_char u) (utf16_chars (v ∷ us)) (rw lone at e)
    ]

-- ---- texts of one character, and of more
more_follow : (c : ℕ) (o : Option (List ℕ)) → (o ≡ Some [] → ⊥) → only_character (option_map (λ cs. c ∷ cs) o) ≡ None
more_follow c None some = refl
more_follow c (Some []) some = absurd (some refl)
more_follow c (Some (d ∷ cs)) some = refl

-- the first character is the only one where nothing comes after it
pub only_first : (front : List ℕ) (last c after : ℕ) → let us = front ++ last ∷ [] in characters us ≡ option_map (λ cs. c ∷ cs) (characters_from us after) → then_some (ltb (length front) after) c ≡ only_character (characters us)
only_first front last c after e =
    let us = front ++ last ∷ [] in
    elim (cases_lt (length front) after) [
      | inl past ↦ rw (lt-ltb _ _ past, e, characters_end front last after past) refl
      | inr more ↦ rw (le-ltb _ _ more, e) (sym (more_follow c _ (characters-some (drop after us) (omega (arith, more, length-drop after us, length-append front (last ∷ []))))))
    ]

long : (o : Option (List ℕ)) → (o ≡ Some [] → ⊥) → true ≡ is_some o → None ≡ only_character o → IsSomeAnd o (λ cs. 1 < length cs)
long None some is e = cc
long (Some []) some is e = absurd (some refl)
long (Some (c ∷ [])) some is e = cc
long (Some (c ∷ d ∷ cs)) some is e = omega arith

pub characters-long : (front : List ℕ) (last : ℕ) → let us = front ++ last ∷ [] in true ≡ is_some (characters us) → None ≡ only_character (characters us) → IsSomeAnd (characters us) (λ cs. 1 < length cs)
characters-long front last well not_one = long _ (characters-some (front ++ last ∷ []) (omega (arith, length-append front (last ∷ [])))) well not_one

pub OnErr-holds : {X E P : Type 0} (r : Result X E) → P → OnErr r P
OnErr-holds (Ok x) p = tt
OnErr-holds (Err e) p = p

-- ---- the text that is written
chars-encode : (c : ℕ) → IsScalar c → chars (encode_utf8 c) ≡ c ∷ []
chars-encode c h = ap chars (sym (append-nil (encode_utf8 c))) ∙ chars-encodes (c ∷ []) (ap (λ b. b && true) h)

grown : (cs ds : List ℕ) (c : ℕ) (o : Option (List ℕ)) → ds ≡ cs ++ c ∷ [] → option_map (λ rest. cs ++ rest) (option_map (λ rest. c ∷ rest) o) ≡ option_map (λ rest. ds ++ rest) o
grown cs ds c None e = refl
grown cs ds c (Some rest) e = ap Some (sym (append_assoc cs (c ∷ []) rest) ∙ ap (λ l. l ++ rest) (sym e))

-- a character more
pub chars-push : (old new us : List ℕ) (c i j : ℕ) (all : Option (List ℕ)) → IsUtf8 old → IsScalar c → new ≡ old ++ encode_utf8 c
    → characters_from us i ≡ option_map (λ cs. c ∷ cs) (characters_from us j) → all ≡ option_map (λ cs. chars old ++ cs) (characters_from us i) → all ≡ option_map (λ cs. chars new ++ cs) (characters_from us j)
chars-push old new us c i j all utf8 scalar_c e first so_far =
    so_far
    ∙ ap (option_map (λ cs. chars old ++ cs)) first
    ∙ grown (chars old) (chars new) c _ (ap chars e ∙ chars-append old (encode_utf8 c) utf8 ∙ ap (λ cs. chars old ++ cs) (chars-encode c scalar_c))

-- and all of them
pub chars-all : (cs front : List ℕ) (last i : ℕ) (all : Option (List ℕ)) → length front < i → all ≡ option_map (λ rest. cs ++ rest) (characters_from (front ++ last ∷ []) i) → all ≡ Some cs
chars-all cs front last i all past e = e ∙ ap (option_map (λ rest. cs ++ rest)) (characters_end front last i past) ∙ ap Some (append-nil cs)

-- ---- the units with an offset added to the last one
abbrev pub with_last : List ℕ → ℕ → List ℕ
with_last units last = take (length units - 1) units ++ last ∷ []

abbrev added : List ℕ → ℕ → ℕ → Option (List ℕ)
added units offset last = if nat_lt (last + offset) (2 ^ 16) then Some (with_last units (last + offset)) else None

pub shifted_by : {E : Type 0} (r : Result ℕ E) (units : List ℕ) (offset last more : ℕ) → 0 < length units → last ≡ get_or units (length units - 1) 0 → more ≡ offset → OkIff r (last + more < 65536) (last + more)
    → shifted units offset ≡ option_map (with_last units) (result_ok r)
shifted_by {E = E} (Ok sum) units offset last more some last_is more_is iff =
    let (small, same) = OkIff-at_ok {E = E} (Ok sum) (last + more < 65536) (last + more) sum iff refl in
    let sum_is : get_or units (length units - 1) 0 + offset ≡ sum = omega (arith, same, last_is, more_is) in
    ap (option_and_then (added units offset)) (slice_get-get_or units (length units - 1) 0 (omega arith)) ∙ cond-true _ _ _ (lt-ltb (get_or units (length units - 1) 0 + offset) (2 ^ 16) (omega (arith, small, last_is, more_is))) ∙ ap (λ s. Some (with_last units s)) sum_is
shifted_by {E = E} (Err e) units offset last more some last_is more_is iff =
    let large : last + more < 65536 → ⊥ = OkIff-at_err {T = ℕ} {E = E} (Err e) (last + more < 65536) (last + more) e iff refl in
    ap (option_and_then (added units offset)) (slice_get-get_or units (length units - 1) 0 (omega arith)) ∙ cond-false _ _ _ (le-ltb (get_or units (length units - 1) 0 + offset) (2 ^ 16) (omega (arith, large, last_is, more_is)))

-- ---- a text as it is answered
pub text_of_none : (units : List ℕ) (offset : ℕ) → shifted units offset ≡ None → None ≡ option_map text_of_characters (text_at units offset)
text_of_none units offset none = sym (ap (λ s. option_map text_of_characters (option_and_then characters s)) none)

text_of_one : (cs : Option (List ℕ)) (c : ℕ) → Some c ≡ only_character cs → Some (one c) ≡ option_map text_of_characters cs
text_of_one None c e = absurd (none-some c (sym e))
text_of_one (Some []) c e = absurd (none-some c (sym e))
text_of_one (Some (d ∷ [])) c e = ap (λ o. option_map one o) e
text_of_one (Some (d ∷ f ∷ cs)) c e = absurd (none-some c (sym e))

pub text_of_char : (units us : List ℕ) (offset c : ℕ) → shifted units offset ≡ Some us → Some c ≡ only_character (characters us) → Some (one c) ≡ option_map text_of_characters (text_at units offset)
text_of_char units us offset c is found = text_of_one (characters us) c found ∙ sym (ap (λ s. option_map text_of_characters (option_and_then characters s)) is)
