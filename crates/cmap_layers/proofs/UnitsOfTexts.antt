-- The units that spell a text, and the code of a declaration at which its units have become these.
use Rattle.std.proofs.Common.{◌≡◌, ℕ, ◌+◌, ◌-◌, ◌*◌, ◌/◌, ◌%◌, ◌^◌, ◌<◌, ◌≤◌, true, false, ◌&&◌, List, [], ◌∷◌, ◌++◌, length, take, get_or, Option, Some, None, option_map, option_and_then, nat_lt, refl, sym, ap, ◌∙◌, subst, inl, inr, arith}
use Rattle.std.specs.Prelude.{◌↔◌, SomeIff, flat_map, not, nat_le, slice_get, All, if◌then◌else◌}
use Rattle.std.specs.Char.{IsScalar}
use Rattle.std.specs.Char.Escape.{encode_utf16}
use Rattle.std.specs.Char.Utf16.{utf16_chars, lone_unit_char, surrogate_pair_char, is_high_surrogate, is_low_surrogate}
use Rattle.std.specs.Str.{all_scalars, bytes_eq}
use Rattle.std.proofs.str.Utf16.{IsPair, one_unit, pair_units, two_units}
use Rattle.std.proofs.lemmas.Bool.{and_parts, cases_Bool, cases_lt, cond-true, cond-false, false≢true, lt-ltb, leb-true, ltb-true}
use Rattle.std.proofs.lemmas.Bool.Decides.{nat_tests}
use Rattle.std.proofs.lemmas.List.{get_or_push, length_push, same_from_push, take_all, take_at, take_more}
use Rattle.std.proofs.lemmas.List.Elements.{All-from_get_or, All-head, All-pop, All-push, All-tail}
use Rattle.std.proofs.lemmas.Option.{cond_some, none-some, option_and_then_some, same_Some, slice_get-get_or}
use Rattle.std.proofs.lemmas.Slice.Eq.{bytes_eq-Decides}
use Rattle.std.proofs.lemmas.Str.{utf16_chars-nil, utf16_chars_lone, utf16_chars_pair}
use Rattle.cmap_tokens.specs.Texts.{all_some, characters, shifted, text_at}
use Rattle.cmap_layers.specs.CodeStretches.{AreUnitsOf}

-- ---- the units of characters
of_rest : (c : ℕ) (o : Option (List ℕ)) (cs : List ℕ) → option_map (λ more. c ∷ more) o ≡ Some cs → (rest : List ℕ) × (cs ≡ c ∷ rest) × (o ≡ Some rest)
of_rest c None cs is = absurd (none-some cs is)
of_rest c (Some rest) cs is = (rest, sym (same_Some (c ∷ rest) cs is), refl)

-- what a unit that is in no pair spells
of_lone : (u : ℕ) (found : List (Option ℕ)) (cs : List ℕ) → all_some (lone_unit_char u ∷ found) ≡ Some cs → (rest : List ℕ) × (cs ≡ u ∷ rest) × (all_some found ≡ Some rest)
of_lone u found cs is =
    elim (cases_Bool (nat_le 0xD800 u && nat_lt u 0xE000)) [
      | inl surrogate ↦ absurd (none-some cs (rw surrogate at is))
      | inr other ↦ of_rest u (all_some found) cs (rw other at is)
    ]

abbrev pub AreUnits : List ℕ → Type 0
AreUnits units = All (λ u. u < 0x1_0000) units

units_of_lone : (u : ℕ) (us cs : List ℕ) → u < 0x1_0000 → ((rest : List ℕ) → characters us ≡ Some rest → us ≡ flat_map encode_utf16 rest) → all_some (lone_unit_char u ∷ utf16_chars us) ≡ Some cs → u ∷ us ≡ flat_map encode_utf16 cs
units_of_lone u us cs fits more is =
    let (rest, same, found) = of_lone u (utf16_chars us) cs is in
    ap (λ l. u ∷ l) (more rest found) ∙ ap (λ l. l ++ flat_map encode_utf16 rest) (sym (one_unit u fits)) ∙ ap (flat_map encode_utf16) (sym same)

pair_char_units : (u v : ℕ) → is_high_surrogate u ≡ true → is_low_surrogate v ≡ true → encode_utf16 (surrogate_pair_char u v) ≡ u ∷ v ∷ []
pair_char_units u v high low =
    let (from, to) = and_parts (nat_le 0xD800 u) (nat_lt u 0xDC00) high in
    let (low_from, low_to) = and_parts (nat_le 0xDC00 v) (nat_lt v 0xE000) low in
    let number : surrogate_pair_char u v ≡ 0x1_0000 + ((u - 0xD800) * 0x400 + (v - 0xDC00)) = omega arith in
    ap encode_utf16 number ∙ pair_units u v (leb-true 0xD800 u from) (leb-true 0xDC00 v low_from) (ltb-true v 0xE000 low_to)

units_of_pair : (u v : ℕ) (us cs : List ℕ) → is_high_surrogate u ≡ true → is_low_surrogate v ≡ true → ((rest : List ℕ) → characters us ≡ Some rest → us ≡ flat_map encode_utf16 rest) → all_some (Some (surrogate_pair_char u v) ∷ utf16_chars us) ≡ Some cs → u ∷ v ∷ us ≡ flat_map encode_utf16 cs
units_of_pair u v us cs high low more is =
    let (rest, same, found) = of_rest (surrogate_pair_char u v) (characters us) cs is in
    ap (λ l. u ∷ v ∷ l) (more rest found) ∙ ap (λ l. l ++ flat_map encode_utf16 rest) (sym (pair_char_units u v high low)) ∙ ap (flat_map encode_utf16) (sym same)

-- units that spell a text are its units
pub units_spelled : (units cs : List ℕ) → AreUnits units → characters units ≡ Some cs → units ≡ flat_map encode_utf16 cs
unfolding utf16_chars
units_spelled [] cs fit is = ap (flat_map encode_utf16) (same_Some [] cs is)
units_spelled (u ∷ []) cs fit is = units_of_lone u [] cs (All-head (λ x. x < 0x1_0000) u [] fit) (λ rest found. ap (flat_map encode_utf16) (same_Some [] rest found)) is
units_spelled (u ∷ v ∷ us) cs fit is =
    let later = All-tail (λ x. x < 0x1_0000) u (v ∷ us) fit in
    elim (cases_Bool (is_high_surrogate u && is_low_surrogate v)) [
      | inl pair ↦
          let (high, low) = and_parts (is_high_surrogate u) (is_low_surrogate v) pair in
          units_of_pair u v us cs high low (λ rest found. units_spelled us rest (All-tail (λ x. x < 0x1_0000) v us later) found) (rw pair at is)
      | inr lone ↦ units_of_lone u (v ∷ us) cs (All-head (λ x. x < 0x1_0000) u (v ∷ us) fit) (λ rest found. units_spelled (v ∷ us) rest later found) (rw lone at is)
    ]

-- the units of a text spell it
one_more : (c : ℕ) (o : Option (List ℕ)) (cs : List ℕ) → o ≡ Some cs → option_map (λ more. c ∷ more) o ≡ Some (c ∷ cs)
one_more c o cs is = ap (option_map (λ more. c ∷ more)) is

spelled_alone : (c : ℕ) (us cs : List ℕ) → IsScalar c → c < 0x1_0000 → characters us ≡ Some cs → characters (encode_utf16 c ++ us) ≡ Some (c ∷ cs)
spelled_alone c us cs scalar small is =
    let outside : (nat_le 0xD800 c && nat_lt c 0xE000) ≡ false = grind (arith, nat_tests) in
    let apart : IsPair c (get_or us 0 0) → ⊥ = λ pair. let from = pair.0 in let to = pair.1 in absurd (grind (arith, nat_tests)) in
    ap (λ l. characters (l ++ us)) (one_unit c small) ∙ ap all_some (utf16_chars_lone c us apart) ∙ ap (λ o. all_some (o ∷ utf16_chars us)) (cond-false _ None (Some c) outside) ∙ one_more c (characters us) cs is

spelled_by_pair : (c : ℕ) (us cs : List ℕ) → IsScalar c → 0x1_0000 ≤ c → characters us ≡ Some cs → characters (encode_utf16 c ++ us) ≡ Some (c ∷ cs)
spelled_by_pair c us cs scalar large is =
    let few : c < 0x11_0000 = grind (arith, nat_tests) in
    let high = 0xD800 + (c - 0x1_0000) / 0x400 in
    let low = 0xDC00 + (c - 0x1_0000) % 0x400 in
    let same : surrogate_pair_char high low ≡ c = omega arith in
    ap (λ l. characters (l ++ us)) (two_units c large) ∙ ap all_some (utf16_chars_pair high low us (omega arith, omega arith, omega arith, omega arith))
    ∙ ap (λ x. all_some (Some x ∷ utf16_chars us)) same ∙ one_more c (characters us) cs is

pub spelled : (cs : List ℕ) → all_scalars cs ≡ true → characters (flat_map encode_utf16 cs) ≡ Some cs
spelled [] scalars = ap all_some utf16_chars-nil
spelled (c ∷ cs) scalars =
    let (first, later) = and_parts _ _ scalars in
    elim (cases_lt c 0x1_0000) [
      | inl small ↦ spelled_alone c (flat_map encode_utf16 cs) cs first small (spelled cs later)
      | inr large ↦ spelled_by_pair c (flat_map encode_utf16 cs) cs first large (spelled cs later)
    ]

-- ---- the text of a code of a declaration
shifted_last : (front : List ℕ) (last offset : ℕ) → shifted (front ++ last ∷ []) offset ≡ (if nat_lt (last + offset) (2 ^ 16) then Some (front ++ (last + offset) ∷ []) else None)
shifted_last front last offset =
    let units = front ++ last ∷ [] in
    let count : length front ≡ length units - 1 = omega (arith, length_push front last) in
    let at : slice_get units (length units - 1) ≡ Some last = slice_get-get_or units (length units - 1) 0 (omega (arith, length_push front last)) ∙ ap Some (get_or_push front last 0 (length units - 1) count) in
    ap (option_and_then (λ l. if nat_lt (l + offset) (2 ^ 16) then Some (take (length units - 1) units ++ (l + offset) ∷ []) else None)) at
    ∙ ap (λ these. if nat_lt (last + offset) (2 ^ 16) then Some (these ++ (last + offset) ∷ []) else None) (take_at front (last ∷ []) (length units - 1) count)

-- units with an offset that are these
of_shifted : (front : List ℕ) (last offset : ℕ) (units : List ℕ) → shifted (front ++ last ∷ []) offset ≡ Some units → (last + offset < 2 ^ 16) × (front ++ (last + offset) ∷ [] ≡ units)
of_shifted front last offset units is =
    let (test, same) = cond_some (nat_lt (last + offset) (2 ^ 16)) (front ++ (last + offset) ∷ []) units (sym (shifted_last front last offset) ∙ is) in
    (ltb-true (last + offset) (2 ^ 16) test, same)

first_units : (front : List ℕ) (last : ℕ) → AreUnits (front ++ last ∷ []) → AreUnits front
first_units front last fit = (All-pop (λ u. u < 0x1_0000) _ front (Some last) refl fit).0

-- the text is a text just where the units have become its units
of_text : (front text : List ℕ) (last offset : ℕ) → AreUnits (front ++ last ∷ []) → all_scalars text ≡ true → text_at (front ++ last ∷ []) offset ≡ Some text → shifted (front ++ last ∷ []) offset ≡ Some (flat_map encode_utf16 text)
of_text front text last offset fit scalars is =
    option_and_then_some characters (shifted (front ++ last ∷ []) offset) text is (λ units found spells.
    let (small, same) = of_shifted front last offset units found in
    let fits : AreUnits units = subst AreUnits same (All-push (λ u. u < 0x1_0000) front (last + offset) (first_units front last fit) small) in
    found ∙ ap Some (units_spelled units text fits spells))

pub found_offset : (begin_front front text : List ℕ) (begin_last last offset : ℕ) → AreUnits (begin_front ++ begin_last ∷ []) → last < 2 ^ 16 → AreUnitsOf text (front ++ last ∷ []) → begin_front ≡ front → begin_last ≤ last
    → (text_at (begin_front ++ begin_last ∷ []) offset ≡ Some text) ↔ (Some (last - begin_last) ≡ Some offset)
found_offset begin_front front text begin_last last offset fit small units same le = (
  λ is.
      let (below, made) = of_shifted begin_front begin_last offset _ (of_text begin_front text begin_last offset fit units.0 is ∙ ap Some (sym units.1)) in
      let ends : begin_last + offset ≡ last = (same_from_push begin_front front (begin_last + offset) last made).1 in
      ap Some (let at : last - begin_last ≡ offset = omega arith in at),
  λ is.
      let at : last - begin_last ≡ offset = same_Some (last - begin_last) offset is in
      let sum : begin_last + offset ≡ last = omega arith in
      let made : shifted (begin_front ++ begin_last ∷ []) offset ≡ Some (front ++ last ∷ []) =
      shifted_last begin_front begin_last offset ∙ cond-true _ _ _ (lt-ltb (begin_last + offset) (2 ^ 16) (omega arith)) ∙ ap (λ l. Some (begin_front ++ l ∷ [])) sum ∙ ap (λ f. Some (f ++ last ∷ [])) same in
      ap (option_and_then characters) (made ∙ ap Some units.1) ∙ spelled text units.0,
)

-- no offset makes it this text
pub no_offset : (begin_front front text : List ℕ) (begin_last last offset : ℕ) → AreUnits (begin_front ++ begin_last ∷ []) → AreUnitsOf text (front ++ last ∷ []) → (begin_front ≡ front → begin_last ≤ last → ⊥)
    → (text_at (begin_front ++ begin_last ∷ []) offset ≡ Some text) ↔ (◌≡◌ {A = Option ℕ} None (Some offset))
no_offset begin_front front text begin_last last offset fit units apart = (
  λ is.
      let (below, made) = of_shifted begin_front begin_last offset _ (of_text begin_front text begin_last offset fit units.0 is ∙ ap Some (sym units.1)) in
      let (same, ends) = same_from_push begin_front front (begin_last + offset) last made in
      absurd (apart same (omega arith)),
  λ none. absurd (none-some offset none),
)

-- nor where one of them has no unit
with_last : (u : ℕ) (us : List ℕ) → (front : List ℕ) × (last : ℕ) × (u ∷ us ≡ front ++ last ∷ [])
with_last u [] = ([], u, refl)
with_last u (v ∷ us) = let (front, last, is) = with_last v us in (u ∷ front, last, ap (λ l. u ∷ l) is)

some_unit : (u : ℕ) (us units text : List ℕ) (offset : ℕ) → AreUnits (u ∷ us) → AreUnitsOf text units → text_at (u ∷ us) offset ≡ Some text → 0 < length units
some_unit u us units text offset fit of_units is =
    let (front, last, same) = with_last u us in
    let (below, made) = of_shifted front last offset _ (of_text front text last offset (subst AreUnits same fit) of_units.0 (subst (λ l. text_at l offset ≡ Some text) same is) ∙ ap Some (sym of_units.1)) in
    omega (arith, length_push front (last + offset), ap (λ (l : List ℕ). length l) made)

pub no_unit : (begin units text : List ℕ) (offset : ℕ) → AreUnits begin → AreUnitsOf text units → (0 < length begin → 0 < length units → ⊥) → (text_at begin offset ≡ Some text) ↔ (◌≡◌ {A = Option ℕ} None (Some offset))
no_unit [] units text offset fit of_units empty = (λ is. absurd (none-some text is), λ none. absurd (none-some offset none))
no_unit (u ∷ us) units text offset fit of_units empty = (λ is. absurd (empty (omega arith) (some_unit u us units text offset fit of_units is)), λ none. absurd (none-some offset none))

-- ---- by what is seen of slices
whole : (xs : List ℕ) → 0 < length xs → xs ≡ take (length xs - 1) xs ++ get_or xs (length xs - 1) 0 ∷ []
whole xs some =
    let all : length xs - 1 + 1 ≡ length xs = omega arith in
    sym (take_all (length xs) xs (omega arith)) ∙ ap (λ n. take n xs) (sym all) ∙ take_more xs (length xs - 1) 0 (omega arith)

pub are_units : (xs : List ℕ) → ((i : ℕ) → get_or xs i 0 < 0x1_0000) → AreUnits xs
are_units xs fit = All-from_get_or (λ u. u < 0x1_0000) xs 0 (λ i lt. fit i)

module _ (begin units text : List ℕ) (offset : ℕ) (some : 0 < length begin) (some_too : 0 < length units) (fit : (i : ℕ) → get_or begin i 0 < 0x1_0000) (fit_too : (i : ℕ) → get_or units i 0 < 0x1_0000) (of_text_units : AreUnitsOf text units) where
  abbrev begin_front : List ℕ
  begin_front = take (length begin - 1) begin

  abbrev front : List ℕ
  front = take (length units - 1) units

  abbrev begin_last : ℕ
  begin_last = get_or begin (length begin - 1) 0

  abbrev last : ℕ
  last = get_or units (length units - 1) 0

  split_fit : AreUnits (begin_front ++ begin_last ∷ [])
  split_fit = subst AreUnits (whole begin some) (are_units begin fit)

  split_units : AreUnitsOf text (front ++ last ∷ [])
  split_units = subst (AreUnitsOf text) (whole units some_too) of_text_units

  by_split : (o : Option ℕ) → ((text_at (begin_front ++ begin_last ∷ []) offset ≡ Some text) ↔ (o ≡ Some offset)) → (text_at begin offset ≡ Some text) ↔ (o ≡ Some offset)
  by_split o is = subst (λ l. (text_at l offset ≡ Some text) ↔ (o ≡ Some offset)) (sym (whole begin some)) is

  pub offset_unlike : (take (length begin - 1) begin ≡ take (length units - 1) units → ⊥) → (text_at begin offset ≡ Some text) ↔ (◌≡◌ {A = Option ℕ} None (Some offset))
  offset_unlike unlike = by_split None (no_offset begin_front front text begin_last last offset split_fit split_units (λ same. absurd (unlike same)))

  pub offset_by : (sub : Option ℕ) → take (length begin - 1) begin ≡ take (length units - 1) units → SomeIff sub (get_or begin (length begin - 1) 0 ≤ get_or units (length units - 1) 0) (get_or units (length units - 1) 0 - get_or begin (length begin - 1) 0) → (text_at begin offset ≡ Some text) ↔ (sub ≡ Some offset)
  offset_by None same less = by_split None (no_offset begin_front front text begin_last last offset split_fit split_units (λ also. less))
  offset_by (Some difference) same (le, is) = by_split (Some difference) (subst (λ n. (text_at (begin_front ++ begin_last ∷ []) offset ≡ Some text) ↔ (Some n ≡ Some offset)) (sym is) (found_offset begin_front front text begin_last last offset split_fit (fit_too (length units - 1)) split_units same le))

pub unlike : (xs ys : List ℕ) → true ≡ not (bytes_eq xs ys) → xs ≡ ys → ⊥
unlike xs ys not_equal same = false≢true (sym (not_equal ∙ ap not ((bytes_eq-Decides xs ys).1 same)))

pub alike : (xs ys : List ℕ) → false ≡ not (bytes_eq xs ys) → xs ≡ ys
alike xs ys equal =
    elim (cases_Bool (bytes_eq xs ys)) [ inl same ↦ (bytes_eq-Decides xs ys).0 same | inr other ↦ absurd (false≢true (equal ∙ ap not other)) ]
