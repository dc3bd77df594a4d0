-- The places of an entry: what fills them, and what doesn't, is the same in the relation and in the reading of pieces.
use Rattle.std.proofs.Common.{◌≡◌, ◌∙◌, ℕ, ◌+◌, ◌-◌, ◌<◌, Bool, true, false, List, [], ◌∷◌, ◌++◌, ap, refl, sym, subst, arith, append-nil, length, inl, inr, zero, suc}
use Rattle.std.specs.Prelude.{◌==◌, ◌⊎◌, codes, pos, replicate, Option, Some, None, Ok, Err}
use Rattle.std.proofs.lemmas.Bool.{cases_Bool, eq-eqb, eqb-true, false≢true}
use Rattle.std.proofs.lemmas.Option.{none-some, same_Some}
use Rattle.std.specs.List.{AllZip}
use Rattle.cmap_tokens.specs.Numbers.{Number}
use Rattle.cmap_tokens.specs.Texts.{units_of}
use Rattle.cmap_tokens.specs.Tokens.{Token}
use Rattle.cmap_values.specs.BigEndian.{big_endian}
use Rattle.cmap_values.specs.Files.{Declaration, Lists}
use Rattle.cmap_text.specs.TextFiles.{CidKind, IsCid, IsCode, IsDestination, IsEntry, Section, bf_char, bf_range, cids, codespace_range, range, single}
use Rattle.cmap_text.specs.TextReading.{Code, adding, cid_in, code_fault, code_in, destination_in, is_executable}
use Rattle.cmap_text.specs.FaultyTexts.{BeginEntry, next_column, why_not}
use Rattle.cmap_text.specs.Salvage.{Entry, Filled, Parts, class_of_token, fill, if_cid, if_code, if_text, in_entry, is_name, new_entry, none, one, open_bracket, part, places_of, two}
use Rattle.cmap_text.proofs.TokensRead.{cid_found, cid_is, code_found, code_is, destination_found, destination_is, is_executable-found, written}

-- the codes that fill the first places
abbrev pub AreCodes : Section → Parts → List Token → Type 0
AreCodes section none tokens = tokens ≡ []
AreCodes section (one start) tokens = (a : Token) × (tokens ≡ a ∷ []) × (code_in a ≡ Some start)
AreCodes section (two start end) tokens = (a b : Token) × (tokens ≡ a ∷ b ∷ []) × (code_in a ≡ Some start) × (code_in b ≡ Some end) × (places_of section ≡ 3)

-- a token that takes a place
abbrev pub IsSolid : Token → Type 0
IsSolid t = ((class_of_token t ≡ part) × (is_name t ≡ false)) ⊎ (class_of_token t ≡ open_bracket)

code_solid : (t : Token) (code : Code) → code_in t ≡ Some code → IsSolid t
code_solid (Token.String raw) code is = inl (refl, refl)
code_solid (Token.Name literal bytes) code is = absurd (none-some code is)
code_solid (Token.Numeral number) code is = absurd (none-some code is)

cid_solid : (t : Token) (cid : ℕ) → cid_in t ≡ Some cid → IsSolid t
cid_solid (Token.String raw) cid is = absurd (none-some cid is)
cid_solid (Token.Name literal bytes) cid is = absurd (none-some cid is)
cid_solid (Token.Numeral number) cid is = inl (refl, refl)

text_solid : (t : Token) (units : List ℕ) → destination_in t ≡ Some units → IsSolid t
text_solid (Token.String raw) units is = inl (refl, refl)
text_solid (Token.Name literal bytes) units is = absurd (none-some units is)
text_solid (Token.Numeral number) units is = absurd (none-some units is)

-- a code is a text too
code_text : (t : Token) (bytes : List ℕ) → IsCode t bytes → IsDestination t (units_of bytes)
code_text t bytes (piece, is, value, least, most) = (piece, bytes, is, value, omega (arith, least), refl)

abbrev zero_cid : Token
zero_cid = Token.Numeral (Number.Integer (pos 0))

zero_is_cid : IsCid zero_cid 0
zero_is_cid = (refl, omega arith)

-- ---- an entry that begins with codes
begins_with_one : (section : Section) (t : Token) (bytes : List ℕ) → IsCode t bytes → BeginEntry section (t ∷ [])
begins_with_one codespace_range t bytes is = (t ∷ [], _, (t, t, bytes, bytes, refl, is, is, refl, refl))
begins_with_one (cids kind range) t bytes is = (t ∷ zero_cid ∷ [], _, (t, t, zero_cid, bytes, bytes, 0, refl, is, is, zero_is_cid, refl))
begins_with_one (cids kind single) t bytes is = (zero_cid ∷ [], _, (t, zero_cid, bytes, 0, refl, is, zero_is_cid, refl))
begins_with_one bf_range t bytes is = (t ∷ t ∷ [], _, (t, t, bytes, bytes, is, is, inl (t, units_of bytes, refl, code_text t bytes is, refl)))
begins_with_one bf_char t bytes is = (t ∷ [], _, (t, t, bytes, units_of bytes, refl, is, code_text t bytes is, refl))

begins_with_two : (section : Section) (a b : Token) (start end : List ℕ) → places_of section ≡ 3 → IsCode a start → IsCode b end → BeginEntry section (a ∷ b ∷ [])
begins_with_two codespace_range a b start end three a_code b_code = absurd (cc)
begins_with_two (cids kind range) a b start end three a_code b_code = (zero_cid ∷ [], _, (a, b, zero_cid, start, end, 0, refl, a_code, b_code, zero_is_cid, refl))
begins_with_two (cids kind single) a b start end three a_code b_code = absurd (cc)
begins_with_two bf_range a b start end three a_code b_code = (a ∷ [], _, (a, b, start, end, a_code, b_code, inl (a, units_of start, refl, code_text a start a_code, refl)))
begins_with_two bf_char a b start end three a_code b_code = absurd (cc)

pub same_token : {a b : Token} {rest others : List Token} → a ∷ rest ≡ b ∷ others → a ≡ b
same_token is = cc

pub same_tokens : {a b : Token} {rest others : List Token} → a ∷ rest ≡ b ∷ others → rest ≡ others
same_tokens is = cc

code_of_same : (t a : Token) (bytes : List ℕ) → t ≡ a → IsCode a bytes → code_in t ≡ Some (written bytes)
code_of_same t a bytes same is = ap code_in same ∙ code_is a bytes is

-- the first token of an entry is a code
first_code : (section : Section) (t : Token) (more : List Token) (declared : List Declaration) → IsEntry section (t ∷ more) declared [] → (bytes : List ℕ) × (code_in t ≡ Some (written bytes))
first_code codespace_range t more declared (a, b, low, high, shape, a_code, _, _, _) = (low, code_of_same t a low (same_token shape) a_code)
first_code (cids kind range) t more declared (a, b, c, start, end, n, shape, a_code, _, _, _) = (start, code_of_same t a start (same_token shape) a_code)
first_code (cids kind single) t more declared (a, c, code, n, shape, a_code, _, _) = (code, code_of_same t a code (same_token shape) a_code)
first_code bf_range t more declared (a, b, start, end, a_code, b_code, inl (d, units, shape, _, _)) = (start, code_of_same t a start (same_token shape) a_code)
first_code bf_range t more declared (a, b, start, end, a_code, b_code, inr (ds, texts, shape, _, _, _)) = (start, code_of_same t a start (same_token shape) a_code)
first_code bf_char t more declared (a, d, code, units, shape, a_code, _, _) = (code, code_of_same t a code (same_token shape) a_code)

-- the second one of three is too
second_code : (section : Section) (t u : Token) (more : List Token) (declared : List Declaration) → places_of section ≡ 3 → IsEntry section (t ∷ u ∷ more) declared [] → (bytes : List ℕ) × (code_in u ≡ Some (written bytes))
second_code codespace_range t u more declared three is = absurd (cc)
second_code (cids kind range) t u more declared three (a, b, c, start, end, n, shape, a_code, b_code, _, _) = (end, code_of_same u b end (same_token (same_tokens shape)) b_code)
second_code (cids kind single) t u more declared three is = absurd (cc)
second_code bf_range t u more declared three (a, b, start, end, a_code, b_code, inl (d, units, shape, _, _)) = (end, code_of_same u b end (same_token (same_tokens shape)) b_code)
second_code bf_range t u more declared three (a, b, start, end, a_code, b_code, inr (ds, texts, shape, _, _, _)) = (end, code_of_same u b end (same_token (same_tokens shape)) b_code)
second_code bf_char t u more declared three is = absurd (cc)

text_no_bracket : (t : Token) (units : List ℕ) → IsDestination t units → is_executable (codes "[") t ≡ false
text_no_bracket t units (piece, bytes, is, _, _, _) = ap (is_executable (codes "[")) is

-- ---- an entry with a list
abbrev bracket : Token
bracket = Token.Name false (codes "[")

as_many : (n : ℕ) (t : Token) (units : List ℕ) → IsDestination t units → AllZip IsDestination (replicate n t) (replicate n units) × (length (replicate n units) ≡ n)
as_many zero t units is = (tt, refl)
as_many (suc n) t units is = let (all, count) = as_many n t units is in ((is, all), ap suc count)

begins_with_list : (a b : Token) (start end : List ℕ) → IsCode a start → IsCode b end → BeginEntry bf_range (a ∷ b ∷ bracket ∷ [])
begins_with_list a b start end a_code b_code =
    let n = big_endian end + 1 - big_endian start in
    let (all, count) = as_many n a (units_of start) (code_text a start a_code) in
    (replicate n a ++ Token.Name false (codes "]") ∷ [], _, (a, b, start, end, a_code, b_code, inr (replicate n a, replicate n (units_of start), refl, all, count, refl)))

abbrev pub entry_with : Section → Bool → Parts → Entry
entry_with section line parts = record { section = section; parts = parts; begins_line = line }

-- what a token is in the next place
pub data Place (section : Section) (line : Bool) (parts : Parts) (tokens : List Token) (lists : Lists) (t : Token) : Type 0 where
  code_there : (more : Parts) → AreCodes section more (tokens ++ t ∷ []) → fill lists (entry_with section line parts) t ≡ Ok (in_entry (entry_with section line more), lists) → BeginEntry section (tokens ++ t ∷ []) → length tokens + 1 < places_of section → IsSolid t
      → Place section line parts tokens lists t
  last_there : (declared : List Declaration) → IsEntry section (tokens ++ t ∷ []) declared [] → length tokens + 1 ≡ places_of section → IsSolid t → Place section line parts tokens lists t
  list_there : (a b : Token) (start end : List ℕ) → section ≡ bf_range → tokens ≡ a ∷ b ∷ [] → IsCode a start → IsCode b end → parts ≡ two (written start) (written end) → t ≡ bracket → Place section line parts tokens lists t
  none_there : fill lists (entry_with section line parts) t ≡ Err (why_not (next_column section tokens) t) → (BeginEntry section (tokens ++ t ∷ []) → ⊥) → Place section line parts tokens lists t

first_column : (section : Section) (t : Token) → why_not (next_column section []) t ≡ code_fault t
first_column codespace_range t = refl
first_column (cids kind range) t = refl
first_column (cids kind single) t = refl
first_column bf_range t = refl
first_column bf_char t = refl

more_places : (section : Section) → length {A = Token} [] + 1 < places_of section
more_places codespace_range = omega arith
more_places (cids kind range) = omega arith
more_places (cids kind single) = omega arith
more_places bf_range = omega arith
more_places bf_char = omega arith

not_begun : {A : Type 0} (found : Option A) (x : A) → found ≡ None → found ≡ Some x → ⊥
not_begun found x is_none some = none-some x (sym is_none ∙ some)

seen_first : (section : Section) (line : Bool) (lists : Lists) (t : Token) → Place section line none [] lists t
seen_first section line lists t = by (code_in t) refl
  where
    by : (found : Option Code) → code_in t ≡ found → Place section line none [] lists t
    by (Some code) is =
        let (bytes, is_code, same) = code_found t code is in
        code_there (one code) (t, refl, is) (rw (is, if_code, fill) refl) (begins_with_one section t bytes is_code) (more_places section) (code_solid t code is)
    by None is = none_there (rw (is, if_code, fill) (ap Err (sym (first_column section t)))) (λ (more, declared, entry). let (bytes, some) = first_code section t more declared entry in not_begun (code_in t) _ is some)

module _ (line : Bool) (lists : Lists) (t a : Token) (start : Code) (a_is : code_in a ≡ Some start) where
  abbrev SecondOf : Section → Type 0
  SecondOf section = Place section line (one start) (a ∷ []) lists t

  seen_high : SecondOf codespace_range
  seen_high = by (code_in t) refl
    where
      unequal : (high : Code) → code_in t ≡ Some high → (start.len ≡ high.len → ⊥) → BeginEntry codespace_range (a ∷ t ∷ []) → ⊥
      unequal high is differs (more, declared, (x, y, low, last, shape, x_code, y_code, same, _)) =
          let first = same_Some start (written low) (sym a_is ∙ code_of_same a x low (same_token shape) x_code) in
          let second = same_Some high (written last) (sym is ∙ code_of_same t y last (same_token (same_tokens shape)) y_code) in
          differs (ap (λ c. c.len) first ∙ same ∙ sym (ap (λ c. c.len) second))

      by : (found : Option Code) → code_in t ≡ found → SecondOf codespace_range
      by (Some high) is =
          let (low_bytes, low_code, low_is) = code_found a start a_is in
          let (high_bytes, high_code, high_is) = code_found t high is in
          elim (cases_Bool (start.len == high.len)) [
            | inl equal ↦ last_there _ (a, t, low_bytes, high_bytes, refl, low_code, high_code, sym (ap (λ c. c.len) low_is) ∙ eqb-true start.len high.len equal ∙ ap (λ c. c.len) high_is, refl) refl (code_solid t high is)
            | inr differs ↦ none_there (rw (is, differs, if_code, fill) refl) (unequal high is (λ same. false≢true (sym differs ∙ eq-eqb start.len high.len same)))
          ]
      by None is = none_there (rw (is, if_code, fill) refl) (λ (more, declared, (x, y, low, last, shape, x_code, y_code, _, _)). not_begun (code_in t) _ is (code_of_same t y last (same_token (same_tokens shape)) y_code))

  seen_end : (section : Section) → places_of section ≡ 3 → ((found : Option Code) → code_in t ≡ found → fill lists (entry_with section line (one start)) t ≡ (elim found as (λ x. Filled) [ Some end ↦ Ok (in_entry (entry_with section line (two start end)), lists) | None ↦ Err (code_fault t) ])) → why_not (next_column section (a ∷ [])) t ≡ code_fault t → SecondOf section
  seen_end section three filled why = by (code_in t) refl
    where
      by : (found : Option Code) → code_in t ≡ found → SecondOf section
      by (Some end) is =
          let (first, a_code, same) = code_found a start a_is in
          let (bytes, is_code, also) = code_found t end is in
          code_there (two start end) (a, t, refl, a_is, is, three) (filled (Some end) is) (begins_with_two section a t first bytes three a_code is_code) (omega (arith, three)) (code_solid t end is)
      by None is = none_there (filled None is ∙ ap Err (sym why)) (λ (more, declared, entry). let (bytes, some) = second_code section a t more declared three entry in not_begun (code_in t) _ is some)

  seen_second_cid : (kind : CidKind) → SecondOf (cids kind single)
  seen_second_cid kind = by (cid_in t) refl
    where
      by : (found : Option ℕ) → cid_in t ≡ found → SecondOf (cids kind single)
      by (Some cid) is = let (first, a_code, same) = code_found a start a_is in last_there _ (a, t, first, cid, refl, a_code, cid_found t cid is, refl) refl (cid_solid t cid is)
      by None is = none_there (rw (is, if_cid, fill) refl) (λ (more, declared, (x, y, code, n, shape, x_code, y_cid, _)). not_begun (cid_in t) n is (ap cid_in (same_token (same_tokens shape)) ∙ cid_is y n y_cid))

  seen_second_text : SecondOf bf_char
  seen_second_text = by (destination_in t) refl
    where
      by : (found : Option (List ℕ)) → destination_in t ≡ found → SecondOf bf_char
      by (Some units) is = let (first, a_code, same) = code_found a start a_is in last_there _ (a, t, first, units, refl, a_code, destination_found t units is, refl) refl (text_solid t units is)
      by None is = none_there (rw (is, if_text, fill) refl) (λ (more, declared, (x, y, code, units, shape, x_code, y_text, _)). not_begun (destination_in t) units is (ap destination_in (same_token (same_tokens shape)) ∙ destination_is y units y_text))

  seen_second : (section : Section) → SecondOf section
  seen_second codespace_range = seen_high
  seen_second (cids kind range) = seen_end (cids kind range) refl (λ found is. rw (is, if_code, fill) refl) refl
  seen_second (cids kind single) = seen_second_cid kind
  seen_second bf_range = seen_end bf_range refl (λ found is. rw (is, if_code, fill) refl) refl
  seen_second bf_char = seen_second_text

  module _ (b : Token) (end : Code) (b_is : code_in b ≡ Some end) where
    abbrev ThirdOf : Section → Type 0
    ThirdOf section = Place section line (two start end) (a ∷ b ∷ []) lists t

    seen_third_cid : (kind : CidKind) → ThirdOf (cids kind range)
    seen_third_cid kind = by (cid_in t) refl
      where
        by : (found : Option ℕ) → cid_in t ≡ found → ThirdOf (cids kind range)
        by (Some cid) is =
            let (first, a_code, same) = code_found a start a_is in
            let (last, b_code, also) = code_found b end b_is in
            last_there _ (a, b, t, first, last, cid, refl, a_code, b_code, cid_found t cid is, refl) refl (cid_solid t cid is)
        by None is = none_there (rw (is, if_cid, fill) refl) (λ (more, declared, (x, y, z, first, last, n, shape, x_code, y_code, z_cid, _)). not_begun (cid_in t) n is (ap cid_in (same_token (same_tokens (same_tokens shape))) ∙ cid_is z n z_cid))

    seen_third_text : ThirdOf bf_range
    seen_third_text = by (cases_Bool (is_executable (codes "[") t)) (destination_in t) refl
      where
        no_text : is_executable (codes "[") t ≡ false → destination_in t ≡ None → BeginEntry bf_range (a ∷ b ∷ t ∷ []) → ⊥
        no_text not nothing (more, declared, (x, y, first, last, x_code, y_code, inl (d, units, shape, is_text, _))) = not_begun (destination_in t) units nothing (ap destination_in (same_token (same_tokens (same_tokens shape))) ∙ destination_is d units is_text)
        no_text not nothing (more, declared, (x, y, first, last, x_code, y_code, inr (ds, texts, shape, _, _, _))) = false≢true (sym not ∙ ap (is_executable (codes "[")) (same_token (same_tokens (same_tokens shape))))

        by : (is_executable (codes "[") t ≡ true) ⊎ (is_executable (codes "[") t ≡ false) → (found : Option (List ℕ)) → destination_in t ≡ found → ThirdOf bf_range
        by (inl opens) found is =
            let (first, a_code, same) = code_found a start a_is in
            let (last, b_code, also) = code_found b end b_is in
            list_there a b first last refl refl a_code b_code (ap (λ c. two c end) same ∙ ap (two (written first)) also) (is_executable-found (codes "[") t opens)
        by (inr not) (Some units) is =
            let (first, a_code, same) = code_found a start a_is in
            let (last, b_code, also) = code_found b end b_is in
            last_there _ (a, b, first, last, a_code, b_code, inl (t, units, refl, destination_found t units is, refl)) refl (text_solid t units is)
        by (inr not) None is = none_there (rw (not, is, if_text, fill) refl) (no_text not is)

    seen_third : (section : Section) → places_of section ≡ 3 → ThirdOf section
    seen_third codespace_range three = absurd (cc)
    seen_third (cids kind range) three = seen_third_cid kind
    seen_third (cids kind single) three = absurd (cc)
    seen_third bf_range three = seen_third_text
    seen_third bf_char three = absurd (cc)

pub place_seen : (section : Section) (line : Bool) (parts : Parts) (tokens : List Token) (lists : Lists) (t : Token) → AreCodes section parts tokens → Place section line parts tokens lists t
place_seen section line none tokens lists t shape = subst (λ ts. Place section line none ts lists t) (sym shape) (seen_first section line lists t)
place_seen section line (one start) tokens lists t (a, shape, a_is) = subst (λ ts. Place section line (one start) ts lists t) (sym shape) (seen_second line lists t a start a_is section)
place_seen section line (two start end) tokens lists t (a, b, shape, a_is, b_is, three) = subst (λ ts. Place section line (two start end) ts lists t) (sym shape) (seen_third line lists t a start a_is b end b_is section three)

-- ---- a whole entry is read as one
abbrev Whole : Section → Bool → Parts → Lists → Token → List Declaration → Type 0
Whole section line parts lists t declared = fill lists (entry_with section line parts) t ≡ Ok (in_entry (new_entry section), adding lists declared)

whole_second : (section : Section) (line : Bool) (start : Code) (lists : Lists) (a t : Token) (declared : List Declaration) → code_in a ≡ Some start → IsEntry section (a ∷ t ∷ []) declared [] → Whole section line (one start) lists t declared
whole_second codespace_range line start lists a t declared a_is (x, y, low, high, shape, x_code, y_code, same, declares) =
    let first = same_Some start (written low) (sym a_is ∙ code_of_same a x low (same_token shape) x_code) in
    let t_is = code_of_same t y high (same_token (same_tokens shape)) y_code in
    subst (λ c. Whole codespace_range line (one c) lists t declared) (sym first) (rw (t_is, eq-eqb (length low) (length high) same, declares, if_code, fill) refl)
whole_second (cids kind range) line start lists a t declared a_is (x, y, z, first, last, n, shape, _, _, _, _) = absurd (cc)
whole_second (cids kind single) line start lists a t declared a_is (x, z, code, n, shape, x_code, z_cid, declares) =
    let first = same_Some start (written code) (sym a_is ∙ code_of_same a x code (same_token shape) x_code) in
    let t_is = ap cid_in (same_token (same_tokens shape)) ∙ cid_is z n z_cid in
    subst (λ c. Whole (cids kind single) line (one c) lists t declared) (sym first) (rw (t_is, declares, if_cid, fill) refl)
whole_second bf_range line start lists a t declared a_is (x, y, first, last, x_code, y_code, inl (d, units, shape, _, _)) = absurd (cc)
whole_second bf_range line start lists a t declared a_is (x, y, first, last, x_code, y_code, inr (ds, texts, shape, _, _, _)) = absurd (cc)
whole_second bf_char line start lists a t declared a_is (x, d, code, units, shape, x_code, d_text, declares) =
    let first = same_Some start (written code) (sym a_is ∙ code_of_same a x code (same_token shape) x_code) in
    let t_is = ap destination_in (same_token (same_tokens shape)) ∙ destination_is d units d_text in
    subst (λ c. Whole bf_char line (one c) lists t declared) (sym first) (rw (t_is, declares, if_text, fill) refl)

no_more : {t : Token} (ds : List Token) → t ∷ [] ≡ bracket ∷ ds ++ Token.Name false (codes "]") ∷ [] → ⊥
no_more [] is = cc
no_more (d ∷ ds) is = cc

whole_third : (section : Section) (line : Bool) (start end : Code) (lists : Lists) (a b t : Token) (declared : List Declaration) → places_of section ≡ 3 → code_in a ≡ Some start → code_in b ≡ Some end → IsEntry section (a ∷ b ∷ t ∷ []) declared [] → Whole section line (two start end) lists t declared
whole_third codespace_range line start end lists a b t declared three a_is b_is entry = absurd (cc)
whole_third (cids kind range) line start end lists a b t declared three a_is b_is (x, y, z, first, last, n, shape, x_code, y_code, z_cid, declares) =
    let start_is = same_Some start (written first) (sym a_is ∙ code_of_same a x first (same_token shape) x_code) in
    let end_is = same_Some end (written last) (sym b_is ∙ code_of_same b y last (same_token (same_tokens shape)) y_code) in
    let t_is = ap cid_in (same_token (same_tokens (same_tokens shape))) ∙ cid_is z n z_cid in
    subst (λ c. Whole (cids kind range) line (two c end) lists t declared) (sym start_is) (subst (λ c. Whole (cids kind range) line (two (written first) c) lists t declared) (sym end_is) (rw (t_is, declares, if_cid, fill) refl))
whole_third (cids kind single) line start end lists a b t declared three a_is b_is entry = absurd (cc)
whole_third bf_range line start end lists a b t declared three a_is b_is (x, y, first, last, x_code, y_code, inl (d, units, shape, d_text, declares)) =
    let start_is = same_Some start (written first) (sym a_is ∙ code_of_same a x first (same_token shape) x_code) in
    let end_is = same_Some end (written last) (sym b_is ∙ code_of_same b y last (same_token (same_tokens shape)) y_code) in
    let token = same_token (same_tokens (same_tokens shape)) in
    let t_is = ap destination_in token ∙ destination_is d units d_text in
    let not = ap (is_executable (codes "[")) token ∙ text_no_bracket d units d_text in
    subst (λ c. Whole bf_range line (two c end) lists t declared) (sym start_is) (subst (λ c. Whole bf_range line (two (written first) c) lists t declared) (sym end_is) (rw (not, t_is, declares, if_text, fill) refl))
whole_third bf_range line start end lists a b t declared three a_is b_is (x, y, first, last, x_code, y_code, inr (ds, texts, shape, _, _, _)) = absurd (no_more ds (same_tokens (same_tokens shape)))
whole_third bf_char line start end lists a b t declared three a_is b_is entry = absurd (cc)

no_first : (section : Section) (t : Token) (declared : List Declaration) → IsEntry section (t ∷ []) declared [] → ⊥
no_first codespace_range t declared (a, b, low, high, shape, _, _, _, _) = cc
no_first (cids kind range) t declared (a, b, c, start, end, n, shape, _, _, _, _) = cc
no_first (cids kind single) t declared (a, c, code, n, shape, _, _, _) = cc
no_first bf_range t declared (a, b, start, end, a_code, b_code, inl (d, units, shape, _, _)) = cc
no_first bf_range t declared (a, b, start, end, a_code, b_code, inr (ds, texts, shape, _, _, _)) = cc
no_first bf_char t declared (a, d, code, units, shape, _, _, _) = cc

pub whole_read : (section : Section) (line : Bool) (parts : Parts) (tokens : List Token) (lists : Lists) (t : Token) (declared : List Declaration) → AreCodes section parts tokens → IsEntry section (tokens ++ t ∷ []) declared [] → Whole section line parts lists t declared
whole_read section line none tokens lists t declared shape entry = absurd (no_first section t declared (subst (λ ts. IsEntry section (ts ++ t ∷ []) declared []) shape entry))
whole_read section line (one start) tokens lists t declared (a, shape, a_is) entry = whole_second section line start lists a t declared a_is (subst (λ ts. IsEntry section (ts ++ t ∷ []) declared []) shape entry)
whole_read section line (two start end) tokens lists t declared (a, b, shape, a_is, b_is, three) entry = whole_third section line start end lists a b t declared three a_is b_is (subst (λ ts. IsEntry section (ts ++ t ∷ []) declared []) shape entry)

-- a token that takes no place, since no entry begins so with one that could
pub no_place : (section : Section) (line : Bool) (parts : Parts) (tokens : List Token) (lists : Lists) (t : Token) → Place section line parts tokens lists t → (BeginEntry section (tokens ++ t ∷ []) → IsSolid t → ⊥)
    → fill lists (entry_with section line parts) t ≡ Err (why_not (next_column section tokens) t)
no_place section line parts tokens lists t (code_there more are fills begins few solid) not = absurd (not begins solid)
no_place section line parts tokens lists t (last_there declared entry all solid) not = absurd (not ([], declared, subst (λ ts. IsEntry section ts declared []) (sym (append-nil (tokens ++ t ∷ []))) entry) solid)
no_place section line parts tokens lists t (list_there a b start end same shape a_code b_code both is) not =
    let tokens_are : tokens ++ t ∷ [] ≡ a ∷ b ∷ bracket ∷ [] = ap (λ ts. ts ++ t ∷ []) shape ∙ ap (λ u. a ∷ b ∷ u ∷ []) is in
    absurd (not (subst (λ s. BeginEntry s (tokens ++ t ∷ [])) (sym same) (subst (BeginEntry bf_range) (sym tokens_are) (begins_with_list a b start end a_code b_code))) (inr (ap class_of_token is)))
no_place section line parts tokens lists t (none_there fills not_begun) not = fills
