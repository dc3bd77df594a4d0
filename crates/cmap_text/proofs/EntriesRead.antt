-- The entries of sections: what is read is an entry, and each entry is read.
use Rattle.std.proofs.Common.{◌≡◌, ℕ, zero, suc, false, ◌+◌, refl, sym, ap, ◌∙◌, subst, List, [], ◌∷◌, ◌++◌, inl, inr, length}
use Rattle.std.proofs.lemmas.Bool.{cases_Bool, eqb-true, eq-eqb}
use Rattle.std.proofs.lemmas.Option.{none-some, same_Some}
use Rattle.std.specs.List.{AllZip, enumerate_from}
use Rattle.std.specs.Prelude.{codes, map, flat_map, Ok, Err, Some, None, ◌==◌}
use Rattle.cmap_values.specs.BigEndian.{big_endian}
use Rattle.cmap_tokens.specs.Tokens.{Token}
use Rattle.cmap_tokens.specs.TokensLeft.{Left}
use Rattle.cmap_values.specs.Files.{Declaration, Lists}
use Rattle.cmap_values.proofs.ListsMade.{added_more, append_lists-none}
use Rattle.cmap_text.specs.TextFiles.{Section, codespace_range, cids, range, single, bf_range, bf_char, declares_bf, declares_cid, IsCode, IsDestination, IsEntry, AreEntries}
use Rattle.cmap_text.specs.TextReading.{adding, body_in, Code, code_fault, code_in, code_or_closer, codespace, destination_in, entry_after, is_executable, list_in, text_of, texts_from, closer}
use Rattle.cmap_text.specs.TokenParsers.{followed_by, head_in, Refused, round, run, token_in}
use Rattle.cmap_text.proofs.TokensRead.{some_bound, some_mapped, tested, written, code_is, code_found, cid_is, cid_found, destination_is, destination_found, is_executable-found, is_executable-own}
use Rattle.cmap_text.proofs.TokenParsers.{Implies, Means, Relation, Rounds, repeat_next}

abbrev opening_bracket : Token
opening_bracket = Token.Name false (codes "[")

abbrev closing_bracket : Token
closing_bracket = Token.Name false (codes "]")

abbrev closing : Section → Token
closing section = Token.Name false (closer section)

-- the lists with what such tokens declare
abbrev Adds : Relation (List Declaration) → Lists → Relation Lists
Adds Is lists tokens new rest = (declared : List Declaration) × Is tokens declared rest × (new ≡ adding lists declared)

-- ---- destinations for count codes, from this one on, and ]
abbrev declared_from : ℕ → List (List ℕ) → List Declaration
declared_from start texts = map (λ p. declares_bf p.0 p.0 p.1) (enumerate_from start texts)

abbrev IsList : ℕ → ℕ → Relation (List Declaration)
IsList count start tokens declared rest = (ds : List Token) × (texts : List (List ℕ)) × (tokens ≡ ds ++ closing_bracket ∷ rest) × AllZip IsDestination ds texts × (length texts ≡ count) × (declared ≡ declared_from start texts)

list_there : (count start : ℕ) (lists : Lists) → Implies (Means (list_in count start lists)) (Adds (IsList count start) lists)
unfolding list_in
list_there zero start lists tokens new rest (t, at, gives) =
    let (closes, same) = tested (is_executable (codes "]") t) lists new gives in
    ([], ([], [], at ∙ ap (λ u. u ∷ rest) (is_executable-found (codes "]") t closes), tt, refl, refl), sym (append_lists-none lists ∙ same))
list_there (suc count) start lists tokens new rest (units, mid, (d, at, is), more) =
    let first = text_of start start units in
    let (others, (ds, texts, shape, all, counted, declares), new_is) = list_there count (start + 1) (adding lists first) mid new rest more in
    (first ++ others, (d ∷ ds, units ∷ texts, at ∙ ap (λ ts. d ∷ ts) shape, (destination_found d units is, all), ap suc counted, ap (λ l. first ++ l) declares), added_more lists (adding lists first) new first others refl new_is)

list_found : (ds : List Token) (texts : List (List ℕ)) (start : ℕ) (lists : Lists) (rest : List Token) → AllZip IsDestination ds texts → Means (list_in (length texts) start lists) (ds ++ closing_bracket ∷ rest) (adding lists (declared_from start texts)) rest
unfolding list_in
list_found [] [] start lists rest all = (closing_bracket, refl, ap Some (sym (append_lists-none lists)))
list_found (d ∷ ds) (units ∷ texts) start lists rest all =
    let first = text_of start start units in
    let later = list_found ds texts (start + 1) (adding lists first) rest all.1 in
    (units, _, (d, refl, destination_is d units all.0), subst (λ l. Means (list_in (length texts) (start + 1) (adding lists first)) (ds ++ closing_bracket ∷ rest) l rest) (added_more lists (adding lists first) _ first (declared_from (start + 1) texts) refl refl) later)
list_found _ _ start lists rest all = absurd all

-- ---- what is read is an entry
module _ (t : Token) (bytes : List ℕ) (is_code : IsCode t bytes) (lists : Lists) where
  pub entry_there : (section : Section) → Implies (Means (entry_after section (written bytes) lists)) (Adds (λ tokens. IsEntry section (t ∷ tokens)) lists)
  entry_there codespace_range tokens new rest (declared, (b, at, gives), new_is) =
      let (high, b_is, of_codes) = some_bound (codespace (written bytes)) (code_in b) declared gives in
      let (high_bytes, is_high, same) = code_found b high b_is in
      let (equal, declares) = tested (length bytes == high.len) _ declared of_codes in (
        _,
        (t, b, bytes, high_bytes, cc, is_code, is_high, eqb-true (length bytes) high.len equal ∙ ap (λ k. k.len) same, refl),
        new_is ∙ ap (adding lists) (sym declares ∙ ap (λ k. Declaration.codespace (record { len = length bytes; low = big_endian bytes; high = k.number }) ∷ []) same),
      )
  entry_there (cids kind range) tokens new rest (p, (end, mid, (b, b_at, b_is), (n, (c, c_at, c_is), filed_is)), new_is) =
      let (end_bytes, is_end, same) = code_found b end b_is in (
        _,
        (t, b, c, bytes, end_bytes, n, cc, is_code, is_end, cid_found c n c_is, refl),
        rw (new_is, filed_is) (ap (λ k. adding lists (declares_cid kind (length bytes) (record { start = big_endian bytes; end = k.number; cid = n }) ∷ [])) same),
      )
  entry_there (cids kind single) tokens new rest (p, (n, (c, c_at, c_is), filed_is), new_is) = (_, (t, c, bytes, n, cc, is_code, cid_found c n c_is, refl), rw (new_is, filed_is) refl)
  entry_there bf_char tokens new rest (units, (d, at, is), new_is) = (_, (t, d, bytes, units, cc, is_code, destination_found d units is, refl), new_is)
  entry_there bf_range tokens new rest (end, mid, (b, b_at, b_is), (found, later, (d, d_at, d_is), texts)) =
      let (end_bytes, is_end, same) = code_found b end b_is in
      let read = subst (λ k. Means (texts_from (big_endian bytes) k.number lists found) later new rest) same texts in
      let begins : t ∷ tokens ≡ t ∷ b ∷ d ∷ later = cc in
      elim (cases_Bool (is_executable (codes "[") d)) [
        | inl opens ↦
            let is_list = rw (sym (same_Some None found (rw opens at d_is)), Means) at read in
            let (declared, (ds, units, shape, all, counted, declares), new_is) = list_there _ (big_endian bytes) lists later new rest is_list in
            let bracket = is_executable-found (codes "[") d opens in
            (declared, (t, b, bytes, end_bytes, is_code, is_end, inr (ds, units, begins ∙ cc, all, counted, declares)), new_is)
        | inr one ↦
            let (units, is, gives) = some_mapped Some (destination_in d) found (rw one at d_is) in
            let (new_is, whole) = rw (sym gives, Means) at read in
            (_, (t, b, bytes, end_bytes, is_code, is_end, inl (d, units, cc, destination_found d units is, refl)), sym new_is)
      ]

-- ---- each entry is read
-- the first code of an entry, and what is read after it
abbrev Enters : Section → Relation (List Declaration)
Enters section tokens declared rest = (t : Token) × (bytes : List ℕ) × (later : List Token) × (tokens ≡ t ∷ later) × IsCode t bytes × ((lists : Lists) → Means (entry_after section (written bytes) lists) later (adding lists declared) rest)

pub entry_found : (section : Section) → Implies (IsEntry section) (Enters section)
entry_found codespace_range tokens declared rest (a, b, low, high, shape, is_low, is_high, same, declares) =
    (a, low, _, shape, is_low, λ lists. (declared, (b, refl, rw (code_is b high is_high, eq-eqb (length low) (length high) same, declares) refl), refl))
entry_found (cids kind range) tokens declared rest (a, b, c, start, end, n, shape, is_start, is_end, is_cid, declares) =
    (a, start, _, shape, is_start, λ lists. (_, (_, _, (b, refl, code_is b end is_end), (n, (c, refl, cid_is c n is_cid), refl)), rw declares refl))
entry_found (cids kind single) tokens declared rest (a, c, code, n, shape, is_code, is_cid, declares) =
    (a, code, _, shape, is_code, λ lists. (_, (n, (c, refl, cid_is c n is_cid), refl), rw declares refl))
entry_found bf_char tokens declared rest (a, d, code, units, shape, is_code, is_d, declares) =
    (a, code, _, shape, is_code, λ lists. (units, (d, refl, destination_is d units is_d), rw declares refl))
entry_found bf_range tokens declared rest (a, b, start, end, is_start, is_end, inl (d, units, shape, is_d, declares)) =
    let other = ap (is_executable (codes "[")) is_d.2 in
    (a, start, _, shape, is_start, λ lists. (_, _, (b, refl, code_is b end is_end), (Some units, _, (d, refl, rw (other, destination_is d units is_d) refl), (rw declares refl, refl))))
entry_found bf_range tokens declared rest (a, b, start, end, is_start, is_end, inr (ds, texts, shape, all, count, declares)) =
    (a, start, _, shape, is_start, λ lists. (_, _, (b, refl, code_is b end is_end), (None, _, (opening_bracket, refl, refl), rw (declares, ← count) (list_found ds texts (big_endian start) lists rest all))))

-- ---- sections
module _ (section : Section) where
  abbrev Entries : ℕ → Lists → Relation Lists
  Entries = Rounds (code_or_closer section) (λ now code. Means (entry_after section code now))

  closes : (t : Token) → code_or_closer section t ≡ Some None → t ≡ closing section
  closes t is =
      elim (cases_Bool (is_executable (closer section) t)) [
        | inl closer_is ↦ is_executable-found (closer section) t closer_is
        | inr one ↦ let (code, gives, clash) = some_mapped Some (code_in t) None (rw one at is) in absurd (none-some code (sym clash))
      ]

  pub starts : (t : Token) (code : Code) → code_or_closer section t ≡ Some (Some code) → code_in t ≡ Some code
  starts t code is =
      elim (cases_Bool (is_executable (closer section) t)) [
        | inl closer_is ↦ absurd (none-some code (same_Some None (Some code) (rw closer_is at is)))
        | inr one ↦ let (other, gives, same) = some_mapped Some (code_in t) (Some code) (rw one at is) in gives ∙ same
      ]

  pub entries_there : (n : ℕ) (lists : Lists) → Implies (Entries n lists) (λ tokens new rest. (each : List (List Declaration)) × AreEntries section tokens each rest × (new ≡ adding lists (flat_map (λ ds. ds) each)))
  entries_there zero lists tokens new rest (t, at, begun, same) = ([], at ∙ ap (λ u. u ∷ rest) (closes t begun), sym (append_lists-none lists ∙ same))
  entries_there (suc n) lists tokens new rest (t, code, later, mid, next, at, begun, means, rounds) =
      let (bytes, is_code, same) = code_found t code (starts t code begun) in
      let (declared, entry, next_is) = entry_there t bytes is_code lists section later next mid (rw same at means) in
      let (each, are, new_is) = entries_there n next mid new rest rounds in
      (declared ∷ each, (mid, rw at entry, are), added_more lists next new declared (flat_map (λ ds. ds) each) next_is new_is)

  pub entries_found : (each : List (List Declaration)) (lists : Lists) (tokens rest : List Token) → AreEntries section tokens each rest → Entries (length each) lists tokens (adding lists (flat_map (λ ds. ds) each)) rest
  entries_found [] lists tokens rest are = (closing section, are, rw (is_executable-own (closer section)) refl, sym (append_lists-none lists))
  entries_found (declared ∷ each) lists tokens rest (mid, entry, are) =
      let (t, bytes, later, shape, is_code, means) = entry_found section tokens declared mid entry in
      let other = ap (is_executable (closer section)) is_code.1 in
      let rounds = entries_found each (adding lists declared) mid rest are in
      let all = subst (λ l. Entries (length each) (adding lists declared) mid l rest) (added_more lists (adding lists declared) _ declared (flat_map (λ ds. ds) each) refl refl) rounds in
      (t, written bytes, later, mid, adding lists declared, shape, rw (other, code_is t bytes is_code) refl, means lists, all)

pub body_next : (section : Section) (lists : Lists) (here : Left) → run (body_in section lists) here ≡ followed_by (round (λ now. run (body_in section now)) (λ now code. run (entry_after section code now)) lists) (head_in code_fault (code_or_closer section) here)
body_next section = repeat_next code_fault (code_or_closer section) (λ now code. entry_after section code now)

-- a string that is a code begins an entry
pub code_starts : (section : Section) (here next : Left) (piece : List ℕ) (code : Code) → token_in here ≡ Ok (Token.String piece, next) → code_in (Token.String piece) ≡ Some code → head_in code_fault (code_or_closer section) here ≡ Ok (Some code, next)
code_starts section here next piece code is reads = rw (is, reads) refl

-- what a section comes to, by what begins an entry and what follows
module _ (section : Section) (lists : Lists) (here next : Left) where
  pub body_wrong : (e : Refused) → head_in code_fault (code_or_closer section) here ≡ Err e → run (body_in section lists) here ≡ Err e
  body_wrong e is = body_next section lists here ∙ rw is refl

  pub body_closes : head_in code_fault (code_or_closer section) here ≡ Ok (None, next) → run (body_in section lists) here ≡ Ok (lists, next)
  body_closes is = body_next section lists here ∙ rw is refl

  module _ (start : Code) (starts_is : head_in code_fault (code_or_closer section) here ≡ Ok (Some start, next)) where
    pub entry_wrong : (e : Refused) → run (entry_after section start lists) next ≡ Err e → run (body_in section lists) here ≡ Err e
    entry_wrong e is = body_next section lists here ∙ rw (starts_is, is) refl

    pub entry_read : (new : Lists) (later : Left) → run (entry_after section start lists) next ≡ Ok (new, later) → run (body_in section lists) here ≡ run (body_in section new) later
    entry_read new later is = body_next section lists here ∙ rw (starts_is, is) refl
