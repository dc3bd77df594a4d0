-- Entries: the reading of pieces, one after another, goes through them as the relation says.
use Rattle.std.proofs.Common.{◌≡◌, ◌∙◌, ℕ, ◌+◌, ◌-◌, ◌<◌, Bool, true, false, List, [], ◌∷◌, ◌++◌, ap, refl, sym, subst, arith, append-nil, length, inl, inr}
use Rattle.std.specs.Prelude.{◌==◌, ◌&&◌, ◌||◌, codes, nat_lt, not, Option, Some, None, option_and_then, option_map, Result, Ok, Err, if◌then◌else◌}
use Rattle.std.proofs.lemmas.Bool.{and_parts, cases_Bool, false≢true, lt-ltb, ltb-true, ne_eqb}
use Rattle.std.proofs.lemmas.Option.{none-some, same_Some}
use Rattle.cmap_tokens.specs.Pieces.{Piece, Wrong}
use Rattle.cmap_tokens.specs.Tokens.{Token}
use Rattle.cmap_values.specs.BigEndian.{big_endian}
use Rattle.cmap_values.specs.Files.{Declaration, Lists}
use Rattle.cmap_values.specs.declared.fault.Reason.TheVariants.{CodeExpected}
use Rattle.cmap_values.specs.declared.fault.Stop.{Stop}
use Rattle.cmap_text.specs.TextFiles.{IsCode, IsEntry, Section, bf_char, bf_range, cids, codespace_range, range, single}
use Rattle.cmap_text.specs.TextReading.{Code, adding, closer, code_in, codespace, destination_in, destination_of, is_executable, text_of}
use Rattle.cmap_text.specs.FaultyTexts.{BeginEntry, Cell, Column, EntryRead, IsCloser, IsEmptyText, IsMended, Next, TakesNoPlace, starts_row, cid_column, code_column, end_column, fault_after, lacks, line_begun, next_column, next_entry, next_item, short_fault, text_column, why_not, cut_off, short, closer_read, passed_piece, part_read, whole_entry, mended_entry, list_read, faulty_entry}
use Rattle.cmap_text.specs.FaultyTexts as faulty
use Rattle.cmap_text.specs.Salvage.{Class, Entry, Filled, Mended, Parts, Salvaged, State, alone, begin_line, class_of, class_of_malformed, class_of_token, close_bracket, code_of_piece, count_of, empty_text_in, entry_fault, fault_of, fill, having_lists, if_code, if_text, in_entry, in_list, is_closer, is_name, is_known, is_name_piece, is_part, is_short, is_stray, item, known, mend, missing, new_entry, no_parts, none, one, open_bracket, own_fault, part, pass_in_entry, passed_over, places_of, rest_of, take_in_entry, take_in_row, take_part, take_piece, take_unless_stray, taken, two, widened, with_fault, with_piece}
use Rattle.cmap_text.specs.Salvage as salvage
use Rattle.cmap_text.proofs.TokensRead.{code_found, code_is, is_executable-found, is_executable-own, no_answer, read_value, some_bound, some_mapped, tested, token_read, written}
use Rattle.cmap_text.proofs.Places.{closed}
use Rattle.cmap_text.proofs.FaultyPassed.{entry_passed, goes, goes_as, row_begun, row_within, run, run_at, run_end, run_faulty, step}
use Rattle.cmap_text.proofs.FaultyLists.{empty_from, empty_in, plus, plus_declared, plus_fault, plus_more, plus_none, texts_said}
use Rattle.cmap_text.proofs.FaultyPlaces.{AreCodes, IsSolid, Place, code_there, entry_with, last_there, list_there, no_place, none_there, place_seen, same_token, same_tokens, whole_read}

-- ---- the codes of the first places
pub same_count : (section : Section) (parts : Parts) (tokens : List Token) → AreCodes section parts tokens → count_of parts ≡ length tokens
same_count section none tokens shape = ap length (sym shape)
same_count section (one start) tokens (a, shape, a_is) = ap length (sym shape)
same_count section (two start end) tokens (a, b, shape, a_is, b_is, three) = ap length (sym shape)

none_so : (section : Section) (parts : Parts) (tokens : List Token) → AreCodes section parts tokens → no_parts parts ≡ (length tokens == 0)
none_so section none tokens shape = ap (λ ts. length ts == 0) (sym shape)
none_so section (one start) tokens (a, shape, a_is) = ap (λ ts. length ts == 0) (sym shape)
none_so section (two start end) tokens (a, b, shape, a_is, b_is, three) = ap (λ ts. length ts == 0) (sym shape)

missing_first : (section : Section) → lacks (next_column section []) ≡ CodeExpected
missing_first codespace_range = refl
missing_first (cids kind range) = refl
missing_first (cids kind single) = refl
missing_first bf_range = refl
missing_first bf_char = refl

missing_second : (section : Section) (a : Token) → salvage.second_missing section ≡ lacks (next_column section (a ∷ []))
missing_second codespace_range a = refl
missing_second (cids kind range) a = refl
missing_second (cids kind single) a = refl
missing_second bf_range a = refl
missing_second bf_char a = refl

missing_third : (section : Section) (a b : Token) → places_of section ≡ 3 → salvage.third_missing section ≡ lacks (next_column section (a ∷ b ∷ []))
missing_third codespace_range a b three = refl
missing_third (cids kind range) a b three = refl
missing_third (cids kind single) a b three = absurd (cc)
missing_third bf_range a b three = refl
missing_third bf_char a b three = refl

missing_is : (section : Section) (line : Bool) (parts : Parts) (tokens : List Token) → AreCodes section parts tokens → missing (entry_with section line parts) ≡ lacks (next_column section tokens)
missing_is section line none tokens shape = sym (missing_first section) ∙ ap (λ ts. lacks (next_column section ts)) (sym shape)
missing_is section line (one start) tokens (a, shape, a_is) = missing_second section a ∙ ap (λ ts. lacks (next_column section ts)) (sym shape)
missing_is section line (two start end) tokens (a, b, shape, a_is, b_is, three) = missing_third section a b three ∙ ap (λ ts. lacks (next_column section ts)) (sym shape)

name_reason : (column : Column) (bytes : List ℕ) → lacks column ≡ why_not column (Token.Name false bytes)
name_reason code_column bytes = refl
name_reason end_column bytes = refl
name_reason cid_column bytes = refl
name_reason text_column bytes = refl

-- a name is at fault as a part that isn't there
name_fault : (column : Column) (end : ℕ) (r : Result Token Wrong) → (elim r as (λ x. Bool) [ Ok t ↦ is_name t | Err w ↦ false ]) ≡ true
    → (elim r as (λ x. Stop) [ Ok t ↦ record { offset = end; reason = lacks column } | Err w ↦ own_fault w ]) ≡ (elim r as (λ x. Stop) [ Ok t ↦ record { offset = end; reason = why_not column t } | Err w ↦ own_fault w ])
name_fault column end (Ok (Token.Name false bytes)) is = ap (λ reason. let stop : Stop = record { offset = end; reason = reason } in stop) (name_reason column bytes)
name_fault column end (Ok (Token.Name true bytes)) is = absurd (cc)
name_fault column end (Ok (Token.String raw)) is = absurd (cc)
name_fault column end (Ok (Token.Numeral number)) is = absurd (cc)
name_fault column end (Err w) is = absurd (cc)

-- ---- what takes no place
pub no_place_solid : (rows : Bool) (piece : Piece) (t : Token) → piece.token ≡ Ok t → TakesNoPlace rows piece → IsSolid t → ⊥
no_place_solid rows piece t token takes solid = by takes solid
  where
    class_is : class_of piece ≡ class_of_token t
    class_is = ap (λ r. elim r as (λ x. Class) [ Ok t ↦ class_of_token t | Err w ↦ class_of_malformed w.kind ]) token

    name_is : is_name_piece piece ≡ is_name t
    name_is = ap (λ r. elim r as (λ x. Bool) [ Ok t ↦ is_name t | Err w ↦ false ]) token

    by : TakesNoPlace rows piece → IsSolid t → ⊥
    by (inl lone) (inl (in_class, no_name)) = let wrong = sym lone ∙ class_is ∙ in_class in cc
    by (inl lone) (inr in_class) = let wrong = sym lone ∙ class_is ∙ in_class in cc
    by (inr (in_rows, stray)) (inl (in_class, no_name)) = false≢true (sym no_name ∙ sym name_is ∙ (and_parts (is_name_piece piece) _ stray).0)
    by (inr (in_rows, stray)) (inr in_class) = false≢true (ap is_part (sym in_class ∙ sym class_is) ∙ (and_parts (is_name_piece piece) _ stray).1)

-- ---- the closer
pub closer_from : (section : Section) (parts : Parts) (tokens : List Token) (piece : Piece) → AreCodes section parts tokens → (no_parts parts && is_closer section piece) ≡ true → IsCloser section tokens piece
closer_from section none tokens piece shape is = (shape, by piece.token refl is)
  where
    by : (r : Result Token Wrong) → piece.token ≡ r → (elim r as (λ x. Bool) [ Ok t ↦ is_executable (closer section) t | Err w ↦ false ]) ≡ true → piece.token ≡ Ok (Token.Name false (closer section))
    by (Ok t) token is = token ∙ ap Ok (is_executable-found (closer section) t is)
    by (Err w) token is = absurd (cc)
closer_from section (one start) tokens piece codes_are is = absurd (cc)
closer_from section (two start end) tokens piece codes_are is = absurd (cc)

pub closer_there : (section : Section) (parts : Parts) (tokens : List Token) (piece : Piece) → AreCodes section parts tokens → IsCloser section tokens piece → (no_parts parts && is_closer section piece) ≡ true
closer_there section parts tokens piece codes_are (empty, token) =
    ap (λ b. b && is_closer section piece) (none_so section parts tokens codes_are ∙ ap (λ ts. length ts == 0) empty)
    ∙ ap (λ r. elim r as (λ x. Bool) [ Ok t ↦ is_executable (closer section) t | Err w ↦ false ]) token ∙ is_executable-own (closer section)

closer_class : (section : Section) (tokens : List Token) (piece : Piece) → IsCloser section tokens piece → class_of piece ≡ known
closer_class section tokens piece (empty, token) = ap (λ r. elim r as (λ x. Class) [ Ok t ↦ class_of_token t | Err w ↦ class_of_malformed w.kind ]) token ∙ (closed section).0

no_closer : (section : Section) (parts : Parts) (tokens : List Token) (piece : Piece) → AreCodes section parts tokens → (IsCloser section tokens piece → ⊥) → (no_parts parts && is_closer section piece) ≡ false
no_closer section parts tokens piece codes_are not = elim (cases_Bool (no_parts parts && is_closer section piece)) [ inl is ↦ absurd (not (closer_from section parts tokens piece codes_are is)) | inr is ↦ is ]

-- ---- a part that is mended
abbrev pub SomeMended : Section → List Token → Piece → Type 0
SomeMended section tokens piece = (declared : List Declaration) × IsMended section tokens piece declared

module _ (lists : Lists) (line : Bool) (piece : Piece) where
  abbrev mends : Section → Parts → Mended
  mends section parts = mend lists (entry_with section line parts) piece

  high_found : (low : Code) (a : Token) (p : State × Lists) → code_in a ≡ Some low → mends codespace_range (one low) ≡ Some p → SomeMended codespace_range (a ∷ []) piece
  high_found low a p a_is is =
      let (declared, found, same) = some_mapped _ (option_and_then (widened low) (code_of_piece piece)) p is in
      let (high, high_is, gives) = some_bound (widened low) (code_of_piece piece) declared found in
      let (t, token, t_is) = token_read piece code_in high high_is in
      let (low_bytes, low_code, low_same) = code_found a low a_is in
      let (high_bytes, high_code, high_same) = code_found t high t_is in
      let (less, declares) = tested (nat_lt low.len high.len) _ declared gives in
      (_, (a, t, low_bytes, high_bytes, refl, token, low_code, high_code, omega (arith, ltb-true low.len high.len less, ap (λ c. c.len) low_same, ap (λ c. c.len) high_same), refl))

  text_found : (f : List ℕ → State × Lists) (p : State × Lists) → option_map f (empty_text_in piece) ≡ Some p → IsEmptyText piece
  text_found f p is = let (units, some, same) = some_mapped f (empty_text_in piece) p is in (empty_from piece units some).0

  found_second : (section : Section) (start : Code) (a : Token) (p : State × Lists) → code_in a ≡ Some start → mends section (one start) ≡ Some p → SomeMended section (a ∷ []) piece
  found_second codespace_range start a p a_is is = high_found start a p a_is is
  found_second (cids kind range) start a p a_is is = absurd (none-some p is)
  found_second (cids kind single) start a p a_is is = absurd (none-some p is)
  found_second bf_range start a p a_is is = absurd (none-some p is)
  found_second bf_char start a p a_is is = let (bytes, a_code, same) = code_found a start a_is in (_, (a, bytes, refl, a_code, text_found _ p is, refl))

  found_third : (section : Section) (start end : Code) (a b : Token) (p : State × Lists) → code_in a ≡ Some start → code_in b ≡ Some end → mends section (two start end) ≡ Some p → SomeMended section (a ∷ b ∷ []) piece
  found_third codespace_range start end a b p a_is b_is is = absurd (none-some p is)
  found_third (cids kind range) start end a b p a_is b_is is = absurd (none-some p is)
  found_third (cids kind single) start end a b p a_is b_is is = absurd (none-some p is)
  found_third bf_range start end a b p a_is b_is is = let (first, a_code, same) = code_found a start a_is in let (last, b_code, also) = code_found b end b_is in (_, (a, b, first, last, refl, a_code, b_code, text_found _ p is, refl))
  found_third bf_char start end a b p a_is b_is is = absurd (none-some p is)

  pub mended_found : (section : Section) (parts : Parts) (tokens : List Token) (p : State × Lists) → AreCodes section parts tokens → mends section parts ≡ Some p → SomeMended section tokens piece
  mended_found section none tokens p shape is = absurd (none-some p is)
  mended_found section (one start) tokens p (a, shape, a_is) is = subst (λ ts. SomeMended section ts piece) (sym shape) (found_second section start a p a_is is)
  mended_found section (two start end) tokens p (a, b, shape, a_is, b_is, three) is = subst (λ ts. SomeMended section ts piece) (sym shape) (found_third section start end a b p a_is b_is is)

  not_mended : (section : Section) (parts : Parts) (tokens : List Token) → AreCodes section parts tokens → ((declared : List Declaration) → IsMended section tokens piece declared → ⊥) → mends section parts ≡ None
  not_mended section parts tokens codes_are not = no_answer (mends section parts) (λ p is. let (declared, mended) = mended_found section parts tokens p codes_are is in not declared mended)

  -- a mended part fills no place, but shows what was meant
  pub record IsMendedSo (section : Section) (parts : Parts) (tokens : List Token) (declared : List Declaration) : Type 0 where
    pub mends_it : mends section parts ≡ Some (in_entry (new_entry section), adding lists declared)
    pub fills_none : (t : Token) → piece.token ≡ Ok t → fill lists (entry_with section line parts) t ≡ Err (why_not (next_column section tokens) t)
    pub in_class : class_of piece ≡ part
    pub no_name : is_name_piece piece ≡ false

  token_class : (t : Token) (raw : List ℕ) → piece.token ≡ Ok t → t ≡ Token.String raw → class_of piece ≡ part
  token_class t raw token is = ap (λ r. elim r as (λ x. Class) [ Ok t ↦ class_of_token t | Err w ↦ class_of_malformed w.kind ]) token ∙ ap class_of_token is

  token_name : (t : Token) (raw : List ℕ) → piece.token ≡ Ok t → t ≡ Token.String raw → is_name_piece piece ≡ false
  token_name t raw token is = ap (λ r. elim r as (λ x. Bool) [ Ok t ↦ is_name t | Err w ↦ false ]) token ∙ ap is_name is

  one_token : {t u : Token} → piece.token ≡ Ok t → piece.token ≡ Ok u → t ≡ u
  one_token first second = let same = sym first ∙ second in cc

  empty_read : (t : Token) → piece.token ≡ Ok t → IsEmptyText piece → (destination_in t ≡ None) × (is_executable (codes "[") t ≡ false) × (class_of piece ≡ part)
  empty_read t token (u, u_token, (raw, is, value)) =
      let string = one_token token u_token ∙ is in
      (read_value destination_of t raw [] string value, ap (is_executable (codes "[")) string, token_class t raw token string)

  empty_part : IsEmptyText piece → (class_of piece ≡ part) × (is_name_piece piece ≡ false)
  empty_part (u, u_token, (raw, is, value)) = (token_class u raw u_token is, token_name u raw u_token is)

  high_so : (low : Code) (a b : Token) (low_bytes high_bytes : List ℕ) (declared : List Declaration) → code_in a ≡ Some low → piece.token ≡ Ok b → IsCode a low_bytes → IsCode b high_bytes → length low_bytes < length high_bytes
      → declared ≡ Declaration.codespace (record { len = length high_bytes; low = big_endian low_bytes; high = big_endian high_bytes }) ∷ [] → IsMendedSo codespace_range (one low) (a ∷ []) declared
  high_so low a b low_bytes high_bytes declared a_is token a_code b_code less declares =
      let low_is = same_Some low (written low_bytes) (sym a_is ∙ code_is a low_bytes a_code) in
      let b_is = code_is b high_bytes b_code in
      let differs = ne_eqb (length low_bytes) (length high_bytes) (λ same. omega (arith, less, same)) in
      let gives : List Declaration → State × Lists = λ d. (in_entry (new_entry codespace_range), adding lists d) in
      record {
        mends_it =
            subst (λ c. mends codespace_range (one c) ≡ Some (gives declared)) (sym low_is) (
            ap (λ r. option_map gives (option_and_then (widened (written low_bytes)) (elim r as (λ x. Option Code) [ Ok t ↦ code_in t | Err w ↦ None ]))) token
            ∙ ap (λ o. option_map gives (option_and_then (widened (written low_bytes)) o)) b_is
            ∙ ap (λ c. option_map gives (if c then Some (Declaration.codespace (record { len = length high_bytes; low = big_endian low_bytes; high = big_endian high_bytes }) ∷ []) else None)) (lt-ltb (length low_bytes) (length high_bytes) less)
            ∙ ap (λ d. Some (gives d)) (sym declares)
            );
        fills_none = λ t t_token.
            let t_is = ap code_in (one_token t_token token) ∙ b_is in
            subst (λ c. fill lists (entry_with codespace_range line (one c)) t ≡ Err (why_not (next_column codespace_range (a ∷ [])) t)) (sym low_is) (rw (t_is, differs, if_code, fill) refl);
        in_class = token_class b b_code.0 token b_code.1;
        no_name = token_name b b_code.0 token b_code.1;
      }

  char_so : (start : Code) (a : Token) (code : List ℕ) (declared : List Declaration) → code_in a ≡ Some start → IsCode a code → IsEmptyText piece → declared ≡ text_of (big_endian code) (big_endian code) [] → IsMendedSo bf_char (one start) (a ∷ []) declared
  char_so start a code declared a_is a_code empty declares =
      let start_is = same_Some start (written code) (sym a_is ∙ code_is a code a_code) in
      let gives : List Declaration → State × Lists = λ d. (in_entry (new_entry bf_char), adding lists d) in
      record {
        mends_it =
            subst (λ c. mends bf_char (one c) ≡ Some (gives declared)) (sym start_is) (
            ap (option_map (λ units. gives (text_of (big_endian code) (big_endian code) units))) (empty_in piece empty) ∙ ap (λ d. Some (gives d)) (sym declares)
            );
        fills_none = λ t token. let (nothing, no_list, in_class) = empty_read t token empty in rw (nothing, if_text, fill) refl;
        in_class = (empty_part empty).0;
        no_name = (empty_part empty).1;
      }

  range_so : (start end : Code) (a b : Token) (first last : List ℕ) (declared : List Declaration) → code_in a ≡ Some start → code_in b ≡ Some end → IsCode a first → IsCode b last → IsEmptyText piece → declared ≡ text_of (big_endian first) (big_endian last) []
      → IsMendedSo bf_range (two start end) (a ∷ b ∷ []) declared
  range_so start end a b first last declared a_is b_is a_code b_code empty declares =
      let start_is = same_Some start (written first) (sym a_is ∙ code_is a first a_code) in
      let end_is = same_Some end (written last) (sym b_is ∙ code_is b last b_code) in
      let gives : List Declaration → State × Lists = λ d. (in_entry (new_entry bf_range), adding lists d) in
      record {
        mends_it =
            subst (λ c. mends bf_range (two c end) ≡ Some (gives declared)) (sym start_is) (subst (λ c. mends bf_range (two (written first) c) ≡ Some (gives declared)) (sym end_is) (
            ap (option_map (λ units. gives (text_of (big_endian first) (big_endian last) units))) (empty_in piece empty) ∙ ap (λ d. Some (gives d)) (sym declares)
            ));
        fills_none = λ t token. let (nothing, no_list, in_class) = empty_read t token empty in rw (nothing, no_list, if_text, fill) refl;
        in_class = (empty_part empty).0;
        no_name = (empty_part empty).1;
      }

  pub mended_so : (section : Section) (parts : Parts) (tokens : List Token) (declared : List Declaration) → AreCodes section parts tokens → IsMended section tokens piece declared → IsMendedSo section parts tokens declared
  mended_so codespace_range none tokens declared empty (a, b, low, high, shape, token, a_code, b_code, less, declares) = let wrong = sym empty ∙ shape in absurd (cc)
  mended_so codespace_range (one start) tokens declared (x, also, x_is) (a, b, low, high, shape, token, a_code, b_code, less, declares) =
      let a_is = ap code_in (same_token (sym shape ∙ also)) ∙ x_is in
      subst (λ ts. IsMendedSo codespace_range (one start) ts declared) (sym shape) (high_so start a b low high declared a_is token a_code b_code less declares)
  mended_so codespace_range (two start end) tokens declared (x, y, also, x_is, y_is, three) (a, b, low, high, shape, token, a_code, b_code, less, declares) = let wrong = sym also ∙ shape in absurd (cc)
  mended_so (cids kind extent) parts tokens declared codes_are mended = absurd mended
  mended_so bf_range none tokens declared empty (a, b, first, last, shape, a_code, b_code, text, declares) = let wrong = sym empty ∙ shape in absurd (cc)
  mended_so bf_range (one start) tokens declared (x, also, x_is) (a, b, first, last, shape, a_code, b_code, text, declares) = let wrong = sym also ∙ shape in absurd (cc)
  mended_so bf_range (two start end) tokens declared (x, y, also, x_is, y_is, three) (a, b, first, last, shape, a_code, b_code, text, declares) =
      let a_is = ap code_in (same_token (sym shape ∙ also)) ∙ x_is in
      let b_is = ap code_in (same_token (same_tokens (sym shape ∙ also))) ∙ y_is in
      subst (λ ts. IsMendedSo bf_range (two start end) ts declared) (sym shape) (range_so start end a b first last declared a_is b_is a_code b_code text declares)
  mended_so bf_char none tokens declared empty (a, code, shape, a_code, text, declares) = let wrong = sym empty ∙ shape in absurd (cc)
  mended_so bf_char (one start) tokens declared (x, also, x_is) (a, code, shape, a_code, text, declares) =
      let a_is = ap code_in (same_token (sym shape ∙ also)) ∙ x_is in
      subst (λ ts. IsMendedSo bf_char (one start) ts declared) (sym shape) (char_so start a code declared a_is a_code text declares)
  mended_so bf_char (two start end) tokens declared (x, y, also, x_is, y_is, three) (a, code, shape, a_code, text, declares) = let wrong = sym also ∙ shape in absurd (cc)

-- ---- single steps
module _ (rows : Bool) (len : ℕ) (section : Section) (line : Bool) (parts : Parts) (tokens : List Token) (codes_are : AreCodes section parts tokens) (old : Salvaged) (cell : Cell) where
  abbrev here : Entry
  here = entry_with section line parts

  -- the same with what begins a line
  abbrev there : Entry
  there = entry_with section (line_begun line tokens cell) parts

  abbrev now_short : Bool
  now_short = is_short cell.parts (entry_with section line parts) cell.piece

  short_as : faulty.is_short rows section tokens cell ≡ (starts_row rows cell && now_short)
  short_as =
      ap (λ b. starts_row rows cell && (not b && (not (is_known (class_of cell.piece)) && not (cell.parts == places_of section - length tokens)))) (sym (none_so section parts tokens codes_are))
      ∙ ap (λ n. starts_row rows cell && (not (no_parts parts) && (not (is_known (class_of cell.piece)) && not (cell.parts == places_of section - n)))) (sym (same_count section parts tokens codes_are))

  there_is : with_piece here cell.piece ≡ there
  there_is = ap (λ b. entry_with section (line || (b && cell.piece.begins_line)) parts) (none_so section parts tokens codes_are)

  abbrev stray_taken : State × Salvaged
  stray_taken = (in_entry (with_piece (entry_with section line parts) cell.piece), with_fault old (fault_of (missing (entry_with section line parts)) cell.piece))

  unless_stray : (b : Bool) → is_stray cell.piece ≡ b → take_unless_stray (in_entry here, old) cell.piece ≡ (if b then stray_taken else take_in_entry old here cell.piece)
  unless_stray b is = ap (λ b. if b then stray_taken else take_in_entry old here cell.piece) is

  abbrev short_taken : State × Salvaged
  short_taken = (in_entry (new_entry section), with_fault old (salvage.short_fault (entry_with section line parts) cell.piece))

  row_started : (b : Bool) → now_short ≡ b → begin_line cell.parts (in_entry here, old) cell.piece ≡ (if b then short_taken else (in_entry here, old))
  row_started b is = ap (λ b. if b then short_taken else (in_entry here, old)) is

  in_row : (starts_row rows cell && now_short) ≡ false → rows ≡ true → take_in_row cell.parts (in_entry here, old) cell.piece ≡ take_unless_stray (in_entry here, old) cell.piece
  in_row long in_rows = by cell.piece.begins_line now_short refl refl (ap (λ r. (r && cell.piece.begins_line) && now_short) (sym in_rows) ∙ long)
    where
      by : (b s : Bool) → cell.piece.begins_line ≡ b → now_short ≡ s → (b && s) ≡ false → take_in_row cell.parts (in_entry here, old) cell.piece ≡ take_unless_stray (in_entry here, old) cell.piece
      by false s begins is both = row_within rows len (in_entry here, old) cell begins
      by true false begins is both = row_begun rows len (in_entry here, old) cell begins ∙ ap (λ now. take_unless_stray now cell.piece) (row_started false is)
      by true true begins is both = absurd (cc)

  -- a piece of the entry
  entry_step : (starts_row rows cell && now_short) ≡ false → (rows && is_stray cell.piece) ≡ false → step rows len (in_entry here, old) cell ≡ take_in_entry old here cell.piece
  unfolding step
  entry_step long plain = by rows refl
    where
      by : (r : Bool) → rows ≡ r → (if r then take_in_row cell.parts (in_entry here, old) cell.piece else take_piece (in_entry here, old) cell.piece) ≡ take_in_entry old here cell.piece
      by true is = in_row long is ∙ unless_stray false (ap (λ r. r && is_stray cell.piece) (sym is) ∙ plain)
      by false is = refl

  stray_step : (starts_row rows cell && now_short) ≡ false → rows ≡ true → is_stray cell.piece ≡ true → step rows len (in_entry here, old) cell ≡ stray_taken
  unfolding step
  stray_step long in_rows stray = ap (λ r. if r then take_in_row cell.parts (in_entry here, old) cell.piece else take_piece (in_entry here, old) cell.piece) in_rows ∙ in_row long in_rows ∙ unless_stray true stray

  -- a short entry ends before the piece
  short_step : (starts_row rows cell && now_short) ≡ true → step rows len (in_entry here, old) cell ≡ step rows len short_taken cell
  unfolding step
  short_step both =
      let (begins_both, short_now) = and_parts (starts_row rows cell) now_short both in
      let (in_rows, begins) = and_parts rows cell.piece.begins_line begins_both in
      ap (λ r. if r then take_in_row cell.parts (in_entry here, old) cell.piece else take_piece (in_entry here, old) cell.piece) in_rows
      ∙ row_begun rows len (in_entry here, old) cell begins ∙ ap (λ now. take_unless_stray now cell.piece) (row_started true short_now)
      ∙ sym (ap (λ r. if r then take_in_row cell.parts short_taken cell.piece else take_piece short_taken cell.piece) in_rows ∙ row_begun rows len short_taken cell begins)

  abbrev fault_here : Stop
  fault_here = fault_after section tokens cell.piece

  stray_fault : is_stray cell.piece ≡ true → stray_taken ≡ (in_entry there, with_fault old fault_here)
  stray_fault stray =
      ap (λ e. let s : State × Salvaged = (in_entry e, with_fault old (fault_of (missing here) cell.piece)) in s) there_is
      ∙ ap (λ reason. let s : State × Salvaged = (in_entry there, with_fault old (fault_of reason cell.piece)) in s) (missing_is section line parts tokens codes_are)
      ∙ ap (λ fault. let s : State × Salvaged = (in_entry there, with_fault old fault) in s) (name_fault (next_column section tokens) cell.piece.end cell.piece.token (and_parts (is_name_piece cell.piece) _ stray).0)

  in_part : (starts_row rows cell && now_short) ≡ false → (rows && is_stray cell.piece) ≡ false → (IsCloser section tokens cell.piece → ⊥) → step rows len (in_entry here, old) cell ≡ take_part old there cell.piece
  in_part long plain not =
      entry_step long plain
      ∙ ap (λ b. if b then (item, old) else take_part old (with_piece here cell.piece) cell.piece) (no_closer section parts tokens cell.piece codes_are not)
      ∙ ap (λ e. take_part old e cell.piece) there_is

  abbrev NotFilled : Type 0
  NotFilled = (t : Token) → cell.piece.token ≡ Ok t → fill old.said.lists (entry_with section (line_begun line tokens cell) parts) t ≡ Err (why_not (next_column section tokens) t)

  part_fault : NotFilled → take_part old there cell.piece ≡ entry_fault old there cell.piece fault_here
  part_fault not = by cell.piece.token refl
    where
      by : (r : Result Token Wrong) → cell.piece.token ≡ r → take_part old there cell.piece ≡ entry_fault old there cell.piece fault_here
      by (Ok t) token =
          ap (λ r. elim r as (λ x. State × Salvaged) [ Ok t ↦ taken old there cell.piece t (fill old.said.lists there t) | Err w ↦ entry_fault old there cell.piece (own_fault w) ]) token
          ∙ ap (taken old there cell.piece t) (not t token)
          ∙ ap (entry_fault old there cell.piece) (sym (ap (λ r. elim r as (λ x. Stop) [ Ok t ↦ record { offset = cell.piece.end; reason = why_not (next_column section tokens) t } | Err w ↦ own_fault w ]) token))
      by (Err w) token =
          ap (λ r. elim r as (λ x. State × Salvaged) [ Ok t ↦ taken old there cell.piece t (fill old.said.lists there t) | Err w ↦ entry_fault old there cell.piece (own_fault w) ]) token
          ∙ ap (entry_fault old there cell.piece) (sym (ap (λ r. elim r as (λ x. Stop) [ Ok t ↦ record { offset = cell.piece.end; reason = why_not (next_column section tokens) t } | Err w ↦ own_fault w ]) token))

  fault_mended : (m : Mended) → mend old.said.lists there cell.piece ≡ m → entry_fault old there cell.piece fault_here ≡ (elim m as (λ x. State × Salvaged) [ Some p ↦ (p.0, having_lists (with_fault old fault_here) p.1) | None ↦ passed_over (with_fault old fault_here) there cell.piece ])
  fault_mended m is = ap (λ m. elim m as (λ x. State × Salvaged) [ Some p ↦ (p.0, having_lists (with_fault old fault_here) p.1) | None ↦ passed_over (with_fault old fault_here) there cell.piece ]) is

  -- ---- what a piece is in the entry
  not_filled : ((t : Token) → cell.piece.token ≡ Ok t → BeginEntry section (tokens ++ t ∷ []) → IsSolid t → ⊥) → NotFilled
  not_filled not t token = no_place section (line_begun line tokens cell) parts tokens old.said.lists t (place_seen section (line_begun line tokens cell) parts tokens old.said.lists t codes_are) (not t token)

  lone_not_stray : (k : Class) → class_of cell.piece ≡ k → is_part k ≡ false → is_stray cell.piece ≡ false
  lone_not_stray k is not = by (is_name_piece cell.piece)
    where
      by : (b : Bool) → (b && is_part (class_of cell.piece)) ≡ false
      by true = ap is_part is ∙ not
      by false = refl

  no_stray : is_stray cell.piece ≡ false → (rows && is_stray cell.piece) ≡ false
  no_stray is = by rows
    where
      by : (r : Bool) → (r && is_stray cell.piece) ≡ false
      by true = is
      by false = refl

  solid_not_stray : (t : Token) → cell.piece.token ≡ Ok t → IsSolid t → is_stray cell.piece ≡ false
  solid_not_stray t token (inl (in_class, no_name)) = ap (λ b. b && is_part (class_of cell.piece)) (ap (λ r. elim r as (λ x. Bool) [ Ok t ↦ is_name t | Err w ↦ false ]) token ∙ no_name)
  solid_not_stray t token (inr in_class) = lone_not_stray open_bracket (ap (λ r. elim r as (λ x. Class) [ Ok t ↦ class_of_token t | Err w ↦ class_of_malformed w.kind ]) token ∙ in_class) refl

  solid_no_closer : (t : Token) → cell.piece.token ≡ Ok t → IsSolid t → IsCloser section tokens cell.piece → ⊥
  solid_no_closer t token solid closer_is = by solid
    where
      known_is : class_of_token t ≡ known
      known_is = sym (ap (λ r. elim r as (λ x. Class) [ Ok t ↦ class_of_token t | Err w ↦ class_of_malformed w.kind ]) token) ∙ closer_class section tokens cell.piece closer_is

      by : IsSolid t → ⊥
      by (inl (in_class, no_name)) = let wrong = sym known_is ∙ in_class in cc
      by (inr in_class) = let wrong = sym known_is ∙ in_class in cc

  abbrev IsLong : Type 0
  IsLong = faulty.is_short rows section tokens cell ≡ false

  long : IsLong → (starts_row rows cell && now_short) ≡ false
  long is = sym short_as ∙ is

  -- a token that takes a place
  token_step : IsLong → (t : Token) → cell.piece.token ≡ Ok t → IsSolid t → step rows len (in_entry here, old) cell ≡ taken old there cell.piece t (fill old.said.lists there t)
  token_step is_long t token solid =
      in_part (long is_long) (no_stray (solid_not_stray t token solid)) (solid_no_closer t token solid)
      ∙ ap (λ r. elim r as (λ x. State × Salvaged) [ Ok t ↦ taken old there cell.piece t (fill old.said.lists there t) | Err w ↦ entry_fault old there cell.piece (own_fault w) ]) token

  pub closer_step : IsLong → IsCloser section tokens cell.piece → step rows len (in_entry here, old) cell ≡ (item, old)
  closer_step is_long closer_is =
      entry_step (long is_long) (no_stray (lone_not_stray known (closer_class section tokens cell.piece closer_is) refl))
      ∙ ap (λ b. if b then (item, old) else take_part old (with_piece here cell.piece) cell.piece) (closer_there section parts tokens cell.piece codes_are closer_is)

  -- a part at fault, which isn't mended
  fault_step : IsLong → (rows && is_stray cell.piece) ≡ false → (IsCloser section tokens cell.piece → ⊥) → NotFilled → mend old.said.lists there cell.piece ≡ None → step rows len (in_entry here, old) cell ≡ passed_over (with_fault old fault_here) there cell.piece
  fault_step is_long plain no_close not no_mend = in_part (long is_long) plain no_close ∙ part_fault not ∙ fault_mended None no_mend

  over : (k : Class) → class_of cell.piece ≡ k → passed_over (with_fault old fault_here) there cell.piece ≡ (elim k as (λ x. State × Salvaged) [ alone ↦ (in_entry there, with_fault old fault_here) | _ ↦ pass_in_entry (with_fault old fault_here) (rest_of there) cell.piece ])
  over k is = ap (λ k. elim k as (λ x. State × Salvaged) [ alone ↦ (in_entry there, with_fault old fault_here) | _ ↦ pass_in_entry (with_fault old fault_here) (rest_of there) cell.piece ]) is

  not_alone : (class_of cell.piece ≡ alone → ⊥) → passed_over (with_fault old fault_here) there cell.piece ≡ pass_in_entry (with_fault old fault_here) (rest_of there) cell.piece
  not_alone not = by (class_of cell.piece) refl
    where
      by : (k : Class) → class_of cell.piece ≡ k → passed_over (with_fault old fault_here) there cell.piece ≡ pass_in_entry (with_fault old fault_here) (rest_of there) cell.piece
      by known is = over known is
      by alone is = absurd (not is)
      by open_bracket is = over open_bracket is
      by close_bracket is = over close_bracket is
      by part is = over part is

  no_place_step : IsLong → TakesNoPlace rows cell.piece → step rows len (in_entry here, old) cell ≡ (in_entry there, with_fault old fault_here)
  no_place_step is_long (inl lone) =
      fault_step is_long (no_stray (lone_not_stray alone lone refl)) (λ closer_is. let wrong = sym lone ∙ closer_class section tokens cell.piece closer_is in cc)
      (not_filled (λ t token begins solid. no_place_solid rows cell.piece t token (inl lone) solid))
      (not_mended old.said.lists (line_begun line tokens cell) cell.piece section parts tokens codes_are (λ declared mended. let wrong = sym lone ∙ (mended_so old.said.lists (line_begun line tokens cell) cell.piece section parts tokens declared codes_are mended).in_class in cc))
      ∙ over alone lone
  no_place_step is_long (inr (in_rows, stray)) = stray_step (long is_long) in_rows stray ∙ stray_fault stray

  abbrev part_step_to : Parts → State × Salvaged
  part_step_to more = (in_entry (entry_with section (line_begun line tokens cell) more), old)

  -- a part more
  record OneMore (t : Token) : Type 0 where
    pub more : Parts
    pub are : AreCodes section more (tokens ++ t ∷ [])
    pub steps : step rows len (in_entry (entry_with section line parts), old) cell ≡ part_step_to more

  next_part_step : IsLong → (t : Token) → cell.piece.token ≡ Ok t → BeginEntry section (tokens ++ t ∷ []) → length tokens + 1 < places_of section → OneMore t
  next_part_step is_long t token begins few = by (place_seen section (line_begun line tokens cell) parts tokens old.said.lists t codes_are)
    where
      by : Place section (line_begun line tokens cell) parts tokens old.said.lists t → OneMore t
      by (code_there more are fills begun less solid) = record { more = more; are = are; steps = token_step is_long t token solid ∙ ap (taken old there cell.piece t) fills }
      by (last_there declared entry all solid) = absurd (omega (arith, few, all))
      by (list_there a b start end same shape a_code b_code both is) = absurd (omega (arith, few, ap length shape, ap places_of same))
      by (none_there fills not) = absurd (not begins)

  last_part_step : IsLong → (t : Token) (declared : List Declaration) → cell.piece.token ≡ Ok t → IsEntry section (tokens ++ t ∷ []) declared [] → step rows len (in_entry here, old) cell ≡ (in_entry (new_entry section), having_lists old (adding old.said.lists declared))
  last_part_step is_long t declared token entry =
      token_step is_long t token (by (place_seen section (line_begun line tokens cell) parts tokens old.said.lists t codes_are))
      ∙ ap (taken old there cell.piece t) (whole_read section (line_begun line tokens cell) parts tokens old.said.lists t declared codes_are entry)
    where
      by : Place section (line_begun line tokens cell) parts tokens old.said.lists t → IsSolid t
      by (code_there more are fills begun less solid) = solid
      by (last_there others also all solid) = solid
      by (list_there a b start end same shape a_code b_code both is) = inr (ap class_of_token is)
      by (none_there fills not) = absurd (not ([], declared, subst (λ ts. IsEntry section ts declared []) (sym (append-nil (tokens ++ t ∷ []))) entry))

  mended_step : IsLong → (declared : List Declaration) → IsMended section tokens cell.piece declared → step rows len (in_entry here, old) cell ≡ (in_entry (new_entry section), plus old declared (fault_here ∷ []))
  mended_step is_long declared mended =
      let so = mended_so old.said.lists (line_begun line tokens cell) cell.piece section parts tokens declared codes_are mended in
      in_part (long is_long) (no_stray (ap (λ b. b && is_part (class_of cell.piece)) so.no_name)) (λ closer_is. let wrong = sym so.in_class ∙ closer_class section tokens cell.piece closer_is in cc)
      ∙ part_fault so.fills_none ∙ fault_mended (Some (in_entry (new_entry section), adding old.said.lists declared)) so.mends_it

  wrong_step : IsLong → (IsCloser section tokens cell.piece → ⊥) → (TakesNoPlace rows cell.piece → ⊥) → ((t : Token) → cell.piece.token ≡ Ok t → BeginEntry section (tokens ++ t ∷ []) → ⊥) → ((declared : List Declaration) → IsMended section tokens cell.piece declared → ⊥)
      → step rows len (in_entry here, old) cell ≡ pass_in_entry (with_fault old fault_here) (rest_of there) cell.piece
  wrong_step is_long no_close no_place_taken no_begin no_mended =
      fault_step is_long (by rows is_stray_now refl refl) no_close (not_filled (λ t token begins solid. no_begin t token begins)) (not_mended old.said.lists (line_begun line tokens cell) cell.piece section parts tokens codes_are no_mended)
      ∙ not_alone (λ lone. no_place_taken (inl lone))
    where
      is_stray_now : Bool
      is_stray_now = is_stray cell.piece

      by : (r b : Bool) → rows ≡ r → is_stray cell.piece ≡ b → (rows && is_stray cell.piece) ≡ false
      by false b in_rows stray = ap (λ r. r && is_stray cell.piece) in_rows
      by true false in_rows stray = ap (λ r. r && is_stray cell.piece) in_rows ∙ stray
      by true true in_rows stray = absurd (no_place_taken (inr (in_rows, stray)))

  list_step : IsLong → (a b : Token) (start end : List ℕ) → section ≡ bf_range → tokens ≡ a ∷ b ∷ [] → IsCode a start → IsCode b end → cell.piece.token ≡ Ok (Token.Name false (codes "["))
      → step rows len (in_entry here, old) cell ≡ (in_list (record { first = big_endian start; next = big_endian start; last = big_endian end; kept = length old.said.lists.bfs; begins_line = line; one_line = line }), old)
  list_step is_long a b start end same shape a_code b_code token =
      token_step is_long (Token.Name false (codes "[")) token (inr refl)
      ∙ ap (taken old there cell.piece (Token.Name false (codes "["))) (by parts codes_are)
      ∙ ap (λ b. let s : State × Salvaged = (in_list (record { first = big_endian start; next = big_endian start; last = big_endian end; kept = length old.said.lists.bfs; begins_line = b; one_line = b }), old) in s) (same_line ∙ or_false line)
    where
      same_line : line_begun line tokens cell ≡ (line || false)
      same_line = ap (λ ts. line || (length ts == 0 && cell.piece.begins_line)) shape

      or_false : (b : Bool) → (b || false) ≡ b
      or_false true = refl
      or_false false = refl

      begun : Code → Code → Filled
      begun first last = Ok (in_list (record { first = first.number; next = first.number; last = last.number; kept = length old.said.lists.bfs; begins_line = line_begun line tokens cell; one_line = line_begun line tokens cell }), old.said.lists)

      filled : (s : Section) → s ≡ bf_range → (first last : Code) → fill old.said.lists (entry_with s (line_begun line tokens cell) (two first last)) (Token.Name false (codes "[")) ≡ begun first last
      filled codespace_range is first last = absurd (cc)
      filled (cids kind extent) is first last = absurd (cc)
      filled bf_range is first last = refl
      filled bf_char is first last = absurd (cc)

      by : (parts : Parts) → AreCodes section parts tokens → fill old.said.lists (entry_with section (line_begun line tokens cell) parts) (Token.Name false (codes "[")) ≡ begun (written start) (written end)
      by none empty = let wrong = sym empty ∙ shape in absurd (cc)
      by (one first) (x, also, x_is) = let wrong = sym also ∙ shape in absurd (cc)
      by (two first last) (x, y, also, x_is, y_is, three) =
          let first_is = same_Some first (written start) (sym x_is ∙ ap code_in (same_token (sym also ∙ shape)) ∙ code_is a start a_code) in
          let last_is = same_Some last (written end) (sym y_is ∙ ap code_in (same_token (same_tokens (sym also ∙ shape))) ∙ code_is b end b_code) in
          filled section same first last ∙ ap (λ c. begun c last) first_is ∙ ap (begun (written start)) last_is

-- ---- a whole entry
module _ (rows : Bool) (len : ℕ) (section : Section) where
  abbrev from_entry : Bool → Parts → Salvaged → List Cell → Salvaged
  from_entry line parts old cells = run rows len (in_entry (entry_with section line parts), old) cells

  list_said : {line : Bool} {cells : List Cell} {first last : ℕ} {kept : Bool} {declared : List Declaration} {faults : List Stop} {next : Next} (old : Salvaged) → section ≡ bf_range → faulty.ListRead first last line first line cells declared faults kept next
      → run rows len (in_list (record { first = first; next = first; last = last; kept = length old.said.lists.bfs; begins_line = line; one_line = line }), old) cells ≡ run_at rows len section next (plus old (if kept then declared else []) faults)
  list_said {line} {cells} {first} {last} {kept} {declared} {faults} {next} old same is =
      ap (λ o. run rows len (in_list (record { first = first; next = first; last = last; kept = length old.said.lists.bfs; begins_line = line; one_line = line }), o) cells) (sym (plus_none old))
      ∙ texts_said rows len first last line (length old.said.lists.bfs) old refl is [] [] refl
      ∙ ap (λ s. run_at rows len s next (plus old (if kept then declared else []) faults)) (sym same)

  pub entry_said : {line : Bool} {tokens : List Token} {cells : List Cell} {declared : List Declaration} {faults : List Stop} {next : Next} → EntryRead rows section line tokens cells declared faults next
      → (parts : Parts) → AreCodes section parts tokens → (old : Salvaged) → run rows len (in_entry (entry_with section line parts), old) cells ≡ run_at rows len section next (plus old declared faults)
  unfolding run_at run_faulty
  entry_said (cut_off {line} {parts = tokens}) parts codes_are old = run_end rows len (in_entry (entry_with section line parts), old) ∙ sym (run_end rows len (in_entry (new_entry section), old)) ∙ ap (run_at rows len section (next_entry [])) (sym (plus_none old))
  entry_said (short {line} {parts = tokens} {cells} cell is) parts codes_are old =
      goes_as rows len (in_entry (entry_with section line parts), old) _ cell cells (short_step rows len section line parts tokens codes_are old cell (sym (short_as rows len section line parts tokens codes_are old cell) ∙ is))
      ∙ ap (λ reason. run_at rows len section (next_entry (cell ∷ cells)) (with_fault old (record { offset = faulty.fault_offset cell.piece; reason = reason }))) (missing_is section line parts tokens codes_are)
      ∙ ap (run_at rows len section (next_entry (cell ∷ cells))) (plus_fault old (short_fault section tokens cell.piece))
  entry_said (closer_read {line} {parts = tokens} {cells} cell (is_long, closer_is)) parts codes_are old =
      goes rows len (in_entry (entry_with section line parts), old) (item, old) cell cells (closer_step rows len section line parts tokens codes_are old cell is_long closer_is)
      ∙ ap (run_at rows len section (next_item cells)) (sym (plus_none old))
  entry_said (passed_piece {line} {parts = tokens} {cells} {declared} {faults} {next} cell (is_long, takes) more) parts codes_are old =
      let fault = fault_after section tokens cell.piece in
      goes rows len (in_entry (entry_with section line parts), old) _ cell cells (no_place_step rows len section line parts tokens codes_are old cell is_long takes)
      ∙ entry_said more parts codes_are (with_fault old fault)
      ∙ ap (λ o. run_at rows len section next (plus o declared faults)) (plus_fault old fault)
      ∙ ap (run_at rows len section next) (plus_more old [] declared (fault ∷ []) faults)
  entry_said (part_read {line} {parts = tokens} {cells} cell t (is_long, (token, begins, few)) more) parts codes_are old =
      let one = next_part_step rows len section line parts tokens codes_are old cell is_long t token begins few in
      goes rows len (in_entry (entry_with section line parts), old) _ cell cells one.steps
      ∙ entry_said more one.more one.are old
  entry_said (whole_entry {line} {parts = tokens} {cells} {declared} cell (is_long, (t, token, entry))) parts codes_are old =
      goes rows len (in_entry (entry_with section line parts), old) _ cell cells (last_part_step rows len section line parts tokens codes_are old cell is_long t declared token entry)
      ∙ ap (run_at rows len section (next_entry cells)) (plus_declared old declared)
  entry_said (mended_entry {line} {parts = tokens} {cells} {declared} cell (is_long, mended)) parts codes_are old =
      goes rows len (in_entry (entry_with section line parts), old) _ cell cells (mended_step rows len section line parts tokens codes_are old cell is_long declared mended)
  entry_said (list_read {line} {kept} {parts = tokens} {cells} {first} {last} {declared} {faults} {next} cell (is_long, (a, b, start, end, same, shape, a_code, b_code, first_is, last_is, token)) is) parts codes_are old =
      goes rows len (in_entry (entry_with section line parts), old) _ cell cells (list_step rows len section line parts tokens codes_are old cell is_long a b start end same shape a_code b_code token)
      ∙ ap (λ n. run rows len (in_list (record { first = n; next = n; last = big_endian end; kept = length old.said.lists.bfs; begins_line = line; one_line = line }), old) cells) (sym first_is)
      ∙ ap (λ n. run rows len (in_list (record { first = first; next = first; last = n; kept = length old.said.lists.bfs; begins_line = line; one_line = line }), old) cells) (sym last_is)
      ∙ list_said old same is
  entry_said (faulty_entry {line} {parts = tokens} {cells} {next} cell (is_long, (no_close, no_place_taken, no_begin, no_mended)) passes) parts codes_are old =
      let fault = fault_after section tokens cell.piece in
      goes rows len (in_entry (entry_with section line parts), old) _ cell cells (wrong_step rows len section line parts tokens codes_are old cell is_long no_close no_place_taken no_begin no_mended)
      ∙ ap (λ n. run rows len (pass_in_entry (with_fault old fault) (record { section = section; places = places_of section - n; begins_line = line_begun line tokens cell }) cell.piece) cells) (same_count section parts tokens codes_are)
      ∙ entry_passed rows len section (with_fault old fault) (line_begun line tokens cell) passes
      ∙ ap (run_at rows len section next) (plus_fault old fault)
