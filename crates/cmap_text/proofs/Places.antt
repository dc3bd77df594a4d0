-- Where pieces come, in a section that is open or outside, as the pieces before them say: what reading takes next has that place.
use Rattle.std.proofs.Common.{◌≡◌, ◌∙◌, ℕ, ◌+◌, Bool, true, false, List, [], ◌∷◌, ◌++◌, ap, refl, subst, sym}
use Rattle.std.specs.Prelude.{◌&&◌, nat_le, codes, Option, Some, None, option_and_then, option_map, Result, Ok, Err, if◌then◌else◌}
use Rattle.cmap_tokens.specs.Malformed.{Malformed, stray, unclosed_hexadecimal, unclosed_text, wrong_digit}
use Rattle.cmap_tokens.specs.Pieces.{Piece, Wrong}
use Rattle.cmap_tokens.specs.Tokens.{Token}
use Rattle.cmap_values.specs.Files.{Declaration, Lists}
use Rattle.cmap_values.specs.declared.fault.Reason.{Reason}
use Rattle.cmap_values.specs.declared.fault.Reason.TheVariants.{BracketExpected, TextExpected, UnequalLengths}
use Rattle.cmap_values.specs.declared.fault.Stop.{Stop}
use Rattle.cmap_text.specs.TextFiles.{Section, bf_char, bf_range, cids, codespace_range, mapped, notdef, range, single}
use Rattle.cmap_text.specs.TextReading.{Code, adding, cid_in, code_in, codespace, destination_in, is_executable, key_in, opened_by, text_of, value_in, with_other, closer, use_word}
use Rattle.cmap_text.specs.Salvage.{Class, Entry, Filled, Mended, Parts, Rest, Salvaged, State, Texts, adding_empty, after_entry, after_malformed, after_part, alone, at_fault, begin_item, begin_line, class_of, class_of_malformed, class_of_name, class_of_token, close_bracket, code_of_piece, empty_text_in, empty_text_of, end_list, entry_fault, fault_of, fill, fill_texts, having_lists, if_cid, if_code, if_text, in_brackets, in_entry, in_line, in_list, is_closer, is_short, is_stray, item, known, lacks_bracket, list_after, losing, mend, new_entry, no_parts, none, one, open_bracket, own_fault, part, pass_in_entry, pass_in_line, pass_in_list, passed_over, past_texts, places_of, rest_of, rest_of_list, saying, short_list, take_after_texts, take_in_entry, take_in_list, take_in_row, take_item, take_part, take_piece, take_text, take_unless_stray, take_use, take_value, taken, text_in, two, value, widened, with_fault, with_piece}
use Rattle.cmap_text.specs.Salvage as salvage
use Rattle.cmap_text.specs.Standing.{Place, begun_by, key_value, outside, place_after, place_at, within}
use Rattle.cmap_text.proofs.TokensRead.{is_executable-found}

-- that of what is taken next
abbrev pub place_of : State → Place
place_of item = outside
place_of (value k) = key_value
place_of (in_entry entry) = within entry.section
place_of (at_fault rest) = within rest.section
place_of (in_brackets rest) = within rest.section
place_of (in_line section) = within section
place_of (in_list list) = within bf_range

-- after two parts a place is left
abbrev pub PartsFit : Section → Parts → Type 0
PartsFit section none = Unit {0}
PartsFit section (one start) = Unit {0}
PartsFit section (two start end) = places_of section ≡ 3

abbrev pub Fits : State → Type 0
Fits (in_entry entry) = PartsFit entry.section entry.parts
Fits _ = Unit {0}

pub record Goes (place : Place) (s : State × Salvaged) : Type 0 where
  pub is : place_of s.0 ≡ place
  pub fits : Fits s.0

goes : {place : Place} {s : State × Salvaged} → place_of s.0 ≡ place → Fits s.0 → Goes place s
goes is fits = record { is = is; fits = fits }

entry_place : (rest : Rest) (old : Salvaged) → Goes (within rest.section) (after_entry rest, old)
entry_place rest old = by rest.begins_line refl
  where
    by : (b : Bool) → rest.begins_line ≡ b → Goes (within rest.section) (after_entry rest, old)
    by true is = rw (is, after_entry) (goes refl tt)
    by false is = rw (is, after_entry) (goes refl tt)

part_place : (rest : Rest) (old : Salvaged) → Goes (within rest.section) (after_part rest, old)
part_place rest old = by (nat_le rest.places 1) refl
  where
    by : (b : Bool) → nat_le rest.places 1 ≡ b → Goes (within rest.section) (after_part rest, old)
    by true is = rw (is, after_part) (entry_place rest old)
    by false is = rw (is, after_part) (goes refl tt)

-- ---- a known word fills no place
no_value : (t : Token) → class_of_token t ≡ known → value_in t ≡ None
no_value (Token.String raw) is = absurd (cc)
no_value (Token.Name literal bytes) is = refl
no_value (Token.Numeral number) is = refl

no_cid : (t : Token) → class_of_token t ≡ known → cid_in t ≡ None
no_cid (Token.String raw) is = refl
no_cid (Token.Name literal bytes) is = refl
no_cid (Token.Numeral number) is = absurd (cc)

no_malformed : (kind : Malformed) → class_of_malformed kind ≡ known → ⊥
no_malformed unclosed_text is = cc
no_malformed unclosed_hexadecimal is = cc
no_malformed wrong_digit is = cc
no_malformed stray is = cc

abbrev IsOther : Class → Type 0
IsOther k = k ≡ known → ⊥

some_value : {A : Type 0} (t : Token) (read : List ℕ → Option A) (x : A) → option_and_then read (value_in t) ≡ Some x → IsOther (class_of_token t)
some_value t read x is is_known = let wrong = sym is ∙ ap (option_and_then read) (no_value t is_known) in cc

some_cid : (t : Token) (cid : ℕ) → cid_in t ≡ Some cid → IsOther (class_of_token t)
some_cid t cid is is_known = let wrong = sym is ∙ no_cid t is_known in cc

opens_list : (t : Token) → is_executable (codes "[") t ≡ true → IsOther (class_of_token t)
opens_list t opens is_known = let wrong = sym (ap class_of_token (is_executable-found (codes "[") t opens)) ∙ is_known in cc

-- what is read of a piece is read of a token
some_read : {A : Type 0} (piece : Piece) (read : List ℕ → Option A) (x : A) → elim piece.token [ Ok t ↦ option_and_then read (value_in t) | Err w ↦ None ] ≡ Some x → IsOther (class_of piece)
some_read piece read x is = by piece.token refl is
  where
    by : (r : Result Token Wrong) → piece.token ≡ r → elim r [ Ok t ↦ option_and_then read (value_in t) | Err w ↦ None ] ≡ Some x → IsOther (class_of piece)
    by (Ok t) token is is_known = some_value t read x is (sym (rw (token, class_of) refl) ∙ is_known)
    by (Err w) token is is_known = absurd (cc)

-- ---- a place that is filled
module _ (section : Section) (other : Type 0) where
  record Fills (filled : Filled) : Type 0 where
    pub gives : (p : State × Lists) → filled ≡ Ok p → (place_of p.0 ≡ within section) × Fits p.0 × other

  fills : {state : State} {lists : Lists} → place_of state ≡ within section → Fits state → other → Fills (Ok (state, lists))
  fills {state} {lists} place fits holds = record { gives = λ p is. let same : ◌≡◌ {A = State × Lists} (state, lists) p = cc in subst (λ q. (place_of q.0 ≡ within section) × Fits q.0 × other) same (place, fits, holds) }

  fails : {reason : Reason} → Fills (Err reason)
  fails = record { gives = λ p is. absurd (cc) }

  record Mends (mended : Mended) : Type 0 where
    pub gives : (p : State × Lists) → mended ≡ Some p → (place_of p.0 ≡ within section) × Fits p.0 × other

  mends : {state : State} {lists : Lists} → place_of state ≡ within section → Fits state → other → Mends (Some (state, lists))
  mends {state} {lists} place fits holds = record { gives = λ p is. let same : ◌≡◌ {A = State × Lists} (state, lists) p = cc in subst (λ q. (place_of q.0 ≡ within section) × Fits q.0 × other) same (place, fits, holds) }

  mends_none : Mends None
  mends_none = record { gives = λ p is. absurd (cc) }

module _ (lists : Lists) (entry : Entry) (t : Token) where
  abbrev FillsIt : Filled → Type 0
  FillsIt = Fills entry.section (IsOther (class_of_token t))

  filled : {state : State} {new : Lists} → place_of state ≡ within entry.section → Fits state → IsOther (class_of_token t) → FillsIt (Ok (state, new))
  filled = fills entry.section (IsOther (class_of_token t))

  unfilled : {reason : Reason} → FillsIt (Err reason)
  unfilled = fails entry.section (IsOther (class_of_token t))

  code_fills : (more : Code → Filled) → ((code : Code) → IsOther (class_of_token t) → FillsIt (more code)) → FillsIt (if_code t more)
  code_fills more each = by (code_in t) refl
    where
      by : (found : Option Code) → code_in t ≡ found → FillsIt (if_code t more)
      by (Some code) is = rw (is, if_code) (each code (some_value t _ code is))
      by None is = rw (is, if_code) unfilled

  cid_fills : (more : ℕ → Filled) → ((cid : ℕ) → IsOther (class_of_token t) → FillsIt (more cid)) → FillsIt (if_cid t more)
  cid_fills more each = by (cid_in t) refl
    where
      by : (found : Option ℕ) → cid_in t ≡ found → FillsIt (if_cid t more)
      by (Some cid) is = rw (is, if_cid) (each cid (some_cid t cid is))
      by None is = rw (is, if_cid) unfilled

  text_fills : (more : List ℕ → Filled) → ((units : List ℕ) → IsOther (class_of_token t) → FillsIt (more units)) → FillsIt (if_text t more)
  text_fills more each = by (destination_in t) refl
    where
      by : (found : Option (List ℕ)) → destination_in t ≡ found → FillsIt (if_text t more)
      by (Some units) is = rw (is, if_text) (each units (some_value t _ units is))
      by None is = rw (is, if_text) unfilled

  high_fills : (low : Code) → FillsIt (salvage.fill_high lists entry low t)
  high_fills low = code_fills _ (λ high holds. by high holds (codespace low high) refl)
    where
      by : (high : Code) → IsOther (class_of_token t) → (found : Option (List Declaration)) → codespace low high ≡ found → FillsIt (elim (codespace low high) [ Some declared ↦ Ok (in_entry (new_entry entry.section), adding lists declared) | None ↦ Err UnequalLengths ])
      by high holds (Some declared) is = rw is (filled refl tt holds)
      by high holds None is = rw is unfilled

  second_fills : (section : Section) (start : Code) → entry.section ≡ section → FillsIt (salvage.second_filled section lists entry start t)
  second_fills codespace_range start same = high_fills start
  second_fills (cids kind single) start same = cid_fills _ (λ cid holds. filled refl tt holds)
  second_fills (cids kind range) start same = code_fills _ (λ code holds. filled refl (ap places_of same) holds)
  second_fills bf_range start same = code_fills _ (λ code holds. filled refl (ap places_of same) holds)
  second_fills bf_char start same = text_fills _ (λ units holds. filled refl tt holds)

  texts_fills : (start end : Code) → entry.section ≡ bf_range → FillsIt (fill_texts lists entry start end t)
  texts_fills start end same = by (is_executable (codes "[") t) refl
    where
      by : (opens : Bool) → is_executable (codes "[") t ≡ opens → FillsIt (fill_texts lists entry start end t)
      by true is = rw (is, fill_texts) (filled (ap within (sym same)) tt (opens_list t is))
      by false is = rw (is, fill_texts) (text_fills (λ units. Ok (in_entry (new_entry entry.section), adding lists (text_of start.number end.number units))) (λ units holds. filled refl tt holds))

  third_fills : (section : Section) (start end : Code) → entry.section ≡ section → places_of section ≡ 3 → FillsIt (salvage.third_filled section lists entry start end t)
  third_fills codespace_range start end same fit = absurd (cc)
  third_fills (cids kind extent) start end same fit = cid_fills _ (λ cid holds. filled refl tt holds)
  third_fills bf_range start end same fit = texts_fills start end same
  third_fills bf_char start end same fit = absurd (cc)

  all_fill : PartsFit entry.section entry.parts → FillsIt (fill lists entry t)
  all_fill fit = by entry.parts refl fit
    where
      by : (parts : Parts) → entry.parts ≡ parts → PartsFit entry.section parts → FillsIt (fill lists entry t)
      by none is fit = rw (is, fill) (code_fills _ (λ code holds. filled refl tt holds))
      by (one start) is fit = rw (is, fill) (second_fills entry.section start refl)
      by (two start end) is fit = rw (is, fill) (third_fills entry.section start end refl fit)

module _ (lists : Lists) (entry : Entry) (piece : Piece) where
  abbrev MendsIt : Mended → Type 0
  MendsIt = Mends entry.section (IsOther (class_of piece))

  mended_by : {A : Type 0} (declares : A → List Declaration) (found : Option A) → ((x : A) → found ≡ Some x → IsOther (class_of piece)) → MendsIt (option_map (λ x. (in_entry (new_entry entry.section), adding lists (declares x))) found)
  mended_by declares (Some x) holds = mends entry.section (IsOther (class_of piece)) refl tt (holds x refl)
  mended_by declares None holds = mends_none entry.section (IsOther (class_of piece))

  text_mends : (start end : Code) → MendsIt (salvage.mend_text lists entry start end piece)
  text_mends start end = mended_by (text_of start.number end.number) (empty_text_in piece) (λ units is. some_read piece empty_text_of units is)

  high_mends : (low : Code) → MendsIt (salvage.mend_high lists entry low piece)
  high_mends low = mended_by (λ declared. declared) (option_and_then (widened low) (code_of_piece piece)) (λ declared is. by (code_of_piece piece) refl declared is)
    where
      by : (code : Option Code) → code_of_piece piece ≡ code → (declared : List Declaration) → option_and_then (widened low) code ≡ Some declared → IsOther (class_of piece)
      by (Some code) is declared gives = some_read piece _ code is
      by None is declared gives = absurd (cc)

  second_mends : (section : Section) (start : Code) → MendsIt (salvage.second_mended section lists entry start piece)
  second_mends codespace_range start = high_mends start
  second_mends (cids kind extent) start = mends_none entry.section (IsOther (class_of piece))
  second_mends bf_range start = mends_none entry.section (IsOther (class_of piece))
  second_mends bf_char start = text_mends start start

  third_mends : (section : Section) (start end : Code) → MendsIt (salvage.third_mended section lists entry start end piece)
  third_mends codespace_range start end = mends_none entry.section (IsOther (class_of piece))
  third_mends (cids kind extent) start end = mends_none entry.section (IsOther (class_of piece))
  third_mends bf_range start end = text_mends start end
  third_mends bf_char start end = mends_none entry.section (IsOther (class_of piece))

  all_mend : MendsIt (mend lists entry piece)
  all_mend = by entry.parts refl
    where
      by : (parts : Parts) → entry.parts ≡ parts → MendsIt (mend lists entry piece)
      by none is = rw (is, mend) (mends_none entry.section (IsOther (class_of piece)))
      by (one start) is = rw (is, mend) (second_mends entry.section start)
      by (two start end) is = rw (is, mend) (third_mends entry.section start end)

second_true : (a b : Bool) → a && b ≡ true → b ≡ true
second_true true b is = is
second_true false b is = absurd (cc)

-- ---- each step
abbrev begun_with : Token → Place
begun_with t = elim (opened_by t) [ Some section ↦ within section | None ↦ elim (key_in t) [ Some k ↦ key_value | None ↦ outside ] ]

pub closed : (section : Section) → (class_of_token (Token.Name false (closer section)) ≡ known) × (begun_with (Token.Name false (closer section)) ≡ outside)
closed codespace_range = (refl, refl)
closed (cids mapped range) = (refl, refl)
closed (cids mapped single) = (refl, refl)
closed (cids notdef range) = (refl, refl)
closed (cids notdef single) = (refl, refl)
closed bf_range = (refl, refl)
closed bf_char = (refl, refl)

module _ (piece : Piece) where
  use_goes : (old : Salvaged) (operand : Option (List ℕ)) (end : ℕ) → Goes outside (take_use old operand end)
  use_goes old (Some name) end = goes refl tt
  use_goes old None end = goes refl tt

  item_goes : (old : Salvaged) → Goes (begun_by piece) (take_item old piece)
  item_goes old = by piece.token refl
    where
      begins : (t : Token) → piece.token ≡ Ok t → (s : Option Section) → opened_by t ≡ s → (u : Bool) → is_executable use_word t ≡ u → (k : Option (List ℕ)) → key_in t ≡ k → Goes (begun_by piece) (begin_item old t piece.end)
      begins t token (Some section) opens u uses k is = rw (token, opens, begun_by, begin_item) (goes refl tt)
      begins t token None opens true uses (Some k) is = let wrong = sym is ∙ ap key_in (is_executable-found use_word t uses) in absurd (cc)
      begins t token None opens true uses None is = rw (token, opens, uses, is, begun_by, begin_item) (use_goes (saying old (with_other old.said t)) old.said.operand piece.end)
      begins t token None opens false uses (Some k) is = rw (token, opens, uses, is, begun_by, begin_item) (goes refl tt)
      begins t token None opens false uses None is = rw (token, opens, uses, is, begun_by, begin_item) (goes refl tt)

      by : (r : Result Token Wrong) → piece.token ≡ r → Goes (begun_by piece) (take_item old piece)
      by (Ok t) is = subst (Goes (begun_by piece)) (sym (rw (is, take_item) refl)) (begins t is (opened_by t) refl (is_executable use_word t) refl (key_in t) refl)
      by (Err w) is = rw (is, take_item, begun_by) (goes refl tt)

  value_goes : (old : Salvaged) (k : List ℕ) → Goes (place_after key_value piece) (take_value old k piece)
  value_goes old k = by piece.token refl
    where
      malformed : (w : Wrong) (new : Salvaged) (kind : Malformed) → w.kind ≡ kind → Goes (elim (class_of_malformed w.kind) [ alone ↦ key_value | _ ↦ outside ]) (after_malformed k (class_of_malformed w.kind), new)
      malformed w new unclosed_text is = rw is (goes refl tt)
      malformed w new unclosed_hexadecimal is = rw is (goes refl tt)
      malformed w new wrong_digit is = rw is (goes refl tt)
      malformed w new stray is = rw is (goes refl tt)

      by : (r : Result Token Wrong) → piece.token ≡ r → Goes (place_after key_value piece) (take_value old k piece)
      by (Ok t) is = rw (is, take_value, place_after) (goes refl tt)
      by (Err w) is =
          let class_is : class_of piece ≡ class_of_malformed w.kind = ap (λ r. elim r [ Ok t ↦ class_of_token t | Err w ↦ class_of_malformed w.kind ]) is in
          rw (is, take_value, place_after) (subst (λ c. Goes (elim (class_of_malformed w.kind) [ alone ↦ key_value | _ ↦ outside ]) (after_malformed k c, with_fault old (own_fault w))) (sym class_is) (malformed w (with_fault old (own_fault w)) w.kind refl))

  module _ (section : Section) where
    abbrev Here : State × Salvaged → Type 0
    Here = Goes (place_after (within section) piece)

    -- a known word begins an item, and another piece leaves the section open
    here_known : {s : State × Salvaged} → class_of piece ≡ known → Goes (begun_by piece) s → Here s
    here_known is goes_on = rw (is, place_after) goes_on

    here : {s : State × Salvaged} → IsOther (class_of piece) → place_of s.0 ≡ within section → Fits s.0 → Here s
    here {s} other place fits = goes (place ∙ sym (by (class_of piece) refl)) fits
      where
        by : (k : Class) → class_of piece ≡ k → place_after (within section) piece ≡ within section
        by known is = absurd (other is)
        by alone is = rw (is, place_after) refl
        by open_bracket is = rw (is, place_after) refl
        by close_bracket is = rw (is, place_after) refl
        by part is = rw (is, place_after) refl

    -- each of these goes on in the section
    by_known : {a b c d e : State × Salvaged} → Goes (begun_by piece) a → Goes (within section) b → Goes (within section) c → Goes (within section) d → Goes (within section) e → (k : Class) → class_of piece ≡ k → Here (elim k [ known ↦ a | alone ↦ b | open_bracket ↦ c | close_bracket ↦ d | part ↦ e ])
    by_known a b c d e known is = here_known is a
    by_known a b c d e alone is = here (λ w. let wrong = sym is ∙ w in cc) b.is b.fits
    by_known a b c d e open_bracket is = here (λ w. let wrong = sym is ∙ w in cc) c.is c.fits
    by_known a b c d e close_bracket is = here (λ w. let wrong = sym is ∙ w in cc) d.is d.fits
    by_known a b c d e part is = here (λ w. let wrong = sym is ∙ w in cc) e.is e.fits

  entry_passed : (old : Salvaged) (rest : Rest) → Here rest.section (pass_in_entry old rest piece)
  entry_passed old rest = by_known rest.section (item_goes old) (goes refl tt) (goes refl tt) (entry_place rest old) (part_place rest old) (class_of piece) refl

  list_passed : (old : Salvaged) (rest : Rest) → Here rest.section (pass_in_list old rest piece)
  list_passed old rest = by_known rest.section (item_goes old) (goes refl tt) (goes refl tt) (entry_place rest old) (goes refl tt) (class_of piece) refl

  module _ (old : Salvaged) (entry : Entry) (fit : PartsFit entry.section entry.parts) where
    passed_goes : Here entry.section (passed_over old entry piece)
    passed_goes = by (class_of piece) refl (entry_passed old (rest_of entry))
      where
        by : (k : Class) → class_of piece ≡ k → Here entry.section (pass_in_entry old (rest_of entry) piece) → Here entry.section (elim k [ alone ↦ (in_entry entry, old) | _ ↦ pass_in_entry old (rest_of entry) piece ])
        by known is passed = passed
        by alone is passed = here entry.section (λ w. let wrong = sym is ∙ w in cc) refl fit
        by open_bracket is passed = passed
        by close_bracket is passed = passed
        by part is passed = passed

  fault_goes : (old : Salvaged) (entry : Entry) (fault : Stop) → PartsFit entry.section entry.parts → Here entry.section (entry_fault old entry piece fault)
  fault_goes old entry fault fit = by (mend old.said.lists entry piece) (all_mend old.said.lists entry piece)
    where
      by : (mended : Mended) → MendsIt old.said.lists entry piece mended → Here entry.section (elim mended [ Some p ↦ (p.0, having_lists (with_fault old fault) p.1) | None ↦ passed_over (with_fault old fault) entry piece ])
      by (Some p) mends_it = let (place, fits, other) = mends_it.gives p refl in here entry.section other place fits
      by None mends_it = passed_goes (with_fault old fault) entry fit

  part_goes : (old : Salvaged) (entry : Entry) → PartsFit entry.section entry.parts → Here entry.section (take_part old entry piece)
  part_goes old entry fit = by piece.token refl
    where
      token_goes : (t : Token) → piece.token ≡ Ok t → (filled : Filled) → FillsIt old.said.lists entry t filled → Here entry.section (taken old entry piece t filled)
      token_goes t is (Ok p) fills_it = let (place, fits, other) = fills_it.gives p refl in here entry.section (λ k. other (sym (rw (is, class_of) refl) ∙ k)) place fits
      token_goes t is (Err reason) fills_it = fault_goes old entry _ fit

      took : Result Token Wrong → State × Salvaged
      took r = elim r [ Ok t ↦ taken old entry piece t (fill old.said.lists entry t) | Err w ↦ entry_fault old entry piece (own_fault w) ]

      by : (r : Result Token Wrong) → piece.token ≡ r → Here entry.section (take_part old entry piece)
      by (Ok t) is = subst (Here entry.section) (sym (ap took is)) (token_goes t is (fill old.said.lists entry t) (all_fill old.said.lists entry t fit))
      by (Err w) is = subst (Here entry.section) (sym (ap took is)) (fault_goes old entry (own_fault w) fit)

  closer_goes : (old : Salvaged) (section : Section) → is_closer section piece ≡ true → Here section (item, old)
  closer_goes old section closes = by piece.token refl closes
    where
      by : (r : Result Token Wrong) → piece.token ≡ r → elim r [ Ok t ↦ is_executable (closer section) t | Err w ↦ false ] ≡ true → Here section (item, old)
      by (Ok t) token is =
          let name = is_executable-found (closer section) t is in
          let (class_is, ends) = closed section in
          let is_known : class_of piece ≡ known = ap (λ r. elim r [ Ok t ↦ class_of_token t | Err w ↦ class_of_malformed w.kind ]) token ∙ ap class_of_token name ∙ class_is in
          let is_outside : begun_by piece ≡ outside = ap (λ r. elim r [ Ok t ↦ begun_with t | Err w ↦ outside ]) token ∙ ap begun_with name ∙ ends in
          here_known section is_known (goes (sym is_outside) tt)
      by (Err w) token is = absurd (cc)

  entry_goes : (old : Salvaged) (entry : Entry) → PartsFit entry.section entry.parts → Here entry.section (take_in_entry old entry piece)
  entry_goes old entry fit = by (no_parts entry.parts) (is_closer entry.section piece) refl
    where
      by : (empty closes : Bool) → is_closer entry.section piece ≡ closes → Here entry.section (if empty && closes then (item, old) else take_part old (with_piece entry piece) piece)
      by true true is = closer_goes old entry.section is
      by true false is = part_goes old (with_piece entry piece) fit
      by false closes is = part_goes old (with_piece entry piece) fit

  line_passed : (old : Salvaged) (section : Section) → Here section (pass_in_line old section piece)
  line_passed old section = by piece.begins_line
    where
      by : (b : Bool) → Here section (if b then take_in_entry old (new_entry section) piece else elim (class_of piece) [ known ↦ take_item old piece | alone ↦ (in_line section, old) | open_bracket ↦ (in_brackets (salvage.rest_in_line section), old) | close_bracket ↦ (in_line section, old) | part ↦ (in_line section, old) ])
      by true = entry_goes old (new_entry section) tt
      by false = by_known section (item_goes old) (goes refl tt) (goes refl tt) (goes refl tt) (goes refl tt) (class_of piece) refl

  -- ---- a list
  no_text_goes : (old : Salvaged) (list : Texts) → Here bf_range (salvage.no_text old list piece)
  no_text_goes old list = by_known bf_range (item_goes (losing old list)) (goes refl tt) (goes refl tt) (entry_place (rest_of_list list) (short_list old list)) (goes refl tt) (class_of piece) refl

  text_goes : (old : Salvaged) (list : Texts) → Here bf_range (take_text old list piece)
  text_goes old list = by (text_in piece) refl
    where
      by : (found : Option (List ℕ)) → text_in piece ≡ found → Here bf_range (elim found [ Some units ↦ (list_after list piece (list.next + 1), having_lists old (adding old.said.lists (text_of list.next list.next units))) | None ↦ salvage.no_text (with_fault old (fault_of TextExpected piece)) list piece ])
      by (Some units) is = here bf_range (some_read piece _ units is) refl tt
      by None is = no_text_goes (with_fault old (fault_of TextExpected piece)) list

  end_goes : (old : Salvaged) (list : Texts) → class_of piece ≡ part → Here bf_range (end_list old list piece)
  end_goes old list is = by (lacks_bracket list piece)
    where
      by : (b : Bool) → Here bf_range (if b then take_in_entry old (new_entry bf_range) piece else (in_brackets (rest_of_list list), losing old list))
      by true = entry_goes old (new_entry bf_range) tt
      by false = here bf_range (λ w. let wrong = sym is ∙ w in cc) refl tt

  past_goes : (old : Salvaged) (list : Texts) → Here bf_range (past_texts old list piece)
  past_goes old list = by (class_of piece) refl
    where
      by : (k : Class) → class_of piece ≡ k → Here bf_range (past_texts old list piece)
      by known is = rw (is, past_texts) (here_known bf_range is (item_goes old))
      by alone is = rw (is, past_texts) (here bf_range (λ w. let wrong = sym is ∙ w in cc) refl tt)
      by open_bracket is = rw (is, past_texts) (here bf_range (λ w. let wrong = sym is ∙ w in cc) refl tt)
      by close_bracket is = rw (is, past_texts) (here bf_range (λ w. let wrong = sym is ∙ w in cc) refl tt)
      by part is = rw (is, past_texts) (end_goes old list is)

  after_texts_goes : (old : Salvaged) (list : Texts) → Here bf_range (take_after_texts old list piece)
  after_texts_goes old list = by (class_of piece) refl (past_goes (with_fault old (fault_of BracketExpected piece)) list)
    where
      by : (k : Class) → class_of piece ≡ k → Here bf_range (past_texts (with_fault old (fault_of BracketExpected piece)) list piece) → Here bf_range (elim k [ close_bracket ↦ (in_entry (new_entry bf_range), old) | _ ↦ past_texts (with_fault old (fault_of BracketExpected piece)) list piece ])
      by known is past = past
      by alone is past = past
      by open_bracket is past = past
      by close_bracket is past = here bf_range (λ w. let wrong = sym is ∙ w in cc) refl tt
      by part is past = past

  list_goes : (old : Salvaged) (list : Texts) → Here bf_range (take_in_list old list piece)
  list_goes old list = by (nat_le list.next list.last)
    where
      by : (b : Bool) → Here bf_range (if b then take_text old list piece else take_after_texts old list piece)
      by true = text_goes old list
      by false = after_texts_goes old list

  pub place_goes : (now : State × Salvaged) → Fits now.0 → Goes (place_after (place_of now.0) piece) (take_piece now piece)
  place_goes (item, old) fits = item_goes old
  place_goes (value k, old) fits = value_goes old k
  place_goes (in_entry entry, old) fits = entry_goes old entry fits
  place_goes (at_fault rest, old) fits = entry_passed old rest
  place_goes (in_brackets rest, old) fits = list_passed old rest
  place_goes (in_line section, old) fits = line_passed old section
  place_goes (in_list list, old) fits = list_goes old list

  -- ---- in rows
  line_goes : (parts : ℕ) (now : State × Salvaged) → Fits now.0 → Goes (place_of now.0) (begin_line parts now piece)
  line_goes parts (item, old) fits = goes refl tt
  line_goes parts (value k, old) fits = goes refl tt
  line_goes parts (in_entry entry, old) fits = by (is_short parts entry piece)
    where
      by : (b : Bool) → Goes (within entry.section) (if b then (in_entry (new_entry entry.section), with_fault old (salvage.short_fault entry piece)) else (in_entry entry, old))
      by true = goes refl tt
      by false = goes refl fits
  line_goes parts (at_fault rest, old) fits = goes refl tt
  line_goes parts (in_brackets rest, old) fits = goes refl tt
  line_goes parts (in_line section, old) fits = goes refl tt
  line_goes parts (in_list list, old) fits = goes refl tt

  stray_part : is_stray piece ≡ true → IsOther (class_of piece)
  stray_part is is_known = let wrong : false ≡ true = sym (ap salvage.is_part is_known) ∙ second_true (salvage.is_name_piece piece) (salvage.is_part (class_of piece)) is in cc

  stray_goes : (now : State × Salvaged) → Fits now.0 → Goes (place_after (place_of now.0) piece) (take_unless_stray now piece)
  stray_goes (item, old) fits = item_goes old
  stray_goes (value k, old) fits = value_goes old k
  stray_goes (in_entry entry, old) fits = by (is_stray piece) refl
    where
      by : (b : Bool) → is_stray piece ≡ b → Here entry.section (if b then (in_entry (with_piece entry piece), with_fault old (fault_of (salvage.missing entry) piece)) else take_in_entry old entry piece)
      by true is = here entry.section (stray_part is) refl fits
      by false is = entry_goes old entry fits
  stray_goes (at_fault rest, old) fits = entry_passed old rest
  stray_goes (in_brackets rest, old) fits = list_passed old rest
  stray_goes (in_line section, old) fits = line_passed old section
  stray_goes (in_list list, old) fits = list_goes old list

  pub row_begins : (parts : ℕ) (now : State × Salvaged) → Fits now.0 → Goes (place_of now.0) (if piece.begins_line then begin_line parts now piece else now)
  row_begins parts now fits = by piece.begins_line
    where
      by : (b : Bool) → Goes (place_of now.0) (if b then begin_line parts now piece else now)
      by true = line_goes parts now fits
      by false = goes refl fits

  pub row_goes : (parts : ℕ) (now : State × Salvaged) → Fits now.0 → Goes (place_after (place_of now.0) piece) (take_in_row parts now piece)
  row_goes parts now fits =
      let begun = row_begins parts now fits in
      let new : State × Salvaged = if piece.begins_line then begin_line parts now piece else now in
      subst (λ place. Goes (place_after place piece) (take_unless_stray new piece)) begun.is (stray_goes new begun.fits)

-- a piece more
pub place_at-more : (place : Place) (pieces : List Piece) (piece : Piece) → place_at place (pieces ++ piece ∷ []) ≡ place_after (place_at place pieces) piece
unfolding place_at
place_at-more place [] piece = refl
place_at-more place (first ∷ pieces) piece = place_at-more (place_after place first) pieces piece
