-- Lists of texts: the reading of pieces, one after another, goes through them as the relation says.
use Rattle.std.proofs.Common.{◌≡◌, ◌∙◌, ℕ, ◌+◌, ◌-◌, ◌<◌, ◌≤◌, Bool, true, false, List, [], ◌∷◌, ◌++◌, ap, refl, sym, append_assoc, append-nil, length, take, inl, inr}
use Rattle.std.specs.Prelude.{◌&&◌, nat_lt, not, Option, Some, None, option_and_then, Result, Ok, Err, if◌then◌else◌}
use Rattle.std.proofs.lemmas.Bool.{cases_Bool, le-leb, lt-leb, lt-ltb, ltb-true, and_parts}
use Rattle.std.proofs.lemmas.List.{take_at}
use Rattle.cmap_tokens.specs.Pieces.{Piece, Wrong}
use Rattle.cmap_tokens.specs.Tokens.{Token}
use Rattle.cmap_values.specs.Files.{BfEntry, Declaration, Lists, bfs_of, lists_of}
use Rattle.cmap_values.specs.ListsAppended.{append_lists, no_lists}
use Rattle.cmap_values.specs.declared.fault.Reason.TheVariants.{BracketExpected, TextExpected}
use Rattle.cmap_values.specs.declared.fault.Stop.{Stop}
use Rattle.cmap_values.proofs.ListsMade.{added_more, append_lists-none, lists_of-append}
use Rattle.cmap_text.specs.TextFiles.{bf_range}
use Rattle.cmap_text.specs.TextReading.{adding, destination_in, destination_of, text_of, value_in}
use Rattle.cmap_text.specs.FaultyTexts.{Cell, IsEmptyText, IsNominal, IsText, ListRead, Next, TakesNoText, is_next_row, next_entry, next_item, stays_on_line, texts_end, text_read, empty_read, other_read, nothing_read, nominal, too_short, texts_left, list_closed, between_texts, list_word, row_read, too_long}
use Rattle.cmap_text.specs.Salvage.{Class, Salvaged, State, Texts, adding_empty, after_entry, alone, begin_line, class_of, class_of_malformed, class_of_token, close_bracket, empty_text_in, empty_text_of, end_list, fault_of, having_lists, in_brackets, in_entry, in_list, is_name, is_nominal, is_string, is_string_piece, known, losing, new_entry, open_bracket, part, rest_of_list, short_list, take_in_entry, take_after_texts, take_in_list, take_in_row, take_item, take_piece, take_unless_stray, take_text, text_in, missing, no_text, with_fault, with_piece}
use Rattle.cmap_text.proofs.TokensRead.{destination_found, destination_is, empty_found, no_answer, read_value}
use Rattle.cmap_text.proofs.FaultyPassed.{faulty_list_passed, faulty_passed, goes, goes_as, item_goes, plain_step, run, run_at, run_end, step}

-- ---- what is said more
abbrev pub plus : Salvaged → List Declaration → List Stop → Salvaged
plus old declared faults = record { said = record { values = old.said.values; lists = adding old.said.lists declared; uses = old.said.uses; operand = old.said.operand }; faults = old.faults ++ faults }

abbrev with_both : Salvaged → Lists → List Stop → Salvaged
with_both old lists faults = record { said = record { values = old.said.values; lists = lists; uses = old.said.uses; operand = old.said.operand }; faults = faults }

pub plus_none : (old : Salvaged) → plus old [] [] ≡ old
plus_none old = ap (λ l. with_both old l (old.faults ++ [])) (append_lists-none old.said.lists) ∙ ap (with_both old old.said.lists) (append-nil old.faults)

pub plus_more : (old : Salvaged) (a b : List Declaration) (f g : List Stop) → plus (plus old a f) b g ≡ plus old (a ++ b) (f ++ g)
plus_more old a b f g = ap (λ l. with_both old l ((old.faults ++ f) ++ g)) (added_more old.said.lists (adding old.said.lists a) _ a b refl refl) ∙ ap (with_both old (adding old.said.lists (a ++ b))) (append_assoc old.faults f g)

pub plus_fault : (old : Salvaged) (fault : Stop) → with_fault old fault ≡ plus old [] (fault ∷ [])
plus_fault old fault = ap (λ l. with_both old l (old.faults ++ fault ∷ [])) (sym (append_lists-none old.said.lists))

pub plus_declared : (old : Salvaged) (declared : List Declaration) → having_lists old (adding old.said.lists declared) ≡ plus old declared []
plus_declared old declared = ap (with_both old (adding old.said.lists declared)) (sym (append-nil old.faults))

more_fault : (old : Salvaged) (a : List Declaration) (f : List Stop) (fault : Stop) → with_fault (plus old a f) fault ≡ plus old a (f ++ fault ∷ [])
more_fault old a f fault = ap (with_both old (adding old.said.lists a)) (append_assoc old.faults f (fault ∷ []))

more_declared : (old : Salvaged) (a b : List Declaration) (f : List Stop) → having_lists (plus old a f) (adding (adding old.said.lists a) b) ≡ plus old (a ++ b) f
more_declared old a b f = ap (λ l. with_both old l (old.faults ++ f)) (added_more old.said.lists (adding old.said.lists a) _ a b refl refl)

-- ---- only texts
abbrev of_texts : List BfEntry → Lists
of_texts bfs = record { cids = no_lists.cids; notdefs = no_lists.notdefs; bfs = bfs; spaces = [] }

abbrev AreTexts : List Declaration → Type 0
AreTexts declared = lists_of declared ≡ of_texts (bfs_of declared)

one_more : (declared : List Declaration) (code : ℕ) (units : List ℕ) → AreTexts declared → AreTexts (declared ++ text_of code code units)
one_more declared code units are =
    let more = text_of code code units in
    lists_of-append declared more ∙ ap (λ l. append_lists l (lists_of more)) are ∙ ap of_texts (sym (ap (λ l. l.bfs) (lists_of-append declared more)))

-- ---- single pieces
pub text_there : (piece : Piece) (units : List ℕ) → IsText piece units → text_in piece ≡ Some units
text_there piece units (t, token, is) = ap (λ r. elim r as (λ x. Option (List ℕ)) [ Ok t ↦ destination_in t | Err w ↦ None ]) token ∙ destination_is t units is

pub text_class : (piece : Piece) (units : List ℕ) → text_in piece ≡ Some units → class_of piece ≡ part
text_class piece units is = by piece.token is
  where
    by : (r : Result Token Wrong) → (elim r as (λ x. Option (List ℕ)) [ Ok t ↦ destination_in t | Err w ↦ None ]) ≡ Some units → (elim r as (λ x. Class) [ Ok t ↦ class_of_token t | Err w ↦ class_of_malformed w.kind ]) ≡ part
    by (Ok (Token.String raw)) is = refl
    by (Ok (Token.Name literal bytes)) is = absurd (cc)
    by (Ok (Token.Numeral number)) is = absurd (cc)
    by (Err w) is = absurd (cc)

pub text_found : (piece : Piece) (units : List ℕ) → text_in piece ≡ Some units → IsText piece units
text_found piece units is = by piece.token refl is
  where
    by : (r : Result Token Wrong) → piece.token ≡ r → (elim r as (λ x. Option (List ℕ)) [ Ok t ↦ destination_in t | Err w ↦ None ]) ≡ Some units → IsText piece units
    by (Ok t) token is = (t, token, destination_found t units is)
    by (Err w) token is = absurd (cc)

no_text_in : (piece : Piece) (k : Class) → class_of piece ≡ k → (k ≡ part → ⊥) → text_in piece ≡ None
no_text_in piece k is not = no_answer (text_in piece) (λ units some. not (sym is ∙ text_class piece units some))

pub empty_in : (piece : Piece) → IsEmptyText piece → empty_text_in piece ≡ Some []
empty_in piece (t, token, (raw, is, value)) = ap (λ r. elim r as (λ x. Option (List ℕ)) [ Ok t ↦ option_and_then empty_text_of (value_in t) | Err w ↦ None ]) token ∙ read_value empty_text_of t raw [] is value

pub empty_from : (piece : Piece) (units : List ℕ) → empty_text_in piece ≡ Some units → IsEmptyText piece × (units ≡ [])
empty_from piece units is = by piece.token refl is
  where
    by : (r : Result Token Wrong) → piece.token ≡ r → (elim r as (λ x. Option (List ℕ)) [ Ok t ↦ option_and_then empty_text_of (value_in t) | Err w ↦ None ]) ≡ Some units → IsEmptyText piece × (units ≡ [])
    by (Ok t) token is = let (empty, none) = empty_found t units is in ((t, token, empty), none)
    by (Err w) token is = absurd (cc)

-- ---- a list
module _ (rows : Bool) (len : ℕ) (first last : ℕ) (line : Bool) (kept_before : ℕ) where
  abbrev at_code : ℕ → Bool → Texts
  at_code code on_line = record { first = first; next = code; last = last; kept = kept_before; begins_line = line; one_line = on_line }

  abbrev now_at : ℕ → Bool → State
  now_at code on_line = in_list (at_code code on_line)

  list_step : (code : ℕ) (on_line : Bool) (old : Salvaged) (cell : Cell) → step rows len (now_at code on_line, old) cell ≡ take_in_list old (at_code code on_line) cell.piece
  list_step code on_line old cell = plain_step rows len (now_at code on_line) old cell tt

  -- a place is left
  left_step : (code : ℕ) (on_line : Bool) (old : Salvaged) (cell : Cell) → code ≤ last → step rows len (now_at code on_line, old) cell ≡ take_text old (at_code code on_line) cell.piece
  left_step code on_line old cell left = list_step code on_line old cell ∙ ap (λ b. if b then take_text old (at_code code on_line) cell.piece else take_after_texts old (at_code code on_line) cell.piece) (le-leb code last left)

  text_step : (code : ℕ) (on_line : Bool) (old : Salvaged) (cell : Cell) (units : List ℕ) → code ≤ last → text_in cell.piece ≡ Some units
      → step rows len (now_at code on_line, old) cell ≡ (now_at (code + 1) (stays_on_line on_line cell), having_lists old (adding old.said.lists (text_of code code units)))
  text_step code on_line old cell units left is = left_step code on_line old cell left ∙ ap (λ o. elim o as (λ x. State × Salvaged) [
    | Some units ↦ (now_at (code + 1) (stays_on_line on_line cell), having_lists old (adding old.said.lists (text_of code code units)))
    | None ↦ no_text (with_fault old (fault_of TextExpected cell.piece)) (at_code code on_line) cell.piece
  ]) is

  none_class : ℕ → Bool → Salvaged → Cell → Class → State × Salvaged
  none_class code on_line old cell k = elim k [
    | known ↦ take_item (losing old (at_code code on_line)) cell.piece
    | part ↦ (now_at (code + 1) (stays_on_line on_line cell), adding_empty old code cell.piece)
    | close_bracket ↦ (after_entry (rest_of_list (at_code code on_line)), short_list old (at_code code on_line))
    | _ ↦ (now_at code (stays_on_line on_line cell), old)
  ]

  none_step : (code : ℕ) (on_line : Bool) (old : Salvaged) (cell : Cell) (k : Class) → code ≤ last → text_in cell.piece ≡ None → class_of cell.piece ≡ k
      → step rows len (now_at code on_line, old) cell ≡ none_class code on_line (with_fault old (fault_of TextExpected cell.piece)) cell k
  unfolding none_class
  none_step code on_line old cell k left none is =
      left_step code on_line old cell left
      ∙ ap (λ o. elim o as (λ x. State × Salvaged) [
        | Some units ↦ (now_at (code + 1) (stays_on_line on_line cell), having_lists old (adding old.said.lists (text_of code code units)))
        | None ↦ no_text (with_fault old (fault_of TextExpected cell.piece)) (at_code code on_line) cell.piece
      ]) none
      ∙ ap (none_class code on_line (with_fault old (fault_of TextExpected cell.piece)) cell) is

  -- all places are filled
  full_class : ℕ → Bool → Salvaged → Cell → Class → State × Salvaged
  full_class code on_line old cell k =
      let found = with_fault old (fault_of BracketExpected cell.piece) in
      elim k [
        | close_bracket ↦ (in_entry (new_entry bf_range), old)
        | known ↦ take_item found cell.piece
        | part ↦ end_list found (at_code code on_line) cell.piece
        | _ ↦ (now_at code (stays_on_line on_line cell), found)
      ]

  abbrev twice : ℕ → Bool → Salvaged → Cell → Class → Class → State × Salvaged
  twice code on_line old cell c d =
      let found = with_fault old (fault_of BracketExpected cell.piece) in
      elim c [ close_bracket ↦ (in_entry (new_entry bf_range), old) | _ ↦ elim d [ known ↦ take_item found cell.piece | part ↦ end_list found (at_code code on_line) cell.piece | _ ↦ (now_at code (stays_on_line on_line cell), found) ] ]

  once : (code : ℕ) (on_line : Bool) (old : Salvaged) (cell : Cell) (c : Class) → twice code on_line old cell c c ≡ full_class code on_line old cell c
  unfolding full_class
  once code on_line old cell known = refl
  once code on_line old cell alone = refl
  once code on_line old cell open_bracket = refl
  once code on_line old cell close_bracket = refl
  once code on_line old cell part = refl

  full_step : (code : ℕ) (on_line : Bool) (old : Salvaged) (cell : Cell) (k : Class) → last < code → class_of cell.piece ≡ k → step rows len (now_at code on_line, old) cell ≡ full_class code on_line old cell k
  full_step code on_line old cell k full is =
      list_step code on_line old cell
      ∙ ap (λ b. if b then take_text old (at_code code on_line) cell.piece else take_after_texts old (at_code code on_line) cell.piece) (lt-leb code last full)
      ∙ once code on_line old cell (class_of cell.piece)
      ∙ ap (full_class code on_line old cell) is

  -- a string in the first place of an entry
  string_step : (old : Salvaged) (cell : Cell) → is_string_piece cell.piece ≡ true → step rows len (in_entry (new_entry bf_range), old) cell ≡ take_in_entry old (new_entry bf_range) cell.piece
  unfolding step
  string_step old cell is = by rows
    where
      no_name : (r : Result Token Wrong) (b : Bool) → (elim r as (λ x. Bool) [ Ok t ↦ is_string t | Err w ↦ false ]) ≡ true → ((elim r as (λ x. Bool) [ Ok t ↦ is_name t | Err w ↦ false ]) && b) ≡ false
      no_name (Ok (Token.String raw)) b string = refl
      no_name (Ok (Token.Name literal bytes)) b string = absurd (cc)
      no_name (Ok (Token.Numeral number)) b string = absurd (cc)
      no_name (Err w) b string = absurd (cc)

      begun : (b : Bool) → take_unless_stray (if b then begin_line cell.parts (in_entry (new_entry bf_range), old) cell.piece else (in_entry (new_entry bf_range), old)) cell.piece ≡ take_in_entry old (new_entry bf_range) cell.piece
      begun true = ap (λ s. if s then (in_entry (with_piece (new_entry bf_range) cell.piece), with_fault old (fault_of (missing (new_entry bf_range)) cell.piece)) else take_in_entry old (new_entry bf_range) cell.piece) (no_name cell.piece.token _ is)
      begun false = ap (λ s. if s then (in_entry (with_piece (new_entry bf_range) cell.piece), with_fault old (fault_of (missing (new_entry bf_range)) cell.piece)) else take_in_entry old (new_entry bf_range) cell.piece) (no_name cell.piece.token _ is)

      by : (r : Bool) → (if r then take_in_row cell.parts (in_entry (new_entry bf_range), old) cell.piece else take_piece (in_entry (new_entry bf_range), old) cell.piece) ≡ take_in_entry old (new_entry bf_range) cell.piece
      by true = begun cell.piece.begins_line
      by false = refl

  -- the state goes on, with what is said and the faults so far
  module _ (old : Salvaged) (kept_is : kept_before ≡ length old.said.lists.bfs) where
    lost : (code : ℕ) (on_line : Bool) (declared : List Declaration) (faults : List Stop) → AreTexts declared → losing (plus old declared faults) (at_code code on_line) ≡ plus old [] faults
    lost code on_line declared faults are =
        let before = old.said.lists in
        let cut : Lists → Lists = λ l. record { cids = l.cids; notdefs = l.notdefs; bfs = take kept_before l.bfs; spaces = l.spaces } in
        let with_bfs : Lists → List BfEntry → Lists = λ l bfs. record { cids = l.cids; notdefs = l.notdefs; bfs = bfs; spaces = l.spaces } in
        ap (λ l. having_lists (plus old declared faults) (cut (append_lists before l))) are
        ∙ ap (λ bfs. having_lists (plus old declared faults) (with_bfs (append_lists before no_lists) bfs)) (take_at before.bfs (bfs_of declared) kept_before (sym kept_is) ∙ sym (append-nil before.bfs))

    said_so : (next : Next) (a b : List Declaration) (f g : List Stop) → a ≡ b → f ≡ g → run_at rows len bf_range next (plus old a f) ≡ run_at rows len bf_range next (plus old b g)
    said_so next a b f g declares faults = ap (λ d. run_at rows len bf_range next (plus old d f)) declares ∙ ap (λ s. run_at rows len bf_range next (plus old b s)) faults

    abbrev kept_or_lost : Bool → List Declaration → List Declaration
    kept_or_lost kept declared = if kept then declared else []

    -- one text more
    after_text : (kept : Bool) (a b : List Declaration) (text : List Declaration) → kept_or_lost kept ((a ++ text) ++ b) ≡ kept_or_lost kept (a ++ (text ++ b))
    after_text kept a b text = ap (kept_or_lost kept) (append_assoc a text b)

    same_list : (code : ℕ) (on_line : Bool) (cells : List Cell) {a b : Salvaged} → a ≡ b → run rows len (now_at code on_line, a) cells ≡ run rows len (now_at code on_line, b) cells
    same_list code on_line cells same = ap (λ o. run rows len (now_at code on_line, o) cells) same

    adding_none : (here : Salvaged) (code : ℕ) (piece : Piece) → empty_text_in piece ≡ None → adding_empty here code piece ≡ here
    adding_none here code piece none = ap (λ o. elim o as (λ x. Salvaged) [ Some units ↦ having_lists here (adding here.said.lists (text_of code code units)) | None ↦ here ]) none

    adding_one : (here : Salvaged) (code : ℕ) (piece : Piece) → empty_text_in piece ≡ Some [] → adding_empty here code piece ≡ having_lists here (adding here.said.lists (text_of code code []))
    adding_one here code piece is = ap (λ o. elim o as (λ x. Salvaged) [ Some units ↦ having_lists here (adding here.said.lists (text_of code code units)) | None ↦ here ]) is

    empty_class : (piece : Piece) → IsEmptyText piece → (class_of piece ≡ part) × (text_in piece ≡ None)
    empty_class piece (t, token, (raw, is, value)) = (
      ap (λ r. elim r as (λ x. Class) [ Ok t ↦ class_of_token t | Err w ↦ class_of_malformed w.kind ]) token ∙ ap class_of_token is,
      ap (λ r. elim r as (λ x. Option (List ℕ)) [ Ok t ↦ destination_in t | Err w ↦ None ]) token ∙ read_value destination_of t raw [] is value,
    )

    none_there : (piece : Piece) → ((units : List ℕ) → IsText piece units → ⊥) → text_in piece ≡ None
    none_there piece not = no_answer (text_in piece) (λ units some. not units (text_found piece units some))

    no_empty : (piece : Piece) → (IsEmptyText piece → ⊥) → empty_text_in piece ≡ None
    no_empty piece not = no_answer (empty_text_in piece) (λ units some. not (empty_from piece units some).0)

    short_class : (code : ℕ) (on_line : Bool) (here : Salvaged) (cell : Cell) (b : Bool) → is_nominal (at_code code on_line) ≡ b → none_class code on_line here cell close_bracket ≡ (after_entry (rest_of_list (at_code code on_line)), if b then here else losing here (at_code code on_line))
    unfolding none_class
    short_class code on_line here cell b is = ap (λ c. let s : State × Salvaged = (after_entry (rest_of_list (at_code code on_line)), if c then here else losing here (at_code code on_line)) in s) is

    is_not_nominal : (code : ℕ) (on_line : Bool) → (IsNominal first last code → ⊥) → is_nominal (at_code code on_line) ≡ false
    is_not_nominal code on_line not = elim (cases_Bool (nat_lt (code - first) (last + 1 - code))) [ inl is ↦ absurd (not (ltb-true (code - first) (last + 1 - code) is)) | inr is ↦ is ]

    end_class : (code : ℕ) (on_line : Bool) (here : Salvaged) (cell : Cell) (b : Bool) → is_next_row on_line cell ≡ b → end_list here (at_code code on_line) cell.piece ≡ (if b then take_in_entry here (new_entry bf_range) cell.piece else (in_brackets (rest_of_list (at_code code on_line)), losing here (at_code code on_line)))
    end_class code on_line here cell b is = ap (λ c. if c then take_in_entry here (new_entry bf_range) cell.piece else (in_brackets (rest_of_list (at_code code on_line)), losing here (at_code code on_line))) is

    pub texts_said : {code : ℕ} {on_line : Bool} {cells : List Cell} {texts : List Declaration} {later : List Stop} {kept : Bool} {next : Next} → ListRead first last line code on_line cells texts later kept next
        → (declared : List Declaration) (faults : List Stop) → AreTexts declared → run rows len (now_at code on_line, plus old declared faults) cells ≡ run_at rows len bf_range next (plus old (if kept then declared ++ texts else []) (faults ++ later))
    unfolding run_at none_class full_class
    texts_said (texts_end {code} {on_line}) declared faults are =
        run_end rows len (now_at code on_line, plus old declared faults) ∙ sym (run_end rows len (in_entry (new_entry bf_range), plus old declared faults))
        ∙ said_so (next_entry []) declared (declared ++ []) faults (faults ++ []) (sym (append-nil declared)) (sym (append-nil faults))
    texts_said (text_read {code} {on_line} {kept} {cells} {declared = texts} {faults = later} {next} cell units left is more) declared faults are =
        goes rows len _ _ cell cells (text_step code on_line (plus old declared faults) cell units left (text_there cell.piece units is))
        ∙ same_list (code + 1) (stays_on_line on_line cell) cells (more_declared old declared (text_of code code units) faults)
        ∙ texts_said more (declared ++ text_of code code units) faults (one_more declared code units are)
        ∙ ap (λ d. run_at rows len bf_range next (plus old d (faults ++ later))) (after_text kept declared texts (text_of code code units))
    texts_said (empty_read {code} {on_line} {kept} {cells} {declared = texts} {faults = later} {next} cell left is more) declared faults are =
        let fault = fault_of TextExpected cell.piece in
        let (in_class, none) = empty_class cell.piece is in
        goes rows len _ _ cell cells (none_step code on_line (plus old declared faults) cell part left none in_class)
        ∙ same_list (code + 1) (stays_on_line on_line cell) cells (ap (λ o. adding_empty o code cell.piece) (more_fault old declared faults fault) ∙ adding_one (plus old declared (faults ++ fault ∷ [])) code cell.piece (empty_in cell.piece is) ∙ more_declared old declared (text_of code code []) (faults ++ fault ∷ []))
        ∙ texts_said more (declared ++ text_of code code []) (faults ++ fault ∷ []) (one_more declared code [] are)
        ∙ said_so next (kept_or_lost kept ((declared ++ text_of code code []) ++ texts)) (kept_or_lost kept (declared ++ (text_of code code [] ++ texts))) ((faults ++ fault ∷ []) ++ later) (faults ++ fault ∷ later) (after_text kept declared texts (text_of code code [])) (append_assoc faults (fault ∷ []) later)
    texts_said (other_read {code} {on_line} {kept} {cells} {declared = texts} {faults = later} {next} cell left in_class not_text not_empty more) declared faults are =
        let fault = fault_of TextExpected cell.piece in
        goes rows len _ _ cell cells (none_step code on_line (plus old declared faults) cell part left (none_there cell.piece not_text) in_class)
        ∙ same_list (code + 1) (stays_on_line on_line cell) cells (ap (λ o. adding_empty o code cell.piece) (more_fault old declared faults fault) ∙ adding_none (plus old declared (faults ++ fault ∷ [])) code cell.piece (no_empty cell.piece not_empty))
        ∙ texts_said more declared (faults ++ fault ∷ []) are
        ∙ said_so next (kept_or_lost kept (declared ++ texts)) (kept_or_lost kept (declared ++ texts)) ((faults ++ fault ∷ []) ++ later) (faults ++ fault ∷ later) refl (append_assoc faults (fault ∷ []) later)
    texts_said (nothing_read {code} {on_line} {kept} {cells} {declared = texts} {faults = later} {next} cell left which more) declared faults are =
        let fault = fault_of TextExpected cell.piece in
        goes rows len _ (now_at code (stays_on_line on_line cell), with_fault (plus old declared faults) fault) cell cells (by which)
        ∙ same_list code (stays_on_line on_line cell) cells (more_fault old declared faults fault)
        ∙ texts_said more declared (faults ++ fault ∷ []) are
        ∙ said_so next (kept_or_lost kept (declared ++ texts)) (kept_or_lost kept (declared ++ texts)) ((faults ++ fault ∷ []) ++ later) (faults ++ fault ∷ later) refl (append_assoc faults (fault ∷ []) later)
      where
        by : TakesNoText cell.piece → step rows len (now_at code on_line, plus old declared faults) cell ≡ (now_at code (stays_on_line on_line cell), with_fault (plus old declared faults) (fault_of TextExpected cell.piece))
        by (inl is) = none_step code on_line (plus old declared faults) cell alone left (no_text_in cell.piece alone is (λ same. absurd (cc))) is
        by (inr is) = none_step code on_line (plus old declared faults) cell open_bracket left (no_text_in cell.piece open_bracket is (λ same. absurd (cc))) is
    texts_said (nominal {code} {on_line} {cells} {next} cell left is few after) declared faults are =
        let fault = fault_of TextExpected cell.piece in
        goes rows len _ _ cell cells (none_step code on_line (plus old declared faults) cell close_bracket left (no_text_in cell.piece close_bracket is (λ same. absurd (cc))) is ∙ short_class code on_line _ cell true (lt-ltb (code - first) (last + 1 - code) few))
        ∙ faulty_passed rows len bf_range (with_fault (plus old declared faults) fault) 1 line cells next after
        ∙ ap (run_at rows len bf_range next) (more_fault old declared faults fault)
        ∙ said_so next declared (declared ++ []) (faults ++ fault ∷ []) (faults ++ fault ∷ []) (sym (append-nil declared)) refl
    texts_said (too_short {code} {on_line} {cells} {next} cell left is many after) declared faults are =
        let fault = fault_of TextExpected cell.piece in
        goes rows len _ _ cell cells (none_step code on_line (plus old declared faults) cell close_bracket left (no_text_in cell.piece close_bracket is (λ same. absurd (cc))) is ∙ short_class code on_line _ cell false (is_not_nominal code on_line many))
        ∙ faulty_passed rows len bf_range (losing (with_fault (plus old declared faults) fault) (at_code code on_line)) 1 line cells next after
        ∙ ap (λ o. run_at rows len bf_range next (losing o (at_code code on_line))) (more_fault old declared faults fault)
        ∙ ap (run_at rows len bf_range next) (lost code on_line declared (faults ++ fault ∷ []) are)
    texts_said (texts_left {code} {on_line} {cells} cell left is) declared faults are =
        let fault = fault_of TextExpected cell.piece in
        item_goes rows len _ (losing (with_fault (plus old declared faults) fault) (at_code code on_line)) cell cells (none_step code on_line (plus old declared faults) cell known left (no_text_in cell.piece known is (λ same. absurd (cc))) is)
        ∙ ap (λ o. run_at rows len bf_range (next_item (cell ∷ cells)) (losing o (at_code code on_line))) (more_fault old declared faults fault)
        ∙ ap (run_at rows len bf_range (next_item (cell ∷ cells))) (lost code on_line declared (faults ++ fault ∷ []) are)
    texts_said (list_closed {code} {on_line} {cells} cell full is) declared faults are =
        goes rows len _ _ cell cells (full_step code on_line (plus old declared faults) cell close_bracket full is)
        ∙ said_so (next_entry cells) declared (declared ++ []) faults (faults ++ []) (sym (append-nil declared)) (sym (append-nil faults))
    texts_said (between_texts {code} {on_line} {kept} {cells} {declared = texts} {faults = later} {next} cell full which more) declared faults are =
        let fault = fault_of BracketExpected cell.piece in
        goes rows len _ (now_at code (stays_on_line on_line cell), with_fault (plus old declared faults) fault) cell cells (by which)
        ∙ same_list code (stays_on_line on_line cell) cells (more_fault old declared faults fault)
        ∙ texts_said more declared (faults ++ fault ∷ []) are
        ∙ said_so next (kept_or_lost kept (declared ++ texts)) (kept_or_lost kept (declared ++ texts)) ((faults ++ fault ∷ []) ++ later) (faults ++ fault ∷ later) refl (append_assoc faults (fault ∷ []) later)
      where
        by : TakesNoText cell.piece → step rows len (now_at code on_line, plus old declared faults) cell ≡ (now_at code (stays_on_line on_line cell), with_fault (plus old declared faults) (fault_of BracketExpected cell.piece))
        by (inl is) = full_step code on_line (plus old declared faults) cell alone full is
        by (inr is) = full_step code on_line (plus old declared faults) cell open_bracket full is
    texts_said (list_word {code} {on_line} {cells} cell full is) declared faults are =
        let fault = fault_of BracketExpected cell.piece in
        item_goes rows len _ (with_fault (plus old declared faults) fault) cell cells (full_step code on_line (plus old declared faults) cell known full is)
        ∙ ap (run_at rows len bf_range (next_item (cell ∷ cells))) (more_fault old declared faults fault)
        ∙ said_so (next_item (cell ∷ cells)) declared (declared ++ []) (faults ++ fault ∷ []) (faults ++ fault ∷ []) (sym (append-nil declared)) refl
    texts_said (row_read {code} {on_line} {cells} cell full is shows) declared faults are =
        let fault = fault_of BracketExpected cell.piece in
        let found = with_fault (plus old declared faults) fault in
        let string = (and_parts cell.piece.begins_line (is_string_piece cell.piece) (and_parts on_line _ shows).1).1 in
        goes_as rows len _ (in_entry (new_entry bf_range), found) cell cells (full_step code on_line (plus old declared faults) cell part full is ∙ end_class code on_line found cell true shows ∙ sym (string_step found cell string))
        ∙ ap (run_at rows len bf_range (next_entry (cell ∷ cells))) (more_fault old declared faults fault)
        ∙ said_so (next_entry (cell ∷ cells)) declared (declared ++ []) (faults ++ fault ∷ []) (faults ++ fault ∷ []) (sym (append-nil declared)) refl
    texts_said (too_long {code} {on_line} {cells} {mid} {next} cell full is shows list after) declared faults are =
        let fault = fault_of BracketExpected cell.piece in
        let found = with_fault (plus old declared faults) fault in
        goes rows len _ _ cell cells (full_step code on_line (plus old declared faults) cell part full is ∙ end_class code on_line found cell false shows)
        ∙ faulty_list_passed rows len bf_range (losing found (at_code code on_line)) 1 line mid next list after
        ∙ ap (λ o. run_at rows len bf_range next (losing o (at_code code on_line))) (more_fault old declared faults fault)
        ∙ ap (run_at rows len bf_range next) (lost code on_line declared (faults ++ fault ∷ []) are)
