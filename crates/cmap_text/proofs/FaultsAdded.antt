-- Reading past faults only adds to them.
use Rattle.std.proofs.Common.{◌≡◌, ◌∙◌, ℕ, Bool, true, false, List, [], ◌∷◌, ◌++◌, ap, refl, sym, append-nil, append_assoc}
use Rattle.std.specs.Prelude.{◌&&◌, nat_le, Option, Some, None, Result, Ok, Err, if◌then◌else◌}
use Rattle.cmap_tokens.specs.Pieces.{Piece}
use Rattle.cmap_tokens.specs.Tokens.{Token}
use Rattle.cmap_values.specs.declared.fault.Reason.TheVariants.{BracketExpected}
use Rattle.cmap_values.specs.declared.fault.Stop.{Stop}
use Rattle.cmap_text.specs.Rows.{parts_on, rows_at}
use Rattle.cmap_text.specs.declared.salvage.rows.Row.{Row}
use Rattle.cmap_text.specs.TextFiles.{Section, bf_range}
use Rattle.cmap_text.specs.TextReading.{is_executable, key_in, opened_by, with_other, use_word}
use Rattle.cmap_text.specs.Salvage.{Class, Entry, Rest, Salvaged, State, Texts, Filled, alone, at_fault, begin_item, class_of, close_bracket, empty_text_in, end_list, begin_line, entry_fault, fault_of, fill, finished, in_brackets, in_entry, in_line, in_list, is_closer, is_nominal, is_short, is_stray, item, known, lacks_bracket, losing, mend, new_entry, no_parts, no_text, open_bracket, own_fault, part, pass_in_entry, pass_in_line, pass_in_list, passed_over, past_texts, rest_of, saying, take_after_texts, take_all, take_in_entry, take_in_list, take_in_row, take_item, take_part, take_piece, take_rows, take_text, take_unless_stray, take_use, take_value, taken, text_in, value, with_fault, with_piece}

-- ---- some more faults
pub record Adds (old new : Salvaged) : Type 0 where
  pub more : List Stop
  pub is : new.faults ≡ old.faults ++ more

pub adds_none : {old new : Salvaged} → new.faults ≡ old.faults → Adds old new
adds_none {old = old} same = record { more = []; is = same ∙ sym (append-nil old.faults) }

pub adds_fault : (old : Salvaged) (fault : Stop) → Adds old (with_fault old fault)
adds_fault old fault = record { more = fault ∷ []; is = refl }

pub adds_on : {old mid new : Salvaged} → Adds old mid → Adds mid new → Adds old new
adds_on {old = old} first later = record { more = first.more ++ later.more; is = later.is ∙ ap (λ fs. fs ++ later.more) first.is ∙ append_assoc old.faults first.more later.more }

-- the same, with what comes next
pub record AddsTo (old : Salvaged) (s : State × Salvaged) : Type 0 where
  pub adds : Adds old s.1

to : {old : Salvaged} {s : State × Salvaged} → Adds old s.1 → AddsTo old s
to adds = record { adds = adds }

after : {old mid : Salvaged} {s : State × Salvaged} → Adds old mid → AddsTo mid s → AddsTo old s
after first later = record { adds = adds_on first later.adds }

none : {old : Salvaged} {s : State × Salvaged} → s.1.faults ≡ old.faults → AddsTo old s
none same = record { adds = adds_none same }

-- ---- what holds in each case
pub by_class : (P : State × Salvaged → Type 0) {a b c d e : State × Salvaged} → P a → P b → P c → P d → P e → (k : Class) → P (elim k [ known ↦ a | alone ↦ b | open_bracket ↦ c | close_bracket ↦ d | part ↦ e ])
by_class P a b c d e known = a
by_class P a b c d e alone = b
by_class P a b c d e open_bracket = c
by_class P a b c d e close_bracket = d
by_class P a b c d e part = e

pub by_option : {A B : Type 0} (P : B → Type 0) {f : A → B} {x : B} → ((a : A) → P (f a)) → P x → (o : Option A) → P (elim o [ Some a ↦ f a | None ↦ x ])
by_option P some none (Some a) = some a
by_option P some none None = none

by_result : {A E : Type 0} (P : State × Salvaged → Type 0) {f : A → State × Salvaged} {g : E → State × Salvaged} → ((a : A) → P (f a)) → ((e : E) → P (g e)) → (r : Result A E) → P (elim r [ Ok a ↦ f a | Err e ↦ g e ])
by_result P ok err (Ok a) = ok a
by_result P ok err (Err e) = err e

pub by_bool : {B : Type 0} (P : B → Type 0) {a b : B} → P a → P b → (c : Bool) → P (if c then a else b)
by_bool P a b true = a
by_bool P a b false = b

by_elim : (P : State × Salvaged → Type 0) {a b : State × Salvaged} → P a → P b → (c : Bool) → P (elim c [ true ↦ a | false ↦ b ])
by_elim P a b true = a
by_elim P a b false = b

-- ---- each step
use_adds : (old : Salvaged) (operand : Option (List ℕ)) (end : ℕ) → AddsTo old (take_use old operand end)
use_adds old (Some name) end = none refl
use_adds old None end = to (adds_fault old _)

begin_adds : (old : Salvaged) (t : Token) (end : ℕ) → AddsTo old (begin_item old t end)
begin_adds old t end = at (opened_by t) refl (is_executable use_word t) refl (key_in t) refl
  where
    at : (s : Option Section) → opened_by t ≡ s → (u : Bool) → is_executable use_word t ≡ u → (k : Option (List ℕ)) → key_in t ≡ k → AddsTo old (begin_item old t end)
    at (Some section) opens u uses k is = rw (opens, begin_item) (none refl)
    at None opens true uses k is = rw (opens, uses, begin_item) (after (adds_none refl) (use_adds (saying old (with_other old.said t)) old.said.operand end))
    at None opens false uses (Some k) is = rw (opens, uses, is, begin_item) (none refl)
    at None opens false uses None is = rw (opens, uses, is, begin_item) (none refl)

pub item_adds : (old : Salvaged) (piece : Piece) → AddsTo old (take_item old piece)
item_adds old piece = by_result (AddsTo old) (λ t. begin_adds old t piece.end) (λ w. to (adds_fault old (own_fault w))) piece.token

value_adds : (old : Salvaged) (k : List ℕ) (piece : Piece) → AddsTo old (take_value old k piece)
value_adds old k piece = by_result (AddsTo old) (λ t. none refl) (λ w. to (adds_fault old (own_fault w))) piece.token

entry_passed : (old : Salvaged) (rest : Rest) (piece : Piece) → AddsTo old (pass_in_entry old rest piece)
entry_passed old rest piece = by_class (AddsTo old) (item_adds old piece) (none refl) (none refl) (none refl) (none refl) (class_of piece)

list_passed : (old : Salvaged) (rest : Rest) (piece : Piece) → AddsTo old (pass_in_list old rest piece)
list_passed old rest piece = by_class (AddsTo old) (item_adds old piece) (none refl) (none refl) (none refl) (none refl) (class_of piece)

passed_adds : (old : Salvaged) (entry : Entry) (piece : Piece) → AddsTo old (passed_over old entry piece)
passed_adds old entry piece =
    let passed = entry_passed old (rest_of entry) piece in
    by_class (AddsTo old) passed (none refl) passed passed passed (class_of piece)

-- first this fault
pub fault_first : (old : Salvaged) (entry : Entry) (piece : Piece) (fault : Stop) → AddsTo (with_fault old fault) (entry_fault old entry piece fault)
fault_first old entry piece fault = by_option (AddsTo (with_fault old fault)) (λ p. none refl) (passed_adds (with_fault old fault) entry piece) (mend old.said.lists entry piece)

taken_adds : (old : Salvaged) (entry : Entry) (piece : Piece) (t : Token) (filled : Filled) → AddsTo old (taken old entry piece t filled)
taken_adds old entry piece t (Ok p) = none refl
taken_adds old entry piece t (Err reason) = after (adds_fault old _) (fault_first old entry piece _)

part_adds : (old : Salvaged) (entry : Entry) (piece : Piece) → AddsTo old (take_part old entry piece)
part_adds old entry piece = by_result (AddsTo old) (λ t. taken_adds old entry piece t (fill old.said.lists entry t)) (λ w. after (adds_fault old _) (fault_first old entry piece (own_fault w))) piece.token

pub entry_adds : (old : Salvaged) (entry : Entry) (piece : Piece) → AddsTo old (take_in_entry old entry piece)
entry_adds old entry piece = by_bool (AddsTo old) (none refl) (part_adds old (with_piece entry piece) piece) (no_parts entry.parts && is_closer entry.section piece)

line_passed : (old : Salvaged) (section : Section) (piece : Piece) → AddsTo old (pass_in_line old section piece)
line_passed old section piece = by_bool (AddsTo old) (entry_adds old (new_entry section) piece) (by_class (AddsTo old) (item_adds old piece) (none refl) (none refl) (none refl) (none refl) (class_of piece)) piece.begins_line

pub no_text_adds : (old : Salvaged) (list : Texts) (piece : Piece) → AddsTo old (no_text old list piece)
no_text_adds old list piece = by_class (AddsTo old) (after (adds_none refl) (item_adds (losing old list) piece)) (none refl) (none refl) (to (by_bool (Adds old) (adds_none refl) (adds_none refl) (is_nominal list))) (to (by_option (Adds old) (λ units. adds_none refl) (adds_none refl) (empty_text_in piece))) (class_of piece)

text_adds : (old : Salvaged) (list : Texts) (piece : Piece) → AddsTo old (take_text old list piece)
text_adds old list piece = by_option (AddsTo old) (λ units. none refl) (after (adds_fault old _) (no_text_adds _ list piece)) (text_in piece)

end_adds : (old : Salvaged) (list : Texts) (piece : Piece) → AddsTo old (end_list old list piece)
end_adds old list piece = by_bool (AddsTo old) (entry_adds old (new_entry bf_range) piece) (none refl) (lacks_bracket list piece)

pub past_adds : (old : Salvaged) (list : Texts) (piece : Piece) → AddsTo old (past_texts old list piece)
past_adds old list piece = by_class (AddsTo old) (item_adds old piece) (none refl) (none refl) (none refl) (end_adds old list piece) (class_of piece)

after_texts_adds : (old : Salvaged) (list : Texts) (piece : Piece) → AddsTo old (take_after_texts old list piece)
after_texts_adds old list piece =
    let passed = after (adds_fault old (fault_of BracketExpected piece)) (past_adds (with_fault old (fault_of BracketExpected piece)) list piece) in
    by_class (AddsTo old) passed passed passed (none refl) passed (class_of piece)

list_adds : (old : Salvaged) (list : Texts) (piece : Piece) → AddsTo old (take_in_list old list piece)
list_adds old list piece = by_bool (AddsTo old) (text_adds old list piece) (after_texts_adds old list piece) (nat_le list.next list.last)

piece_adds : (now : State × Salvaged) (piece : Piece) → AddsTo now.1 (take_piece now piece)
piece_adds (item, old) piece = item_adds old piece
piece_adds (value k, old) piece = value_adds old k piece
piece_adds (in_entry entry, old) piece = entry_adds old entry piece
piece_adds (at_fault rest, old) piece = entry_passed old rest piece
piece_adds (in_brackets rest, old) piece = list_passed old rest piece
piece_adds (in_line section, old) piece = line_passed old section piece
piece_adds (in_list list, old) piece = list_adds old list piece

all_add : (now : State × Salvaged) (pieces : List Piece) → AddsTo now.1 (take_all now pieces)
unfolding take_all
all_add now [] = none refl
all_add now (piece ∷ pieces) = after (piece_adds now piece).adds (all_add (take_piece now piece) pieces)

finish_adds : (len : ℕ) (now : State × Salvaged) → Adds now.1 (finished len now)
finish_adds len (item, old) = adds_none refl
finish_adds len (value k, old) = adds_none refl
finish_adds len (in_entry entry, old) = adds_fault old _
finish_adds len (at_fault rest, old) = adds_fault old _
finish_adds len (in_brackets rest, old) = adds_fault old _
finish_adds len (in_line section, old) = adds_fault old _
finish_adds len (in_list list, old) = adds_fault old _

-- from here to the end
pub rest_adds : (len : ℕ) (now : State × Salvaged) (pieces : List Piece) → Adds now.1 (finished len (take_all now pieces))
rest_adds len now pieces = adds_on (all_add now pieces).adds (finish_adds len (take_all now pieces))

-- ---- in rows
line_adds : (parts : ℕ) (now : State × Salvaged) (piece : Piece) → AddsTo now.1 (begin_line parts now piece)
line_adds parts (item, old) piece = none refl
line_adds parts (value k, old) piece = none refl
line_adds parts (in_entry entry, old) piece = by_bool (AddsTo old) (to (adds_fault old _)) (none refl) (is_short parts entry piece)
line_adds parts (at_fault rest, old) piece = none refl
line_adds parts (in_brackets rest, old) piece = none refl
line_adds parts (in_line section, old) piece = none refl
line_adds parts (in_list list, old) piece = none refl

pub stray_adds : (now : State × Salvaged) (piece : Piece) → AddsTo now.1 (take_unless_stray now piece)
stray_adds (item, old) piece = item_adds old piece
stray_adds (value k, old) piece = value_adds old k piece
stray_adds (in_entry entry, old) piece = by_bool (AddsTo old) (to (adds_fault old _)) (entry_adds old entry piece) (is_stray piece)
stray_adds (at_fault rest, old) piece = entry_passed old rest piece
stray_adds (in_brackets rest, old) piece = list_passed old rest piece
stray_adds (in_line section, old) piece = line_passed old section piece
stray_adds (in_list list, old) piece = list_adds old list piece

row_adds : (parts : ℕ) (now : State × Salvaged) (piece : Piece) → AddsTo now.1 (take_in_row parts now piece)
row_adds parts now piece =
    let begun : AddsTo now.1 (if piece.begins_line then begin_line parts now piece else now) = by_bool (AddsTo now.1) (line_adds parts now piece) (none refl) piece.begins_line in
    after begun.adds (stray_adds (if piece.begins_line then begin_line parts now piece else now) piece)

rows_add : (rows : List Row) (now : State × Salvaged) (pieces : List Piece) → AddsTo now.1 (take_rows rows now pieces)
unfolding take_rows
rows_add rows now [] = none refl
rows_add rows now (piece ∷ pieces) =
    let here = rows_at rows piece in
    after (row_adds (parts_on here) now piece).adds (rows_add here (take_in_row (parts_on here) now piece) pieces)

pub rows_rest_add : (len : ℕ) (rows : List Row) (now : State × Salvaged) (pieces : List Piece) → Adds now.1 (finished len (take_rows rows now pieces))
rows_rest_add len rows now pieces = adds_on (rows_add rows now pieces).adds (finish_adds len (take_rows rows now pieces))
