-- Each fault that a piece adds stands at the piece's place, so the faults come in order.
use Rattle.std.proofs.Common.{◌≡◌, ◌∙◌, ℕ, Bool, true, false, List, [], ◌∷◌, ◌++◌, ◌≤◌, length, refl, sym, subst, arith}
use Rattle.std.specs.Prelude.{◌&&◌, nat_le, Option, Some, None, Result, Ok, Err, if◌then◌else◌}
use Rattle.cmap_tokens.specs.Pieces.{Piece, Wrong, pieces_left}
use Rattle.cmap_tokens.specs.Tokens.{Token}
use Rattle.cmap_tokens.specs.TokensLeft.{start_of}
use Rattle.cmap_tokens.proofs.PiecePlaces.{ArePlaced, place, places_ascend}
use Rattle.cmap_values.specs.Faults.{Ascend}
use Rattle.cmap_values.specs.declared.fault.Reason.{Reason}
use Rattle.cmap_values.specs.declared.fault.Reason.TheVariants.{BracketExpected, TextExpected}
use Rattle.cmap_values.specs.declared.fault.Stop.{Stop}
use Rattle.cmap_text.specs.Rows.{parts_on, rows_at, rows_of}
use Rattle.cmap_text.specs.declared.salvage.rows.Row.{Row}
use Rattle.cmap_text.specs.TextFiles.{Section, bf_range}
use Rattle.cmap_text.specs.TextReading.{is_executable, key_in, opened_by, with_other, use_word}
use Rattle.cmap_text.specs.Salvage.{Entry, Filled, Rest, Salvaged, State, Texts, at_fault, begin_item, begin_line, class_of, empty_text_in, end_list, entry_fault, fault_of, fill, finished, in_brackets, in_entry, in_line, in_list, is_closer, is_nominal, is_short, is_stray, item, lacks_bracket, losing, mend, missing, new_entry, no_parts, no_text, nothing_salvaged, own_fault, pass_in_entry, pass_in_line, pass_in_list, past_texts, first_read, is_read_in_rows, read_in_rows, rest_of, salvaged, saying, take_after_texts, take_all, take_in_entry, take_in_list, take_in_row, take_item, take_part, take_piece, take_rows, take_text, take_unless_stray, take_use, take_value, taken, text_in, value, with_fault, with_piece}
use Rattle.cmap_text.proofs.FaultsAdded.{by_bool, by_class, by_option}

module _ (P : List Stop → Type 0) (at : ℕ) (add : (fs : List Stop) (fault : Stop) → fault.offset ≡ at → P fs → P (fs ++ fault ∷ [])) where
  -- what holds of the faults still does
  record Keeps (s : State × Salvaged) : Type 0 where
    pub keeps : P s.1.faults

  kept : {s : State × Salvaged} → P s.1.faults → Keeps s
  kept holds = record { keeps = holds }

  use_keeps : (old : Salvaged) (operand : Option (List ℕ)) (end : ℕ) → end ≡ at → P old.faults → Keeps (take_use old operand end)
  use_keeps old (Some name) end here holds = kept holds
  use_keeps old None end here holds = kept (add old.faults _ here holds)

  begin_keeps : (old : Salvaged) (t : Token) (end : ℕ) → end ≡ at → P old.faults → Keeps (begin_item old t end)
  begin_keeps old t end here holds = by (opened_by t) refl (is_executable use_word t) refl (key_in t) refl
    where
      by : (s : Option Section) → opened_by t ≡ s → (u : Bool) → is_executable use_word t ≡ u → (k : Option (List ℕ)) → key_in t ≡ k → Keeps (begin_item old t end)
      by (Some section) opens u uses k is = rw (opens, begin_item) (kept holds)
      by None opens true uses k is = rw (opens, uses, begin_item) (use_keeps (saying old (with_other old.said t)) old.said.operand end here holds)
      by None opens false uses (Some k) is = rw (opens, uses, is, begin_item) (kept holds)
      by None opens false uses None is = rw (opens, uses, is, begin_item) (kept holds)

  item_keeps : (old : Salvaged) (piece : Piece) → place piece ≡ at → P old.faults → Keeps (take_item old piece)
  item_keeps old piece here holds = by piece.token refl
    where
      by : (r : Result Token Wrong) → piece.token ≡ r → Keeps (take_item old piece)
      by (Ok t) is = rw (is, take_item) (begin_keeps old t piece.end (sym (rw (is, place) refl) ∙ here) holds)
      by (Err w) is = rw (is, take_item) (kept (add old.faults (own_fault w) (sym (rw (is, place) refl) ∙ here) holds))

  value_keeps : (old : Salvaged) (k : List ℕ) (piece : Piece) → place piece ≡ at → P old.faults → Keeps (take_value old k piece)
  value_keeps old k piece here holds = by piece.token refl
    where
      by : (r : Result Token Wrong) → piece.token ≡ r → Keeps (take_value old k piece)
      by (Ok t) is = rw (is, take_value) (kept holds)
      by (Err w) is = rw (is, take_value) (kept (add old.faults (own_fault w) (sym (rw (is, place) refl) ∙ here) holds))

  of_piece : (reason : Reason) (piece : Piece) → place piece ≡ at → (fault_of reason piece).offset ≡ at
  of_piece reason piece here = by piece.token refl
    where
      by : (r : Result Token Wrong) → piece.token ≡ r → (fault_of reason piece).offset ≡ at
      by (Ok t) is = rw (is, fault_of) (sym (rw (is, place) refl) ∙ here)
      by (Err w) is = rw (is, fault_of) (sym (rw (is, place) refl) ∙ here)

  entry_passed : (old : Salvaged) (rest : Rest) (piece : Piece) → place piece ≡ at → P old.faults → Keeps (pass_in_entry old rest piece)
  entry_passed old rest piece here holds = by_class Keeps (item_keeps old piece here holds) (kept holds) (kept holds) (kept holds) (kept holds) (class_of piece)

  list_passed : (old : Salvaged) (rest : Rest) (piece : Piece) → place piece ≡ at → P old.faults → Keeps (pass_in_list old rest piece)
  list_passed old rest piece here holds = by_class Keeps (item_keeps old piece here holds) (kept holds) (kept holds) (kept holds) (kept holds) (class_of piece)

  fault_keeps : (old : Salvaged) (entry : Entry) (piece : Piece) (fault : Stop) → place piece ≡ at → fault.offset ≡ at → P old.faults → Keeps (entry_fault old entry piece fault)
  fault_keeps old entry piece fault here there holds =
      let with_it = add old.faults fault there holds in
      let passed = entry_passed (with_fault old fault) (rest_of entry) piece here with_it in
      by_option Keeps (λ p. kept with_it) (by_class Keeps passed (kept with_it) passed passed passed (class_of piece)) (mend old.said.lists entry piece)

  taken_keeps : (old : Salvaged) (entry : Entry) (piece : Piece) (t : Token) (filled : Filled) → place piece ≡ at → piece.end ≡ at → P old.faults → Keeps (taken old entry piece t filled)
  taken_keeps old entry piece t (Ok p) here ends holds = kept holds
  taken_keeps old entry piece t (Err reason) here ends holds = fault_keeps old entry piece _ here ends holds

  part_keeps : (old : Salvaged) (entry : Entry) (piece : Piece) → place piece ≡ at → P old.faults → Keeps (take_part old entry piece)
  part_keeps old entry piece here holds = by piece.token refl
    where
      by : (r : Result Token Wrong) → piece.token ≡ r → Keeps (take_part old entry piece)
      by (Ok t) is = rw (is, take_part) (taken_keeps old entry piece t (fill old.said.lists entry t) here (sym (rw (is, place) refl) ∙ here) holds)
      by (Err w) is = rw (is, take_part) (fault_keeps old entry piece (own_fault w) here (sym (rw (is, place) refl) ∙ here) holds)

  entry_keeps : (old : Salvaged) (entry : Entry) (piece : Piece) → place piece ≡ at → P old.faults → Keeps (take_in_entry old entry piece)
  entry_keeps old entry piece here holds = by_bool Keeps (kept holds) (part_keeps old (with_piece entry piece) piece here holds) (no_parts entry.parts && is_closer entry.section piece)

  line_passed : (old : Salvaged) (section : Section) (piece : Piece) → place piece ≡ at → P old.faults → Keeps (pass_in_line old section piece)
  line_passed old section piece here holds = by_bool Keeps (entry_keeps old (new_entry section) piece here holds) (by_class Keeps (item_keeps old piece here holds) (kept holds) (kept holds) (kept holds) (kept holds) (class_of piece)) piece.begins_line

  no_text_keeps : (old : Salvaged) (list : Texts) (piece : Piece) → place piece ≡ at → P old.faults → Keeps (no_text old list piece)
  no_text_keeps old list piece here holds =
      let Holds : Salvaged → Type 0 = λ s. P s.faults in
      by_class Keeps (item_keeps (losing old list) piece here holds) (kept holds) (kept holds) (kept (by_bool Holds holds holds (is_nominal list))) (kept (by_option Holds (λ units. holds) holds (empty_text_in piece))) (class_of piece)

  text_keeps : (old : Salvaged) (list : Texts) (piece : Piece) → place piece ≡ at → P old.faults → Keeps (take_text old list piece)
  text_keeps old list piece here holds = by_option Keeps (λ units. kept holds) (no_text_keeps (with_fault old (fault_of TextExpected piece)) list piece here (add old.faults _ (of_piece TextExpected piece here) holds)) (text_in piece)

  end_keeps : (old : Salvaged) (list : Texts) (piece : Piece) → place piece ≡ at → P old.faults → Keeps (end_list old list piece)
  end_keeps old list piece here holds = by_bool Keeps (entry_keeps old (new_entry bf_range) piece here holds) (kept holds) (lacks_bracket list piece)

  past_keeps : (old : Salvaged) (list : Texts) (piece : Piece) → place piece ≡ at → P old.faults → Keeps (past_texts old list piece)
  past_keeps old list piece here holds = by_class Keeps (item_keeps old piece here holds) (kept holds) (kept holds) (kept holds) (end_keeps old list piece here holds) (class_of piece)

  after_texts_keeps : (old : Salvaged) (list : Texts) (piece : Piece) → place piece ≡ at → P old.faults → Keeps (take_after_texts old list piece)
  after_texts_keeps old list piece here holds =
      let passed = past_keeps (with_fault old (fault_of BracketExpected piece)) list piece here (add old.faults _ (of_piece BracketExpected piece here) holds) in
      by_class Keeps passed passed passed (kept holds) passed (class_of piece)

  list_keeps : (old : Salvaged) (list : Texts) (piece : Piece) → place piece ≡ at → P old.faults → Keeps (take_in_list old list piece)
  list_keeps old list piece here holds = by_bool Keeps (text_keeps old list piece here holds) (after_texts_keeps old list piece here holds) (nat_le list.next list.last)

  piece_keeps : (now : State × Salvaged) (piece : Piece) → place piece ≡ at → P now.1.faults → Keeps (take_piece now piece)
  piece_keeps (item, old) piece here holds = item_keeps old piece here holds
  piece_keeps (value k, old) piece here holds = value_keeps old k piece here holds
  piece_keeps (in_entry entry, old) piece here holds = entry_keeps old entry piece here holds
  piece_keeps (at_fault rest, old) piece here holds = entry_passed old rest piece here holds
  piece_keeps (in_brackets rest, old) piece here holds = list_passed old rest piece here holds
  piece_keeps (in_line section, old) piece here holds = line_passed old section piece here holds
  piece_keeps (in_list list, old) piece here holds = list_keeps old list piece here holds

  line_keeps : (parts : ℕ) (now : State × Salvaged) (piece : Piece) → place piece ≡ at → P now.1.faults → Keeps (begin_line parts now piece)
  line_keeps parts (item, old) piece here holds = kept holds
  line_keeps parts (value k, old) piece here holds = kept holds
  line_keeps parts (in_entry entry, old) piece here holds = by_bool Keeps (kept (add old.faults _ here holds)) (kept holds) (is_short parts entry piece)
  line_keeps parts (at_fault rest, old) piece here holds = kept holds
  line_keeps parts (in_brackets rest, old) piece here holds = kept holds
  line_keeps parts (in_line section, old) piece here holds = kept holds
  line_keeps parts (in_list list, old) piece here holds = kept holds

  stray_keeps : (now : State × Salvaged) (piece : Piece) → place piece ≡ at → P now.1.faults → Keeps (take_unless_stray now piece)
  stray_keeps (item, old) piece here holds = item_keeps old piece here holds
  stray_keeps (value k, old) piece here holds = value_keeps old k piece here holds
  stray_keeps (in_entry entry, old) piece here holds = by_bool Keeps (kept (add old.faults _ (of_piece (missing entry) piece here) holds)) (entry_keeps old entry piece here holds) (is_stray piece)
  stray_keeps (at_fault rest, old) piece here holds = entry_passed old rest piece here holds
  stray_keeps (in_brackets rest, old) piece here holds = list_passed old rest piece here holds
  stray_keeps (in_line section, old) piece here holds = line_passed old section piece here holds
  stray_keeps (in_list list, old) piece here holds = list_keeps old list piece here holds

  row_keeps : (parts : ℕ) (now : State × Salvaged) (piece : Piece) → place piece ≡ at → P now.1.faults → Keeps (take_in_row parts now piece)
  row_keeps parts now piece here holds =
      let begun : Keeps (if piece.begins_line then begin_line parts now piece else now) = by_bool Keeps (line_keeps parts now piece here holds) (kept holds) piece.begins_line in
      stray_keeps (if piece.begins_line then begin_line parts now piece else now) piece here begun.keeps

  finish_keeps : (now : State × Salvaged) → P now.1.faults → P (finished at now).faults
  finish_keeps (item, old) holds = holds
  finish_keeps (value k, old) holds = holds
  finish_keeps (in_entry entry, old) holds = add old.faults _ refl holds
  finish_keeps (at_fault rest, old) holds = add old.faults _ refl holds
  finish_keeps (in_brackets rest, old) holds = add old.faults _ refl holds
  finish_keeps (in_line section, old) holds = add old.faults _ refl holds
  finish_keeps (in_list list, old) holds = add old.faults _ refl holds

-- ---- they come in order, and in the text
ascend_more : (low at : ℕ) (fs : List Stop) (fault : Stop) → fault.offset ≡ at → Ascend low fs at → Ascend low (fs ++ fault ∷ []) at
ascend_more low at [] fault here least = (omega (arith, here, least), omega (arith, here))
ascend_more low at (f ∷ fs) fault here (least, more) = (least, ascend_more f.offset at fs fault here more)

ascend_on : (low mid high : ℕ) (fs : List Stop) → mid ≤ high → Ascend low fs mid → Ascend low fs high
ascend_on low mid high [] up least = omega (arith, up, least)
ascend_on low mid high (f ∷ fs) up (least, more) = (least, ascend_on f.offset mid high fs up more)

-- the first one is within the bounds
pub ascend_within : (low high : ℕ) (fs : List Stop) → Ascend low fs high → low ≤ high
ascend_within low high [] least = least
ascend_within low high (f ∷ fs) (least, more) = omega (arith, least, ascend_within f.offset high fs more)

-- a fault of this piece is at its place
pub of_place : (reason : Reason) (piece : Piece) → (fault_of reason piece).offset ≡ place piece
of_place reason piece = by piece.token refl
  where
    by : (r : Result Token Wrong) → piece.token ≡ r → (fault_of reason piece).offset ≡ place piece
    by (Ok t) is = rw (is, fault_of, place) refl
    by (Err w) is = rw (is, fault_of, place) refl

-- the first faults are those of the piece
pub first_places : (now : State × Salvaged) (piece : Piece) → now.1.faults ≡ [] → Ascend (place piece) (take_piece now piece).1.faults (place piece)
first_places now piece none =
    let at = place piece in
    let least : Ascend at [] at = omega arith in
    (piece_keeps (λ fs. Ascend at fs at) at (ascend_more at at) now piece refl (subst (λ fs. Ascend at fs at) (sym none) least)).keeps

module _ (len least : ℕ) where
  all_ascend : (low : ℕ) (now : State × Salvaged) (pieces : List Piece) → ArePlaced len low pieces → Ascend least now.1.faults low → Ascend least (take_all now pieces).1.faults len
  unfolding take_all
  all_ascend low now [] last ascend = ascend_on least low len now.1.faults last ascend
  all_ascend low now (piece ∷ pieces) (before, places) ascend =
      let at = place piece in
      all_ascend at (take_piece now piece) pieces places (piece_keeps (λ fs. Ascend least fs at) at (ascend_more least at) now piece refl (ascend_on least low at now.1.faults before ascend)).keeps

  pub rest_ascends : (low : ℕ) (now : State × Salvaged) (pieces : List Piece) → ArePlaced len low pieces → Ascend least now.1.faults low → Ascend least (finished len (take_all now pieces)).faults len
  rest_ascends low now pieces places ascend = finish_keeps (λ fs. Ascend least fs len) len (ascend_more least len) (take_all now pieces) (all_ascend low now pieces places ascend)

  rows_ascend : (low : ℕ) (rows : List Row) (now : State × Salvaged) (pieces : List Piece) → ArePlaced len low pieces → Ascend least now.1.faults low → Ascend least (take_rows rows now pieces).1.faults len
  unfolding take_rows
  rows_ascend low rows now [] last ascend = ascend_on least low len now.1.faults last ascend
  rows_ascend low rows now (piece ∷ pieces) (before, places) ascend =
      let at = place piece in
      let here = rows_at rows piece in
      rows_ascend at here (take_in_row (parts_on here) now piece) pieces places (row_keeps (λ fs. Ascend least fs at) at (ascend_more least at) (parts_on here) now piece refl (ascend_on least low at now.1.faults before ascend)).keeps

-- of a text
pub first_ascends : (text : List ℕ) → Ascend 0 (first_read text).faults (length text)
first_ascends text = rest_ascends (length text) 0 0 (item, nothing_salvaged) (pieces_left (start_of text)) (places_ascend text) (omega arith)

pub read_ascends : (rows : List Row) (text : List ℕ) → Ascend 0 (read_in_rows rows text).faults (length text)
read_ascends rows text =
    let len = length text in
    let now = take_rows rows (item, nothing_salvaged) (pieces_left (start_of text)) in
    finish_keeps (λ fs. Ascend 0 fs len) len (ascend_more 0 len) now (rows_ascend len 0 0 rows (item, nothing_salvaged) (pieces_left (start_of text)) (places_ascend text) (omega arith))

pub salvaged_ascends : (text : List ℕ) → Ascend 0 (salvaged text).faults (length text)
salvaged_ascends text = by_bool (λ (found : Salvaged). Ascend 0 found.faults (length text)) (read_ascends (rows_of text) text) (first_ascends text) (is_read_in_rows text)
