-- What is declared before a piece is a front of what is declared at the end.
use Rattle.std.proofs.Common.{◌≡◌, ◌∙◌, ℕ, zero, suc, ◌+◌, ◌-◌, ◌≤◌, Bool, true, false, List, [], ◌∷◌, ◌++◌, length, take, ap, refl, subst, sym, arith, append_assoc, append-nil, length-append}
use Rattle.std.specs.Prelude.{◌&&◌, nat_le, codes, Option, Some, None, option_and_then, option_map, Result, Ok, Err, if◌then◌else◌}
use Rattle.cmap_tokens.specs.Pieces.{Piece, Wrong}
use Rattle.cmap_tokens.specs.Tokens.{Token}
use Rattle.cmap_values.proofs.ListsMade.{append_lists-assoc, append_lists-none}
use Rattle.cmap_values.specs.Files.{Declaration, Lists, lists_of}
use Rattle.cmap_values.specs.ListsAppended.{append_lists}
use Rattle.cmap_values.specs.declared.fault.Reason.{Reason}
use Rattle.cmap_values.specs.declared.fault.Stop.{Stop}
use Rattle.cmap_values.specs.declared.fault.Reason.TheVariants.{BracketExpected, TextExpected, UnequalLengths}
use Rattle.cmap_text.specs.Rows.{parts_on, rows_at}
use Rattle.cmap_text.specs.declared.salvage.rows.Row.{Row}
use Rattle.cmap_text.specs.TextFiles.{Section, bf_char, bf_range, cids, codespace_range, declares_cid, range, single}
use Rattle.cmap_text.specs.TextReading.{Code, adding, cid_in, code_in, codespace, destination_in, filed, is_executable, key_in, opened_by, text_of, with_other, use_word}
use Rattle.cmap_text.specs.FirstFaults.{BeginWithLists}
use Rattle.cmap_text.specs.Salvage.{Class, Entry, Filled, Mended, Parts, Rest, Salvaged, State, Texts, after_entry, after_malformed, after_part, alone, at_fault, begin_item, begin_line, class_of, close_bracket, empty_text_in, end_list, entry_fault, fault_of, fill, fill_texts, finished, having_lists, if_cid, if_code, if_text, in_brackets, in_entry, in_line, in_list, is_closer, is_nominal, is_short, is_stray, item, known, lacks_bracket, list_after, losing, mend, new_entry, no_parts, no_text, none, one, open_bracket, own_fault, part, pass_in_entry, pass_in_line, pass_in_list, passed_over, past_texts, rest_of, saying, take_after_texts, take_all, take_in_entry, take_in_list, take_in_row, take_item, take_part, take_piece, take_rows, take_text, take_unless_stray, take_use, take_value, taken, text_in, two, value, with_fault, with_piece}
use Rattle.cmap_text.specs.Salvage as salvage
use Rattle.cmap_text.proofs.FaultsAdded.{by_bool, by_class, by_option}

pub begins_more : (front lists : Lists) (declared : List Declaration) → BeginWithLists front lists → BeginWithLists front (adding lists declared)
begins_more front lists declared (more, is) = (append_lists more (lists_of declared), ap (λ l. adding l declared) is ∙ append_lists-assoc front more (lists_of declared))

take_past : {A : Type 0} (xs ys : List A) (n : ℕ) → length xs ≤ n → take n (xs ++ ys) ≡ xs ++ take (n - length xs) ys
take_past [] ys n past = let same : n ≡ n - 0 = omega arith in ap (λ k. take k ys) same
take_past (x ∷ xs) ys zero past = absurd (omega (arith, past))
take_past (x ∷ xs) ys (suc n) past = ap (λ l. x ∷ l) (take_past xs ys n (omega (arith, past)) ∙ (let same : n - length xs ≡ suc n - length (x ∷ xs) = omega (arith, past) in ap (λ k. xs ++ take k ys) same))

module _ (front : Lists) (names : List (List ℕ)) where
  -- so is said
  pub record Holds (lists : Lists) (uses : List (List ℕ)) : Type 0 where
    pub lists_begin : BeginWithLists front lists
    pub uses_begin : (more : List (List ℕ)) × (uses ≡ names ++ more)

  -- a list that is lost takes nothing of it
  abbrev pub Cuts : State → Type 0
  Cuts (in_list list) = length front.bfs ≤ list.kept
  Cuts _ = Unit {0}

  pub record Keeps (s : State × Salvaged) : Type 0 where
    pub found : Holds s.1.said.lists s.1.said.uses
    pub cuts : Cuts s.0

  abbrev pub Has : Salvaged → Type 0
  Has old = Holds old.said.lists old.said.uses

  kept : {s : State × Salvaged} → Has s.1 → Cuts s.0 → Keeps s
  kept has cuts = record { found = has; cuts = cuts }

  entry_cuts : (rest : Rest) → Cuts (after_entry rest)
  entry_cuts rest = by rest.begins_line refl
    where
      by : (b : Bool) → rest.begins_line ≡ b → Cuts (after_entry rest)
      by true is = rw (is, after_entry) tt
      by false is = rw (is, after_entry) tt

  part_cuts : (rest : Rest) → Cuts (after_part rest)
  part_cuts rest = by (nat_le rest.places 1) refl
    where
      by : (b : Bool) → nat_le rest.places 1 ≡ b → Cuts (after_part rest)
      by true is = rw (is, after_part) (entry_cuts rest)
      by false is = rw (is, after_part) tt

  value_cuts : (k : List ℕ) (c : Class) → Cuts (after_malformed k c)
  value_cuts k known = tt
  value_cuts k alone = tt
  value_cuts k open_bracket = tt
  value_cuts k close_bracket = tt
  value_cuts k part = tt

  lose_has : (old : Salvaged) (list : Texts) → length front.bfs ≤ list.kept → Has old → Has (losing old list)
  lose_has old list long has =
      let (more, is) = has.lists_begin in
      let rest : Lists = record { cids = more.cids; notdefs = more.notdefs; bfs = take (list.kept - length front.bfs) more.bfs; spaces = more.spaces } in
      let cut : Lists → Lists = λ l. record { cids = l.cids; notdefs = l.notdefs; bfs = take list.kept l.bfs; spaces = l.spaces } in
      record { lists_begin = (rest, ap cut is ∙ rw (take_past front.bfs more.bfs list.kept long) refl); uses_begin = has.uses_begin }

  more_has : (lists : Lists) (uses : List (List ℕ)) (declared : List Declaration) → Holds lists uses → Holds (adding lists declared) uses
  more_has lists uses declared has = record { lists_begin = begins_more front lists declared has.lists_begin; uses_begin = has.uses_begin }

  use_keeps : (old : Salvaged) (operand : Option (List ℕ)) (end : ℕ) → Has old → Keeps (take_use old operand end)
  use_keeps old (Some name) end has =
      let (more, is) = has.uses_begin in
      kept (record { lists_begin = has.lists_begin; uses_begin = (more ++ name ∷ [], ap (λ us. us ++ name ∷ []) is ∙ append_assoc names more (name ∷ [])) }) tt
  use_keeps old None end has = kept has tt

  begin_keeps : (old : Salvaged) (t : Token) (end : ℕ) → Has old → Keeps (begin_item old t end)
  begin_keeps old t end has = by (opened_by t) refl (is_executable use_word t) refl (key_in t) refl
    where
      by : (s : Option Section) → opened_by t ≡ s → (u : Bool) → is_executable use_word t ≡ u → (k : Option (List ℕ)) → key_in t ≡ k → Keeps (begin_item old t end)
      by (Some section) opens u uses k is = rw (opens, begin_item) (kept has tt)
      by None opens true uses k is = rw (opens, uses, begin_item) (use_keeps (saying old (with_other old.said t)) old.said.operand end has)
      by None opens false uses (Some k) is = rw (opens, uses, is, begin_item) (kept has tt)
      by None opens false uses None is = rw (opens, uses, is, begin_item) (kept has tt)

  item_keeps : (old : Salvaged) (piece : Piece) → Has old → Keeps (take_item old piece)
  item_keeps old piece has = by piece.token refl
    where
      by : (r : Result Token Wrong) → piece.token ≡ r → Keeps (take_item old piece)
      by (Ok t) is = rw (is, take_item) (begin_keeps old t piece.end has)
      by (Err w) is = rw (is, take_item) (kept has tt)

  value_keeps : (old : Salvaged) (k : List ℕ) (piece : Piece) → Has old → Keeps (take_value old k piece)
  value_keeps old k piece has = by piece.token refl
    where
      by : (r : Result Token Wrong) → piece.token ≡ r → Keeps (take_value old k piece)
      by (Ok t) is = rw (is, take_value) (kept has tt)
      by (Err w) is = rw (is, take_value) (kept has (value_cuts k _))

  entry_passed : (old : Salvaged) (rest : Rest) (piece : Piece) → Has old → Keeps (pass_in_entry old rest piece)
  entry_passed old rest piece has = by_class Keeps (item_keeps old piece has) (kept has tt) (kept has tt) (kept has (entry_cuts rest)) (kept has (part_cuts rest)) (class_of piece)

  list_passed : (old : Salvaged) (rest : Rest) (piece : Piece) → Has old → Keeps (pass_in_list old rest piece)
  list_passed old rest piece has = by_class Keeps (item_keeps old piece has) (kept has tt) (kept has tt) (kept has (entry_cuts rest)) (kept has tt) (class_of piece)

  -- ---- a place that is filled
  module _ (lists : Lists) (uses : List (List ℕ)) (has : Holds lists uses) where
    record Fills (filled : Filled) : Type 0 where
      pub gives : (p : State × Lists) → filled ≡ Ok p → Holds p.1 uses × Cuts p.0

    fills : {state : State} {new : Lists} → Holds new uses → Cuts state → Fills (Ok (state, new))
    fills holds cuts = record { gives = λ p is. let same : ◌≡◌ {A = State × Lists} _ p = cc in subst (λ q. Holds q.1 uses × Cuts q.0) same (holds, cuts) }

    fails : {reason : Reason} → Fills (Err reason)
    fails = record { gives = λ p is. absurd (cc) }

    code_fills : (t : Token) (more : Code → Filled) → ((code : Code) → Fills (more code)) → Fills (if_code t more)
    code_fills t more each = by (code_in t) refl
      where
        by : (found : Option Code) → code_in t ≡ found → Fills (if_code t more)
        by (Some code) is = rw (is, if_code) (each code)
        by None is = rw (is, if_code) fails

    cid_fills : (t : Token) (more : ℕ → Filled) → ((cid : ℕ) → Fills (more cid)) → Fills (if_cid t more)
    cid_fills t more each = by (cid_in t) refl
      where
        by : (found : Option ℕ) → cid_in t ≡ found → Fills (if_cid t more)
        by (Some cid) is = rw (is, if_cid) (each cid)
        by None is = rw (is, if_cid) fails

    text_fills : (t : Token) (more : List ℕ → Filled) → ((units : List ℕ) → Fills (more units)) → Fills (if_text t more)
    text_fills t more each = by (destination_in t) refl
      where
        by : (found : Option (List ℕ)) → destination_in t ≡ found → Fills (if_text t more)
        by (Some units) is = rw (is, if_text) (each units)
        by None is = rw (is, if_text) fails

    high_fills : (entry : Entry) (low : Code) (t : Token) → Fills (salvage.fill_high lists entry low t)
    high_fills entry low t = code_fills t _ (λ high. by high (codespace low high) refl)
      where
        by : (high : Code) (found : Option (List Declaration)) → codespace low high ≡ found → Fills (elim (codespace low high) [ Some declared ↦ Ok (in_entry (new_entry entry.section), adding lists declared) | None ↦ Err UnequalLengths ])
        by high (Some declared) is = rw is (fills (more_has lists uses declared has) tt)
        by high None is = rw is fails

    texts_fills : (entry : Entry) (start end : Code) (t : Token) → Fills (fill_texts lists entry start end t)
    texts_fills entry start end t = by (is_executable (codes "[") t) refl
      where
        long : length front.bfs ≤ length lists.bfs
        long = let (more, is) = has.lists_begin in omega (arith, ap (λ l. length l.bfs) is, length-append front.bfs more.bfs)

        by : (opens : Bool) → is_executable (codes "[") t ≡ opens → Fills (fill_texts lists entry start end t)
        by true is = rw (is, fill_texts) (fills has long)
        by false is = rw (is, fill_texts) (text_fills t (λ units. Ok (in_entry (new_entry entry.section), adding lists (text_of start.number end.number units))) (λ units. fills (more_has lists uses (text_of start.number end.number units) has) tt))

    second_fills : (section : Section) (entry : Entry) (start : Code) (t : Token) → Fills (salvage.second_filled section lists entry start t)
    second_fills codespace_range entry start t = high_fills entry start t
    second_fills (cids kind single) entry start t = cid_fills t _ (λ cid. fills (more_has lists uses (declares_cid kind start.len (filed start start.number cid).1 ∷ []) has) tt)
    second_fills (cids kind range) entry start t = code_fills t _ (λ code. fills has tt)
    second_fills bf_range entry start t = code_fills t _ (λ code. fills has tt)
    second_fills bf_char entry start t = text_fills t _ (λ units. fills (more_has lists uses (text_of start.number start.number units) has) tt)

    third_fills : (section : Section) (entry : Entry) (start end : Code) (t : Token) → Fills (salvage.third_filled section lists entry start end t)
    third_fills codespace_range entry start end t = texts_fills entry start end t
    third_fills (cids kind extent) entry start end t = cid_fills t _ (λ cid. fills (more_has lists uses (declares_cid kind start.len (filed start end.number cid).1 ∷ []) has) tt)
    third_fills bf_range entry start end t = texts_fills entry start end t
    third_fills bf_char entry start end t = texts_fills entry start end t

    all_fill : (entry : Entry) (t : Token) → Fills (fill lists entry t)
    all_fill entry t = by entry.parts refl
      where
        by : (parts : Parts) → entry.parts ≡ parts → Fills (fill lists entry t)
        by none is = rw (is, fill) (code_fills t _ (λ code. fills has tt))
        by (one start) is = rw (is, fill) (second_fills entry.section entry start t)
        by (two start end) is = rw (is, fill) (third_fills entry.section entry start end t)

    -- ---- a part at fault that fills its place
    record Mends (mended : Mended) : Type 0 where
      pub gives : (p : State × Lists) → mended ≡ Some p → Holds p.1 uses × Cuts p.0

    mended_by : {A : Type 0} (entry : Entry) (declares : A → List Declaration) (found : Option A) → Mends (option_map (λ x. (in_entry (new_entry entry.section), adding lists (declares x))) found)
    mended_by entry declares (Some x) = record { gives = λ p is. let same : ◌≡◌ {A = State × Lists} (in_entry (new_entry entry.section), adding lists (declares x)) p = cc in subst (λ q. Holds q.1 uses × Cuts q.0) same (more_has lists uses (declares x) has, tt) }
    mended_by entry declares None = record { gives = λ p is. absurd (cc) }

    mends_none : Mends None
    mends_none = record { gives = λ p is. absurd (cc) }

    second_mends : (section : Section) (entry : Entry) (start : Code) (piece : Piece) → Mends (salvage.second_mended section lists entry start piece)
    second_mends codespace_range entry start piece = mended_by entry (λ declared. declared) (option_and_then (salvage.widened start) (salvage.code_of_piece piece))
    second_mends (cids kind extent) entry start piece = mends_none
    second_mends bf_range entry start piece = mends_none
    second_mends bf_char entry start piece = mended_by entry (text_of start.number start.number) (empty_text_in piece)

    third_mends : (section : Section) (entry : Entry) (start end : Code) (piece : Piece) → Mends (salvage.third_mended section lists entry start end piece)
    third_mends codespace_range entry start end piece = mends_none
    third_mends (cids kind extent) entry start end piece = mends_none
    third_mends bf_range entry start end piece = mended_by entry (text_of start.number end.number) (empty_text_in piece)
    third_mends bf_char entry start end piece = mends_none

    all_mend : (entry : Entry) (piece : Piece) → Mends (mend lists entry piece)
    all_mend entry piece = by entry.parts refl
      where
        by : (parts : Parts) → entry.parts ≡ parts → Mends (mend lists entry piece)
        by none is = rw (is, mend) mends_none
        by (one start) is = rw (is, mend) (second_mends entry.section entry start piece)
        by (two start end) is = rw (is, mend) (third_mends entry.section entry start end piece)

  passed_keeps : (old : Salvaged) (entry : Entry) (piece : Piece) → Has old → Keeps (passed_over old entry piece)
  passed_keeps old entry piece has =
      let passed = entry_passed old (rest_of entry) piece has in
      by_class Keeps passed (kept has tt) passed passed passed (class_of piece)

  mended_keeps : (old : Salvaged) (entry : Entry) (piece : Piece) (mended : Mended) → (has : Has old) → Mends old.said.lists old.said.uses has mended → Keeps (elim mended [ Some p ↦ (p.0, having_lists old p.1) | None ↦ passed_over old entry piece ])
  mended_keeps old entry piece (Some p) has mends_it = let (holds, cuts) = mends_it.gives p refl in kept holds cuts
  mended_keeps old entry piece None has mends_it = passed_keeps old entry piece has

  fault_keeps : (old : Salvaged) (entry : Entry) (piece : Piece) (fault : Stop) → Has old → Keeps (entry_fault old entry piece fault)
  fault_keeps old entry piece fault has = mended_keeps (with_fault old fault) entry piece (mend old.said.lists entry piece) has (all_mend old.said.lists old.said.uses has entry piece)

  taken_keeps : (old : Salvaged) (entry : Entry) (piece : Piece) (t : Token) (filled : Filled) → (has : Has old) → Fills old.said.lists old.said.uses has filled → Keeps (taken old entry piece t filled)
  taken_keeps old entry piece t (Ok p) has fills_it = let (holds, cuts) = fills_it.gives p refl in kept holds cuts
  taken_keeps old entry piece t (Err reason) has fills_it = fault_keeps old entry piece _ has

  part_keeps : (old : Salvaged) (entry : Entry) (piece : Piece) → Has old → Keeps (take_part old entry piece)
  part_keeps old entry piece has = by piece.token refl
    where
      by : (r : Result Token Wrong) → piece.token ≡ r → Keeps (take_part old entry piece)
      by (Ok t) is = rw (is, take_part) (taken_keeps old entry piece t (fill old.said.lists entry t) has (all_fill old.said.lists old.said.uses has entry t))
      by (Err w) is = rw (is, take_part) (fault_keeps old entry piece (own_fault w) has)

  entry_keeps : (old : Salvaged) (entry : Entry) (piece : Piece) → Has old → Keeps (take_in_entry old entry piece)
  entry_keeps old entry piece has = by_bool Keeps (kept has tt) (part_keeps old (with_piece entry piece) piece has) (no_parts entry.parts && is_closer entry.section piece)

  line_passed : (old : Salvaged) (section : Section) (piece : Piece) → Has old → Keeps (pass_in_line old section piece)
  line_passed old section piece has = by_bool Keeps (entry_keeps old (new_entry section) piece has) (by_class Keeps (item_keeps old piece has) (kept has tt) (kept has tt) (kept has tt) (kept has tt) (class_of piece)) piece.begins_line

  no_text_keeps : (old : Salvaged) (list : Texts) (piece : Piece) → length front.bfs ≤ list.kept → Has old → Keeps (no_text old list piece)
  no_text_keeps old list piece long has =
      let lost = lose_has old list long has in
      let short : Has (salvage.short_list old list) = by_bool Has has lost (is_nominal list) in
      let with_empty : Has (salvage.adding_empty old list.next piece) = by_option Has (λ units. more_has old.said.lists old.said.uses (text_of list.next list.next units) has) has (empty_text_in piece) in
      by_class Keeps (item_keeps (losing old list) piece lost) (kept has long) (kept has long) (kept short (entry_cuts (salvage.rest_of_list list))) (kept with_empty long) (class_of piece)

  text_keeps : (old : Salvaged) (list : Texts) (piece : Piece) → length front.bfs ≤ list.kept → Has old → Keeps (take_text old list piece)
  text_keeps old list piece long has = by_option Keeps (λ units. kept {s = (list_after list piece (list.next + 1), having_lists old (adding old.said.lists (text_of list.next list.next units)))} (more_has old.said.lists old.said.uses (text_of list.next list.next units) has) long) (no_text_keeps (with_fault old (fault_of TextExpected piece)) list piece long has) (text_in piece)

  end_keeps : (old : Salvaged) (list : Texts) (piece : Piece) → length front.bfs ≤ list.kept → Has old → Keeps (end_list old list piece)
  end_keeps old list piece long has = by_bool Keeps (entry_keeps old (new_entry bf_range) piece has) (kept (lose_has old list long has) tt) (lacks_bracket list piece)

  past_keeps : (old : Salvaged) (list : Texts) (piece : Piece) → length front.bfs ≤ list.kept → Has old → Keeps (past_texts old list piece)
  past_keeps old list piece long has = by_class Keeps (item_keeps old piece has) (kept has long) (kept has long) (kept has long) (end_keeps old list piece long has) (class_of piece)

  after_texts_keeps : (old : Salvaged) (list : Texts) (piece : Piece) → length front.bfs ≤ list.kept → Has old → Keeps (take_after_texts old list piece)
  after_texts_keeps old list piece long has =
      let passed = past_keeps (with_fault old (fault_of BracketExpected piece)) list piece long has in
      by_class Keeps passed passed passed (kept has tt) passed (class_of piece)

  list_keeps : (old : Salvaged) (list : Texts) (piece : Piece) → length front.bfs ≤ list.kept → Has old → Keeps (take_in_list old list piece)
  list_keeps old list piece long has = by_bool Keeps (text_keeps old list piece long has) (after_texts_keeps old list piece long has) (nat_le list.next list.last)

  piece_keeps : (now : State × Salvaged) (piece : Piece) → Cuts now.0 → Has now.1 → Keeps (take_piece now piece)
  piece_keeps (item, old) piece cuts has = item_keeps old piece has
  piece_keeps (value k, old) piece cuts has = value_keeps old k piece has
  piece_keeps (in_entry entry, old) piece cuts has = entry_keeps old entry piece has
  piece_keeps (at_fault rest, old) piece cuts has = entry_passed old rest piece has
  piece_keeps (in_brackets rest, old) piece cuts has = list_passed old rest piece has
  piece_keeps (in_line section, old) piece cuts has = line_passed old section piece has
  piece_keeps (in_list list, old) piece cuts has = list_keeps old list piece cuts has

  all_keep : (now : State × Salvaged) (pieces : List Piece) → Cuts now.0 → Has now.1 → Keeps (take_all now pieces)
  unfolding take_all
  all_keep now [] cuts has = kept has cuts
  all_keep now (piece ∷ pieces) cuts has = let next = piece_keeps now piece cuts has in all_keep (take_piece now piece) pieces next.cuts next.found

  -- in rows
  line_keeps : (parts : ℕ) (now : State × Salvaged) (piece : Piece) → Cuts now.0 → Has now.1 → Keeps (begin_line parts now piece)
  line_keeps parts (item, old) piece cuts has = kept has tt
  line_keeps parts (value k, old) piece cuts has = kept has tt
  line_keeps parts (in_entry entry, old) piece cuts has = by_bool Keeps (kept has tt) (kept has tt) (is_short parts entry piece)
  line_keeps parts (at_fault rest, old) piece cuts has = kept has tt
  line_keeps parts (in_brackets rest, old) piece cuts has = kept has tt
  line_keeps parts (in_line section, old) piece cuts has = kept has tt
  line_keeps parts (in_list list, old) piece cuts has = kept has cuts

  stray_keeps : (now : State × Salvaged) (piece : Piece) → Cuts now.0 → Has now.1 → Keeps (take_unless_stray now piece)
  stray_keeps (item, old) piece cuts has = piece_keeps (item, old) piece cuts has
  stray_keeps (value k, old) piece cuts has = piece_keeps (value k, old) piece cuts has
  stray_keeps (in_entry entry, old) piece cuts has = by_bool Keeps (kept has tt) (entry_keeps old entry piece has) (is_stray piece)
  stray_keeps (at_fault rest, old) piece cuts has = piece_keeps (at_fault rest, old) piece cuts has
  stray_keeps (in_brackets rest, old) piece cuts has = piece_keeps (in_brackets rest, old) piece cuts has
  stray_keeps (in_line section, old) piece cuts has = piece_keeps (in_line section, old) piece cuts has
  stray_keeps (in_list list, old) piece cuts has = piece_keeps (in_list list, old) piece cuts has

  row_keeps : (parts : ℕ) (now : State × Salvaged) (piece : Piece) → Cuts now.0 → Has now.1 → Keeps (take_in_row parts now piece)
  row_keeps parts now piece cuts has =
      let begun : Keeps (if piece.begins_line then begin_line parts now piece else now) = by_bool Keeps (line_keeps parts now piece cuts has) (kept has cuts) piece.begins_line in
      stray_keeps (if piece.begins_line then begin_line parts now piece else now) piece begun.cuts begun.found

  pub rows_keep : (rows : List Row) (now : State × Salvaged) (pieces : List Piece) → Keeps now → Keeps (take_rows rows now pieces)
  unfolding take_rows
  rows_keep rows now [] keeps = keeps
  rows_keep rows now (piece ∷ pieces) keeps =
      let here = rows_at rows piece in
      rows_keep here (take_in_row (parts_on here) now piece) pieces (row_keeps (parts_on here) now piece keeps.cuts keeps.found)

  finish_keeps : (len : ℕ) (now : State × Salvaged) → Has now.1 → Has (finished len now)
  finish_keeps len (item, old) has = has
  finish_keeps len (value k, old) has = has
  finish_keeps len (in_entry entry, old) has = has
  finish_keeps len (at_fault rest, old) has = has
  finish_keeps len (in_brackets rest, old) has = has
  finish_keeps len (in_line section, old) has = has
  finish_keeps len (in_list list, old) has = has

  abbrev pub BeginsSo : Salvaged → Type 0
  BeginsSo found = BeginWithLists front found.said.lists × ((more : List (List ℕ)) × (found.said.uses ≡ names ++ more))

  -- at the end
  pub ends_so : (len : ℕ) (now : State × Salvaged) → Keeps now → BeginsSo (finished len now)
  ends_so len now keeps = let all = finish_keeps len now keeps.found in (all.lists_begin, all.uses_begin)

  pub rest_keeps : (now : State × Salvaged) (pieces : List Piece) → Cuts now.0 → now.1.said.lists ≡ front → now.1.said.uses ≡ names → Keeps (take_all now pieces)
  rest_keeps now pieces cuts same_lists same_uses = all_keep now pieces cuts (record { lists_begin = (lists_of [], same_lists ∙ sym (append_lists-none front)); uses_begin = ([], same_uses ∙ sym (append-nil names)) })

-- an item or an entry comes next
pub kept_from_item : (old : Salvaged) (pieces : List Piece) → Keeps old.said.lists old.said.uses (take_all (item, old) pieces)
kept_from_item old pieces = rest_keeps old.said.lists old.said.uses (item, old) pieces tt refl refl

pub kept_from_entry : (entry : Entry) (old : Salvaged) (pieces : List Piece) → Keeps old.said.lists old.said.uses (take_all (in_entry entry, old) pieces)
kept_from_entry entry old pieces = rest_keeps old.said.lists old.said.uses (in_entry entry, old) pieces tt refl refl
