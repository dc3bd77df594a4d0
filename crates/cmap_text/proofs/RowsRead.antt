-- In rows a text is read as without up to its first fault, so that none comes later.
use Rattle.std.proofs.Common.{◌≡◌, ◌∙◌, ℕ, Bool, true, false, List, [], ◌∷◌, ◌++◌, ◌<◌, ◌≤◌, ◌+◌, suc, length, take, ap, refl, sym, subst, arith, inl, inr}
use Rattle.std.specs.Prelude.{◌&&◌, ◌⊎◌, nat_le, nat_lt, take_while, codes, Option, Some, None, Result, Ok, Err}
use Rattle.std.specs.List.{prefix_len}
use Rattle.std.proofs.lemmas.Bool.{ltb-true}
use Rattle.cmap_tokens.specs.Malformed.{Malformed}
use Rattle.cmap_tokens.specs.Pieces.{Piece, Wrong, pieces_left}
use Rattle.cmap_tokens.specs.Tokens.{Token}
use Rattle.cmap_tokens.specs.TokensLeft.{EndedToken, start_of}
use Rattle.cmap_tokens.proofs.PiecePlaces.{ArePlaced, place, places_ascend}
use Rattle.cmap_tokens.proofs.PiecesTokens.{CutSo}
use Rattle.cmap_values.specs.Faults.{Ascend}
use Rattle.cmap_values.specs.Files.{Declaration, Lists}
use Rattle.cmap_values.specs.declared.fault.Reason.{Reason}
use Rattle.cmap_values.specs.declared.fault.Reason.TheVariants.{BracketExpected, TextExpected, UnequalLengths}
use Rattle.cmap_values.specs.declared.fault.Stop.{Stop}
use Rattle.cmap_text.specs.Rows.{parts_on, rows_at, rows_of}
use Rattle.cmap_text.specs.declared.salvage.rows.Row.{Row}
use Rattle.cmap_text.specs.TextFiles.{Section, bf_char, bf_range, cids, codespace_range, range, single}
use Rattle.cmap_text.specs.TextReading.{Code, adding, cid_in, code_in, codespace, destination_in, is_executable, key_in, opened_by, text_of, with_other, use_word}
use Rattle.cmap_text.specs.Salvage.{Class, Entry, Filled, Parts, Rest, Salvaged, State, Texts, after_entry, after_malformed, alone, at_fault, begin_item, begin_line, class_of, close_bracket, entry_fault, fault_of, fill, fill_texts, finished, first_read, having_lists, if_cid, if_code, if_text, in_brackets, in_entry, in_line, in_list, is_closer, is_read_in_rows, is_short, is_stray, item, known, missing, new_entry, no_parts, none, nothing_salvaged, one, open_bracket, own_fault, part, pass_in_line, pass_in_list, past_texts, read_in_rows, saying, short_fault, take_after_texts, take_all, take_in_entry, take_in_list, take_in_row, take_item, take_part, take_piece, take_rows, take_text, take_unless_stray, take_use, take_value, taken, text_in, two, value, with_fault, with_piece}
use Rattle.cmap_text.specs.Salvage as salvage
use Rattle.cmap_text.proofs.FaultsAdded.{Adds, by_bool, by_class, by_option, fault_first, no_text_adds, past_adds, rest_adds, rows_rest_add, stray_adds}
use Rattle.cmap_text.proofs.FaultPlaces.{ascend_within, of_place, first_places, rest_ascends}

-- ---- without a fault nothing is passed over
abbrev IsRight : State → Type 0
IsRight (at_fault rest) = ⊥
IsRight (in_brackets rest) = ⊥
IsRight (in_line section) = ⊥
IsRight _ = Unit {0}

abbrev HasFault : Salvaged → Type 0
HasFault found = (fault : Stop) × (more : List Stop) × (found.faults ≡ fault ∷ more)

record Goes (s : State × Salvaged) : Type 0 where
  goes : IsRight s.0 ⊎ HasFault s.1

right : {s : State × Salvaged} → IsRight s.0 → Goes s
right is = record { goes = inl is }

fault_added : (old new : Salvaged) (fault : Stop) → old.faults ≡ [] → Adds (with_fault old fault) new → HasFault new
fault_added old new fault clean adds = (fault, adds.more, adds.is ∙ ap (λ fs. (fs ++ fault ∷ []) ++ adds.more) clean)

wrong : {s : State × Salvaged} (old : Salvaged) (fault : Stop) → old.faults ≡ [] → Adds (with_fault old fault) s.1 → Goes s
wrong {s} old fault clean adds = record { goes = inr (fault_added old s.1 fault clean adds) }

value_right : (k : List ℕ) (c : Class) → IsRight (after_malformed k c)
value_right k known = tt
value_right k alone = tt
value_right k open_bracket = tt
value_right k close_bracket = tt
value_right k part = tt

use_goes : (old : Salvaged) (operand : Option (List ℕ)) (end : ℕ) → Goes (take_use old operand end)
use_goes old (Some name) end = right tt
use_goes old None end = right tt

begin_goes : (old : Salvaged) (t : Token) (end : ℕ) → Goes (begin_item old t end)
begin_goes old t end = by (opened_by t) refl (is_executable use_word t) refl (key_in t) refl
  where
    by : (s : Option Section) → opened_by t ≡ s → (u : Bool) → is_executable use_word t ≡ u → (k : Option (List ℕ)) → key_in t ≡ k → Goes (begin_item old t end)
    by (Some section) opens u uses k is = rw (opens, begin_item) (right tt)
    by None opens true uses k is = rw (opens, uses, begin_item) (use_goes (saying old (with_other old.said t)) old.said.operand end)
    by None opens false uses (Some k) is = rw (opens, uses, is, begin_item) (right tt)
    by None opens false uses None is = rw (opens, uses, is, begin_item) (right tt)

item_goes : (old : Salvaged) (piece : Piece) → Goes (take_item old piece)
item_goes old piece = by piece.token refl
  where
    by : (r : Result Token Wrong) → piece.token ≡ r → Goes (take_item old piece)
    by (Ok t) is = rw (is, take_item) (begin_goes old t piece.end)
    by (Err w) is = rw (is, take_item) (right tt)

value_goes : (old : Salvaged) (k : List ℕ) (piece : Piece) → Goes (take_value old k piece)
value_goes old k piece = by piece.token refl
  where
    by : (r : Result Token Wrong) → piece.token ≡ r → Goes (take_value old k piece)
    by (Ok t) is = rw (is, take_value) (right tt)
    by (Err w) is = rw (is, take_value) (right (value_right k _))

-- ---- a place that is filled
record Fills (filled : Filled) : Type 0 where
  gives : (p : State × Lists) → filled ≡ Ok p → IsRight p.0

fills : {state : State} {lists : Lists} → IsRight state → Fills (Ok (state, lists))
fills {state} {lists} is_right = record { gives = λ p is. let same : ◌≡◌ {A = State × Lists} (state, lists) p = cc in subst (λ q. IsRight q.0) same is_right }

fails : {reason : Reason} → Fills (Err reason)
fails = record { gives = λ p is. absurd (cc) }

code_fills : (t : Token) (more : Code → Filled) → ((code : Code) → Fills (more code)) → Fills (if_code t more)
code_fills t more each = by (code_in t) refl
  where
    by : (found : Option Code) → code_in t ≡ found → Fills (if_code t more)
    by (Some code) is = rw (is, if_code) (each code)
    by None is = rw (is, if_code) fails

cid_fills : (t : Token) (more : ℕ → Filled) → ((cid : ℕ) → Fills (more cid)) → Fills (if_cid t more)
cid_fills t more each = by (cid_in t) refl
  where
    by : (found : Option ℕ) → cid_in t ≡ found → Fills (if_cid t more)
    by (Some cid) is = rw (is, if_cid) (each cid)
    by None is = rw (is, if_cid) fails

text_fills : (t : Token) (more : List ℕ → Filled) → ((units : List ℕ) → Fills (more units)) → Fills (if_text t more)
text_fills t more each = by (destination_in t) refl
  where
    by : (found : Option (List ℕ)) → destination_in t ≡ found → Fills (if_text t more)
    by (Some units) is = rw (is, if_text) (each units)
    by None is = rw (is, if_text) fails

module _ (lists : Lists) (entry : Entry) (t : Token) where
  high_fills : (low : Code) → Fills (salvage.fill_high lists entry low t)
  high_fills low = code_fills t _ (λ high. by high (codespace low high) refl)
    where
      by : (high : Code) (found : Option (List Declaration)) → codespace low high ≡ found → Fills (elim (codespace low high) [ Some declared ↦ Ok (in_entry (new_entry entry.section), adding lists declared) | None ↦ Err UnequalLengths ])
      by high (Some declared) is = rw is (fills tt)
      by high None is = rw is fails

  texts_fills : (start end : Code) → Fills (fill_texts lists entry start end t)
  texts_fills start end = by (is_executable (codes "[") t) refl
    where
      by : (opens : Bool) → is_executable (codes "[") t ≡ opens → Fills (fill_texts lists entry start end t)
      by true is = rw (is, fill_texts) (fills tt)
      by false is = rw (is, fill_texts) (text_fills t (λ units. Ok (in_entry (new_entry entry.section), adding lists (text_of start.number end.number units))) (λ units. fills tt))

  second_fills : (section : Section) (start : Code) → Fills (salvage.second_filled section lists entry start t)
  second_fills codespace_range start = high_fills start
  second_fills (cids kind single) start = cid_fills t _ (λ cid. fills tt)
  second_fills (cids kind range) start = code_fills t _ (λ code. fills tt)
  second_fills bf_range start = code_fills t _ (λ code. fills tt)
  second_fills bf_char start = text_fills t _ (λ units. fills tt)

  third_fills : (section : Section) (start end : Code) → Fills (salvage.third_filled section lists entry start end t)
  third_fills codespace_range start end = texts_fills start end
  third_fills (cids kind extent) start end = cid_fills t _ (λ cid. fills tt)
  third_fills bf_range start end = texts_fills start end
  third_fills bf_char start end = texts_fills start end

  all_fill : Fills (fill lists entry t)
  all_fill = by entry.parts refl
    where
      by : (parts : Parts) → entry.parts ≡ parts → Fills (fill lists entry t)
      by none is = rw (is, fill) (code_fills t _ (λ code. fills tt))
      by (one start) is = rw (is, fill) (second_fills entry.section start)
      by (two start end) is = rw (is, fill) (third_fills entry.section start end)

-- ---- each step without a fault before it
module _ (old : Salvaged) (right_so_far : old.faults ≡ []) (piece : Piece) where
  taken_goes : (entry : Entry) (t : Token) (filled : Filled) → Fills filled → Goes (taken old entry piece t filled)
  taken_goes entry t (Ok p) fills_it = right (fills_it.gives p refl)
  taken_goes entry t (Err reason) fills_it = let fault : Stop = record { offset = piece.end; reason = reason } in wrong old fault right_so_far (fault_first old entry piece fault).adds

  part_goes : (entry : Entry) → Goes (take_part old entry piece)
  part_goes entry = by piece.token refl
    where
      by : (r : Result Token Wrong) → piece.token ≡ r → Goes (take_part old entry piece)
      by (Ok t) is = rw (is, take_part) (taken_goes entry t (fill old.said.lists entry t) (all_fill old.said.lists entry t))
      by (Err w) is = rw (is, take_part) (wrong old (own_fault w) right_so_far (fault_first old entry piece (own_fault w)).adds)

  entry_goes : (entry : Entry) → Goes (take_in_entry old entry piece)
  entry_goes entry = by_bool Goes (right tt) (part_goes (with_piece entry piece)) (no_parts entry.parts && is_closer entry.section piece)

  text_goes : (list : Texts) → Goes (take_text old list piece)
  text_goes list = by_option Goes (λ units. right tt) (wrong old (fault_of TextExpected piece) right_so_far (no_text_adds (with_fault old (fault_of TextExpected piece)) list piece).adds) (text_in piece)

  after_texts_goes : (list : Texts) → Goes (take_after_texts old list piece)
  after_texts_goes list =
      let passed = wrong old (fault_of BracketExpected piece) right_so_far (past_adds (with_fault old (fault_of BracketExpected piece)) list piece).adds in
      by_class Goes passed passed passed (right tt) passed (class_of piece)

  list_goes : (list : Texts) → Goes (take_in_list old list piece)
  list_goes list = by_bool Goes (text_goes list) (after_texts_goes list) (nat_le list.next list.last)

piece_goes : (now : State × Salvaged) (piece : Piece) → IsRight now.0 → now.1.faults ≡ [] → Goes (take_piece now piece)
piece_goes (item, old) piece is clean = item_goes old piece
piece_goes (value k, old) piece is clean = value_goes old k piece
piece_goes (in_entry entry, old) piece is clean = entry_goes old clean piece entry
piece_goes (at_fault rest, old) piece is clean = absurd is
piece_goes (in_brackets rest, old) piece is clean = absurd is
piece_goes (in_line section, old) piece is clean = absurd is
piece_goes (in_list list, old) piece is clean = list_goes old clean piece list

-- ---- a piece in rows
-- it is taken as without rows, or is at fault
abbrev Same : State × Salvaged → Piece → State × Salvaged → Type 0
Same now piece new = (new ≡ take_piece now piece) ⊎ ((fault : Stop) × (more : List Stop) × (new.1.faults ≡ fault ∷ more) × (fault.offset ≡ place piece))

stray_same : (now : State × Salvaged) (piece : Piece) → now.1.faults ≡ [] → Same now piece (take_unless_stray now piece)
stray_same (item, old) piece clean = inl refl
stray_same (value k, old) piece clean = inl refl
stray_same (in_entry entry, old) piece clean = by (is_stray piece) refl
  where
    by : (b : Bool) → is_stray piece ≡ b → Same (in_entry entry, old) piece (take_unless_stray (in_entry entry, old) piece)
    by true is = rw is (inr (fault_of (missing entry) piece, [], ap (λ fs. fs ++ fault_of (missing entry) piece ∷ []) clean, of_place (missing entry) piece))
    by false is = rw is (inl refl)
stray_same (at_fault rest, old) piece clean = inl refl
stray_same (in_brackets rest, old) piece clean = inl refl
stray_same (in_line section, old) piece clean = inl refl
stray_same (in_list list, old) piece clean = inl refl

-- where a line begins
line_same : (parts : ℕ) (now : State × Salvaged) (piece : Piece) → IsRight now.0 → now.1.faults ≡ [] → Same now piece (take_unless_stray (begin_line parts now piece) piece)
line_same parts (item, old) piece is clean = inl refl
line_same parts (value k, old) piece is clean = inl refl
line_same parts (in_entry entry, old) piece is clean = by (is_short parts entry piece) refl
  where
    by : (b : Bool) → is_short parts entry piece ≡ b → Same (in_entry entry, old) piece (take_unless_stray (begin_line parts (in_entry entry, old) piece) piece)
    by true short =
        let fault = short_fault entry piece in
        let begun : State × Salvaged = (in_entry (new_entry entry.section), with_fault old fault) in
        let added = (stray_adds begun piece).adds in
        rw short (inr (fault, added.more, added.is ∙ ap (λ fs. (fs ++ fault ∷ []) ++ added.more) clean, refl))
    by false long = rw long (stray_same (in_entry entry, old) piece clean)
line_same parts (at_fault rest, old) piece is clean = absurd is
line_same parts (in_brackets rest, old) piece is clean = absurd is
line_same parts (in_line section, old) piece is clean = absurd is
line_same parts (in_list list, old) piece is clean = inl refl

row_same : (parts : ℕ) (now : State × Salvaged) (piece : Piece) → IsRight now.0 → now.1.faults ≡ [] → Same now piece (take_in_row parts now piece)
row_same parts now piece is clean = by_bool {B = State × Salvaged} (λ s. Same now piece (take_unless_stray s piece)) (line_same parts now piece is clean) (stray_same now piece clean) piece.begins_line

-- ---- all pieces
-- where these have a first fault, those have one that isn't after it
abbrev pub NoLater : List Stop → List Stop → Type 0
NoLater [] others = Unit {0}
NoLater (stop ∷ more) others = (fault : Stop) × (rest : List Stop) × (others ≡ fault ∷ rest) × (fault.offset ≤ stop.offset)

same_first : (fs others : List Stop) (fault : Stop) (more rest : List Stop) → fs ≡ fault ∷ more → others ≡ fault ∷ rest → NoLater fs others
same_first fs others fault more rest is also = rw is (fault, rest, also, omega arith)

none_later : (fs : List Stop) → NoLater fs fs
none_later [] = tt
none_later (f ∷ fs) = (f, fs, refl, omega arith)

sooner : (at len : ℕ) (fs others : List Stop) (fault : Stop) (rest : List Stop) → Ascend at fs len → others ≡ fault ∷ rest → fault.offset ≡ at → NoLater fs others
sooner at len [] others fault rest ascend is here = tt
sooner at len (f ∷ fs) others fault rest (least, more) is here = (fault, rest, is, omega (arith, least, here))

module _ (len : ℕ) where
  pub no_later : (low : ℕ) (rows : List Row) (now : State × Salvaged) (pieces : List Piece) → IsRight now.0 → now.1.faults ≡ [] → ArePlaced len low pieces → NoLater (finished len (take_all now pieces)).faults (finished len (take_rows rows now pieces)).faults
  unfolding take_all take_rows
  no_later low rows now [] is clean places = none_later (finished len now).faults
  no_later low rows now (piece ∷ pieces) is clean (before, places) =
      at (row_same (parts_on (rows_at rows piece)) now piece is clean) (λ goes_on right_so_far. no_later (place piece) (rows_at rows piece) (take_piece now piece) pieces goes_on right_so_far places)
    where
      here : List Row
      here = rows_at rows piece

      next : State × Salvaged
      next = take_piece now piece

      new : State × Salvaged
      new = take_in_row (parts_on here) now piece

      Goal : State × Salvaged → Type 0
      Goal s = NoLater (finished len (take_all next pieces)).faults (finished len (take_rows here s pieces)).faults

      on : (IsRight next.0 → next.1.faults ≡ [] → Goal next) → (fs : List Stop) → next.1.faults ≡ fs → Goal next
      on later [] right_so_far = elim (piece_goes now piece is clean).goes [
        | inl goes_on ↦ later goes_on right_so_far
        | inr (fault, more, has) ↦ let wrong = sym right_so_far ∙ has in absurd (cc)
      ]
      on later (fault ∷ more) has =
          let first = rest_adds len next pieces in
          let second = rows_rest_add len here next pieces in
          same_first (finished len (take_all next pieces)).faults (finished len (take_rows here next pieces)).faults fault (more ++ first.more) (more ++ second.more) (first.is ∙ ap (λ fs. fs ++ first.more) has) (second.is ∙ ap (λ fs. fs ++ second.more) has)

      at : Same now piece new → (IsRight next.0 → next.1.faults ≡ [] → Goal next) → Goal new
      at (inl same) later = subst Goal (sym same) (on later next.1.faults refl)
      at (inr (fault, more, has, offset)) later =
          let added = rows_rest_add len here new pieces in
          sooner (place piece) len (finished len (take_all next pieces)).faults (finished len (take_rows here new pieces)).faults fault (more ++ added.more) (rest_ascends len (place piece) (place piece) next pieces places (first_places now piece clean)) (added.is ∙ ap (λ fs. fs ++ added.more) has) offset

-- of a text
pub read_no_later : (rows : List Row) (text : List ℕ) → NoLater (first_read text).faults (read_in_rows rows text).faults
read_no_later rows text = no_later (length text) 0 rows (item, nothing_salvaged) (pieces_left (start_of text)) tt refl (places_ascend text)

-- ---- up to the first fault
one_more : {A : Type 0} (n : ℕ) (x : A) (xs : List A) → take (1 + n) (x ∷ xs) ≡ x ∷ take n xs
one_more n x xs = let same : 1 + n ≡ suc n = omega arith in ap (λ k. take k (x ∷ xs)) same

module _ (len : ℕ) (fault : Stop) (more : List Stop) where
  -- tokens that end before the first fault are read as without rows, and then the others are read
  pub record Agrees (tokens : List EndedToken) (kind : Malformed) (rows : List Row) (now : State × Salvaged) (pieces : List Piece) : Type 0 where
    pub before : List Piece
    pub rest : List Piece
    pub held : List Row
    pub cut : CutSo len (take_while (λ p. nat_lt p.end fault.offset) tokens) true kind len before
    pub same : take_rows rows now pieces ≡ take_rows held (take_all now before) rest

  one_taken : (p : EndedToken) (tokens : List EndedToken) → nat_lt p.end fault.offset ≡ true → take_while (λ p. nat_lt p.end fault.offset) (p ∷ tokens) ≡ p ∷ take_while (λ p. nat_lt p.end fault.offset) tokens
  one_taken p tokens less = rw less (one_more (prefix_len (λ p. nat_lt p.end fault.offset) tokens) p tokens)

  -- a fault at the place of a piece isn't after it
  no_fault_yet : (rows : List Row) (now : State × Salvaged) (pieces : List Piece) (least : ℕ) (f : Stop) (fs : List Stop) → now.1.faults ≡ f ∷ fs → f.offset ≡ least → least < fault.offset → (finished len (take_rows rows now pieces)).faults ≡ fault ∷ more → ⊥
  no_fault_yet rows now pieces least f fs has here less first =
      let added = rows_rest_add len rows now pieces in
      let all : fault ∷ more ≡ f ∷ (fs ++ added.more) = sym first ∙ added.is ∙ ap (λ l. l ++ added.more) has in
      let same : fault ≡ f = cc in
      omega (arith, less, here, ap (λ s. s.offset) same)

  pub rows_agree : (tokens : List EndedToken) (ends : Bool) (kind : Malformed) (stop : ℕ) (rows : List Row) (now : State × Salvaged) (pieces : List Piece) → IsRight now.0 → now.1.faults ≡ [] → CutSo len tokens ends kind stop pieces
      → (finished len (take_rows rows now pieces)).faults ≡ fault ∷ more → Agrees tokens kind rows now pieces
  unfolding take_all take_rows
  rows_agree [] ends kind stop rows now pieces is clean cut first = record { before = []; rest = pieces; held = rows; cut = (refl, refl); same = refl }
  rows_agree (p ∷ tokens) ends kind stop rows now pieces is clean (b, others, pieces_are, cut) first = by (nat_lt p.end fault.offset) refl (λ held next goes_on right_so_far first_on. rows_agree tokens ends kind stop held next others goes_on right_so_far cut first_on)
    where
      Later : Type 0
      Later = (held : List Row) (next : State × Salvaged) → IsRight next.0 → next.1.faults ≡ [] → (finished len (take_rows held next others)).faults ≡ fault ∷ more → Agrees tokens kind held next others

      piece : Piece
      piece = record { token = Ok p.token; end = p.end; begins_line = b }

      here : List Row
      here = rows_at rows piece

      next : State × Salvaged
      next = take_piece now piece

      new : State × Salvaged
      new = take_in_row (parts_on here) now piece

      goes : take_rows rows now pieces ≡ take_rows here new others
      goes = ap (take_rows rows now) pieces_are

      first_here : (finished len (take_rows here new others)).faults ≡ fault ∷ more
      first_here = ap (λ s. (finished len s).faults) (sym goes) ∙ first

      by : (less : Bool) → nat_lt p.end fault.offset ≡ less → Later → Agrees (p ∷ tokens) kind rows now pieces
      by false past later = record { before = []; rest = pieces; held = rows; cut = rw past (refl, refl); same = refl }
      by true less later = at (row_same (parts_on here) now piece is clean)
        where
          sooner_yet : p.end < fault.offset
          sooner_yet = ltb-true p.end fault.offset less

          on : new ≡ next → (fs : List Stop) → next.1.faults ≡ fs → Agrees (p ∷ tokens) kind rows now pieces
          on same (f ∷ fs) has =
              let (least, others_ascend) = subst (λ l. Ascend p.end l p.end) has (first_places now piece clean) in
              absurd (no_fault_yet here next others p.end f fs has (omega (arith, least, ascend_within f.offset p.end fs others_ascend)) sooner_yet (ap (λ s. (finished len (take_rows here s others)).faults) (sym same) ∙ first_here))
          on same [] right_so_far = elim (piece_goes now piece is clean).goes [
            | inl goes_on ↦
                let agrees = later here next goes_on right_so_far (ap (λ s. (finished len (take_rows here s others)).faults) (sym same) ∙ first_here) in
                record {
                  before = piece ∷ agrees.before;
                  rest = agrees.rest;
                  held = agrees.held;
                  cut = subst (λ ts. CutSo len ts true kind len (piece ∷ agrees.before)) (sym (one_taken p tokens less)) (b, agrees.before, refl, agrees.cut);
                  same = goes ∙ ap (λ s. take_rows here s others) same ∙ agrees.same;
                }
            | inr (f, fs, has) ↦ let wrong = sym right_so_far ∙ has in absurd (cc)
          ]

          at : Same now piece new → Agrees (p ∷ tokens) kind rows now pieces
          at (inl same) = on same next.1.faults refl
          at (inr (f, fs, has, offset)) = absurd (no_fault_yet here new others p.end f fs has offset sooner_yet first_here)

-- a text in rows has a fault
pub has_fault : (text : List ℕ) → is_read_in_rows text ≡ true → (read_in_rows (rows_of text) text).faults ≡ [] → ⊥
has_fault text rows empty = by (first_read text).faults refl
  where
    by : (fs : List Stop) → (first_read text).faults ≡ fs → ⊥
    by [] has = let clash = rw has at rows in cc
    by (stop ∷ more) has = let (fault, rest, is, less) = subst (λ fs. NoLater fs (read_in_rows (rows_of text) text).faults) has (read_no_later (rows_of text) text) in let wrong = sym empty ∙ is in cc
