-- Each declaration that is kept stands in the text.
use Rattle.std.proofs.Common.{◌≡◌, ◌∙◌, ℕ, ◌+◌, ◌-◌, ◌≤◌, Bool, true, false, List, [], ◌∷◌, ◌++◌, length, take, ap, refl, subst, sym, arith, append_assoc, append-nil, inl, inr}
use Rattle.std.specs.Prelude.{◌==◌, ◌&&◌, ◌<◌, ◌⊎◌, nat_le, nat_lt, codes, Option, Some, None, option_and_then, option_map, Result, Ok, Err, if◌then◌else◌}
use Rattle.std.proofs.lemmas.Bool.{eqb-true, leb-true, ltb-true}
use Rattle.std.proofs.lemmas.List.{take_at}
use Rattle.cmap_tokens.specs.Pieces.{Piece, Wrong, pieces_left}
use Rattle.cmap_tokens.specs.Tokens.{Token}
use Rattle.cmap_tokens.specs.TokensLeft.{start_of}
use Rattle.cmap_values.specs.BigEndian.{big_endian}
use Rattle.cmap_values.proofs.ListsMade.{added_more, append_lists-none, lists_of-append}
use Rattle.cmap_values.specs.Files.{BfEntry, Declaration, Lists, bfs_of, lists_of}
use Rattle.cmap_values.specs.ListsAppended.{append_lists, no_lists}
use Rattle.cmap_values.specs.declared.fault.Stop.{Stop}
use Rattle.cmap_values.specs.declared.fault.Reason.{Reason}
use Rattle.cmap_values.specs.declared.fault.Reason.TheVariants.{BracketExpected, TextExpected, UnequalLengths}
use Rattle.cmap_text.specs.Rows.{parts_on, rows_at, rows_of}
use Rattle.cmap_text.specs.declared.salvage.rows.Row.{Row}
use Rattle.cmap_text.specs.TextFiles.{CidKind, IsCid, IsCode, IsDestination, IsEntry, Section, bf_char, bf_range, cids, codespace_range, declares_cid, range, single}
use Rattle.cmap_text.specs.TextReading.{Code, adding, cid_in, code_in, codespace, destination_in, filed, is_executable, key_in, opened_by, text_of, value_in, with_other, use_word}
use Rattle.cmap_text.specs.Salvage.{Class, Entry, Filled, Mended, Parts, Rest, Salvaged, State, Texts, adding_empty, after_entry, after_malformed, after_part, alone, at_fault, begin_item, begin_line, class_of, close_bracket, code_of_piece, empty_text_in, empty_text_of, end_list, entry_fault, fault_of, fill, fill_cid, fill_end, fill_high, fill_texts, first_read, if_cid, if_code, if_text, finished, having_lists, in_brackets, in_entry, in_line, in_list, is_closer, is_nominal, is_read_in_rows, is_short, is_stray, item, known, lacks_bracket, list_after, list_begun, losing, mend, mend_high, mend_text, new_entry, no_parts, no_text, none, nothing_salvaged, one, open_bracket, own_fault, part, pass_in_entry, pass_in_line, pass_in_list, passed_over, past_texts, places_of, read_in_rows, rest_of, rest_of_list, salvaged, saying, second_filled, second_mended, short_list, take_after_texts, take_all, take_in_entry, take_in_list, take_in_row, take_item, take_part, take_piece, take_rows, take_text, take_unless_stray, take_use, take_value, taken, text_in, third_filled, third_mended, two, value, widened, with_fault, with_piece}
use Rattle.cmap_text.specs.Salvage as salvage
use Rattle.cmap_text.specs.Standing.{AreDeclared, AreParts, AreTexts, IsEmptyString, Stands, StandsAs, a_list, a_longer_end, an_empty_text, an_entry, between, empty_texts, entered, lone_piece, next_part, next_text, no_part, nothing, other_part, outside, passed, place_after, place_at, stray_name, within}
use Rattle.cmap_text.specs.Standing as standing
use Rattle.cmap_text.proofs.TokensRead.{cid_found, code_found, destination_found, empty_found, is_executable-found, some_bound, tested, token_read, written}
use Rattle.cmap_text.proofs.FaultsAdded.{by_bool, by_class}
use Rattle.cmap_text.proofs.FaultyRead.{in_rows_now}
use Rattle.cmap_text.proofs.Places.{Fits, PartsFit, place_at-more, place_goes, place_of, row_begins, row_goes}

module _ (rows : Bool) where
  -- what is said in some pieces
  record Said (seen : List Piece) (lists : Lists) : Type 0 where
    declared : List Declaration
    stands : Stands rows seen declared
    lists_are : lists ≡ lists_of declared

  -- the codes that are read of an entry
  abbrev CodesAre : Parts → List Token → Type 0
  CodesAre none tokens = tokens ≡ []
  CodesAre (one start) tokens = (a : Token) × (first : List ℕ) × (tokens ≡ a ∷ []) × IsCode a first × (start ≡ written first)
  CodesAre (two start end) tokens = (a b : Token) × (first last : List ℕ) × (tokens ≡ a ∷ b ∷ []) × IsCode a first × IsCode b last × (start ≡ written first) × (end ≡ written last)

  record InEntry (section : Section) (parts : Parts) (seen : List Piece) (lists : Lists) : Type 0 where
    before : List Piece
    is_open : place_at outside before ≡ within section
    pieces : List Piece
    tokens : List Token
    seen_is : seen ≡ before ++ pieces
    said : Said before lists
    parts_are : AreParts rows pieces tokens
    codes_are : CodesAre parts tokens

  record InList (list : Texts) (seen : List Piece) (lists : Lists) : Type 0 where
    before : List Piece
    is_open : place_at outside before ≡ within bf_range
    opening : List Piece
    others : List Piece
    a : Token
    b : Token
    first : List ℕ
    last : List ℕ
    n : ℕ
    texts : List Declaration
    earlier : Lists
    seen_is : seen ≡ before ++ (opening ++ others)
    said : Said before earlier
    opens : AreParts rows opening (a ∷ b ∷ Token.Name false (codes "[") ∷ [])
    first_is : IsCode a first
    last_is : IsCode b last
    texts_are : AreTexts (big_endian first) others n texts
    few : n ≤ big_endian last + 1 - big_endian first
    next_is : list.next ≡ big_endian first + n
    end_is : list.last ≡ big_endian last
    kept_is : list.kept ≡ length earlier.bfs
    lists_are : lists ≡ adding earlier texts

  pass : {seen : List Piece} {lists : Lists} → Said seen lists → (piece : Piece) → Said (seen ++ piece ∷ []) lists
  pass said piece = record { declared = said.declared; stands = passed said.stands piece; lists_are = said.lists_are }

  pass_all : {seen : List Piece} {lists : Lists} → Said seen lists → (pieces : List Piece) → Said (seen ++ pieces) lists
  pass_all {seen} {lists} said [] = subst (λ ps. Said ps lists) (sym (append-nil seen)) said
  pass_all {seen} {lists} said (piece ∷ pieces) = subst (λ ps. Said ps lists) (append_assoc seen (piece ∷ []) pieces) (pass_all (pass said piece) pieces)

  enter : {section : Section} {seen others : List Piece} {lists : Lists} {more : List Declaration} → Said seen lists → place_at outside seen ≡ within section → StandsAs rows section others more → Said (seen ++ others) (adding lists more)
  enter {more = more} said is_open stands_as = record { declared = said.declared ++ more; stands = entered said.stands is_open stands_as; lists_are = ap (λ l. adding l more) said.lists_are ∙ sym (lists_of-append said.declared more) }

  -- all of an entry that isn't whole is passed, and a list stands as far as it is read
  entry_said : {section : Section} {parts : Parts} {seen : List Piece} {lists : Lists} → InEntry section parts seen lists → Said seen lists
  entry_said {lists = lists} inside = subst (λ ps. Said ps lists) (sym inside.seen_is) (pass_all inside.said inside.pieces)

  list_said : {list : Texts} {seen : List Piece} {lists : Lists} → InList list seen lists → Said seen lists
  list_said inside = rw (inside.seen_is, inside.lists_are) (enter inside.said inside.is_open (a_list inside.opens inside.first_is inside.last_is inside.texts_are inside.few))

  -- ---- what holds in each state
  abbrev At : State → List Piece → Lists → Type 0
  At (in_entry entry) seen lists = place_at outside seen ≡ within entry.section → InEntry entry.section entry.parts seen lists
  At (in_list list) seen lists = InList list seen lists
  At _ seen lists = Said seen lists

  record Keeps (seen : List Piece) (s : State × Salvaged) : Type 0 where
    pub at : At s.0 seen s.1.said.lists

  kept : {seen : List Piece} {s : State × Salvaged} → At s.0 seen s.1.said.lists → Keeps seen s
  kept holds = record { at = holds }

  fresh : {section : Section} {seen : List Piece} {lists : Lists} → Said seen lists → place_at outside seen ≡ within section → InEntry section none seen lists
  fresh {section} {seen} said is_open = record { before = seen; is_open = is_open; pieces = []; tokens = []; seen_is = sym (append-nil seen); said = said; parts_are = no_part; codes_are = refl }

  by_class_is : (P : State × Salvaged → Type 0) {a b c d e : State × Salvaged} (k : Class) → (k ≡ known → P a) → (k ≡ alone → P b) → (k ≡ open_bracket → P c) → (k ≡ close_bracket → P d) → (k ≡ part → P e) → P (elim k [ known ↦ a | alone ↦ b | open_bracket ↦ c | close_bracket ↦ d | part ↦ e ])
  by_class_is P known a b c d e = a refl
  by_class_is P alone a b c d e = b refl
  by_class_is P open_bracket a b c d e = c refl
  by_class_is P close_bracket a b c d e = d refl
  by_class_is P part a b c d e = e refl

  by_option_is : {A : Type 0} (P : State × Salvaged → Type 0) {f : A → State × Salvaged} {x : State × Salvaged} (o : Option A) → ((a : A) → o ≡ Some a → P (f a)) → (o ≡ None → P x) → P (elim o [ Some a ↦ f a | None ↦ x ])
  by_option_is P (Some a) x y = x a refl
  by_option_is P None x y = y refl

  by_bool_is : (P : State × Salvaged → Type 0) {a b : State × Salvaged} (c : Bool) → (c ≡ true → P a) → P b → P (if c then a else b)
  by_bool_is P true a b = a refl
  by_bool_is P false a b = b

  -- ---- what the texts of a list add
  abbrev of_texts : List BfEntry → Lists
  of_texts bfs = record { cids = no_lists.cids; notdefs = no_lists.notdefs; bfs = bfs; spaces = [] }

  texts_only : {start n : ℕ} {others : List Piece} {texts : List Declaration} → AreTexts start others n texts → lists_of texts ≡ of_texts (bfs_of texts)
  texts_only standing.no_text = refl
  texts_only (between texts piece which) = texts_only texts
  texts_only (other_part texts piece is not) = texts_only texts
  texts_only {start} (standing.empty_text {n = n} {declared = earlier} texts piece t token empty) =
      let more = text_of (start + n) (start + n) [] in
      lists_of-append earlier more ∙ ap (λ l. append_lists l (lists_of more)) (texts_only texts) ∙ ap of_texts (sym (ap (λ l. l.bfs) (lists_of-append earlier more)))
  texts_only {start} (next_text {n = n} {declared = earlier} texts piece units is) =
      let more = text_of (start + n) (start + n) units in
      lists_of-append earlier more ∙ ap (λ l. append_lists l (lists_of more)) (texts_only texts) ∙ ap of_texts (sym (ap (λ l. l.bfs) (lists_of-append earlier more)))

  -- a list that is lost leaves what was said before it
  lost_lists : {list : Texts} {seen : List Piece} (old : Salvaged) (inside : InList list seen old.said.lists) → (losing old list).said.lists ≡ inside.earlier
  lost_lists {list} old inside =
      let earlier = inside.earlier in
      let texts = inside.texts in
      let cut : Lists → Lists = λ l. record { cids = l.cids; notdefs = l.notdefs; bfs = take list.kept l.bfs; spaces = l.spaces } in
      let with_bfs : Lists → List BfEntry → Lists = λ l bfs. record { cids = l.cids; notdefs = l.notdefs; bfs = bfs; spaces = l.spaces } in
      ap cut inside.lists_are
      ∙ ap (λ l. cut (append_lists earlier l)) (texts_only inside.texts_are)
      ∙ ap (λ l. with_bfs l (take list.kept (earlier.bfs ++ bfs_of texts))) (append_lists-none earlier)
      ∙ ap (with_bfs earlier) (take_at earlier.bfs (bfs_of texts) list.kept (sym inside.kept_is))

  module _ (seen next : List Piece) (piece : Piece) (next_is : next ≡ seen ++ piece ∷ []) where
    passed_on : {lists : Lists} → Said seen lists → Said next lists
    passed_on {lists} said = subst (λ ps. Said ps lists) (sym next_is) (pass said piece)

    entry_at : (rest : Rest) (lists : Lists) → Said next lists → At (after_entry rest) next lists
    entry_at rest lists said = by rest.begins_line refl
      where
        by : (b : Bool) → rest.begins_line ≡ b → At (after_entry rest) next lists
        by true is = rw (is, after_entry) said
        by false is = rw (is, after_entry) (fresh said)

    part_at : (rest : Rest) (lists : Lists) → Said next lists → At (after_part rest) next lists
    part_at rest lists said = by (nat_le rest.places 1) refl
      where
        by : (b : Bool) → nat_le rest.places 1 ≡ b → At (after_part rest) next lists
        by true is = rw (is, after_part) (entry_at rest lists said)
        by false is = rw (is, after_part) said

    value_at : (k : List ℕ) (c : Class) (lists : Lists) → Said next lists → At (after_malformed k c) next lists
    value_at k known lists said = said
    value_at k alone lists said = said
    value_at k open_bracket lists said = said
    value_at k close_bracket lists said = said
    value_at k part lists said = said

    use_keeps : (old : Salvaged) (operand : Option (List ℕ)) (end : ℕ) → Said next old.said.lists → Keeps next (take_use old operand end)
    use_keeps old (Some name) end said = kept said
    use_keeps old None end said = kept said

    begin_keeps : (old : Salvaged) (t : Token) (end : ℕ) → Said next old.said.lists → Keeps next (begin_item old t end)
    begin_keeps old t end said = by (opened_by t) refl (is_executable use_word t) refl (key_in t) refl
      where
        by : (s : Option Section) → opened_by t ≡ s → (u : Bool) → is_executable use_word t ≡ u → (k : Option (List ℕ)) → key_in t ≡ k → Keeps next (begin_item old t end)
        by (Some section) opens u uses k is = rw (opens, begin_item) (kept (fresh said))
        by None opens true uses k is = rw (opens, uses, begin_item) (use_keeps (saying old (with_other old.said t)) old.said.operand end said)
        by None opens false uses (Some k) is = rw (opens, uses, is, begin_item) (kept said)
        by None opens false uses None is = rw (opens, uses, is, begin_item) (kept said)

    item_keeps : (old : Salvaged) → Said next old.said.lists → Keeps next (take_item old piece)
    item_keeps old said = by piece.token refl
      where
        by : (r : Result Token Wrong) → piece.token ≡ r → Keeps next (take_item old piece)
        by (Ok t) is = rw (is, take_item) (begin_keeps old t piece.end said)
        by (Err w) is = rw (is, take_item) (kept said)

    value_keeps : (old : Salvaged) (k : List ℕ) → Said next old.said.lists → Keeps next (take_value old k piece)
    value_keeps old k said = by piece.token refl
      where
        by : (r : Result Token Wrong) → piece.token ≡ r → Keeps next (take_value old k piece)
        by (Ok t) is = rw (is, take_value) (kept said)
        by (Err w) is = rw (is, take_value) (kept (value_at k _ old.said.lists said))

    entry_passed : (old : Salvaged) (rest : Rest) → Said next old.said.lists → Keeps next (pass_in_entry old rest piece)
    entry_passed old rest said = by_class (Keeps next) (item_keeps old said) (kept said) (kept said) (kept (entry_at rest old.said.lists said)) (kept (part_at rest old.said.lists said)) (class_of piece)

    list_passed : (old : Salvaged) (rest : Rest) → Said next old.said.lists → Keeps next (pass_in_list old rest piece)
    list_passed old rest said = by_class (Keeps next) (item_keeps old said) (kept said) (kept said) (kept (entry_at rest old.said.lists said)) (kept said) (class_of piece)

    lone_entry : (section : Section) (parts : Parts) (lists : Lists) → InEntry section parts seen lists → class_of piece ≡ alone → InEntry section parts next lists
    lone_entry section parts lists inside is = record {
      before = inside.before;
      is_open = inside.is_open;
      pieces = inside.pieces ++ piece ∷ [];
      tokens = inside.tokens;
      seen_is = next_is ∙ ap (λ ps. ps ++ piece ∷ []) inside.seen_is ∙ append_assoc inside.before inside.pieces (piece ∷ []);
      said = inside.said;
      parts_are = lone_piece inside.parts_are piece is;
      codes_are = inside.codes_are;
    }

    -- ---- a place that is filled
    record Fills (filled : Filled) : Type 0 where
      pub gives : (p : State × Lists) → filled ≡ Ok p → At p.0 next p.1

    fills : {state : State} {new : Lists} → At state next new → Fills (Ok (state, new))
    fills {state} {new} holds = record { gives = λ p is. let same : ◌≡◌ {A = State × Lists} (state, new) p = cc in subst (λ q. At q.0 next q.1) same holds }

    fails : {reason : Reason} → Fills (Err reason)
    fails = record { gives = λ p is. absurd (cc) }

    module _ (lists : Lists) (t : Token) (token : piece.token ≡ Ok t) where
      code_fills : (more : Code → Filled) → ((code : Code) (bytes : List ℕ) → IsCode t bytes → code ≡ written bytes → Fills (more code)) → Fills (if_code t more)
      code_fills more each = by (code_in t) refl
        where
          by : (found : Option Code) → code_in t ≡ found → Fills (if_code t more)
          by (Some code) is = let (bytes, is_code, same) = code_found t code is in rw (is, if_code) (each code bytes is_code same)
          by None is = rw (is, if_code) fails

      cid_fills : (more : ℕ → Filled) → ((cid : ℕ) → IsCid t cid → Fills (more cid)) → Fills (if_cid t more)
      cid_fills more each = by (cid_in t) refl
        where
          by : (found : Option ℕ) → cid_in t ≡ found → Fills (if_cid t more)
          by (Some cid) is = rw (is, if_cid) (each cid (cid_found t cid is))
          by None is = rw (is, if_cid) fails

      text_fills : (more : List ℕ → Filled) → ((units : List ℕ) → IsDestination t units → Fills (more units)) → Fills (if_text t more)
      text_fills more each = by (destination_in t) refl
        where
          by : (found : Option (List ℕ)) → destination_in t ≡ found → Fills (if_text t more)
          by (Some units) is = rw (is, if_text) (each units (destination_found t units is))
          by None is = rw (is, if_text) fails

      standing_so : (section : Section) (parts : Parts) (inside : InEntry section parts seen lists) (declared : List Declaration) → StandsAs rows section (inside.pieces ++ piece ∷ []) declared → Said next (adding lists declared)
      standing_so section parts inside declared stands =
          let same = next_is ∙ ap (λ ps. ps ++ piece ∷ []) inside.seen_is ∙ append_assoc inside.before inside.pieces (piece ∷ []) in
          subst (λ ps. Said ps (adding lists declared)) (sym same) (enter inside.said inside.is_open stands)

      whole : (open_section : Section) (parts : Parts) (inside : InEntry open_section parts seen lists) (section : Section) → open_section ≡ section → (declared : List Declaration) → IsEntry section (inside.tokens ++ t ∷ []) declared [] → Said next (adding lists declared)
      whole open_section parts inside section same declared is = standing_so open_section parts inside declared (subst (λ s. StandsAs rows s (inside.pieces ++ piece ∷ []) declared) (sym same) (an_entry {section = section} (next_part inside.parts_are piece t token) is))

      one_more : (section : Section) (parts new : Parts) (inside : InEntry section parts seen lists) → CodesAre new (inside.tokens ++ t ∷ []) → InEntry section new next lists
      one_more section parts new inside codes = record {
        before = inside.before;
        is_open = inside.is_open;
        pieces = inside.pieces ++ piece ∷ [];
        tokens = inside.tokens ++ t ∷ [];
        seen_is = next_is ∙ ap (λ ps. ps ++ piece ∷ []) inside.seen_is ∙ append_assoc inside.before inside.pieces (piece ∷ []);
        said = inside.said;
        parts_are = next_part inside.parts_are piece t token;
        codes_are = codes;
      }

      high_fills : (entry : Entry) (low : Code) → InEntry entry.section (one low) seen lists → entry.section ≡ codespace_range → Fills (fill_high lists entry low t)
      high_fills entry low inside same_section = code_fills _ (λ high bytes is_code same. by high bytes is_code same (codespace low high) refl)
        where
          by : (high : Code) (bytes : List ℕ) → IsCode t bytes → high ≡ written bytes → (found : Option (List Declaration)) → codespace low high ≡ found → Fills (elim (codespace low high) [ Some declared ↦ Ok (in_entry (new_entry entry.section), adding lists declared) | None ↦ Err UnequalLengths ])
          by high bytes is_code same (Some declared) is =
              let (a, first, tokens_are, a_code, low_is) = inside.codes_are in
              let (equal, gives) = tested (low.len == high.len) _ declared is in
              let lengths : length first ≡ length bytes = sym (ap (λ c. c.len) low_is) ∙ eqb-true low.len high.len equal ∙ ap (λ c. c.len) same in
              let declares = sym gives ∙ ap (λ c. Declaration.codespace (record { len = c.len; low = c.number; high = high.number }) ∷ []) low_is ∙ ap (λ c. Declaration.codespace (record { len = length first; low = big_endian first; high = c.number }) ∷ []) same in
              rw is (fills (fresh (whole entry.section (one low) inside codespace_range same_section declared (a, t, first, bytes, ap (λ ts. ts ++ t ∷ []) tokens_are, a_code, is_code, lengths, declares))))
          by high bytes is_code same None is = rw is fails

      second_code : (entry : Entry) (start : Code) → InEntry entry.section (one start) seen lists → Fills (fill_end lists entry start t)
      second_code entry start inside = code_fills _ (
          λ end bytes is_code same.
          let (a, first, tokens_are, a_code, start_is) = inside.codes_are in
          fills (λ _. one_more entry.section (one start) (two start end) inside (a, t, first, bytes, ap (λ ts. ts ++ t ∷ []) tokens_are, a_code, is_code, start_is, same))
          )

      second_fills : (section : Section) (entry : Entry) (start : Code) → InEntry entry.section (one start) seen lists → entry.section ≡ section → Fills (second_filled section lists entry start t)
      second_fills codespace_range entry start inside same = high_fills entry start inside same
      second_fills (cids kind single) entry start inside same = cid_fills _ (
          λ cid is_cid.
          let (a, first, tokens_are, a_code, start_is) = inside.codes_are in
          let declared = declares_cid kind start.len (filed start start.number cid).1 ∷ [] in
          fills (fresh (whole entry.section (one start) inside (cids kind single) same declared (a, t, first, cid, ap (λ ts. ts ++ t ∷ []) tokens_are, a_code, is_cid, ap (λ c. declares_cid kind c.len (filed c c.number cid).1 ∷ []) start_is)))
          )
      second_fills (cids kind range) entry start inside same = second_code entry start inside
      second_fills bf_range entry start inside same = second_code entry start inside
      second_fills bf_char entry start inside same = text_fills _ (
          λ units is_text.
          let (a, first, tokens_are, a_code, start_is) = inside.codes_are in
          let declared = text_of start.number start.number units in
          fills (fresh (whole entry.section (one start) inside bf_char same declared (a, t, first, units, ap (λ ts. ts ++ t ∷ []) tokens_are, a_code, is_text, ap (λ c. text_of c.number c.number units) start_is)))
          )

      third_cid : (kind : CidKind) (entry : Entry) (start end : Code) → InEntry entry.section (two start end) seen lists → entry.section ≡ cids kind range → Fills (fill_cid lists entry kind start end t)
      third_cid kind entry start end inside same = cid_fills _ (
          λ cid is_cid.
          let (a, b, first, last, tokens_are, a_code, b_code, start_is, end_is) = inside.codes_are in
          let declared = declares_cid kind start.len (filed start end.number cid).1 ∷ [] in
          let declares = ap (λ c. declares_cid kind c.len (filed c end.number cid).1 ∷ []) start_is ∙ ap (λ c. declares_cid kind (length first) (filed (written first) c.number cid).1 ∷ []) end_is in
          fills (fresh (whole entry.section (two start end) inside (cids kind range) same declared (a, b, t, first, last, cid, ap (λ ts. ts ++ t ∷ []) tokens_are, a_code, b_code, is_cid, declares)))
          )

      list_opens : (entry : Entry) (start end : Code) → InEntry entry.section (two start end) seen lists → entry.section ≡ bf_range → is_executable (codes "[") t ≡ true → InList (list_begun lists entry start end) next lists
      list_opens entry start end inside same opens =
          let (a, b, first, last, tokens_are, a_code, b_code, start_is, end_is) = inside.codes_are in
          let tokens : inside.tokens ++ t ∷ [] ≡ a ∷ b ∷ Token.Name false (codes "[") ∷ [] = ap (λ ts. ts ++ t ∷ []) tokens_are ∙ ap (λ u. a ∷ b ∷ u ∷ []) (is_executable-found (codes "[") t opens) in
          let opening = inside.pieces ++ piece ∷ [] in
          let begins = next_is ∙ ap (λ ps. ps ++ piece ∷ []) inside.seen_is ∙ append_assoc inside.before inside.pieces (piece ∷ []) in
          record {
            before = inside.before;
            is_open = inside.is_open ∙ ap within same;
            opening = opening;
            others = [];
            a = a;
            b = b;
            first = first;
            last = last;
            n = 0;
            texts = [];
            earlier = lists;
            seen_is = begins ∙ ap (λ ps. inside.before ++ ps) (sym (append-nil opening));
            said = inside.said;
            opens = subst (AreParts rows opening) tokens (next_part inside.parts_are piece t token);
            first_is = a_code;
            last_is = b_code;
            texts_are = standing.no_text;
            few = omega arith;
            next_is = ap (λ c. c.number) start_is ∙ omega arith;
            end_is = ap (λ c. c.number) end_is;
            kept_is = refl;
            lists_are = sym (append_lists-none lists);
          }

      third_texts : (entry : Entry) (start end : Code) → InEntry entry.section (two start end) seen lists → entry.section ≡ bf_range → Fills (fill_texts lists entry start end t)
      third_texts entry start end inside same = by (is_executable (codes "[") t) refl
        where
          by : (opens : Bool) → is_executable (codes "[") t ≡ opens → Fills (fill_texts lists entry start end t)
          by true is = rw (is, fill_texts) (fills (list_opens entry start end inside same is))
          by false is = rw (is, fill_texts) (text_fills (λ units. Ok (in_entry (new_entry entry.section), adding lists (text_of start.number end.number units))) (
              λ units is_text.
              let (a, b, first, last, tokens_are, a_code, b_code, start_is, end_is) = inside.codes_are in
              let declared = text_of start.number end.number units in
              let declares = ap (λ c. text_of c.number end.number units) start_is ∙ ap (λ c. text_of (big_endian first) c.number units) end_is in
              fills (fresh (whole entry.section (two start end) inside bf_range same declared (a, b, first, last, a_code, b_code, inl (t, units, ap (λ ts. ts ++ t ∷ []) tokens_are, is_text, declares))))
              ))

      third_fills : (section : Section) (entry : Entry) (start end : Code) → InEntry entry.section (two start end) seen lists → entry.section ≡ section → places_of section ≡ 3 → Fills (third_filled section lists entry start end t)
      third_fills codespace_range entry start end inside same fit = absurd (cc)
      third_fills (cids kind range) entry start end inside same fit = third_cid kind entry start end inside same
      third_fills (cids kind single) entry start end inside same fit = absurd (cc)
      third_fills bf_range entry start end inside same fit = third_texts entry start end inside same
      third_fills bf_char entry start end inside same fit = absurd (cc)

      all_fill : (entry : Entry) → PartsFit entry.section entry.parts → InEntry entry.section entry.parts seen lists → Fills (fill lists entry t)
      all_fill entry fit inside = by entry.parts refl fit inside
        where
          by : (parts : Parts) → entry.parts ≡ parts → PartsFit entry.section parts → InEntry entry.section parts seen lists → Fills (fill lists entry t)
          by none is fit has = rw (is, fill) (code_fills _ (λ code bytes is_code same. fills (λ _. one_more entry.section none (one code) has (t, bytes, ap (λ ts. ts ++ t ∷ []) has.codes_are, is_code, same))))
          by (one start) is fit has = rw (is, fill) (second_fills entry.section entry start has refl)
          by (two start end) is fit has = rw (is, fill) (third_fills entry.section entry start end has refl fit)

      -- ---- a part at fault that fills its place
      stands_in : {section other : Section} {pieces : List Piece} {declared : List Declaration} → section ≡ other → StandsAs rows other pieces declared → StandsAs rows section pieces declared
      stands_in {pieces = pieces} {declared = declared} same stands = subst (λ s. StandsAs rows s pieces declared) (sym same) stands

      empty_stands : (entry : Entry) (start : Code) → InEntry entry.section (one start) seen lists → entry.section ≡ bf_char → IsEmptyString t → At (in_entry (new_entry entry.section)) next (adding lists (text_of start.number start.number []))
      empty_stands entry start inside same empty =
          let (a, first, tokens_are, a_code, start_is) = inside.codes_are in
          let parts = subst (AreParts rows (inside.pieces ++ piece ∷ [])) (ap (λ ts. ts ++ t ∷ []) tokens_are) (next_part inside.parts_are piece t token) in
          let stands = subst (λ n. StandsAs rows bf_char (inside.pieces ++ piece ∷ []) (text_of n n [])) (sym (ap (λ c. c.number) start_is)) (an_empty_text parts a_code empty) in
          fresh (standing_so entry.section (one start) inside (text_of start.number start.number []) (stands_in same stands))

      empties_stand : (entry : Entry) (start end : Code) → InEntry entry.section (two start end) seen lists → entry.section ≡ bf_range → IsEmptyString t → At (in_entry (new_entry entry.section)) next (adding lists (text_of start.number end.number []))
      empties_stand entry start end inside same empty =
          let (a, b, first, last, tokens_are, a_code, b_code, start_is, end_is) = inside.codes_are in
          let parts = subst (AreParts rows (inside.pieces ++ piece ∷ [])) (ap (λ ts. ts ++ t ∷ []) tokens_are) (next_part inside.parts_are piece t token) in
          let declares = ap (λ c. text_of c.number end.number []) start_is ∙ ap (λ c. text_of (big_endian first) c.number []) end_is in
          let stands = subst (StandsAs rows bf_range (inside.pieces ++ piece ∷ [])) (sym declares) (empty_texts parts a_code b_code empty) in
          fresh (standing_so entry.section (two start end) inside (text_of start.number end.number []) (stands_in same stands))

      longer_stands : (entry : Entry) (low high : Code) (declared : List Declaration) → InEntry entry.section (one low) seen lists → entry.section ≡ codespace_range → code_in t ≡ Some high → widened low high ≡ Some declared → At (in_entry (new_entry entry.section)) next (adding lists declared)
      longer_stands entry low high declared inside in_codespaces code is =
          let (bytes, is_code, same) = code_found t high code in
          let (a, first, tokens_are, a_code, low_is) = inside.codes_are in
          let (less, gives) = tested (nat_lt low.len high.len) _ declared is in
          let longer : length first < length bytes = omega (arith, ltb-true low.len high.len less, ap (λ c. c.len) low_is, ap (λ c. c.len) same) in
          let parts = subst (AreParts rows (inside.pieces ++ piece ∷ [])) (ap (λ ts. ts ++ t ∷ []) tokens_are) (next_part inside.parts_are piece t token) in
          let declares = sym gives ∙ ap (λ c. Declaration.codespace (record { len = high.len; low = c.number; high = high.number }) ∷ []) low_is ∙ ap (λ c. Declaration.codespace (record { len = c.len; low = big_endian first; high = c.number }) ∷ []) same in
          let stands = subst (StandsAs rows codespace_range (inside.pieces ++ piece ∷ [])) (sym declares) (a_longer_end parts a_code is_code longer) in
          fresh (standing_so entry.section (one low) inside declared (stands_in in_codespaces stands))

    record Mends (mended : Mended) : Type 0 where
      pub gives : (p : State × Lists) → mended ≡ Some p → At p.0 next p.1

    mends : {state : State} {new : Lists} → At state next new → Mends (Some (state, new))
    mends {state} {new} holds = record { gives = λ p is. let same : ◌≡◌ {A = State × Lists} (state, new) p = cc in subst (λ q. At q.0 next q.1) same holds }

    mends_none : Mends None
    mends_none = record { gives = λ p is. absurd (cc) }

    module _ (lists : Lists) where
      -- an empty string stands here
      text_mends : (entry : Entry) (start end : Code) → ((t : Token) → piece.token ≡ Ok t → IsEmptyString t → At (in_entry (new_entry entry.section)) next (adding lists (text_of start.number end.number []))) → Mends (mend_text lists entry start end piece)
      text_mends entry start end stands = by (empty_text_in piece) refl
        where
          by : (found : Option (List ℕ)) → empty_text_in piece ≡ found → Mends (option_map (λ units. (in_entry (new_entry entry.section), adding lists (text_of start.number end.number units))) found)
          by (Some units) is =
              let (t, token, reads) = token_read piece (λ t. option_and_then empty_text_of (value_in t)) units is in
              let (empty, without) = empty_found t units reads in
              subst (λ us. Mends (Some (in_entry (new_entry entry.section), adding lists (text_of start.number end.number us)))) (sym without) (mends (stands t token empty))
          by None is = mends_none

      high_mends : (entry : Entry) (low : Code) → InEntry entry.section (one low) seen lists → entry.section ≡ codespace_range → Mends (mend_high lists entry low piece)
      high_mends entry low inside same = by (option_and_then (widened low) (code_of_piece piece)) refl
        where
          by : (found : Option (List Declaration)) → option_and_then (widened low) (code_of_piece piece) ≡ found → Mends (option_map (λ declared. (in_entry (new_entry entry.section), adding lists declared)) found)
          by (Some declared) is =
              let (high, code, widens) = some_bound (widened low) (code_of_piece piece) declared is in
              let (t, token, reads) = token_read piece code_in high code in
              mends (longer_stands lists t token entry low high declared inside same reads widens)
          by None is = mends_none

      second_mends : (section : Section) (entry : Entry) (start : Code) → InEntry entry.section (one start) seen lists → entry.section ≡ section → Mends (second_mended section lists entry start piece)
      second_mends codespace_range entry start inside same = high_mends entry start inside same
      second_mends (cids kind extent) entry start inside same = mends_none
      second_mends bf_range entry start inside same = mends_none
      second_mends bf_char entry start inside same = text_mends entry start start (λ t token empty. empty_stands lists t token entry start inside same empty)

      third_mends : (section : Section) (entry : Entry) (start end : Code) → InEntry entry.section (two start end) seen lists → entry.section ≡ section → Mends (third_mended section lists entry start end piece)
      third_mends codespace_range entry start end inside same = mends_none
      third_mends (cids kind extent) entry start end inside same = mends_none
      third_mends bf_range entry start end inside same = text_mends entry start end (λ t token empty. empties_stand lists t token entry start end inside same empty)
      third_mends bf_char entry start end inside same = mends_none

      all_mend : (entry : Entry) → InEntry entry.section entry.parts seen lists → Mends (mend lists entry piece)
      all_mend entry inside = by entry.parts refl inside
        where
          by : (parts : Parts) → entry.parts ≡ parts → InEntry entry.section parts seen lists → Mends (mend lists entry piece)
          by none is has = rw (is, mend) mends_none
          by (one start) is has = rw (is, mend) (second_mends entry.section entry start has refl)
          by (two start end) is has = rw (is, mend) (third_mends entry.section entry start end has refl)

    passed_keeps : (old : Salvaged) (entry : Entry) → InEntry entry.section entry.parts seen old.said.lists → Keeps next (passed_over old entry piece)
    passed_keeps old entry inside =
        let passes = entry_passed old (rest_of entry) (passed_on (entry_said inside)) in
        by_class_is (Keeps next) (class_of piece) (λ _. passes) (λ is. kept (λ _. lone_entry entry.section entry.parts old.said.lists inside is)) (λ _. passes) (λ _. passes) (λ _. passes)

    mended_keeps : (old : Salvaged) (entry : Entry) (mended : Mended) → InEntry entry.section entry.parts seen old.said.lists → Mends mended → Keeps next (elim mended [ Some p ↦ (p.0, having_lists old p.1) | None ↦ passed_over old entry piece ])
    mended_keeps old entry (Some p) inside mends_it = kept (mends_it.gives p refl)
    mended_keeps old entry None inside mends_it = passed_keeps old entry inside

    fault_keeps : (old : Salvaged) (entry : Entry) (fault : Stop) → InEntry entry.section entry.parts seen old.said.lists → Keeps next (entry_fault old entry piece fault)
    fault_keeps old entry fault inside = mended_keeps (with_fault old fault) entry (mend old.said.lists entry piece) inside (all_mend old.said.lists entry inside)

    taken_keeps : (old : Salvaged) (entry : Entry) (t : Token) (filled : Filled) → InEntry entry.section entry.parts seen old.said.lists → Fills filled → Keeps next (taken old entry piece t filled)
    taken_keeps old entry t (Ok p) inside filled_so = kept (filled_so.gives p refl)
    taken_keeps old entry t (Err reason) inside filled_so = fault_keeps old entry _ inside

    part_keeps : (old : Salvaged) (entry : Entry) → PartsFit entry.section entry.parts → InEntry entry.section entry.parts seen old.said.lists → Keeps next (take_part old entry piece)
    part_keeps old entry fit inside = by piece.token refl
      where
        by : (r : Result Token Wrong) → piece.token ≡ r → Keeps next (take_part old entry piece)
        by (Ok t) is = rw (is, take_part) (taken_keeps old entry t (fill old.said.lists entry t) inside (all_fill old.said.lists t is entry fit inside))
        by (Err w) is = rw (is, take_part) (fault_keeps old entry (own_fault w) inside)

    entry_keeps : (old : Salvaged) (entry : Entry) → PartsFit entry.section entry.parts → InEntry entry.section entry.parts seen old.said.lists → Keeps next (take_in_entry old entry piece)
    entry_keeps old entry fit inside = by_bool (Keeps next) (kept (passed_on (entry_said inside))) (part_keeps old (with_piece entry piece) fit inside) (no_parts entry.parts && is_closer entry.section piece)

    line_passed : (old : Salvaged) (section : Section) → place_at outside seen ≡ within section → Said seen old.said.lists → Keeps next (pass_in_line old section piece)
    line_passed old section placed said =
        let passes = passed_on said in
        by_bool (Keeps next) (entry_keeps old (new_entry section) tt (fresh said placed)) (by_class (Keeps next) (item_keeps old passes) (kept passes) (kept passes) (kept passes) (kept passes) (class_of piece)) piece.begins_line

    -- ---- a list
    next_in_list : {list : Texts} {lists : Lists} (inside : InList list seen lists) → next ≡ inside.before ++ (inside.opening ++ (inside.others ++ piece ∷ []))
    next_in_list inside =
        next_is ∙ ap (λ ps. ps ++ piece ∷ []) inside.seen_is
        ∙ append_assoc inside.before (inside.opening ++ inside.others) (piece ∷ [])
        ∙ ap (λ ps. inside.before ++ ps) (append_assoc inside.opening inside.others (piece ∷ []))

    -- a piece that takes no place
    stays : (list : Texts) (lists : Lists) → InList list seen lists → (class_of piece ≡ alone) ⊎ (class_of piece ≡ open_bracket) → At (list_after list piece list.next) next lists
    stays list lists inside which = record {
      before = inside.before;
      is_open = inside.is_open;
      opening = inside.opening;
      others = inside.others ++ piece ∷ [];
      a = inside.a;
      b = inside.b;
      first = inside.first;
      last = inside.last;
      n = inside.n;
      texts = inside.texts;
      earlier = inside.earlier;
      seen_is = next_in_list inside;
      said = inside.said;
      opens = inside.opens;
      first_is = inside.first_is;
      last_is = inside.last_is;
      texts_are = between inside.texts_are piece which;
      few = inside.few;
      next_is = inside.next_is;
      end_is = inside.end_is;
      kept_is = inside.kept_is;
      lists_are = inside.lists_are;
    }

    -- the next place is filled, and more is declared
    fills_place : (list : Texts) (lists : Lists) (inside : InList list seen lists) → nat_le list.next list.last ≡ true → (texts : List Declaration) (new : Lists) → AreTexts (big_endian inside.first) (inside.others ++ piece ∷ []) (inside.n + 1) texts → new ≡ adding inside.earlier texts → At (list_after list piece (list.next + 1)) next new
    fills_place list lists inside left texts new texts_are lists_are = record {
      before = inside.before;
      is_open = inside.is_open;
      opening = inside.opening;
      others = inside.others ++ piece ∷ [];
      a = inside.a;
      b = inside.b;
      first = inside.first;
      last = inside.last;
      n = inside.n + 1;
      texts = texts;
      earlier = inside.earlier;
      seen_is = next_in_list inside;
      said = inside.said;
      opens = inside.opens;
      first_is = inside.first_is;
      last_is = inside.last_is;
      texts_are = texts_are;
      few = omega (arith, leb-true list.next list.last left, inside.next_is, inside.end_is);
      next_is = omega (arith, inside.next_is);
      end_is = inside.end_is;
      kept_is = inside.kept_is;
      lists_are = lists_are;
    }

    lost : (old : Salvaged) (list : Texts) → InList list seen old.said.lists → Said next (losing old list).said.lists
    lost old list inside =
        let before = pass_all inside.said (inside.opening ++ (inside.others ++ piece ∷ [])) in
        subst (λ l. Said next l) (sym (lost_lists old inside)) (subst (λ ps. Said ps inside.earlier) (sym (next_in_list inside)) before)

    short_keeps : (old : Salvaged) (list : Texts) → InList list seen old.said.lists → Said next (short_list old list).said.lists
    short_keeps old list inside = by_bool {B = Salvaged} (λ s. Said next s.said.lists) (passed_on (list_said inside)) (lost old list inside) (is_nominal list)

    -- a part that is no text, or the empty one
    part_fills : (old : Salvaged) (list : Texts) → InList list seen old.said.lists → nat_le list.next list.last ≡ true → text_in piece ≡ None → class_of piece ≡ part → Keeps next (list_after list piece (list.next + 1), adding_empty old list.next piece)
    part_fills old list inside left not is_part = by (empty_text_in piece) refl
      where
        without : Keeps next (list_after list piece (list.next + 1), old)
        without = kept {s = (list_after list piece (list.next + 1), old)} (fills_place list old.said.lists inside left inside.texts old.said.lists (other_part inside.texts_are piece is_part not) inside.lists_are)

        by : (found : Option (List ℕ)) → empty_text_in piece ≡ found → Keeps next (list_after list piece (list.next + 1), elim found [ Some units ↦ having_lists old (adding old.said.lists (text_of list.next list.next units)) | None ↦ old ])
        by (Some units) is =
            let (t, token, reads) = token_read piece (λ t. option_and_then empty_text_of (value_in t)) units is in
            let (empty, no_units) = empty_found t units reads in
            let more = text_of (big_endian inside.first + inside.n) (big_endian inside.first + inside.n) [] in
            let new = adding old.said.lists (text_of list.next list.next units) in
            let new_is : new ≡ adding old.said.lists more = ap (λ k. adding old.said.lists (text_of k k units)) inside.next_is ∙ ap (λ us. adding old.said.lists (text_of (big_endian inside.first + inside.n) (big_endian inside.first + inside.n) us)) no_units in
            kept {s = (list_after list piece (list.next + 1), having_lists old new)} (fills_place list old.said.lists inside left (inside.texts ++ more) new (standing.empty_text inside.texts_are piece t token empty) (added_more inside.earlier old.said.lists new inside.texts more inside.lists_are new_is))
        by None is = without

    no_text_keeps : (old : Salvaged) (list : Texts) → InList list seen old.said.lists → nat_le list.next list.last ≡ true → text_in piece ≡ None → Keeps next (salvage.no_text old list piece)
    no_text_keeps old list inside left not =
        by_class_is (Keeps next) (class_of piece) (λ is. item_keeps (losing old list) (lost old list inside)) (λ is. kept (stays list old.said.lists inside (inl is))) (λ is. kept (stays list old.said.lists inside (inr is)))
        (λ is. kept (entry_at (rest_of_list list) (short_list old list).said.lists (short_keeps old list inside)))
        (λ is. part_fills old list inside left not is)

    text_keeps : (old : Salvaged) (list : Texts) → InList list seen old.said.lists → nat_le list.next list.last ≡ true → Keeps next (take_text old list piece)
    text_keeps old list inside left = by_option_is (Keeps next) (text_in piece) some (no_text_keeps (with_fault old (fault_of TextExpected piece)) list inside left)
      where
        some : (units : List ℕ) → text_in piece ≡ Some units → Keeps next (list_after list piece (list.next + 1), having_lists old (adding old.said.lists (text_of list.next list.next units)))
        some units is =
            let more = text_of (big_endian inside.first + inside.n) (big_endian inside.first + inside.n) units in
            let new = adding old.said.lists (text_of list.next list.next units) in
            let new_is : new ≡ adding old.said.lists more = ap (λ k. adding old.said.lists (text_of k k units)) inside.next_is in
            kept {s = (list_after list piece (list.next + 1), having_lists old new)} (fills_place list old.said.lists inside left (inside.texts ++ more) new (next_text inside.texts_are piece units is) (added_more inside.earlier old.said.lists new inside.texts more inside.lists_are new_is))

    end_keeps : (old : Salvaged) (list : Texts) → place_at outside seen ≡ within bf_range → InList list seen old.said.lists → Keeps next (end_list old list piece)
    end_keeps old list placed inside = by_bool (Keeps next) (entry_keeps old (new_entry bf_range) tt (fresh (list_said inside) placed)) (kept (lost old list inside)) (lacks_bracket list piece)

    -- a ] isn't passed over
    past_keeps : (old : Salvaged) (list : Texts) → place_at outside seen ≡ within bf_range → InList list seen old.said.lists → (class_of piece ≡ close_bracket → Keeps next (past_texts old list piece)) → Keeps next (past_texts old list piece)
    past_keeps old list placed inside closed = by (class_of piece) refl
      where
        by : (k : Class) → class_of piece ≡ k → Keeps next (past_texts old list piece)
        by known is = rw (is, past_texts) (item_keeps old (passed_on (list_said inside)))
        by alone is = rw (is, past_texts) (kept (stays list old.said.lists inside (inl is)))
        by open_bracket is = rw (is, past_texts) (kept (stays list old.said.lists inside (inr is)))
        by close_bracket is = closed is
        by part is = rw (is, past_texts) (end_keeps old list placed inside)

    after_texts_keeps : (old : Salvaged) (list : Texts) → place_at outside seen ≡ within bf_range → InList list seen old.said.lists → Keeps next (take_after_texts old list piece)
    after_texts_keeps old list placed inside = by (class_of piece) refl
      where
        past : (class_of piece ≡ close_bracket → Keeps next (past_texts (with_fault old (fault_of BracketExpected piece)) list piece)) → Keeps next (past_texts (with_fault old (fault_of BracketExpected piece)) list piece)
        past closed = past_keeps (with_fault old (fault_of BracketExpected piece)) list placed inside closed

        by : (k : Class) → class_of piece ≡ k → Keeps next (take_after_texts old list piece)
        by close_bracket is = rw (is, take_after_texts) (kept (fresh (passed_on (list_said inside))))
        by known is = rw (is, take_after_texts) (past (λ closed. absurd (cc)))
        by alone is = rw (is, take_after_texts) (past (λ closed. absurd (cc)))
        by open_bracket is = rw (is, take_after_texts) (past (λ closed. absurd (cc)))
        by part is = rw (is, take_after_texts) (past (λ closed. absurd (cc)))

    list_keeps : (old : Salvaged) (list : Texts) → place_at outside seen ≡ within bf_range → InList list seen old.said.lists → Keeps next (take_in_list old list piece)
    list_keeps old list placed inside = by_bool_is (Keeps next) (nat_le list.next list.last) (text_keeps old list inside) (after_texts_keeps old list placed inside)

    piece_keeps : (now : State × Salvaged) → place_at outside seen ≡ place_of now.0 → Fits now.0 → At now.0 seen now.1.said.lists → Keeps next (take_piece now piece)
    piece_keeps (item, old) placed fits at = item_keeps old (passed_on at)
    piece_keeps (value k, old) placed fits at = value_keeps old k (passed_on at)
    piece_keeps (in_entry entry, old) placed fits at = entry_keeps old entry fits (at placed)
    piece_keeps (at_fault rest, old) placed fits at = entry_passed old rest (passed_on at)
    piece_keeps (in_brackets rest, old) placed fits at = list_passed old rest (passed_on at)
    piece_keeps (in_line section, old) placed fits at = line_passed old section placed at
    piece_keeps (in_list list, old) placed fits at = list_keeps old list placed at

  -- so far pieces are read
  record Reads (seen : List Piece) (now : State × Salvaged) : Type 0 where
    placed : place_at outside seen ≡ place_of now.0
    fits : Fits now.0
    keeps : Keeps seen now

  all_keep : (seen : List Piece) (now : State × Salvaged) (pieces : List Piece) → Reads seen now → Reads (seen ++ pieces) (take_all now pieces)
  unfolding take_all
  all_keep seen now [] reads = subst (λ ps. Reads ps now) (sym (append-nil seen)) reads
  all_keep seen now (piece ∷ pieces) reads =
      let next = seen ++ piece ∷ [] in
      let goes = place_goes piece now reads.fits in
      let later = all_keep next (take_piece now piece) pieces (record {
        placed = place_at-more outside seen piece ∙ ap (λ p. place_after p piece) reads.placed ∙ sym goes.is;
        fits = goes.fits;
        keeps = piece_keeps seen next piece refl now reads.placed reads.fits reads.keeps.at;
      }) in
      subst (λ ps. Reads ps (take_all (take_piece now piece) pieces)) (append_assoc seen (piece ∷ []) pieces) later

  finish_said : (len : ℕ) (seen : List Piece) (now : State × Salvaged) → place_at outside seen ≡ place_of now.0 → At now.0 seen now.1.said.lists → Said seen (finished len now).said.lists
  finish_said len seen (item, old) placed at = at
  finish_said len seen (value k, old) placed at = at
  finish_said len seen (in_entry entry, old) placed at = entry_said (at placed)
  finish_said len seen (at_fault rest, old) placed at = at
  finish_said len seen (in_brackets rest, old) placed at = at
  finish_said len seen (in_line section, old) placed at = at
  finish_said len seen (in_list list, old) placed at = list_said at

  -- ---- in rows
  module _ (in_rows : rows ≡ true) (seen next : List Piece) (piece : Piece) (next_is : next ≡ seen ++ piece ∷ []) where
    line_at : (parts : ℕ) (now : State × Salvaged) → place_at outside seen ≡ place_of now.0 → At now.0 seen now.1.said.lists → Keeps seen (begin_line parts now piece)
    line_at parts (item, old) placed at = kept at
    line_at parts (value k, old) placed at = kept at
    line_at parts (in_entry entry, old) placed at = by_bool (Keeps seen) (kept (fresh (entry_said (at placed)))) (kept at) (is_short parts entry piece)
    line_at parts (at_fault rest, old) placed at = kept (fresh at)
    line_at parts (in_brackets rest, old) placed at = kept at
    line_at parts (in_line section, old) placed at = kept (fresh at)
    line_at parts (in_list list, old) placed at = kept at

    stray_entry : (section : Section) (parts : Parts) (lists : Lists) → InEntry section parts seen lists → is_stray piece ≡ true → InEntry section parts next lists
    stray_entry section parts lists inside is = record {
      before = inside.before;
      is_open = inside.is_open;
      pieces = inside.pieces ++ piece ∷ [];
      tokens = inside.tokens;
      seen_is = next_is ∙ ap (λ ps. ps ++ piece ∷ []) inside.seen_is ∙ append_assoc inside.before inside.pieces (piece ∷ []);
      said = inside.said;
      parts_are = stray_name inside.parts_are piece in_rows is;
      codes_are = inside.codes_are;
    }

    stray_keeps : (now : State × Salvaged) → place_at outside seen ≡ place_of now.0 → Fits now.0 → At now.0 seen now.1.said.lists → Keeps next (take_unless_stray now piece)
    stray_keeps (item, old) placed fits at = piece_keeps seen next piece next_is (item, old) placed fits at
    stray_keeps (value k, old) placed fits at = piece_keeps seen next piece next_is (value k, old) placed fits at
    stray_keeps (in_entry entry, old) placed fits at = by_bool_is (Keeps next) (is_stray piece) (λ is. kept (λ _. stray_entry entry.section entry.parts old.said.lists (at placed) is)) (entry_keeps seen next piece next_is old entry fits (at placed))
    stray_keeps (at_fault rest, old) placed fits at = piece_keeps seen next piece next_is (at_fault rest, old) placed fits at
    stray_keeps (in_brackets rest, old) placed fits at = piece_keeps seen next piece next_is (in_brackets rest, old) placed fits at
    stray_keeps (in_line section, old) placed fits at = piece_keeps seen next piece next_is (in_line section, old) placed fits at
    stray_keeps (in_list list, old) placed fits at = piece_keeps seen next piece next_is (in_list list, old) placed fits at

    row_keeps : (parts : ℕ) (now : State × Salvaged) → Reads seen now → Reads next (take_in_row parts now piece)
    row_keeps parts now reads =
        let new : State × Salvaged = if piece.begins_line then begin_line parts now piece else now in
        let begun : Keeps seen new = by_bool (Keeps seen) (line_at parts now reads.placed reads.keeps.at) (kept reads.keeps.at) piece.begins_line in
        let begins = row_begins piece parts now reads.fits in
        let goes = row_goes piece parts now reads.fits in
        record {
          placed = ap (place_at outside) next_is ∙ place_at-more outside seen piece ∙ ap (λ p. place_after p piece) reads.placed ∙ sym goes.is;
          fits = goes.fits;
          keeps = stray_keeps new (reads.placed ∙ sym begins.is) begins.fits begun.at;
        }

  rows_keep : rows ≡ true → (held : List Row) (seen : List Piece) (now : State × Salvaged) (pieces : List Piece) → Reads seen now → Reads (seen ++ pieces) (take_rows held now pieces)
  unfolding take_rows
  rows_keep in_rows held seen now [] reads = subst (λ ps. Reads ps now) (sym (append-nil seen)) reads
  rows_keep in_rows held seen now (piece ∷ pieces) reads =
      let here = rows_at held piece in
      let new = take_in_row (parts_on here) now piece in
      let later = rows_keep in_rows here (seen ++ piece ∷ []) new pieces (row_keeps in_rows seen (seen ++ piece ∷ []) piece refl (parts_on here) now reads) in
      subst (λ ps. Reads ps (take_rows here new pieces)) (append_assoc seen (piece ∷ []) pieces) later

  begins : Reads [] (item, nothing_salvaged)
  unfolding place_at
  begins = record { placed = refl; fits = tt; keeps = kept (record { declared = []; stands = nothing; lists_are = refl }) }

  abbrev DeclaredIn : List ℕ → Lists → Type 0
  DeclaredIn text lists = (declared : List Declaration) × Stands rows (pieces_left (start_of text)) declared × (lists ≡ lists_of declared)

-- of a text
first_declared : (rows : Bool) (text : List ℕ) → DeclaredIn rows text (first_read text).said.lists
first_declared rows text =
    let pieces = pieces_left (start_of text) in
    let reads = all_keep rows [] (item, nothing_salvaged) pieces (begins rows) in
    let said = finish_said rows (length text) pieces (take_all (item, nothing_salvaged) pieces) reads.placed reads.keeps.at in
    (said.declared, said.stands, said.lists_are)

read_declared : (held : List Row) (text : List ℕ) → DeclaredIn true text (read_in_rows held text).said.lists
read_declared held text =
    let pieces = pieces_left (start_of text) in
    let reads = rows_keep true refl held [] (item, nothing_salvaged) pieces (begins true) in
    let said = finish_said true (length text) pieces (take_rows held (item, nothing_salvaged) pieces) reads.placed reads.keeps.at in
    (said.declared, said.stands, said.lists_are)

pub salvaged_declared : (text : List ℕ) → AreDeclared text (salvaged text).said.lists
salvaged_declared text = let (declared, stands, lists) = by (is_read_in_rows text) refl in (is_read_in_rows text, in_rows_now text, declared, stands, lists)
  where
    by : (rows : Bool) → is_read_in_rows text ≡ rows → DeclaredIn (is_read_in_rows text) text (salvaged text).said.lists
    by true is = rw is (read_declared (rows_of text) text)
    by false is = rw is (first_declared false text)
