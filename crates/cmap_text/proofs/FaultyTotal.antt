-- Whatever stands in a text, the relation reads it.
use Rattle.std.proofs.Common.{◌≡◌, ◌∙◌, ℕ, ◌+◌, ◌-◌, ◌<◌, ◌≤◌, Bool, true, false, List, [], ◌∷◌, ◌++◌, ap, refl, sym, subst, length, inl, inr}
use Rattle.std.specs.Prelude.{◌&&◌, ◌⊎◌, nat_le, nat_lt, Option, Some, None, Result, Ok, Err}
use Rattle.std.proofs.lemmas.Bool.{and_parts, cases_Bool, false≢true, leb-false, leb-true, lt-ltb, ltb-true}
use Rattle.cmap_tokens.specs.Pieces.{Wrong}
use Rattle.cmap_tokens.specs.Tokens.{Token}
use Rattle.cmap_values.specs.BigEndian.{big_endian}
use Rattle.cmap_values.specs.Files.{Declaration}
use Rattle.cmap_values.specs.ListsAppended.{no_lists}
use Rattle.cmap_values.specs.declared.fault.Stop.{Stop}
use Rattle.cmap_text.specs.TextFiles.{Item, Section, bf_range, literal_head, other}
use Rattle.cmap_text.specs.FaultyTexts as faulty
use Rattle.cmap_text.specs.FaultyTexts.{AfterFaulty, AfterList, BeginEntry, Cell, EntriesRead, EntryRead, Found, IsCloser, IsMended, ItemsRead, ListRead, Next, PassesEntry, PassesLine, PassesList, TakesNoPlace, ValueRead, starts_row, is_next_row, line_begun, next_entry, next_item, stays_on_line, list_ends, list_closes, list_left, list_goes_on, line_ends, line_follows, line_left, line_list, line_list_left, line_goes_on, entry_ends, row_follows, entry_left, entry_lone, entry_list, entry_bracket, entry_last, entry_part, texts_end, text_read, empty_read, other_read, nothing_read, nominal, too_short, texts_left, list_closed, between_texts, list_word, row_read, too_long, cut_off, short, closer_read, passed_piece, part_read, whole_entry, mended_entry, list_read, faulty_entry, section_cut_off, section_over, entry_read, no_value, value_read, value_lost, value_later, items_end, malformed_read, key_read, section_read, use_read, unnamed_use, token_read}
use Rattle.cmap_text.specs.Salvage.{Class, Mended, Parts, alone, class_of, class_of_malformed, close_bracket, empty_text_in, is_closer, is_stray, known, mend, no_parts, none, open_bracket, part, places_of, text_in}
use Rattle.cmap_text.proofs.ItemsRead.{Kind, alone as plain_token, kind_of, opens, takes, uses}
use Rattle.cmap_text.proofs.FaultyLists.{empty_from, empty_in, text_found, text_there}
use Rattle.cmap_text.proofs.FaultyPlaces.{AreCodes, Place, code_there, entry_with, last_there, list_there, none_there, place_seen}
use Rattle.cmap_text.proofs.FaultyEntries.{closer_from, closer_there, mended_found, mended_so}

module _ (rows : Bool) (len : ℕ) where
  -- ---- what is read from a place on
  abbrev Items : List Cell → Type 0
  Items cells = (before : Option (List ℕ)) → (found : Found) × ItemsRead rows len before cells found

  abbrev AValue : List Cell → Type 0
  AValue cells = (k : List ℕ) → (items : List Item) × (faults : List Stop) × (others : List Cell) × ValueRead k cells items faults others × Items others

  abbrev Entries : Section → List Cell → Type 0
  Entries section cells = (declared : List Declaration) × (faults : List Stop) × (others : List Cell) × EntriesRead rows len section cells declared faults others × Items others

  abbrev Goes : Section → Next → Type 0
  Goes section (next_entry cells) = Entries section cells
  Goes section (next_item cells) = Items cells

  abbrev ALine : Section → List Cell → Type 0
  ALine section cells = (next : Next) × PassesLine cells next × Goes section next

  abbrev Follows : Next → Type 0
  Follows (next_entry cells) = (section : Section) → Entries section cells × ALine section cells
  Follows (next_item cells) = Items cells

  abbrev AList : List Cell → Type 0
  AList cells = (mid : Next) × PassesList cells mid × Follows mid

  abbrev AFaulty : Section → Bool → ℕ → Bool → List Cell → Type 0
  AFaulty section line places may_begin cells = (next : Next) × PassesEntry rows line places may_begin cells next × Goes section next

  abbrev Texts : ℕ → ℕ → Bool → ℕ → Bool → List Cell → Type 0
  Texts first last line code on_line cells = (declared : List Declaration) × (faults : List Stop) × (kept : Bool) × (next : Next) × ListRead first last line code on_line cells declared faults kept next × Goes bf_range next

  abbrev AnEntry : Section → Bool → List Token → List Cell → Type 0
  AnEntry section line tokens cells = (declared : List Declaration) × (faults : List Stop) × (next : Next) × EntryRead rows section line tokens cells declared faults next × Goes section next

  record All (cells : List Cell) : Type 0 where
    pub items : Items cells
    pub a_value : AValue cells
    pub entries : (section : Section) → Entries section cells
    pub a_list : AList cells
    pub a_line : (section : Section) → ALine section cells
    pub a_faulty : (section : Section) (line : Bool) (places : ℕ) → AFaulty section line places true cells
    pub texts : (first last : ℕ) (line : Bool) (code : ℕ) (on_line : Bool) → Texts first last line code on_line cells
    pub an_entry : (section : Section) (line : Bool) (parts : Parts) (tokens : List Token) → AreCodes section parts tokens → AnEntry section line tokens cells

  -- ---- the end of the text
  no_items : Items []
  no_items before = (_, items_end)

  no_entries : (section : Section) → Entries section []
  no_entries section = (_, _, _, section_cut_off, no_items)

  at_end : All []
  at_end = record {
    items = no_items;
    a_value = λ k. (_, _, _, no_value, no_items);
    entries = no_entries;
    a_list = (_, list_ends, λ section. (no_entries section, (_, line_ends, no_entries section)));
    a_line = λ section. (_, line_ends, no_entries section);
    a_faulty = λ section line places. (_, entry_ends, no_entries section);
    texts = λ first last line code on_line. (_, _, _, _, texts_end, no_entries bf_range);
    an_entry = λ section line parts tokens codes_are. (_, _, _, cut_off, no_entries section);
  }

  -- ---- a piece before others
  module _ (cell : Cell) (cells : List Cell) (later : All cells) where
    -- after an entry at fault
    after_faulty : (section : Section) (line : Bool) → (next : Next) × AfterFaulty line cells next × Goes section next
    after_faulty section true = later.a_line section
    after_faulty section false = (next_entry cells, refl, later.entries section)

    after_list : (section : Section) (line : Bool) (mid : Next) → Follows mid → (next : Next) × AfterList line mid next × Goes section next
    after_list section true (next_entry others) follows = (follows section).1
    after_list section false (next_entry others) follows = (next_entry others, refl, (follows section).0)
    after_list section true (next_item others) follows = (next_item others, refl, follows)
    after_list section false (next_item others) follows = (next_item others, refl, follows)

    -- items
    an_item : Items (cell ∷ cells)
    an_item before = by cell.piece.token refl before
      where
        begun : (t : Token) → Kind t → cell.piece.token ≡ Ok t → (before : Option (List ℕ)) → (found : Found) × ItemsRead rows len before (cell ∷ cells) found
        begun _ (opens section) token before =
            let (declared, faults, others, is, items) = later.entries section in
            let (found, more) = items None in
            (_, section_read cell _ section token refl is more)
        begun _ uses token (Some name) = let (found, more) = later.items None in (_, use_read cell name token more)
        begun _ uses token None = let (found, more) = later.items None in (_, unnamed_use cell token more)
        begun _ (takes k contained) token before =
            let (items, faults, others, is, rest) = later.a_value k in
            let (found, more) = rest (Some k) in
            (_, key_read cell k token contained is more)
        begun t (plain_token _ plain) token before = let (found, more) = later.items (literal_head (other t)) in (_, token_read cell t token plain more)

        by : (r : Result Token Wrong) → cell.piece.token ≡ r → (before : Option (List ℕ)) → (found : Found) × ItemsRead rows len before (cell ∷ cells) found
        by (Ok t) token before = begun t (kind_of t) token before
        by (Err w) token before = let (found, more) = later.items before in (_, malformed_read cell w token more)

    the_value : AValue (cell ∷ cells)
    the_value k = by cell.piece.token refl
      where
        malformed : (w : Wrong) (c : Class) → cell.piece.token ≡ Err w → class_of_malformed w.kind ≡ c → (items : List Item) × (faults : List Stop) × (others : List Cell) × ValueRead k (cell ∷ cells) items faults others × Items others
        malformed w alone token is = let (items, faults, others, more, rest) = later.a_value k in (_, _, _, value_later cell w token is more, rest)
        malformed w known token is = (_, _, _, value_lost cell w token (λ same. let wrong = sym is ∙ same in cc), later.items)
        malformed w open_bracket token is = (_, _, _, value_lost cell w token (λ same. let wrong = sym is ∙ same in cc), later.items)
        malformed w close_bracket token is = (_, _, _, value_lost cell w token (λ same. let wrong = sym is ∙ same in cc), later.items)
        malformed w part token is = (_, _, _, value_lost cell w token (λ same. let wrong = sym is ∙ same in cc), later.items)

        by : (r : Result Token Wrong) → cell.piece.token ≡ r → (items : List Item) × (faults : List Stop) × (others : List Cell) × ValueRead k (cell ∷ cells) items faults others × Items others
        by (Ok t) token = (_, _, _, value_read cell t token, later.items)
        by (Err w) token = malformed w (class_of_malformed w.kind) token refl

    -- an entry at fault
    faulty_from : (section : Section) (line : Bool) (places : ℕ) (may_begin : Bool) → ((may_begin && starts_row rows cell) ≡ false) → AFaulty section line places may_begin (cell ∷ cells)
    faulty_from section line places may_begin within = by (class_of cell.piece) refl
      where
        by : (c : Class) → class_of cell.piece ≡ c → AFaulty section line places may_begin (cell ∷ cells)
        by known is = (_, entry_left cell within is, an_item)
        by alone is = let (next, more, goes) = later.a_faulty section line places in (_, entry_lone cell within is more, goes)
        by open_bracket is =
            let (mid, list, follows) = later.a_list in
            let (next, after, goes) = after_list section line mid follows in
            (_, entry_list cell within is list after, goes)
        by close_bracket is = let (next, after, goes) = after_faulty section line in (_, entry_bracket cell within is after, goes)
        by part is =
            elim (cases_Bool (nat_le places 1)) [
              | inl few ↦ let (next, after, goes) = after_faulty section line in (_, entry_last cell within is (leb-true places 1 few) after, goes)
              | inr many ↦ let (next, more, goes) = later.a_faulty section line (places - 1) in (_, entry_part cell within is (leb-false places 1 many) more, goes)
            ]

    -- ---- lists
    after_too_long : (line : Bool) → (mid next : Next) × PassesList cells mid × AfterList line mid next × Goes bf_range next
    after_too_long line =
        let (mid, list, follows) = later.a_list in
        let (next, after, goes) = after_list bf_range line mid follows in
        (mid, next, list, after, goes)

    module _ (first last : ℕ) (line : Bool) (code : ℕ) (on_line : Bool) where
      abbrev TheTexts : Type 0
      TheTexts = Texts first last line code on_line (cell ∷ cells)

      rest_of_texts : (code : ℕ) → Texts first last line code (stays_on_line on_line cell) cells
      rest_of_texts code = later.texts first last line code (stays_on_line on_line cell)

      closed_short : code ≤ last → class_of cell.piece ≡ close_bracket → TheTexts
      closed_short left is =
          let (next, after, goes) = after_faulty bf_range line in
          elim (cases_Bool (nat_lt (code - first) (last + 1 - code))) [
            | inl few ↦ (_, _, _, _, nominal cell left is (ltb-true (code - first) (last + 1 - code) few) after, goes)
            | inr many ↦ (_, _, _, _, too_short cell left is (λ few. false≢true (sym many ∙ lt-ltb (code - first) (last + 1 - code) few)) after, goes)
          ]

      -- a place is left
      left_from : code ≤ last → TheTexts
      left_from left = by_text (text_in cell.piece) refl
        where
          other : text_in cell.piece ≡ None → empty_text_in cell.piece ≡ None → (c : Class) → class_of cell.piece ≡ c → TheTexts
          other no_text no_empty known is = (_, _, _, _, texts_left cell left is, an_item)
          other no_text no_empty alone is = let (declared, faults, kept, next, more, goes) = rest_of_texts code in (_, _, _, _, nothing_read cell left (inl is) more, goes)
          other no_text no_empty open_bracket is = let (declared, faults, kept, next, more, goes) = rest_of_texts code in (_, _, _, _, nothing_read cell left (inr is) more, goes)
          other no_text no_empty close_bracket is = closed_short left is
          other no_text no_empty part is =
              let (declared, faults, kept, next, more, goes) = rest_of_texts (code + 1) in
              (_, _, _, _, other_read cell left is (λ units text. let wrong = sym no_text ∙ text_there cell.piece units text in cc) (λ empty. let wrong = sym no_empty ∙ empty_in cell.piece empty in cc) more, goes)

          by_empty : text_in cell.piece ≡ None → (o : Option (List ℕ)) → empty_text_in cell.piece ≡ o → TheTexts
          by_empty no_text None is = other no_text is (class_of cell.piece) refl
          by_empty no_text (Some units) is = let (declared, faults, kept, next, more, goes) = rest_of_texts (code + 1) in (_, _, _, _, empty_read cell left (empty_from cell.piece units is).0 more, goes)

          by_text : (o : Option (List ℕ)) → text_in cell.piece ≡ o → TheTexts
          by_text (Some units) is = let (declared, faults, kept, next, more, goes) = rest_of_texts (code + 1) in (_, _, _, _, text_read cell units left (text_found cell.piece units is) more, goes)
          by_text None is = by_empty is (empty_text_in cell.piece) refl

      -- all places are filled
      full_from : (is_next_row on_line cell ≡ true → Entries bf_range (cell ∷ cells)) → last < code → TheTexts
      full_from row full = by (class_of cell.piece) refl
        where
          long : class_of cell.piece ≡ part → is_next_row on_line cell ≡ false → TheTexts
          long is shows = let (mid, next, list, after, goes) = after_too_long line in (_, _, _, _, too_long cell full is shows list after, goes)

          by : (c : Class) → class_of cell.piece ≡ c → TheTexts
          by known is = (_, _, _, _, list_word cell full is, an_item)
          by alone is = let (declared, faults, kept, next, more, goes) = rest_of_texts code in (_, _, _, _, between_texts cell full (inl is) more, goes)
          by open_bracket is = let (declared, faults, kept, next, more, goes) = rest_of_texts code in (_, _, _, _, between_texts cell full (inr is) more, goes)
          by close_bracket is = (_, _, _, _, list_closed cell full is, later.entries bf_range)
          by part is = elim (cases_Bool (is_next_row on_line cell)) [ inl shows ↦ (_, _, _, _, row_read cell full is shows, row shows) | inr shows ↦ long is shows ]

      texts_from : (is_next_row on_line cell ≡ true → Entries bf_range (cell ∷ cells)) → TheTexts
      texts_from row = elim (cases_Bool (nat_le code last)) [ inl left ↦ left_from (leb-true code last left) | inr full ↦ full_from row (leb-false code last full) ]

    -- ---- an entry
    module _ (section : Section) (line : Bool) (parts : Parts) (tokens : List Token) (codes_are : AreCodes section parts tokens) where
      abbrev line_now : Bool
      line_now = line_begun line tokens cell

      abbrev TheEntry : Type 0
      TheEntry = AnEntry section line tokens (cell ∷ cells)

      abbrev IsLong : Type 0
      IsLong = faulty.is_short rows section tokens cell ≡ false

      abbrev NoEntry : Type 0
      NoEntry = (t : Token) → cell.piece.token ≡ Ok t → BeginEntry section (tokens ++ t ∷ []) → ⊥

      entry_at_fault : IsLong → (IsCloser section tokens cell.piece → ⊥) → (TakesNoPlace rows cell.piece → ⊥) → NoEntry → TheEntry
      entry_at_fault is_long no_close no_place_taken no_entry = by (mend no_lists (entry_with section line_now parts) cell.piece) refl
        where
          by : (m : Mended) → mend no_lists (entry_with section line_now parts) cell.piece ≡ m → TheEntry
          by (Some p) is =
              let (declared, mended) = mended_found no_lists line_now cell.piece section parts tokens p codes_are is in
              (_, _, _, mended_entry cell (is_long, mended), later.entries section)
          by None is =
              let none_mended : (declared : List Declaration) → IsMended section tokens cell.piece declared → ⊥ = λ declared mended. let wrong = sym is ∙ (mended_so no_lists line_now cell.piece section parts tokens declared codes_are mended).mends_it in cc in
              let (next, passes, goes) = faulty_from section line_now (places_of section - length tokens) false refl in
              (_, _, _, faulty_entry cell (is_long, (no_close, no_place_taken, no_entry, none_mended)) passes, goes)

      entry_token : IsLong → (IsCloser section tokens cell.piece → ⊥) → (TakesNoPlace rows cell.piece → ⊥) → (t : Token) → cell.piece.token ≡ Ok t → Place section line_now parts tokens no_lists t → TheEntry
      entry_token is_long no_close no_place_taken t token (code_there more are fills begins few solid) =
          let (declared, faults, next, rest, goes) = later.an_entry section line_now more (tokens ++ t ∷ []) are in
          (_, _, _, part_read cell t (is_long, (token, begins, few)) rest, goes)
      entry_token is_long no_close no_place_taken t token (last_there declared entry all solid) = (_, _, _, whole_entry cell (is_long, (t, token, entry)), later.entries section)
      entry_token is_long no_close no_place_taken t token (list_there a b start end same shape a_code b_code both is) =
          let (declared, faults, kept, next, more, goes) = later.texts (big_endian start) (big_endian end) line (big_endian start) line in
          (_, _, _, list_read cell (is_long, (a, b, start, end, same, shape, a_code, b_code, refl, refl, token ∙ ap Ok is)) more, subst (λ s. Goes s next) (sym same) goes)
      entry_token is_long no_close no_place_taken t token (none_there fills not) = entry_at_fault is_long no_close no_place_taken (λ u also begins. not (subst (λ v. BeginEntry section (tokens ++ v ∷ [])) (same_ok also token) begins))
        where
          same_ok : {u v : Token} → cell.piece.token ≡ Ok u → cell.piece.token ≡ Ok v → u ≡ v
          same_ok left right = let same = sym left ∙ right in cc

      entry_part_read : IsLong → (IsCloser section tokens cell.piece → ⊥) → (TakesNoPlace rows cell.piece → ⊥) → TheEntry
      entry_part_read is_long no_close no_place_taken = by cell.piece.token refl
        where
          by : (r : Result Token Wrong) → cell.piece.token ≡ r → TheEntry
          by (Ok t) token = entry_token is_long no_close no_place_taken t token (place_seen section line_now parts tokens no_lists t codes_are)
          by (Err w) token = entry_at_fault is_long no_close no_place_taken (λ t also begins. let wrong = sym token ∙ also in absurd (cc))

      entry_passed_on : IsLong → TakesNoPlace rows cell.piece → TheEntry
      entry_passed_on is_long no_part =
          let (declared, faults, next, rest, goes) = later.an_entry section line_now parts tokens codes_are in
          (_, _, _, passed_piece cell (is_long, no_part) rest, goes)

      takes_or_not : TakesNoPlace rows cell.piece ⊎ (TakesNoPlace rows cell.piece → ⊥)
      takes_or_not = by (class_of cell.piece) refl
        where
          stray : (class_of cell.piece ≡ alone → ⊥) → TakesNoPlace rows cell.piece ⊎ (TakesNoPlace rows cell.piece → ⊥)
          stray not_alone =
              elim (cases_Bool (rows && is_stray cell.piece)) [
                | inl is ↦ inl (inr (and_parts rows (is_stray cell.piece) is))
                | inr is ↦ inr (neither is)
              ]
            where
              neither : (rows && is_stray cell.piece) ≡ false → TakesNoPlace rows cell.piece → ⊥
              neither is (inl lone) = not_alone lone
              neither is (inr (in_rows, stray)) = false≢true (sym is ∙ ap (λ r. r && is_stray cell.piece) in_rows ∙ stray)

          by : (c : Class) → class_of cell.piece ≡ c → TakesNoPlace rows cell.piece ⊎ (TakesNoPlace rows cell.piece → ⊥)
          by alone is = inl (inl is)
          by known is = stray (λ lone. let wrong = sym is ∙ lone in cc)
          by open_bracket is = stray (λ lone. let wrong = sym is ∙ lone in cc)
          by close_bracket is = stray (λ lone. let wrong = sym is ∙ lone in cc)
          by part is = stray (λ lone. let wrong = sym is ∙ lone in cc)

      long_entry : IsLong → TheEntry
      long_entry is_long =
          elim (cases_Bool (no_parts parts && is_closer section cell.piece)) [
            | inl closes ↦ (_, _, _, closer_read cell (is_long, closer_from section parts tokens cell.piece codes_are closes), later.items)
            | inr not ↦ elim takes_or_not [
              | inl no_part ↦ entry_passed_on is_long no_part
              | inr no_place_taken ↦ entry_part_read is_long (λ closes. false≢true (sym not ∙ closer_there section parts tokens cell.piece codes_are closes)) no_place_taken
            ]
          ]

      entry_from : (faulty.is_short rows section tokens cell ≡ true → Entries section (cell ∷ cells)) → TheEntry
      entry_from again = elim (cases_Bool (faulty.is_short rows section tokens cell)) [ inl is ↦ (_, _, _, short cell is, again is) | inr is_long ↦ long_entry is_long ]

    -- ---- entries
    first_is_long : (section : Section) → faulty.is_short rows section [] cell ≡ false
    first_is_long section = by (starts_row rows cell)
      where
        by : (b : Bool) → (b && false) ≡ false
        by true = refl
        by false = refl

    the_entries : (section : Section) → Entries section (cell ∷ cells)
    the_entries section = by (long_entry section false none [] refl (first_is_long section))
      where
        by : AnEntry section false [] (cell ∷ cells) → Entries section (cell ∷ cells)
        by (declared, faults, next_entry others, entry, (more, also, rest, is, items)) = (_, _, _, entry_read entry is, items)
        by (declared, faults, next_item others, entry, items) = (_, _, _, section_over entry, items)

    -- ---- a line and a list that are passed over
    the_line : (section : Section) → ALine section (cell ∷ cells)
    the_line section = elim (cases_Bool cell.piece.begins_line) [ inl begins ↦ (_, line_follows cell begins, the_entries section) | inr within ↦ on_it within (class_of cell.piece) refl ]
      where
        list_on : cell.piece.begins_line ≡ false → class_of cell.piece ≡ open_bracket → AList cells → ALine section (cell ∷ cells)
        list_on within is (next_entry others, list, follows) = let (next, more, goes) = (follows section).1 in (_, line_list cell within is list more, goes)
        list_on within is (next_item others, list, follows) = (_, line_list_left cell within is list, follows)

        passed_on : cell.piece.begins_line ≡ false → (class_of cell.piece ≡ open_bracket → ⊥) → (class_of cell.piece ≡ known → ⊥) → ALine section (cell ∷ cells)
        passed_on within not_open not_known = let (next, more, goes) = later.a_line section in (_, line_goes_on cell within not_open not_known more, goes)

        on_it : cell.piece.begins_line ≡ false → (c : Class) → class_of cell.piece ≡ c → ALine section (cell ∷ cells)
        on_it within known is = (_, line_left cell within is, an_item)
        on_it within open_bracket is = list_on within is later.a_list
        on_it within alone is = passed_on within (λ same. let wrong = sym is ∙ same in cc) (λ same. let wrong = sym is ∙ same in cc)
        on_it within close_bracket is = passed_on within (λ same. let wrong = sym is ∙ same in cc) (λ same. let wrong = sym is ∙ same in cc)
        on_it within part is = passed_on within (λ same. let wrong = sym is ∙ same in cc) (λ same. let wrong = sym is ∙ same in cc)

    the_list : AList (cell ∷ cells)
    the_list = by (class_of cell.piece) refl
      where
        on : (class_of cell.piece ≡ close_bracket → ⊥) → (class_of cell.piece ≡ known → ⊥) → AList (cell ∷ cells)
        on not_closed not_known = let (mid, list, follows) = later.a_list in (mid, list_goes_on cell not_closed not_known list, follows)

        by : (c : Class) → class_of cell.piece ≡ c → AList (cell ∷ cells)
        by known is = (_, list_left cell is, an_item)
        by close_bracket is = (_, list_closes cell is, λ section. (later.entries section, later.a_line section))
        by alone is = on (λ same. let wrong = sym is ∙ same in cc) (λ same. let wrong = sym is ∙ same in cc)
        by open_bracket is = on (λ same. let wrong = sym is ∙ same in cc) (λ same. let wrong = sym is ∙ same in cc)
        by part is = on (λ same. let wrong = sym is ∙ same in cc) (λ same. let wrong = sym is ∙ same in cc)

    the_faulty : (section : Section) (line : Bool) (places : ℕ) → AFaulty section line places true (cell ∷ cells)
    the_faulty section line places = elim (cases_Bool (starts_row rows cell)) [ inl begins ↦ (_, row_follows cell begins, the_entries section) | inr within ↦ faulty_from section line places true within ]

    with_piece : All (cell ∷ cells)
    with_piece = record {
      items = an_item;
      a_value = the_value;
      entries = the_entries;
      a_list = the_list;
      a_line = the_line;
      a_faulty = the_faulty;
      texts = λ first last line code on_line. texts_from first last line code on_line (λ shows. the_entries bf_range);
      an_entry = λ section line parts tokens codes_are. entry_from section line parts tokens codes_are (λ is. the_entries section);
    }

  all_read : (cells : List Cell) → All cells
  all_read [] = at_end
  all_read (cell ∷ cells) = with_piece cell cells (all_read cells)

  pub items_read : (before : Option (List ℕ)) (cells : List Cell) → (found : Found) × ItemsRead rows len before cells found
  items_read before cells = (all_read cells).items before
