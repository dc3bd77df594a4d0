-- What a text says before its first fault is a front of what is read past its faults.
use Rattle.std.proofs.Common.{◌≡◌, ◌∙◌, ℕ, Bool, true, false, List, [], ◌∷◌, ◌++◌, length, ap, refl, sym, subst, inl, inr}
use Rattle.std.specs.Prelude.{◌⊎◌, Some, None, flat_map, map, nat_lt, option_map, take_while}
use Rattle.std.proofs.lemmas.Option.{same_Some}
use Rattle.cmap_tokens.specs.Pieces.{Piece, pieces_left}
use Rattle.cmap_tokens.specs.Tokens.{Token}
use Rattle.cmap_tokens.specs.TokensLeft.{Left, start_of, tokens_of}
use Rattle.cmap_tokens.proofs.PiecesTokens.{Cut, pieces_cut}
use Rattle.cmap_values.proofs.ListsMade.{added_more, append_lists-none}
use Rattle.cmap_values.specs.Files.{Declaration, Lists, lists_of}
use Rattle.cmap_values.specs.ListsAppended.{no_lists}
use Rattle.cmap_values.specs.declared.fault.Stop.{Stop}
use Rattle.cmap_text.specs.Rows.{rows_of}
use Rattle.cmap_text.specs.declared.salvage.rows.Row.{Row}
use Rattle.cmap_text.specs.TextFiles.{Item, Section, key, declared_by, IsItem, names_used}
use Rattle.cmap_text.specs.TextReading.{Said, adding, code_fault, code_or_closer, entry_after, is_executable, item_said, nothing_said, opened_by, with_key, with_other, closer, opener}
use Rattle.cmap_text.specs.TokenParsers.{after, head}
use Rattle.cmap_text.specs.FirstFaults.{AreFirstEntries, BeginWithItems, Fronts, KeepsFronts, OpenSection, tokens_before, tokens_kept}
use Rattle.cmap_text.specs.Salvage.{Salvaged, State, at_fault, begin_item, finished, first_read, having_lists, in_brackets, in_entry, in_line, in_list, is_read_in_rows, item, new_entry, nothing_salvaged, read_in_rows, salvaged, saying, take_all, take_rows, value}
use Rattle.cmap_text.proofs.FaultyRead.{in_rows_now}
use Rattle.cmap_text.proofs.EntriesRead.{entry_found}
use Rattle.cmap_text.proofs.ItemsRead.{no_item, one_found, opened_by-own}
use Rattle.cmap_text.proofs.ItemsSaid.{all_says, said_after, says, says_all}
use Rattle.cmap_text.proofs.ListsKept.{BeginsSo, Keeps, ends_so, kept_from_entry, kept_from_item, rows_keep}
use Rattle.cmap_text.proofs.RowsRead.{has_fault, rows_agree}
use Rattle.cmap_text.proofs.TokenParsers.{IsFound, is_found, words}
use Rattle.cmap_text.proofs.TokensRead.{code_is, some_bound, written}
use Rattle.cmap_text.proofs.WholeRead.{Begins, Sim, at_end, at_token, at_wrong, begins_so, entered, entry_ends, entry_of, item_ends, item_sim, settled, start_ends, start_sim}

module _ (len : ℕ) where
  keeps_settled : {front : Lists} {names : List (List ℕ)} {now : State × Salvaged} → Keeps front names now → Keeps front names (settled len now)
  keeps_settled {now = (value k, old)} keeps = record { found = record { lists_begin = keeps.found.lists_begin; uses_begin = keeps.found.uses_begin }; cuts = tt }
  keeps_settled {now = (item, old)} keeps = keeps
  keeps_settled {now = (in_entry entry, old)} keeps = keeps
  keeps_settled {now = (at_fault rest, old)} keeps = keeps
  keeps_settled {now = (in_brackets rest, old)} keeps = keeps
  keeps_settled {now = (in_line section, old)} keeps = keeps
  keeps_settled {now = (in_list list, old)} keeps = keeps

  settled_keeps : {front : Lists} {names : List (List ℕ)} {now : State × Salvaged} → Keeps front names (settled len now) → Keeps front names now
  settled_keeps {now = (value k, old)} keeps = record { found = record { lists_begin = keeps.found.lists_begin; uses_begin = keeps.found.uses_begin }; cuts = tt }
  settled_keeps {now = (item, old)} keeps = keeps
  settled_keeps {now = (in_entry entry, old)} keeps = keeps
  settled_keeps {now = (at_fault rest, old)} keeps = keeps
  settled_keeps {now = (in_brackets rest, old)} keeps = keeps
  settled_keeps {now = (in_line section, old)} keeps = keeps
  settled_keeps {now = (in_list list, old)} keeps = keeps

  -- ---- the entries of a section
  entries_kept : (each : List (List Declaration)) (section : Section) (old : Salvaged) → old.faults ≡ [] → (left : Left) (pieces : List Piece) → Cut len left pieces → AreFirstEntries section (words left) each
      → Keeps (adding old.said.lists (flat_map (λ ds. ds) each)) old.said.uses (settled len (take_all (in_entry (new_entry section), old) pieces))
  entries_kept [] section old none left pieces cut are =
      subst (λ l. Keeps l old.said.uses (settled len (take_all (in_entry (new_entry section), old) pieces))) (sym (append_lists-none old.said.lists)) (keeps_settled (kept_from_entry (new_entry section) old pieces))
  entries_kept (declared ∷ others) section old none left pieces cut (mid, entry, are) =
      let (t, bytes, later, shape, is_code, means) = entry_found section (words left) declared mid entry in
      let other = ap (is_executable (closer section)) is_code.1 in
      let code = written bytes in
      let begins : code_or_closer section t ≡ Some (Some code) = rw (other, code_is t bytes is_code) refl in
      let start = is_found (head code_fault (code_or_closer section)) (words left) (Some code) later (t, shape, begins) left refl in
      let (b, first_pieces, cut_first, first_same) = subst (λ f. Sim len f (in_entry (new_entry section), old) pieces (start_ends len section old)) start.is (start_sim len section false old none left pieces cut) in
      let lists = old.said.lists in
      let body = is_found (entry_after section code lists) later (adding lists declared) mid (means lists) start.next start.whole in
      let (c, rest_pieces, cut_rest, rest_same) = subst (λ f. Sim len f (in_entry (entry_of len section code b), old) first_pieces (entry_ends len section old)) body.is (entered len code b old none start.next first_pieces cut_first section) in
      let new = having_lists old (adding lists declared) in
      let later_kept = entries_kept others section new none body.next rest_pieces cut_rest (subst (λ ts. AreFirstEntries section ts others) (sym body.whole) are) in
      let same_lists : adding (adding lists declared) (flat_map (λ ds. ds) others) ≡ adding lists (declared ++ flat_map (λ ds. ds) others) = added_more lists (adding lists declared) (adding (adding lists declared) (flat_map (λ ds. ds) others)) declared (flat_map (λ ds. ds) others) refl refl in
      subst (Keeps (adding lists (declared ++ flat_map (λ ds. ds) others)) old.said.uses) (sym (first_same ∙ rest_same)) (
      subst (λ l. Keeps l old.said.uses (settled len (take_all (in_entry (new_entry section), new) rest_pieces))) same_lists later_kept
      )

  -- ---- items
  abbrev Kept : Salvaged → List Piece → List (List Declaration) → Said → Type 0
  Kept old pieces each said = Keeps (adding said.lists (flat_map (λ ds. ds) each)) said.uses (settled len (take_all (item, old) pieces))

  -- nothing more is declared
  kept_so : (old : Salvaged) (pieces : List Piece) (each : List (List Declaration)) (said : Said) → each ≡ [] → said.lists ≡ old.said.lists → said.uses ≡ old.said.uses → Kept old pieces each said
  kept_so old pieces each said nothing lists uses =
      let found = settled len (take_all (item, old) pieces) in
      let front : adding said.lists (flat_map (λ ds. ds) each) ≡ old.said.lists = ap (λ l. adding l (flat_map (λ ds. ds) each)) lists ∙ ap (λ e. adding old.said.lists (flat_map (λ ds. ds) e)) nothing ∙ append_lists-none old.said.lists in
      subst (λ l. Keeps l said.uses found) (sym front) (subst (λ us. Keeps old.said.lists us found) (sym uses) (keeps_settled (kept_from_item old pieces)))

  section_kept : (each : List (List Declaration)) (old : Salvaged) → old.faults ≡ [] → (left : Left) (pieces : List Piece) → Cut len left pieces → OpenSection (words left) each → Kept old pieces each old.said
  unfolding take_all
  section_kept each old none left pieces cut (section, body, shape, are) = at (begins_so len left pieces cut)
    where
      at : Begins len left pieces → Kept old pieces each old.said
      at (at_end empty end is stop) = let clash = rw empty at shape in absurd (cc)
      at (at_wrong w past b more empty end is same place) = let clash = rw empty at shape in absurd (cc)
      at (at_token p rest b more begins is later) =
          let whole : p.token ∷ words (after p rest left) ≡ Token.Name false (opener section) ∷ body = rw begins at shape in
          let token : p.token ≡ Token.Name false (opener section) = cc in
          let words_are : words (after p rest left) ≡ body = cc in
          let opens : opened_by p.token ≡ Some section = ap opened_by token ∙ opened_by-own section in
          let now = saying old (with_other old.said p.token) in
          let goes : begin_item old p.token p.end ≡ (in_entry (new_entry section), now) = rw (opens, begin_item) refl in
          rw is (
          subst (λ s. Keeps (adding old.said.lists (flat_map (λ ds. ds) each)) old.said.uses (settled len (take_all s more))) (sym goes) (
          entries_kept each section now none (after p rest left) more later (subst (λ ts. AreFirstEntries section ts each) (sym words_are) are)
          )
          )

  nothing_more : (items : List Item) (each : List (List Declaration)) → BeginWithItems [] items each → (items ≡ []) × (each ≡ [])
  nothing_more [] each (inl nothing) = (refl, nothing)
  nothing_more [] each (inr (section, body, shape, are)) = absurd (cc)
  nothing_more (first ∷ items) each (rest, is, are) = absurd (no_item first rest is)

  items_kept : (items : List Item) (each : List (List Declaration)) (old : Salvaged) → old.faults ≡ [] → (left : Left) (pieces : List Piece) (said : Said) → Cut len left pieces → BeginWithItems (words left) items each → says_all old.said items ≡ Some said → Kept old pieces each said
  unfolding take_all
  items_kept [] each old none left pieces said cut (inl nothing) sayings =
      let same : old.said ≡ said = same_Some old.said said sayings in
      kept_so old pieces each said nothing (sym (ap (λ s. s.lists) same)) (sym (ap (λ s. s.uses) same))
  items_kept [] each old none left pieces said cut (inr opens) sayings =
      subst (Kept old pieces each) (same_Some old.said said sayings) (section_kept each old none left pieces cut opens)
  items_kept (first ∷ items) each old none left pieces said cut (rest, is_item, are) sayings =
      let (mid, says_item, says_rest) = some_bound (λ s. says_all s items) (says old.said first) said sayings in
      at mid says_item says_rest (begins_so len left pieces cut) (λ l ps cut_later begin. items_kept items each (saying old mid) none l ps said cut_later begin says_rest)
    where
      at : (mid : Said) → says old.said first ≡ Some mid → says_all mid items ≡ Some said → Begins len left pieces → ((l : Left) (ps : List Piece) → Cut len l ps → BeginWithItems (words l) items each → Kept (saying old mid) ps each said) → Kept old pieces each said
      at mid says_item says_rest (at_end empty end is stop) later = absurd (no_item first rest (rw empty at is_item))
      at mid says_item says_rest (at_wrong w past b more empty end is same place) later = absurd (no_item first rest (rw empty at is_item))
      at mid says_item says_rest (at_token p others b more begins is cut_more) later = by (one_found first old.said p others left mid rest begun says_item)
        where
          begun : IsItem (p.token ∷ words (after p others left)) first rest
          begun = rw begins at is_item

          by : ((k : List ℕ) × (first ≡ key k None)) ⊎ IsFound (item_said old.said p.token (after p others left)) mid rest (after p others left) → Kept old pieces each said
          by (inl (k, key_is)) =
              let (contained, shape, end) = subst (λ i. IsItem (p.token ∷ words (after p others left)) i rest) key_is begun in
              let (no_items, no_entries) = nothing_more items each (subst (λ ts. BeginWithItems ts items each) end are) in
              let mid_is : with_key old.said k None ≡ mid = same_Some (with_key old.said k None) mid (subst (λ i. says old.said i ≡ Some mid) key_is says_item) in
              let said_is : mid ≡ said = same_Some mid said (subst (λ i. says_all mid i ≡ Some said) no_items says_rest) in
              let same = mid_is ∙ said_is in
              kept_so old pieces each said no_entries (sym (ap (λ s. s.lists) same)) (sym (ap (λ s. s.uses) same))
          by (inr found) =
              let (c, rest_pieces, cut_rest, same) = subst (λ f. Sim len f (begin_item old p.token p.end) more (item_ends len old)) found.is (item_sim len old none p others left more cut_more p.token) in
              rw is (subst (Keeps (adding said.lists (flat_map (λ ds. ds) each)) said.uses) (sym same) (later found.next rest_pieces cut_rest (subst (λ ts. BeginWithItems ts items each) (sym found.whole) are)))

-- of the tokens that the pieces begin with, which are those of a text
text_kept : (len : ℕ) (left : Left) (pieces : List Piece) (items : List Item) (each : List (List Declaration)) (names : List (List ℕ)) → Cut len left pieces → BeginWithItems (words left) items each → names_used None items ≡ Some names
    → Keeps (lists_of (flat_map declared_by items ++ flat_map (λ ds. ds) each)) names (take_all (item, nothing_salvaged) pieces)
unfolding said_after
text_kept len left pieces items each names cut begin used =
    let said = said_after nothing_said items names in
    let sayings : says_all nothing_said items ≡ Some said = all_says items nothing_said.values nothing_said.lists nothing_said.uses None ∙ ap (option_map (said_after nothing_said items)) used in
    let all = items_kept len items each nothing_salvaged refl left pieces said cut begin sayings in
    let declared = flat_map declared_by items in
    let entries = flat_map (λ ds. ds) each in
    let same : adding (adding no_lists declared) entries ≡ adding no_lists (declared ++ entries) = added_more no_lists (adding no_lists declared) (adding (adding no_lists declared) entries) declared entries refl refl in
    settled_keeps len (subst (λ l. Keeps l names (settled len (take_all (item, nothing_salvaged) pieces))) same all)

module _ (text : List ℕ) where
  abbrev pieces : List Piece
  pieces = pieces_left (start_of text)

  -- in the first reading
  fronts_first : Fronts (map (λ p. p.token) (tokens_of (start_of text)).tokens) (first_read text).said.lists (first_read text).said.uses
  fronts_first items each names begin used =
      let declared = lists_of (flat_map declared_by items ++ flat_map (λ ds. ds) each) in
      ends_so declared names (length text) (take_all (item, nothing_salvaged) pieces) (text_kept (length text) (tokens_of (start_of text)) pieces items each names (pieces_cut text) begin used)

  -- in the second one, up to its first fault
  fronts_rows : (rows : List Row) (fault : Stop) (more : List Stop) → (read_in_rows rows text).faults ≡ fault ∷ more
      → Fronts (map (λ p. p.token) (take_while (λ p. nat_lt p.end fault.offset) (tokens_of (start_of text)).tokens)) (read_in_rows rows text).said.lists (read_in_rows rows text).said.uses
  fronts_rows rows fault more is items each names begin used =
      let left = tokens_of (start_of text) in
      let agrees = rows_agree (length text) fault more left.tokens left.ends left.kind left.stop rows (item, nothing_salvaged) pieces tt refl (pieces_cut text) is in
      let front : Left = record { passed = 0; tokens = take_while (λ p. nat_lt p.end fault.offset) left.tokens; ends = true; kind = left.kind; stop = length text } in
      let declared = lists_of (flat_map declared_by items ++ flat_map (λ ds. ds) each) in
      let keeps = text_kept (length text) front agrees.before items each names agrees.cut begin used in
      let all = rows_keep declared names agrees.held (take_all (item, nothing_salvaged) agrees.before) agrees.rest keeps in
      subst (λ s. BeginsSo declared names (finished (length text) s)) (sym agrees.same) (ends_so declared names (length text) (take_rows agrees.held (take_all (item, nothing_salvaged) agrees.before) agrees.rest) all)

  pub fronts_kept : KeepsFronts text (salvaged text).faults (salvaged text).said.lists (salvaged text).said.uses
  fronts_kept = (is_read_in_rows text, in_rows_now text, by (is_read_in_rows text) refl)
    where
      in_rows : is_read_in_rows text ≡ true → (faults : List Stop) → (read_in_rows (rows_of text) text).faults ≡ faults
          → Fronts (map (λ p. p.token) (tokens_before faults (tokens_of (start_of text)).tokens)) (read_in_rows (rows_of text) text).said.lists (read_in_rows (rows_of text) text).said.uses
      in_rows rows [] none = absurd (has_fault text rows none)
      in_rows rows (fault ∷ more) is = fronts_rows (rows_of text) fault more is

      by : (rows : Bool) → is_read_in_rows text ≡ rows → Fronts (map (λ p. p.token) (tokens_kept (is_read_in_rows text) text (salvaged text).faults)) (salvaged text).said.lists (salvaged text).said.uses
      by true is = rw is (in_rows is (read_in_rows (rows_of text) text).faults refl)
      by false is = rw is fronts_first
