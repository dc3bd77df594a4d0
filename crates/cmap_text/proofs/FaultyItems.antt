-- Sections and items: the reading of pieces, one after another, says what the relation does.
use Rattle.std.proofs.Common.{◌≡◌, ◌∙◌, ℕ, Bool, true, false, List, [], ◌∷◌, ◌++◌, ap, refl, sym, subst, append_assoc, append-nil, inl, inr}
use Rattle.std.specs.Prelude.{flat_map, Contains, Option, Some, None, Result, Ok, Err}
use Rattle.std.proofs.lemmas.Bool.{cases_Bool}
use Rattle.cmap_tokens.specs.Pieces.{Wrong}
use Rattle.cmap_tokens.specs.Tokens.{Token}
use Rattle.cmap_values.specs.Files.{Declaration}
use Rattle.cmap_values.specs.declared.fault.Reason.TheVariants.{UseWithoutName}
use Rattle.cmap_values.specs.declared.fault.Stop.{Stop}
use Rattle.cmap_values.proofs.ListsMade.{added_more, append_lists-none}
use Rattle.cmap_text.specs.TextFiles.{IsOtherToken, Item, Opens, Section, declared_by, entries, key, keys, literal_head, other, use_of_base}
use Rattle.cmap_text.specs.TextReading.{Values, adding, is_executable, key_in, opened_by, use_word, with_other, with_value}
use Rattle.cmap_text.specs.FaultyTexts.{Cell, EntriesRead, Found, ItemsRead, ValueRead, found_after, section_cut_off, section_over, entry_read, no_value, value_read, value_lost, value_later, items_end, malformed_read, key_read, section_read, use_read, unnamed_use, token_read}
use Rattle.cmap_text.specs.Salvage.{Class, Salvaged, State, after_malformed, alone, begin_item, class_of, class_of_malformed, class_of_token, close_bracket, fault_of, having_value, in_entry, item, known, new_entry, none, open_bracket, own_fault, part, saying, take_use, take_value, value, with_fault}
use Rattle.cmap_text.proofs.TokensRead.{is_executable-found, no_answer}
use Rattle.cmap_text.proofs.ItemsRead.{key_in-found, key_in-own, opened_by-found, opened_by-own}
use Rattle.cmap_text.proofs.ItemsSaid.{values_after}
use Rattle.cmap_text.proofs.FaultyPassed.{goes, item_step, plain_step, run, run_at, run_end, step}
use Rattle.cmap_text.proofs.FaultyLists.{plus, plus_fault, plus_more}
use Rattle.cmap_text.proofs.FaultyEntries.{entry_said}

values_more : (a b : List Item) (values : Values) → values_after values (a ++ b) ≡ values_after (values_after values a) b
unfolding values_after
values_more [] b values = refl
values_more (key k v ∷ a) b values = values_more a b (with_value values k v)
values_more (entries declared ∷ a) b values = values_more a b values
values_more (use_of_base ∷ a) b values = values_more a b values
values_more (other t ∷ a) b values = values_more a b values

value_declares : {k : List ℕ} {cells : List Cell} {items : List Item} {faults : List Stop} {others : List Cell} → ValueRead k cells items faults others → (rest : List Item) → flat_map declared_by (items ++ rest) ≡ flat_map declared_by rest
value_declares no_value rest = refl
value_declares (value_read cell t token) rest = refl
value_declares (value_lost cell w token not) rest = refl
value_declares (value_later cell w token is more) rest = value_declares more rest

module _ (rows : Bool) (len : ℕ) where
  section_said : (section : Section) {cells : List Cell} {declared : List Declaration} {faults : List Stop} {rest : List Cell} → EntriesRead rows len section cells declared faults rest → (old : Salvaged) → run rows len (in_entry (new_entry section), old) cells ≡ run rows len (item, plus old declared faults) rest
  unfolding run_at
  section_said section section_cut_off old = run_end rows len (in_entry (new_entry section), old) ∙ plus_fault old _ ∙ sym (run_end rows len (item, plus old [] _))
  section_said section (section_over entry) old = entry_said rows len section entry none refl old
  section_said section (entry_read {rest} {declared} {more} {faults} {later} entry others) old =
      entry_said rows len section entry none refl old
      ∙ section_said section others (plus old declared faults)
      ∙ ap (λ o. run rows len (item, o) rest) (plus_more old declared more faults later)

  -- ---- the value of a key
  abbrev valued : Salvaged → List Item → List Stop → Salvaged
  valued old items faults = record { said = record { values = values_after old.said.values items; lists = old.said.lists; uses = old.said.uses; operand = old.said.operand }; faults = old.faults ++ faults }

  with_faults : Salvaged → List Stop → Salvaged
  with_faults old faults = record { said = old.said; faults = faults }

  value_step : (k : List ℕ) (old : Salvaged) (cell : Cell) (r : Result Token Wrong) → cell.piece.token ≡ r → step rows len (value k, old) cell ≡ (elim r as (λ x. State × Salvaged) [ Ok t ↦ (item, having_value old k (Some t)) | Err w ↦ (after_malformed k (class_of_malformed w.kind), with_fault old (own_fault w)) ])
  value_step k old cell r is = plain_step rows len (value k) old cell tt ∙ by r is
    where
      by : (r : Result Token Wrong) → cell.piece.token ≡ r → take_value old k cell.piece ≡ (elim r as (λ x. State × Salvaged) [ Ok t ↦ (item, having_value old k (Some t)) | Err w ↦ (after_malformed k (class_of_malformed w.kind), with_fault old (own_fault w)) ])
      by (Ok t) is = ap (λ r. elim r as (λ x. State × Salvaged) [ Ok t ↦ (item, having_value old k (Some t)) | Err w ↦ (after_malformed k (class_of cell.piece), with_fault old (own_fault w)) ]) is
      by (Err w) is =
          ap (λ r. elim r as (λ x. State × Salvaged) [ Ok t ↦ (item, having_value old k (Some t)) | Err w ↦ (after_malformed k (class_of cell.piece), with_fault old (own_fault w)) ]) is
          ∙ ap (λ r. let s : State × Salvaged = (after_malformed k (elim r as (λ x. Class) [ Ok t ↦ class_of_token t | Err w ↦ class_of_malformed w.kind ]), with_fault old (own_fault w)) in s) is

  lost_value : (k : List ℕ) (c : Class) → (c ≡ alone → ⊥) → after_malformed k c ≡ item
  lost_value k known not = refl
  lost_value k alone not = absurd (not refl)
  lost_value k open_bracket not = refl
  lost_value k close_bracket not = refl
  lost_value k part not = refl

  value_said : {k : List ℕ} {cells : List Cell} {items : List Item} {faults : List Stop} {others : List Cell} → ValueRead k cells items faults others → (old : Salvaged) → run rows len (value k, old) cells ≡ run rows len (item, valued old items faults) others
  unfolding values_after with_faults
  value_said {k} no_value old = run_end rows len (value k, old) ∙ ap (with_faults (having_value old k None)) (sym (append-nil old.faults)) ∙ sym (run_end rows len (item, valued old (key k None ∷ []) []))
  value_said {k} (value_read {cells} cell t token) old =
      goes rows len (value k, old) _ cell cells (value_step k old cell (Ok t) token)
      ∙ ap (λ f. run rows len (item, with_faults (having_value old k (Some t)) f) cells) (sym (append-nil old.faults))
  value_said {k} (value_lost {cells} cell w token not) old =
      goes rows len (value k, old) _ cell cells (value_step k old cell (Err w) token)
      ∙ ap (λ s. run rows len (s, with_fault old (own_fault w)) cells) (lost_value k (class_of_malformed w.kind) not)
  value_said {k} (value_later {cells} {others} {items} {faults} cell w token is more) old =
      goes rows len (value k, old) _ cell cells (value_step k old cell (Err w) token)
      ∙ ap (λ c. run rows len (after_malformed k c, with_fault old (own_fault w)) cells) is
      ∙ value_said more (with_fault old (own_fault w))
      ∙ ap (λ f. run rows len (item, with_faults (valued old items faults) f) others) (append_assoc old.faults (own_fault w ∷ []) faults)

  -- ---- all items
  pub record SaysSo (old final : Salvaged) (found : Found) : Type 0 where
    pub values_are : final.said.values ≡ values_after old.said.values found.items
    pub lists_are : final.said.lists ≡ adding old.said.lists (flat_map declared_by found.items)
    pub uses_are : final.said.uses ≡ old.said.uses ++ found.uses
    pub faults_are : final.faults ≡ old.faults ++ found.faults

  taken_item : (old : Salvaged) (cell : Cell) (r : Result Token Wrong) → cell.piece.token ≡ r → step rows len (item, old) cell ≡ (elim r as (λ x. State × Salvaged) [ Ok t ↦ begin_item old t cell.piece.end | Err w ↦ (item, with_fault old (own_fault w)) ])
  taken_item old cell r is = item_step rows len old cell ∙ ap (λ r. elim r as (λ x. State × Salvaged) [ Ok t ↦ begin_item old t cell.piece.end | Err w ↦ (item, with_fault old (own_fault w)) ]) is

  abbrev saying_token : Salvaged → Token → Salvaged
  saying_token old t = saying old (with_other old.said t)

  begun_key : (old : Salvaged) (k : List ℕ) (end : ℕ) → Contains keys k → begin_item old (Token.Name true k) end ≡ (value k, saying_token old (Token.Name true k))
  begun_key old k end contained = rw (key_in-own k contained, begin_item) refl

  begun_section : (old : Salvaged) (t : Token) (section : Section) (end : ℕ) → Opens t section → begin_item old t end ≡ (in_entry (new_entry section), saying_token old t)
  begun_section old t section end opens = rw (ap opened_by opens ∙ opened_by-own section, begin_item) refl

  begun_other : (old : Salvaged) (t : Token) (end : ℕ) → IsOtherToken t → begin_item old t end ≡ (item, saying_token old t)
  begun_other old t end (no_key, no_opener, no_use) =
      let key_none = no_answer (key_in t) (λ k is. let (contained, named) = key_in-found t k is in no_key k contained named) in
      let section_none = no_answer (opened_by t) (λ section is. no_opener section (opened_by-found t section is)) in
      let use_none : is_executable use_word t ≡ false = elim (cases_Bool (is_executable use_word t)) [ inl used ↦ absurd (no_use (is_executable-found use_word t used)) | inr differs ↦ differs ] in
      rw (section_none, use_none, key_none, begin_item) refl

  begun_use : (old : Salvaged) (end : ℕ) (operand : Option (List ℕ)) → old.said.operand ≡ operand → begin_item old (Token.Name false use_word) end ≡ take_use (saying_token old (Token.Name false use_word)) operand end
  begun_use old end operand is = ap (λ o. take_use (saying_token old (Token.Name false use_word)) o end) is

  says_from : (old mid : Salvaged) (cell : Cell) (cells : List Cell) (found : Found) → step rows len (item, old) cell ≡ (item, mid) → SaysSo old (run rows len (item, mid) cells) found → SaysSo old (run rows len (item, old) (cell ∷ cells)) found
  says_from old mid cell cells found is so = subst (λ s. SaysSo old s found) (sym (goes rows len (item, old) (item, mid) cell cells is)) so

  pub items_said : {before : Option (List ℕ)} {cells : List Cell} {found : Found} → ItemsRead rows len before cells found → (old : Salvaged) → old.said.operand ≡ before → SaysSo old (run rows len (item, old) cells) found
  unfolding values_after
  items_said items_end old operand =
      subst (λ s. SaysSo old s (record { items = []; uses = []; faults = [] })) (sym (run_end rows len (item, old))) (record {
        values_are = refl;
        lists_are = sym (append_lists-none old.said.lists);
        uses_are = sym (append-nil old.said.uses);
        faults_are = sym (append-nil old.faults);
      })
  items_said (malformed_read {cells} {found} cell w token more) old operand =
      let so = items_said more (with_fault old (own_fault w)) operand in
      says_from old (with_fault old (own_fault w)) cell cells (found_after [] [] (own_fault w ∷ []) found) (taken_item old cell (Err w) token) (record {
        values_are = so.values_are;
        lists_are = so.lists_are;
        uses_are = so.uses_are;
        faults_are = so.faults_are ∙ append_assoc old.faults (own_fault w ∷ []) found.faults;
      })
  items_said (key_read {cells} {others} {items} {faults} {found} cell k token contained is more) old operand =
      let named = saying_token old (Token.Name true k) in
      let so = items_said more (valued named items faults) refl in
      let path = goes rows len (item, old) (value k, named) cell cells (taken_item old cell (Ok (Token.Name true k)) token ∙ begun_key old k cell.piece.end contained) ∙ value_said is named in
      subst (λ s. SaysSo old s (found_after items [] faults found)) (sym path) (record {
        values_are = so.values_are ∙ sym (values_more items found.items old.said.values);
        lists_are = so.lists_are ∙ ap (adding old.said.lists) (sym (value_declares is found.items));
        uses_are = so.uses_are;
        faults_are = so.faults_are ∙ append_assoc old.faults faults found.faults;
      })
  items_said (section_read {cells} {others} {declared} {faults} {found} cell t section token opens is more) old operand =
      let named = saying_token old t in
      let so = items_said more (plus named declared faults) (ap (λ t. literal_head (other t)) opens) in
      let path = goes rows len (item, old) (in_entry (new_entry section), named) cell cells (taken_item old cell (Ok t) token ∙ begun_section old t section cell.piece.end opens) ∙ section_said section is named in
      subst (λ s. SaysSo old s (found_after (entries declared ∷ []) [] faults found)) (sym path) (record {
        values_are = so.values_are;
        lists_are = added_more old.said.lists (adding old.said.lists declared) _ declared (flat_map declared_by found.items) refl so.lists_are;
        uses_are = so.uses_are;
        faults_are = so.faults_are ∙ append_assoc old.faults faults found.faults;
      })
  items_said (use_read {cells} {found} cell name token more) old operand =
      let mid = saying_token old (Token.Name false use_word) in
      let used : Salvaged = record { said = record { values = mid.said.values; lists = mid.said.lists; uses = mid.said.uses ++ name ∷ []; operand = None }; faults = mid.faults } in
      let so = items_said more used refl in
      says_from old used cell cells (found_after (use_of_base ∷ []) (name ∷ []) [] found) (taken_item old cell (Ok (Token.Name false use_word)) token ∙ begun_use old cell.piece.end (Some name) operand) (record {
        values_are = so.values_are;
        lists_are = so.lists_are;
        uses_are = so.uses_are ∙ append_assoc old.said.uses (name ∷ []) found.uses;
        faults_are = so.faults_are;
      })
  items_said (unnamed_use {cells} {found} cell token more) old operand =
      let mid = saying_token old (Token.Name false use_word) in
      let fault : Stop = record { offset = cell.piece.end; reason = UseWithoutName } in
      let same : fault_of UseWithoutName cell.piece ≡ fault = ap (λ r. elim r as (λ x. Stop) [ Ok t ↦ record { offset = cell.piece.end; reason = UseWithoutName } | Err w ↦ own_fault w ]) token in
      let so = items_said more (with_fault mid fault) refl in
      says_from old (with_fault mid fault) cell cells (found_after [] [] (fault_of UseWithoutName cell.piece ∷ []) found) (taken_item old cell (Ok (Token.Name false use_word)) token ∙ begun_use old cell.piece.end None operand) (record {
        values_are = so.values_are;
        lists_are = so.lists_are;
        uses_are = so.uses_are;
        faults_are = so.faults_are ∙ append_assoc old.faults (fault ∷ []) found.faults ∙ ap (λ f. old.faults ++ f ∷ found.faults) (sym same);
      })
  items_said (token_read {cells} {found} cell t token plain more) old operand =
      let so = items_said more (saying_token old t) refl in
      says_from old (saying_token old t) cell cells (found_after (other t ∷ []) [] [] found) (taken_item old cell (Ok t) token ∙ begun_other old t cell.piece.end plain) (record {
        values_are = so.values_are;
        lists_are = so.lists_are;
        uses_are = so.uses_are;
        faults_are = so.faults_are;
      })
