-- What items say, one after another, is what the file of all of them says.
use Rattle.std.proofs.Common.{◌≡◌, ℕ, refl, sym, ap, ◌∙◌, List, [], ◌∷◌, ◌++◌, inl, inr, append_assoc, append-nil}
use Rattle.std.specs.Prelude.{flat_map, filter_map, bytes_eq, codes, Option, Some, None, option_map, option_and_then, if◌then◌else◌}
use Rattle.std.specs.List.{last_or}
use Rattle.std.proofs.lemmas.Bool.{cases_Bool}
use Rattle.cmap_tokens.specs.Tokens.{Token}
use Rattle.cmap_values.specs.Files.{Lists, lists_of}
use Rattle.cmap_values.specs.ListsAppended.{append_lists}
use Rattle.cmap_text.specs.TextFiles.{Item, key, entries, use_of_base, other, declared_by, literal_head, names_used, value_under}
use Rattle.cmap_text.specs.TextReading.{Said, no_values, with_key, with_lists, with_other, with_use, with_value, Values, last_values}
use Rattle.cmap_values.proofs.ListsMade.{append_lists-none, added_more}

-- what is said with one item more; a use needs an operand
abbrev pub says : Said → Item → Option Said
says old (key k value) = Some (with_key old k value)
says old (entries declared) = Some (with_lists old (append_lists old.lists (lists_of declared)))
says old use_of_base = option_map (with_use old) old.operand
says old (other t) = Some (with_other old t)

abbrev pub says_all : Said → List Item → Option Said
says_all old [] = Some old
says_all old (item ∷ items) = option_and_then (λ mid. says_all mid items) (says old item)

-- the values and the operand after some items
unfoldable pub values_after : Values → List Item → Values
values_after values [] = values
values_after values (key k value ∷ items) = values_after (with_value values k value) items
values_after values (_ ∷ items) = values_after values items

pub operand_after : Option (List ℕ) → List Item → Option (List ℕ)
operand_after operand [] = operand
operand_after operand (item ∷ items) = operand_after (literal_head item) items

-- what is said after some items, which use these names
unfoldable pub said_after : Said → List Item → List (List ℕ) → Said
said_after old items names = record {
  values = values_after old.values items;
  lists = append_lists old.lists (lists_of (flat_map declared_by items));
  uses = old.uses ++ names;
  operand = operand_after old.operand items;
}

pub all_says : (items : List Item) (values : Values) (lists : Lists) (uses : List (List ℕ)) (operand : Option (List ℕ)) → let old : Said = record { values = values; lists = lists; uses = uses; operand = operand } in says_all old items ≡ option_map (said_after old items) (names_used operand items)
unfolding said_after values_after operand_after
all_says [] values lists uses operand = rw (append_lists-none lists, append-nil uses) refl
all_says (key k value ∷ items) values lists uses operand = all_says items (with_value values k value) lists uses (Some k)
all_says (entries declared ∷ items) values lists uses operand =
    let more = flat_map declared_by items in
    all_says items values (append_lists lists (lists_of declared)) uses None
    ∙ ap (λ l. option_map (λ names. let s : Said = record { values = values_after values items; lists = l; uses = uses ++ names; operand = operand_after None items } in s) (names_used None items)) (added_more lists (append_lists lists (lists_of declared)) _ declared more refl refl)
all_says (use_of_base ∷ items) values lists uses None = refl
all_says (use_of_base ∷ items) values lists uses (Some name) = all_says items values lists (uses ++ name ∷ []) None ∙ at (names_used None items)
  where
    at : (more : Option (List (List ℕ))) → option_map (said_after (record { values = values; lists = lists; uses = uses ++ name ∷ []; operand = None }) items) more ≡ option_map (said_after (record { values = values; lists = lists; uses = uses; operand = Some name }) (use_of_base ∷ items)) (option_map (λ names. name ∷ names) more)
    at None = refl
    at (Some names) = rw (append_assoc uses (name ∷ []) names) refl
all_says (other t ∷ items) values lists uses operand = all_says items values lists uses (literal_head (other t))

-- the last value of a key
module _ (name : List ℕ) (value_of : Values → Option Token) (is_set : (values : Values) (k : List ℕ) (value : Option Token) → value_of (with_value values k value) ≡ (if bytes_eq k name then value else value_of values)) where
  last_said : (items : List Item) (values : Values) (last : Option (Option Token)) → option_and_then (λ v. v) last ≡ value_of values → option_and_then (λ v. v) (last_or last (filter_map (value_under name) items)) ≡ value_of (values_after values items)
  unfolding values_after
  last_said [] values last same = same
  last_said (key k value ∷ items) values last same =
      elim (cases_Bool (bytes_eq k name)) [
        | inl is ↦ rw is (last_said items (with_value values k value) (Some value) (sym (rw is at (is_set values k value))))
        | inr differs ↦ rw differs (last_said items (with_value values k value) last (same ∙ sym (rw differs at (is_set values k value))))
      ]
  last_said (_ ∷ items) values last same = last_said items values last same

pub values_said : (items : List Item) → last_values items ≡ values_after no_values items
values_said items =
    let registry = last_said (codes "Registry") (λ v. v.registry) (λ values k value. refl) items no_values None refl in
    let ordering = last_said (codes "Ordering") (λ v. v.ordering) (λ values k value. refl) items no_values None refl in
    let supplement = last_said (codes "Supplement") (λ v. v.supplement) (λ values k value. refl) items no_values None refl in
    let name = last_said (codes "CMapName") (λ v. v.name) (λ values k value. refl) items no_values None refl in
    let mode = last_said (codes "WMode") (λ v. v.mode) (λ values k value. refl) items no_values None refl in
    rw (registry, ordering, supplement, name, mode) refl
