-- The values of the keys of a file that is written.
use Rattle.std.proofs.Common.{◌≡◌, ◌∙◌, ℕ, ◌⊎◌, List, [], ◌∷◌, ◌++◌, Some, None, inl, inr, refl, sym, ap, subst}
use Rattle.std.specs.Prelude.{Option, IfSome, bytes_eq, codes, filter_map, flat_map, option_and_then}
use Rattle.std.specs.List.{AllByRecursion, last_or, list_all}
use Rattle.std.proofs.lemmas.Bool.{cases_Bool}
use Rattle.std.proofs.lemmas.List.{append-nil}
use Rattle.std.proofs.lemmas.List.Elements.{filter_map-append}
use Rattle.cmap_values.specs.Files.{Collection, FileMetadata, Mode, horizontal, vertical}
use Rattle.cmap_values.proofs.LastOfLists.{last_or-push}
use Rattle.cmap_values.specs.Names.{ordering_of, registry_of}
use Rattle.cmap_tokens.specs.Bytes.{is_regular}
use Rattle.cmap_tokens.specs.Numbers.{Integer}
use Rattle.cmap_tokens.specs.Tokens.{Token}
use Rattle.cmap_text.specs.TextFiles.{GivesText, IsCollection, IsMetadata, Item, collection_of, entries, key, last_value, mode_in, name_in, other, supplement_in, use_of_base, value_under}
use Rattle.cmap_text_writer.specs.FileItems.{collection_items, file_items, footer_items, from_option, is_key, metadata_items, mode_items, mode_number, name_items, no_value, number, string_spelled, use_items}
use Rattle.cmap_text_writer.specs.Fits.{CollectionFits}
use Rattle.cmap_text_writer.specs.Told.{IsOfSections}
use Rattle.cmap_text_writer.proofs.TextStrings.{string_value_is}

abbrev values : List ℕ → List Item → List (Option Token)
values k items = filter_map (value_under k) items

-- ---- values that say nothing
abbrev IsNothing : Option Token → Type 0
IsNothing value = value ≡ Some no_value

uses_say : (k : List ℕ) (uses : List (List ℕ)) → AllByRecursion IsNothing (values k (flat_map use_items uses))
uses_say k [] = tt
uses_say k (name ∷ uses) =
    elim (cases_Bool (is_key name)) [
      | inl is ↦ elim (cases_Bool (bytes_eq name k)) [ inl same ↦ rw (is, same) (refl, uses_say k uses) | inr differs ↦ rw (is, differs) (uses_say k uses) ]
      | inr free ↦ rw free (uses_say k uses)
    ]

sections_say : (k : List ℕ) (items : List Item) → AllByRecursion IsOfSections items → values k (items ++ footer_items) ≡ []
sections_say k [] all = refl
sections_say k (entries ds ∷ items) (few, all) = sections_say k items all
sections_say k (other (Token.Numeral n) ∷ items) (any, all) = sections_say k items all
sections_say k (other (Token.Name literal bytes) ∷ items) (none, all) = absurd none
sections_say k (other (Token.String piece) ∷ items) (none, all) = absurd none
sections_say k (key j value ∷ items) (none, all) = absurd none
sections_say k (use_of_base ∷ items) (none, all) = absurd none

-- ---- what the metadata gives
abbrev registry_given : Option Collection → List (Option Token)
registry_given None = []
registry_given (Some c) = Some (Token.String (string_spelled (registry_of c.family))) ∷ []

abbrev ordering_given : Option Collection → List (Option Token)
ordering_given None = []
ordering_given (Some c) = Some (Token.String (string_spelled (ordering_of c.family))) ∷ []

abbrev supplement_given : Option Collection → List (Option Token)
supplement_given None = []
supplement_given (Some c) = Some (Token.Numeral (Integer c.supplement)) ∷ []

abbrev name_given : Option (List ℕ) → List (Option Token)
name_given None = []
name_given (Some n) = Some (Token.Name (list_all is_regular n) n) ∷ []

abbrev mode_given : Option Mode → List (Option Token)
mode_given None = []
mode_given (Some w) = Some (number (mode_number w)) ∷ []

record Given (c : Option Collection) (n : Option (List ℕ)) (w : Option Mode) (items : List Item) : Type 0 where
  registry : values (codes "Registry") items ≡ registry_given c
  ordering : values (codes "Ordering") items ≡ ordering_given c
  supplement : values (codes "Supplement") items ≡ supplement_given c
  name : values (codes "CMapName") items ≡ name_given n
  mode : values (codes "WMode") items ≡ mode_given w

given : (c : Option Collection) (n : Option (List ℕ)) (w : Option Mode) → Given c n w (from_option collection_items c ++ (from_option name_items n ++ from_option mode_items w))
given None None None = record { registry = refl; ordering = refl; supplement = refl; name = refl; mode = refl }
given None None (Some w) = record { registry = refl; ordering = refl; supplement = refl; name = refl; mode = refl }
given None (Some n) None = record { registry = refl; ordering = refl; supplement = refl; name = refl; mode = refl }
given None (Some n) (Some w) = record { registry = refl; ordering = refl; supplement = refl; name = refl; mode = refl }
given (Some c) None None = record { registry = refl; ordering = refl; supplement = refl; name = refl; mode = refl }
given (Some c) None (Some w) = record { registry = refl; ordering = refl; supplement = refl; name = refl; mode = refl }
given (Some c) (Some n) None = record { registry = refl; ordering = refl; supplement = refl; name = refl; mode = refl }
given (Some c) (Some n) (Some w) = record { registry = refl; ordering = refl; supplement = refl; name = refl; mode = refl }

-- ---- the last value
abbrev last_in : List (Option Token) → Option Token
last_in vs = option_and_then (λ value. value) (last_or None vs)

-- none, or one that says nothing
abbrev IsMute : Option Token → Type 0
IsMute value = (value ≡ None) ⊎ (value ≡ Some no_value)

mute_after : (o : Option (Option Token)) (vs : List (Option Token)) → IsMute (option_and_then (λ value. value) o) → AllByRecursion IsNothing vs → IsMute (option_and_then (λ value. value) (last_or o vs))
mute_after o [] now all = now
mute_after o (v ∷ vs) now (first, later) = mute_after (Some v) vs (inr first) later

module _ (type : ℕ) (m : FileMetadata) (uses : List (List ℕ)) (sections : List Item) (all : AllByRecursion IsOfSections sections) where
  items : List Item
  items = file_items type m uses sections

  abbrev used : List ℕ → List (Option Token)
  used k = values k (flat_map use_items uses)

  parted : (k : List ℕ) → values k (file_items type m uses sections) ≡ used k ++ values k (metadata_items m)
  parted k =
      filter_map-append (value_under k) (flat_map use_items uses) (metadata_items m ++ (sections ++ footer_items))
      ∙ ap (λ vs. used k ++ vs) (filter_map-append (value_under k) (metadata_items m) (sections ++ footer_items) ∙ ap (λ vs. values k (metadata_items m) ++ vs) (sections_say k sections all) ∙ append-nil (values k (metadata_items m)))

  last_is : (k : List ℕ) (v : Token) → values k (metadata_items m) ≡ Some v ∷ [] → last_value k (file_items type m uses sections) ≡ Some v
  last_is k v is = ap last_in (parted k ∙ ap (λ vs. used k ++ vs) is) ∙ ap (option_and_then (λ value. value)) (last_or-push None (used k) (Some v))

  none_is : (k : List ℕ) → values k (metadata_items m) ≡ [] → IsMute (last_value k (file_items type m uses sections))
  none_is k is = subst (λ vs. IsMute (last_in vs)) (sym (parted k ∙ ap (λ vs. used k ++ vs) is ∙ append-nil (used k))) (mute_after None (used k) (inl refl) (uses_say k uses))

-- ---- what they say of the file
abbrev made : Option Collection → Option (List ℕ) → Option Mode → FileMetadata
made c n w = record { collection = c; name = n; mode = w }

mute_text : (value : Option Token) → IsMute value → (text : Option (List ℕ)) × GivesText value text
mute_text value (inl none) = (None, rw none refl)
mute_text value (inr nothing) = (Some [], rw nothing ([], string_value_is [] tt, refl))

mute_supplement : (value : Option Token) → IsMute value → supplement_in value ≡ None
mute_supplement value (inl none) = rw none refl
mute_supplement value (inr nothing) = rw nothing refl

mute_name : (value : Option Token) → IsMute value → None ≡ name_in value
mute_name value (inl none) = rw none refl
mute_name value (inr nothing) = rw nothing refl

mute_mode : (value : Option Token) → IsMute value → None ≡ mode_in value
mute_mode value (inl none) = rw none refl
mute_mode value (inr nothing) = rw nothing refl

no_collection : (r o : Option (List ℕ)) → None ≡ collection_of r o None
no_collection None o = refl
no_collection (Some r) None = refl
no_collection (Some r) (Some o) = refl

module _ (type : ℕ) (uses : List (List ℕ)) (sections : List Item) (all : AllByRecursion IsOfSections sections) where
  collection_told : (c : Option Collection) (n : Option (List ℕ)) (w : Option Mode) → IfSome c CollectionFits → let items = file_items type (made c n w) uses sections in IsCollection (last_value (codes "Registry") items) (last_value (codes "Ordering") items) (last_value (codes "Supplement") items) c
  collection_told (Some c) n w fits =
      let m = made (Some c) n w in
      let g = given (Some c) n w in
      let r = registry_of c.family in
      let o = ordering_of c.family in
      let number = Token.Numeral (Integer c.supplement) in (
        Some r,
        Some o,
        subst (λ v. GivesText v (Some r)) (sym (last_is type m uses sections all (codes "Registry") (Token.String (string_spelled r)) g.registry)) (r, string_value_is r fits.registry, refl),
        subst (λ v. GivesText v (Some o)) (sym (last_is type m uses sections all (codes "Ordering") (Token.String (string_spelled o)) g.ordering)) (o, string_value_is o fits.ordering, refl),
        sym (ap (λ v. collection_of (Some r) (Some o) (supplement_in v)) (last_is type m uses sections all (codes "Supplement") number g.supplement) ∙ ap (collection_of (Some r) (Some o)) fits.supplement ∙ ap (λ f. Some (record { family = f; supplement = c.supplement })) fits.family),
      )
  collection_told None n w fits =
      let m = made None n w in
      let g = given None n w in
      let (r, gives_r) = mute_text _ (none_is type m uses sections all (codes "Registry") g.registry) in
      let (o, gives_o) = mute_text _ (none_is type m uses sections all (codes "Ordering") g.ordering) in
      (r, o, gives_r, gives_o, no_collection r o ∙ ap (collection_of r o) (sym (mute_supplement _ (none_is type m uses sections all (codes "Supplement") g.supplement))))

  name_told : (c : Option Collection) (n : Option (List ℕ)) (w : Option Mode) → n ≡ name_in (last_value (codes "CMapName") (file_items type (made c n w) uses sections))
  name_told c (Some n) w = sym (ap name_in (last_is type (made c (Some n) w) uses sections all (codes "CMapName") (Token.Name (list_all is_regular n) n) (given c (Some n) w).name))
  name_told c None w = mute_name _ (none_is type (made c None w) uses sections all (codes "CMapName") (given c None w).name)

  mode_back : (w : Mode) → mode_in (Some (number (mode_number w))) ≡ Some w
  mode_back horizontal = refl
  mode_back vertical = refl

  mode_told : (c : Option Collection) (n : Option (List ℕ)) (w : Option Mode) → w ≡ mode_in (last_value (codes "WMode") (file_items type (made c n w) uses sections))
  mode_told c n (Some w) = sym (ap mode_in (last_is type (made c n (Some w)) uses sections all (codes "WMode") (number (mode_number w)) (given c n (Some w)).mode) ∙ mode_back w)
  mode_told c n None = mute_mode _ (none_is type (made c n None) uses sections all (codes "WMode") (given c n None).mode)

  pub metadata_told : (m : FileMetadata) → IfSome m.collection CollectionFits → IsMetadata (file_items type m uses sections) m
  metadata_told m fits = (collection_told m.collection m.name m.mode fits, name_told m.collection m.name m.mode, mode_told m.collection m.name m.mode)
