-- What the items of a file say.
use Rattle.std.proofs.Common.{◌≡◌, ◌∙◌, ℕ, List, [], ◌∷◌, ◌++◌, Some, None, inl, inr, refl, ap}
use Rattle.std.specs.Prelude.{Option, flat_map, option_map}
use Rattle.std.specs.List.{AllByRecursion}
use Rattle.std.proofs.lemmas.Bool.{cases_Bool}
use Rattle.std.proofs.lemmas.List.{append-nil}
use Rattle.std.proofs.lemmas.List.Concat.{flat_map-append}
use Rattle.cmap_values.specs.Files.{Collection, FileMetadata, Mode}
use Rattle.cmap_tokens.specs.Tokens.{Token}
use Rattle.cmap_text.specs.TextFiles.{Item, declared_by, entries, key, names_used, other, use_of_base}
use Rattle.cmap_text_writer.specs.FileItems.{collection_items, file_items, footer_items, from_option, is_key, metadata_items, mode_items, name_items, use_items}
use Rattle.cmap_text_writer.specs.Told.{IsOfSections}

-- ---- the names that are used
sections_use : (items more : List Item) → AllByRecursion IsOfSections items → names_used None (items ++ more) ≡ names_used None more
sections_use [] more all = refl
sections_use (entries ds ∷ items) more (few, all) = sections_use items more all
sections_use (other (Token.Numeral n) ∷ items) more (any, all) = sections_use items more all
sections_use (other (Token.Name literal bytes) ∷ items) more (none, all) = absurd none
sections_use (other (Token.String piece) ∷ items) more (none, all) = absurd none
sections_use (key k value ∷ items) more (none, all) = absurd none
sections_use (use_of_base ∷ items) more (none, all) = absurd none

metadata_use : (m : FileMetadata) (more : List Item) → names_used None (metadata_items m ++ more) ≡ names_used None more
metadata_use m more = of m.collection m.name m.mode
  where
    of : (c : Option Collection) (n : Option (List ℕ)) (w : Option Mode) → names_used None ((from_option collection_items c ++ (from_option name_items n ++ from_option mode_items w)) ++ more) ≡ names_used None more
    of None None None = refl
    of None None (Some w) = refl
    of None (Some n) None = refl
    of None (Some n) (Some w) = refl
    of (Some c) None None = refl
    of (Some c) None (Some w) = refl
    of (Some c) (Some n) None = refl
    of (Some c) (Some n) (Some w) = refl

uses_used : (uses : List (List ℕ)) (more : List Item) → names_used None (flat_map use_items uses ++ more) ≡ option_map (λ names. uses ++ names) (names_used None more)
uses_used [] more = same (names_used None more)
  where
    same : (o : Option (List (List ℕ))) → o ≡ option_map (λ names. [] ++ names) o
    same None = refl
    same (Some names) = refl
uses_used (name ∷ uses) more = elim (cases_Bool (is_key name)) [ inl is ↦ rw is (with_name ∙ ap (option_map (λ names. name ∷ names)) (uses_used uses more) ∙ twice (names_used None more)) | inr free ↦ rw free (with_name ∙ ap (option_map (λ names. name ∷ names)) (uses_used uses more) ∙ twice (names_used None more)) ]
  where
    with_name : option_map (λ names. name ∷ names) (names_used None (flat_map use_items uses ++ more)) ≡ option_map (λ names. name ∷ names) (names_used None (flat_map use_items uses ++ more))
    with_name = refl

    twice : (o : Option (List (List ℕ))) → option_map (λ names. name ∷ names) (option_map (λ names. uses ++ names) o) ≡ option_map (λ names. (name ∷ uses) ++ names) o
    twice None = refl
    twice (Some names) = refl

pub names_are : (type : ℕ) (m : FileMetadata) (uses : List (List ℕ)) (sections : List Item) → AllByRecursion IsOfSections sections → names_used None (file_items type m uses sections) ≡ Some uses
names_are type m uses sections all =
    uses_used uses (metadata_items m ++ (sections ++ footer_items))
    ∙ ap (option_map (λ names. uses ++ names)) (metadata_use m (sections ++ footer_items) ∙ sections_use sections footer_items all)
    ∙ ap Some (append-nil uses)

-- ---- what is declared
uses_declare : (uses : List (List ℕ)) → flat_map declared_by (flat_map use_items uses) ≡ []
uses_declare [] = refl
uses_declare (name ∷ uses) = elim (cases_Bool (is_key name)) [ inl is ↦ rw is (uses_declare uses) | inr free ↦ rw free (uses_declare uses) ]

metadata_declare : (m : FileMetadata) → flat_map declared_by (metadata_items m) ≡ []
metadata_declare m = of m.collection m.name m.mode
  where
    of : (c : Option Collection) (n : Option (List ℕ)) (w : Option Mode) → flat_map declared_by (from_option collection_items c ++ (from_option name_items n ++ from_option mode_items w)) ≡ []
    of None None None = refl
    of None None (Some w) = refl
    of None (Some n) None = refl
    of None (Some n) (Some w) = refl
    of (Some c) None None = refl
    of (Some c) None (Some w) = refl
    of (Some c) (Some n) None = refl
    of (Some c) (Some n) (Some w) = refl

pub declarations_are : (type : ℕ) (m : FileMetadata) (uses : List (List ℕ)) (sections : List Item) → flat_map declared_by (file_items type m uses sections) ≡ flat_map declared_by sections
declarations_are type m uses sections =
    flat_map-append declared_by (flat_map use_items uses) (metadata_items m ++ (sections ++ footer_items))
    ∙ ap (λ ds. ds ++ flat_map declared_by (metadata_items m ++ (sections ++ footer_items))) (uses_declare uses)
    ∙ flat_map-append declared_by (metadata_items m) (sections ++ footer_items)
    ∙ ap (λ ds. ds ++ flat_map declared_by (sections ++ footer_items)) (metadata_declare m)
    ∙ flat_map-append declared_by sections footer_items
    ∙ append-nil (flat_map declared_by sections)
