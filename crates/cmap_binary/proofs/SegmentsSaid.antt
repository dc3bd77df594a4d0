-- What segments say together, added one after another.
use Rattle.std.proofs.Common.{◌≡◌, ℕ, refl, ap, ◌∙◌, List, [], ◌∷◌, ◌++◌, append-nil}
use Rattle.std.specs.Prelude.{Option, Some, None, option_and_then, flat_map, filter_map}
use Rattle.std.specs.List.{fold, last_or}
use Rattle.std.proofs.lemmas.List.Concat.{flat_map-append}
use Rattle.std.proofs.lemmas.List.Elements.{filter_map-append}
use Rattle.std.proofs.lemmas.List.Sums.{fold-append}
use Rattle.cmap_values.specs.Files.{Collection, File, FileMetadata, Lists, Mode, lists_of}
use Rattle.cmap_values.specs.ListsAppended.{append_lists}
use Rattle.cmap_values.proofs.ListsMade.{append_lists-none, lists_of-append}
use Rattle.cmap_binary.specs.BinaryFiles.{Content, declares, uses, sets_mode, sets_name, sets_collection, declared_in, metadata_after, name_used, SegmentAt, file_of}
use Rattle.cmap_binary.specs.BinarySeen.{with_content}
use Rattle.cmap_binary.specs.Bundles.{PrefixTables}
use Rattle.cmap_binary.specs.Fronts.{AllOf}
use Rattle.cmap_binary.proofs.Fronts.{Continues}

-- ---- the last segment that sets something decides
abbrev pub mode_set : Content → Option (Option Mode)
mode_set (sets_mode set) = Some set
mode_set _ = None

abbrev pub name_set : Content → Option (List ℕ)
name_set (sets_name set) = Some set
name_set _ = None

abbrev pub collection_set : Content → Option Collection
collection_set (sets_collection set) = Some set
collection_set _ = None

abbrev pub last_set : Option Collection → Option (List ℕ) → Option (Option Mode) → List Content → FileMetadata
last_set c n m contents = record {
  collection = last_or c (filter_map collection_set contents);
  name = last_or n (filter_map name_set contents);
  mode = option_and_then (λ set. set) (last_or m (filter_map mode_set contents));
}

metadata_last : (c : Option Collection) (n : Option (List ℕ)) (m : Option (Option Mode)) (contents : List Content) → fold metadata_after (last_set c n m []) contents ≡ last_set c n m contents
metadata_last c n m [] = refl
metadata_last c n m (declares ds ∷ contents) = metadata_last c n m contents
metadata_last c n m (uses text ∷ contents) = metadata_last c n m contents
metadata_last c n m (sets_mode set ∷ contents) = metadata_last c n (Some set) contents
metadata_last c n m (sets_name set ∷ contents) = metadata_last c (Some set) m contents
metadata_last c n m (sets_collection set ∷ contents) = metadata_last (Some set) n m contents

pub file_by_last : (contents : List Content) → (file_of contents).metadata ≡ last_set None None None contents
file_by_last contents = metadata_last None None None contents

-- ---- one segment more
module _ (contents : List Content) (content : Content) where
  more_lists : lists_of (flat_map declared_in (contents ++ content ∷ [])) ≡ append_lists (lists_of (flat_map declared_in contents)) (lists_of (declared_in content))
  more_lists =
      ap lists_of (flat_map-append declared_in contents (content ∷ []) ∙ ap (λ d. flat_map declared_in contents ++ d) (append-nil (declared_in content)))
      ∙ lists_of-append (flat_map declared_in contents) (declared_in content)

  more_parts : (lists : Lists) (names : List (List ℕ)) → append_lists (lists_of (flat_map declared_in contents)) (lists_of (declared_in content)) ≡ lists → filter_map name_used contents ++ filter_map name_used (content ∷ []) ≡ names
      → file_of (contents ++ content ∷ []) ≡ record { metadata = metadata_after (file_of contents).metadata content; lists = lists; uses = names }
  more_parts lists names lists_are names_are =
      rw (fold-append metadata_after (file_of []).metadata contents (content ∷ []), more_lists, lists_are, filter_map-append name_used contents (content ∷ []), names_are) refl

pub file_more : (contents : List Content) (content : Content) → file_of (contents ++ content ∷ []) ≡ with_content (file_of contents) content
file_more contents (declares ds) = more_parts contents (declares ds) _ _ refl (append-nil _)
file_more contents (uses text) = more_parts contents (uses text) _ _ (append_lists-none _) refl
file_more contents (sets_mode set) = more_parts contents (sets_mode set) _ _ (append_lists-none _) (append-nil _)
file_more contents (sets_name text) = more_parts contents (sets_name text) _ _ (append_lists-none _) (append-nil _)
file_more contents (sets_collection set) = more_parts contents (sets_collection set) _ _ (append_lists-none _) (append-nil _)

-- these segments are read, and the file says what they say together
pub record SaidSoFar (tables : PrefixTables) (start here : List ℕ) (now : File) : Type 0 where
  pub contents : List Content
  pub row : Continues (AllOf (SegmentAt tables) start) (λ more. contents ++ more) (AllOf (SegmentAt tables) here)
  pub says : now ≡ file_of contents
