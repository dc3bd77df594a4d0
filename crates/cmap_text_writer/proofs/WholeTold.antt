-- A whole file.
use Rattle.std.proofs.Math.Path.{fun_ext}
use Rattle.std.proofs.Common.{◌≡◌, ◌∙◌, ℕ, Bool, true, inl, inr, length, List, [], ◌∷◌, ◌++◌, Some, None, refl, sym, ap, subst}
use Rattle.std.specs.Prelude.{All, IfSome, Option, flat_map, is_some, nat_le}
use Rattle.std.specs.List.{AllByRecursion, list_all}
use Rattle.std.proofs.lemmas.Bool.{and_from, and_parts, cases_Bool, le-leb}
use Rattle.std.proofs.lemmas.List.{append_assoc, append-nil}
use Rattle.std.proofs.lemmas.List.Elements.{All-head, All-tail}
use Rattle.cmap_values.specs.Files.{Collection, File, FileMetadata, Mode, lists_of}
use Rattle.cmap_text.specs.TextFiles.{AreItems, IsTextFile, Item, declared_by, entries, key, other, use_of_base}
use Rattle.cmap_tokens.specs.Tokens.{Token, Tokens}
use Rattle.cmap_text_writer.specs.FileItems.{collection_items, collection_text, comments_text, file_items, footer_items, footer_text, from_option, header_items, header_text, is_key, metadata_items, mode_items, mode_text, name_items, name_text, use_items, use_text}
use Rattle.cmap_values.specs.ListsByKind.{declarations_of}
use Rattle.cmap_text_writer.specs.Fits.{CollectionFits, IsName, IsSayable, IsSayableName}
use Rattle.cmap_text_writer.specs.Layout.{IsLaidOut, front_text, is_to_unicode, metadata_text}
use Rattle.cmap_text_writer.specs.Told.{Appends, IsOfSections, TellsItems, TellsSections}
use Rattle.cmap_text_writer.specs.Written.{HasShortSections, IsWritten}
use Rattle.cmap_values.proofs.KindsMade.{all_kinds}
use Rattle.cmap_text_writer.proofs.FileTold.{declarations_are, names_are}
use Rattle.cmap_text_writer.proofs.HeaderTold.{comments_told, footer_told, header_told, type_number}
use Rattle.cmap_text_writer.proofs.ItemsTold.{items_both, no_items}
use Rattle.cmap_text_writer.proofs.MetadataTold.{collection_spelled, mode_told, name_told}
use Rattle.cmap_text_writer.proofs.StringsTold.{supplement_is_token}
use Rattle.cmap_text_writer.proofs.UsesTold.{name_used}
use Rattle.cmap_text_writer.proofs.Walked.{joined}
use Rattle.cmap_text_writer.proofs.ValuesTold.{metadata_told}

-- items of a whole text
module _ (items : List Item) (bytes : List ℕ) (told : TellsItems items bytes) where
  pub items_are : (tokens : List _) × Tokens bytes tokens × AreItems tokens items
  items_are =
      let tokens = told.tokens in (
        tokens,
        subst (λ bs. Tokens bs tokens) (append-nil bytes) (subst (Tokens (bytes ++ [])) (append-nil tokens) (told.told.read [] [] refl)),
        subst (λ ts. AreItems ts items) (append-nil tokens) (subst (AreItems (tokens ++ [])) (append-nil items) (told.are [] [] refl)),
      )

file_is : (type : ℕ) (file : File) (sections : List Item) (bytes : List ℕ) → TellsItems (file_items type file.metadata file.uses sections) bytes → AllByRecursion IsOfSections sections → flat_map declared_by sections ≡ declarations_of file.lists → IfSome file.metadata.collection CollectionFits → IsTextFile bytes file
unfolding IsTextFile
file_is type file sections bytes told all flat fits =
    let items = file_items type file.metadata file.uses sections in
    let (tokens, here, are) = items_are items bytes told in (
      tokens,
      items,
      here,
      are,
      names_are type file.metadata file.uses sections all,
      metadata_told type file.uses sections all file.metadata fits,
      sym (ap lists_of (declarations_are type file.metadata file.uses sections ∙ flat) ∙ all_kinds file.lists.spaces file.lists.notdefs file.lists.cids file.lists.bfs),
    )

-- ---- how much each item declares
is_short : Item → Bool
is_short item = nat_le (length (declared_by item)) 100

short_both : (is js : List Item) → list_all is_short is ≡ true → list_all is_short js ≡ true → list_all is_short (is ++ js) ≡ true
short_both [] js all more = more
short_both (i ∷ is) js all more = let (first, later) = and_parts (is_short i) (list_all is_short is) all in and_from _ _ first (short_both is js later more)

short_sections : (items : List Item) → AllByRecursion IsOfSections items → list_all is_short items ≡ true
unfolding is_short
short_sections [] all = refl
short_sections (entries ds ∷ items) (few, all) = and_from _ _ (le-leb (length ds) 100 few) (short_sections items all)
short_sections (other (Token.Numeral n) ∷ items) (any, all) = short_sections items all
short_sections (other (Token.Name literal bytes) ∷ items) (none, all) = absurd none
short_sections (other (Token.String piece) ∷ items) (none, all) = absurd none
short_sections (key k value ∷ items) (none, all) = absurd none
short_sections (use_of_base ∷ items) (none, all) = absurd none

short_uses : (uses : List (List ℕ)) → list_all is_short (flat_map use_items uses) ≡ true
unfolding is_short
short_uses [] = refl
short_uses (name ∷ uses) = elim (cases_Bool (is_key name)) [ inl is ↦ rw is (short_uses uses) | inr differs ↦ rw differs (short_uses uses) ]

short_metadata : (c : Option Collection) (n : Option (List ℕ)) (w : Option Mode) → list_all is_short (from_option collection_items c ++ (from_option name_items n ++ from_option mode_items w)) ≡ true
unfolding is_short
short_metadata None None None = refl
short_metadata None None (Some w) = refl
short_metadata None (Some n) None = refl
short_metadata None (Some n) (Some w) = refl
short_metadata (Some c) None None = refl
short_metadata (Some c) None (Some w) = refl
short_metadata (Some c) (Some n) None = refl
short_metadata (Some c) (Some n) (Some w) = refl

short_file : (type : ℕ) (m : FileMetadata) (uses : List (List ℕ)) (sections : List Item) → AllByRecursion IsOfSections sections → list_all is_short (file_items type m uses sections) ≡ true
unfolding is_short
short_file type m uses sections all =
    let last = sections ++ footer_items in
    let ends : list_all is_short last ≡ true = short_both sections footer_items (short_sections sections all) refl in
    let later = metadata_items m ++ last in
    let short : list_all is_short later ≡ true = short_both (metadata_items m) last (short_metadata m.collection m.name m.mode) ends in
    short_both (header_items type) (flat_map use_items uses ++ later) refl (short_both (flat_map use_items uses) later (short_uses uses) short)

has_short : (type : ℕ) (m : FileMetadata) (uses : List (List ℕ)) (sections : List Item) (text : List ℕ) → TellsItems (file_items type m uses sections) text → AllByRecursion IsOfSections sections → HasShortSections text
unfolding is_short
has_short type m uses sections text told all = let (tokens, here, are) = items_are (file_items type m uses sections) text told in (tokens, file_items type m uses sections, here, are, short_file type m uses sections all)

-- ---- parts that are written
uses_told : (names : List (List ℕ)) → All IsName names → TellsItems (flat_map use_items names) (flat_map use_text names)
uses_told [] all = no_items
uses_told (n ∷ names) all = items_both (use_items n) (flat_map use_items names) (use_text n) (flat_map use_text names) (name_used n (All-head IsName n names all)) (uses_told names (All-tail IsName n names all))

collection_part : (c : Option Collection) → IfSome c CollectionFits → TellsItems (from_option collection_items c) (from_option collection_text c)
collection_part None fits = no_items
collection_part (Some c) fits = collection_spelled c fits (supplement_is_token c.supplement fits.supplement)

name_part : (n : Option (List ℕ)) → IfSome n IsSayableName → TellsItems (from_option name_items n) (from_option name_text n)
name_part None sayable = no_items
name_part (Some n) sayable = name_told n sayable

mode_part : (w : Option Mode) → TellsItems (from_option mode_items w) (from_option mode_text w)
mode_part None = no_items
mode_part (Some w) = mode_told w

metadata_part : (m : FileMetadata) → IfSome m.collection CollectionFits → IfSome m.name IsSayableName → TellsItems (metadata_items m) (metadata_text m)
metadata_part m fits sayable = items_both (from_option collection_items m.collection) (from_option name_items m.name ++ from_option mode_items m.mode) _ _ (collection_part m.collection fits) (items_both (from_option name_items m.name) (from_option mode_items m.mode) _ _ (name_part m.name sayable) (mode_part m.mode))

-- ---- all of it
whole_told : (lengths : ℕ → ℕ) (file : File) (body : List ℕ) → IsSayable file → IfSome file.metadata.collection CollectionFits → TellsSections lengths (declarations_of file.lists) body → IsWritten lengths file (front_text file ++ (body ++ footer_text (is_some file.metadata.name)))
whole_told lengths file body sayable fits h =
    let m = file.metadata in
    let type = type_number (is_to_unicode file.lists) in
    let sections = h.items in
    let c = comments_text m.name in
    let head = header_text (is_to_unicode file.lists) in
    let uses = flat_map use_text file.uses in
    let meta = metadata_text m in
    let footer = footer_text (is_some m.name) in
    let tail = body ++ footer in
    let last = items_both sections footer_items body footer h.told (footer_told (is_some m.name)) in
    let later = items_both (flat_map use_items file.uses) (metadata_items m ++ (sections ++ footer_items)) uses (meta ++ tail) (uses_told file.uses sayable.uses) (items_both (metadata_items m) (sections ++ footer_items) meta tail (metadata_part m fits sayable.name) last) in
    let all = items_both [] (file_items type m file.uses sections) c (head ++ (uses ++ (meta ++ tail))) (comments_told m.name sayable.name) (items_both (header_items type) (flat_map use_items file.uses ++ (metadata_items m ++ (sections ++ footer_items))) head (uses ++ (meta ++ tail)) (header_told (is_to_unicode file.lists)) later) in
    let told = subst (TellsItems (file_items type m file.uses sections)) (sym (parts_front c head uses meta tail)) all in record {
      is = file_is type file sections (front_text file ++ tail) told h.all h.flat fits;
      laid = record { blocks = h.blocks; served = h.served; declared = h.says; spelled = ap (λ bs. front_text file ++ (bs ++ footer)) h.spelled };
      short = has_short type m file.uses sections (front_text file ++ tail) told h.all;
    }
  where
    parts_front : (c head uses meta tail : List ℕ) → (c ++ (head ++ (uses ++ meta))) ++ tail ≡ c ++ (head ++ (uses ++ (meta ++ tail)))
    parts_front c head uses meta tail = append_assoc c (head ++ (uses ++ meta)) tail ∙ ap (λ bs. c ++ bs) (append_assoc head (uses ++ meta) tail ∙ ap (λ bs. head ++ bs) (append_assoc uses meta tail))

pub whole_appended : (lengths : ℕ → ℕ) (file : File) (type has_name : Bool) (old o a b c d new : List ℕ) → type ≡ is_to_unicode file.lists → has_name ≡ is_some file.metadata.name → o ≡ old ++ comments_text file.metadata.name → a ≡ o ++ header_text type → b ≡ a ++ flat_map use_text file.uses → c ≡ b ++ metadata_text file.metadata
    → Appends c d (TellsSections lengths (declarations_of file.lists)) → new ≡ d ++ footer_text has_name → IsSayable file → IfSome file.metadata.collection CollectionFits → Appends old new (IsWritten lengths file)
whole_appended lengths file type has_name old o a b c d new same named first second third fourth (body, fifth, told) last sayable fits =
    let head = header_text type in
    let uses = flat_map use_text file.uses in
    let meta = metadata_text file.metadata in
    let footer = footer_text (is_some file.metadata.name) in
    let ends : new ≡ d ++ footer = last ∙ ap (λ n. d ++ footer_text n) named in
    let front : c ≡ old ++ (comments_text file.metadata.name ++ (head ++ (uses ++ meta))) = joined old o c (comments_text file.metadata.name) (head ++ (uses ++ meta)) first (joined o a c head (uses ++ meta) second (joined a b c uses meta third fourth)) in (
      front_text file ++ (body ++ footer),
      joined old c new (front_text file) (body ++ footer) (front ∙ ap (λ t. old ++ (comments_text file.metadata.name ++ (header_text t ++ (uses ++ meta)))) same) (joined c d new body footer fifth ends),
      whole_told lengths file body sayable fits told,
    )

pub written_alone : (lengths : ℕ → ℕ) (file : File) (old new : List ℕ) → old ≡ [] → Appends old new (IsWritten lengths file) → IsWritten lengths file new
written_alone lengths file old new none (text, is, written) = subst (IsWritten lengths file) (sym (is ∙ ap (λ bs. bs ++ text) none)) written

-- with lengths that are the same for each code
pub same_lengths : (lengths others : ℕ → ℕ) (file : File) (text : List ℕ) → ((code : ℕ) → lengths code ≡ others code) → IsLaidOut lengths file text → IsLaidOut others file text
same_lengths lengths others file text same laid = subst (λ f. IsLaidOut f file text) (fun_ext same) laid
