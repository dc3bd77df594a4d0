-- What a file keeps whose lists say the same.
use Rattle.std.proofs.Common.{◌≡◌, ℕ, Bool, true, false, List, [], ◌∷◌, ◌++◌, Option, Some, None, map, refl, ap, ◌∙◌, sym}
use Rattle.std.specs.Prelude.{◌==◌, ◌&&◌, nat_le, filter_map, flat_map, if◌then◌else◌, option_map}
use Rattle.std.specs.List.{fold}
use Rattle.std.proofs.lemmas.List.{append-nil}
use Rattle.std.proofs.lemmas.List.Concat.{flat_map-append}
use Rattle.std.proofs.lemmas.List.Elements.{filter_map-append}
use Rattle.std.proofs.lemmas.List.Sums.{fold-append}
use Rattle.std.proofs.lemmas.Option.{none-some, same_Some}
use Rattle.cmap_values.specs.Files.{BfEntry, ByLength, CidEntry, Declaration, File, FileMetadata, Lists, lists_of, of_length}
use Rattle.cmap_binary.specs.BinaryFiles.{Content, declared_in, declares, file_of, magic, metadata_after, name_used}
use Rattle.cmap_binary.specs.BinaryFiles as files
use Rattle.cmap_unicode.specs.Cids.{without_texts}
use Rattle.cmap_layers.specs.Layers.{Layer}
use Rattle.cmap_tokens.specs.Texts.{only_character}
use Rattle.cmap_layers.specs.Lookups.{bf_at, bf_of, cid_at, cid_in, cid_of, decided_cid, decided_text, last_bf, last_cid}
use Rattle.cmap_binary_writer.specs.Keeps.{AnswerAlike, KeepLists, Keeps}
use Rattle.cmap_binary_writer.specs.MetadataWritten.{metadata_contents}
use Rattle.cmap_binary_writer.specs.Pieces.{cid_told}
use Rattle.cmap_values.specs.Metadata.{Collection, Mode}
use Rattle.std.specs.Prelude.{option_and_then}

-- ---- what contents say together
nothing : {A B : Type 0} (f : Content → Option B) (say : A → Content) → ((x : A) → f (say x) ≡ None) → (xs : List A) → filter_map f (map say xs) ≡ []
nothing f say none [] = refl
nothing f say none (x ∷ xs) = rw (none x) (nothing f say none xs)

each_name : (names : List (List ℕ)) → filter_map name_used (map files.uses names) ≡ names
each_name [] = refl
each_name (x ∷ names) = ap (λ ns. x ∷ ns) (each_name names)

none_declared : (names : List (List ℕ)) → flat_map declared_in (map files.uses names) ≡ []
none_declared [] = refl
none_declared (x ∷ names) = none_declared names

all_declared : (parts : List (List Declaration)) → flat_map declared_in (map declares parts) ≡ flat_map (λ part. part) parts
all_declared [] = refl
all_declared (part ∷ parts) = ap (λ ds. part ++ ds) (all_declared parts)

-- the metadata stay
parts_keep : (m : FileMetadata) (parts : List (List Declaration)) → fold metadata_after m (map declares parts) ≡ m
parts_keep m [] = refl
parts_keep m (part ∷ parts) = parts_keep m parts

later_keep : (m : FileMetadata) (names : List (List ℕ)) (parts : List (List Declaration)) → fold metadata_after m (map files.uses names ++ map declares parts) ≡ m
later_keep m [] parts = parts_keep m parts
later_keep m (x ∷ names) parts = later_keep m names parts

-- what is said of metadata, and nothing else
record IsSaid (m : FileMetadata) (contents : List Content) : Type 0 where
  metadata : (file_of contents).metadata ≡ m
  names : filter_map name_used contents ≡ []
  declared : flat_map declared_in contents ≡ []

abbrev about : Option Collection → Option (List ℕ) → Option Mode → FileMetadata
about c n w = record { collection = c; name = n; mode = w }

is_said : (c : Option Collection) (n : Option (List ℕ)) (w : Option Mode) → IsSaid (about c n w) (metadata_contents (about c n w))
is_said None None None = record { metadata = refl; names = refl; declared = refl }
is_said None None (Some w) = record { metadata = refl; names = refl; declared = refl }
is_said None (Some n) None = record { metadata = refl; names = refl; declared = refl }
is_said None (Some n) (Some w) = record { metadata = refl; names = refl; declared = refl }
is_said (Some c) None None = record { metadata = refl; names = refl; declared = refl }
is_said (Some c) None (Some w) = record { metadata = refl; names = refl; declared = refl }
is_said (Some c) (Some n) None = record { metadata = refl; names = refl; declared = refl }
is_said (Some c) (Some n) (Some w) = record { metadata = refl; names = refl; declared = refl }

pub file_said : (m : FileMetadata) (names : List (List ℕ)) (parts : List (List Declaration)) → file_of (metadata_contents m ++ (map files.uses names ++ map declares parts)) ≡ record { metadata = m; lists = lists_of (flat_map (λ part. part) parts); uses = names }
file_said m names parts =
    let said = is_said m.collection m.name m.mode in
    let used : filter_map name_used (metadata_contents m ++ (map files.uses names ++ map declares parts)) ≡ names =
    filter_map-append name_used (metadata_contents m) (map files.uses names ++ map declares parts) ∙ ap (λ xs. xs ++ filter_map name_used (map files.uses names ++ map declares parts)) said.names
    ∙ filter_map-append name_used (map files.uses names) (map declares parts) ∙ ap (λ xs. xs ++ filter_map name_used (map declares parts)) (each_name names) ∙ ap (λ xs. names ++ xs) (nothing name_used declares (λ x. refl) parts) ∙ append-nil names in
    let declared : flat_map declared_in (metadata_contents m ++ (map files.uses names ++ map declares parts)) ≡ flat_map (λ part. part) parts =
    flat_map-append declared_in (metadata_contents m) (map files.uses names ++ map declares parts) ∙ ap (λ xs. xs ++ flat_map declared_in (map files.uses names ++ map declares parts)) said.declared
    ∙ flat_map-append declared_in (map files.uses names) (map declares parts) ∙ ap (λ xs. xs ++ flat_map declared_in (map declares parts)) (none_declared names) ∙ all_declared parts in
    let metadata : fold metadata_after (about None None None) (metadata_contents m ++ (map files.uses names ++ map declares parts)) ≡ m =
    fold-append metadata_after (about None None None) (metadata_contents m) (map files.uses names ++ map declares parts) ∙ ap (λ before. fold metadata_after before (map files.uses names ++ map declares parts)) said.metadata ∙ later_keep m names parts in
    rw (metadata, used, declared) refl

-- ---- what codes stand for
same_choice : (b : Bool) (x x' y y' : List CidEntry) (code : ℕ) → cid_told x code ≡ cid_told x' code → cid_told y code ≡ cid_told y' code → cid_told (if b then x else y) code ≡ cid_told (if b then x' else y') code
same_choice true x x' y y' code first second = first
same_choice false x x' y y' code first second = second

same_decided : (code : ℕ) (o p notdef : Option CidEntry) (character below : Option ℕ) → option_map (λ e. cid_at e code) o ≡ option_map (λ e. cid_at e code) p → decided_cid code o notdef character below ≡ decided_cid code p notdef character below
same_decided code None None notdef character below is = refl
same_decided code None (Some e) notdef character below is = absurd (none-some _ is)
same_decided code (Some e) None notdef character below is = absurd (none-some _ (sym is))
same_decided code (Some e) (Some f) notdef character below is = same_Some _ _ is

-- what holds of lengths of codes alone
gate : (b : Bool) (x y x' y' : Option ℕ) → (if b then x else None) ≡ (if b then y else None) → (x ≡ y → x' ≡ y') → (if b then x' else None) ≡ (if b then y' else None)
gate true x y x' y' same then_same = then_same same
gate false x y x' y' same then_same = refl

module _ (lists made : Lists) (keep : KeepLists lists made) where
  same_lengths : (len code : ℕ) → cid_told (of_length made.cids len) code ≡ cid_told (of_length lists.cids len) code
  same_lengths len code =
      same_choice (len == 1) _ _ _ _ code (keep.one code) (same_choice (len == 2) _ _ _ _ code (keep.two code) (same_choice (len == 3) _ _ _ _ code (keep.three code) (same_choice (len == 4) _ _ _ _ code (keep.four code) refl)))

  -- what a declaration of texts says of the character of a code
  text_decided : (code : ℕ) (o p : Option BfEntry) → option_map (λ e. bf_at e code) o ≡ option_map (λ e. bf_at e code) p → option_and_then (λ e. bf_at e code) o ≡ option_and_then (λ e. bf_at e code) p
  text_decided code None None is = refl
  text_decided code None (Some e) is = absurd (none-some _ is)
  text_decided code (Some e) None is = absurd (none-some _ (sym is))
  text_decided code (Some e) (Some f) is = same_Some _ _ is

  same_decided_text : (code : ℕ) (o p : Option BfEntry) (below : Option (List ℕ)) → option_map (λ e. bf_at e code) o ≡ option_map (λ e. bf_at e code) p → decided_text code o below ≡ decided_text code p below
  same_decided_text code None None below is = refl
  same_decided_text code None (Some e) below is = absurd (none-some _ is)
  same_decided_text code (Some e) None below is = absurd (none-some _ (sym is))
  same_decided_text code (Some e) (Some f) below is = same_Some _ _ is

  same_cids : (m : FileMetadata) (below others : List Layer) → ((code len : ℕ) → cid_of others code len ≡ cid_of below code len) → (code len : ℕ) → cid_of (record { metadata = m; lists = made } ∷ others) code len ≡ cid_of (record { metadata = m; lists = lists } ∷ below) code len
  same_cids m below others alike code len =
      let old = last_cid (of_length lists.cids len) code in
      let new = last_cid (of_length made.cids len) code in
      gate (nat_le 1 len && nat_le len 4) (cid_in others code len) (cid_in below code len) _ _ (alike code len) (λ same.
      same_decided code new old (last_cid (of_length made.notdefs len) code) (only_character (option_and_then (λ e. bf_at e code) (last_bf made.bfs code))) (cid_in others code len) (same_lengths len code)
      ∙ ap (λ o. decided_cid code old (last_cid (of_length made.notdefs len) code) (only_character o) (cid_in others code len)) (text_decided code (last_bf made.bfs code) (last_bf lists.bfs code) (keep.bfs code))
      ∙ ap (λ (n : ByLength). decided_cid code old (last_cid (of_length n len) code) (only_character (option_and_then (λ e. bf_at e code) (last_bf lists.bfs code))) (cid_in others code len)) keep.notdefs
      ∙ ap (decided_cid code old (last_cid (of_length lists.notdefs len) code) (only_character (option_and_then (λ e. bf_at e code) (last_bf lists.bfs code)))) same)

abbrev no_texts : Lists → Lists
no_texts lists = record lists { bfs = [] }

without_texts_kept : (lists made : Lists) → KeepLists lists made → KeepLists (no_texts lists) (no_texts made)
without_texts_kept lists made keep = record { spaces = keep.spaces; notdefs = keep.notdefs; bfs = λ code. refl; one = keep.one; two = keep.two; three = keep.three; four = keep.four }

same_answers : (lists made : Lists) (keep : KeepLists lists made) (m : FileMetadata) (below others : List Layer) → AnswerAlike below others → AnswerAlike (record { metadata = m; lists = lists } ∷ below) (record { metadata = m; lists = made } ∷ others)
same_answers lists made keep m below others alike = record {
  cids = same_cids lists made keep m below others alike.cids;
  declared = same_cids (no_texts lists) (no_texts made) (without_texts_kept lists made keep) m (map without_texts below) (map without_texts others) alike.declared;
  texts = λ code.
      same_decided_text lists made keep code (last_bf made.bfs code) (last_bf lists.bfs code) (bf_of others code) (keep.bfs code)
      ∙ ap (decided_text code (last_bf lists.bfs code)) (alike.texts code);
  metadata = ap (λ all. m ∷ all) alike.metadata;
  spaces = rw (keep.spaces, alike.spaces) refl;
}

pub keeps : (file : File) (made : Lists) → KeepLists file.lists made → Keeps file (record { metadata = file.metadata; lists = made; uses = file.uses })
keeps file made keep = record { metadata = refl; lists = keep; uses = refl; answers = λ below others alike. same_answers file.lists made keep file.metadata below others alike }

-- ---- the file
abbrev pub head : List ℕ
head = magic ++ 1 ∷ []
