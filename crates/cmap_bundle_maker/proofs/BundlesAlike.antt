-- A file over a bundle that is made answers as it does over the texts.
use Rattle.std.proofs.Common.{◌≡◌, ◌≢◌, ℕ, ◌<◌, refl, sym, ap, ◌∙◌, subst, List, [], ◌∷◌, ◌++◌, drop, get_or, length, take, inl, inr, Option, Some, None, arith}
use Rattle.std.specs.Prelude.{All, bytes_eq, codes, option_and_then, slice_get}
use Rattle.std.specs.Borrow.{Bor}
use Rattle.std.specs.Option.{option_copied}
use Rattle.std.proofs.lemmas.Bool.{cases_Bool}
use Rattle.std.proofs.lemmas.List.{take-append-drop, take-take}
use Rattle.std.proofs.lemmas.List.Elements.{All-head, All-tail}
use Rattle.std.proofs.lemmas.List.Quantifiers.{position-Some}
use Rattle.std.proofs.lemmas.Slice.Eq.{bytes_eq-Decides}
use Rattle.std.proofs.lemmas.Option.{none-some, same_Some, slice_get-get_or}
use Rattle.cmap_values.specs.CMapNames.{index_of_name}
use Rattle.cmap_values.specs.Names.{index_of_text, known_names}
use Rattle.cmap_values.specs.Files.{File}
use Rattle.cmap_values.specs.FilesSeen.{file_seen}
use Rattle.cmap_text.specs.TextFiles.{IsTextFile}
use Rattle.cmap_binary.specs.Bundles.{Bundle, IsBundle, PrefixTables, no_file_bytes}
use Rattle.cmap_binary.proofs.FrontsAlone.{ArePrefixFree, tables_free}
use Rattle.cmap_binary.specs.BinaryFiles.{IsBinaryFile, IsMarkedBinary, magic}
use Rattle.cmap_binary.proofs.OneFile.{one_file}
use Rattle.cmap_load.specs.Answers.{embedded, unless_absent}
use Rattle.cmap_load.specs.Layers.{Means}
use Rattle.cmap_binary_writer.specs.Keeps.{AnswerAlike, Keeps}
use Rattle.cmap_binary_writer.proofs.FileKept.{keeps}
use Rattle.cmap_bundle_maker.specs.MapsAlike.{AnswersAsTexts, HasMapsAlike, IsRead, MeanTheSame, OfBundle, OfTexts, text_named}
use Rattle.cmap_bundle_maker.specs.Slots.{IsFileFor, IsNamedBundle, IsTextBehind, is_index, source_at}
use Rattle.cmap_bundle_maker.specs.declared.source.Source.{Source}
use Rattle.cmap_bundle_maker.proofs.ChainsFollowed.{StandsFor, followed}
use Rattle.cmap_bundle_maker.proofs.TextsAmid.{behind_unmarked, text_before, text_behind}

-- ---- layers that answer alike
none_alike : AnswerAlike [] []
none_alike = record { cids = λ code len. refl; declared = λ code len. refl; texts = λ code. refl; metadata = refl; spaces = refl }

-- a file keeps itself
kept_itself : (file : File) → Keeps file file
kept_itself file = keeps file file.lists (record { spaces = refl; notdefs = refl; bfs = λ code. refl; one = λ code. refl; two = λ code. refl; three = λ code. refl; four = λ code. refl })

-- the bytes in the bundle stand for those of a text: what the one means is kept by what the other does
record Stands (given : Option PrefixTables) (tables : PrefixTables) (bytes stored : List ℕ) : Type 0 where
  there : (file : File) → Means given bytes file → (made : File) × Means (Some tables) stored made × Keeps file made
  back : (made : File) → Means (Some tables) stored made → (file : File) × Means given bytes file × Keeps file made

-- ---- a file of the bundle
-- unmarked bytes are a text by whatever tables
unmarked_means : (given : Option PrefixTables) (bytes : List ℕ) → (IsMarkedBinary bytes → ⊥) → (file : File) → Means given bytes file → IsTextFile bytes file
unmarked_means None bytes unmarked file means = means
unmarked_means (Some tables) bytes unmarked file means = elim means [ inl (marked, is) ↦ absurd (unmarked marked) | inr (_, is) ↦ is ]

text_means : (given : Option PrefixTables) (bytes : List ℕ) → (IsMarkedBinary bytes → ⊥) → (file : File) → IsTextFile bytes file → Means given bytes file
text_means None bytes unmarked file is = is
text_means (Some tables) bytes unmarked file is = inr (unmarked, is)

-- a binary file is marked as one, and has the version 1
binary_begins : (tables : PrefixTables) (bytes : List ℕ) (file : File) → IsBinaryFile tables bytes file → (rest : List ℕ) × (bytes ≡ magic ++ (1 ∷ rest))
unfolding IsBinaryFile
binary_begins tables bytes file (body, contents, (front, ignored, (size, after, field, (filled, split)), (head, is)), all, says) =
    let six : take 6 bytes ≡ magic ++ 1 ∷ [] = sym (take-take 6 size bytes (omega (arith, filled))) ∙ ap (take 6) (sym split.1) ∙ head in
    (drop 6 bytes, sym (take-append-drop 6 bytes) ∙ ap (λ front. front ++ drop 6 bytes) six)

module _ (given : Option PrefixTables) (tables : PrefixTables) (free : ArePrefixFree tables) (source : Source) (read : IsRead source) where
  stands_for : (stored : List ℕ) → IsFileFor tables (Some source) stored → Stands given tables read.text.now stored
  stands_for stored is = elim is [
    | inl stands ↦
        let written = stands.written in
        let (rest, begins) = binary_begins tables stored written.made written.is in
        let marked : IsMarkedBinary stored = (1 ∷ rest, begins) in record {
          there = λ file means. let same = read.only.alone file (unmarked_means given read.text.now read.unmarked file means) in (written.made, inl (marked, written.is), subst (λ f. Keeps f written.made) (sym same) written.keeps);
          back = λ made means. elim means [
            | inl (_, is_binary) ↦ (file_seen source.file.now, text_means given read.text.now read.unmarked _ read.only.holds, subst (Keeps (file_seen source.file.now)) (one_file tables free stored written.made made written.is is_binary) written.keeps)
            | inr (unmarked, _) ↦ absurd (unmarked marked)
          ];
        }
    | inr (unsayable, (text, text_is, behind)) ↦
        let same : text ≡ read.text = same_Some text read.text (sym text_is ∙ read.given) in
        let here = subst (λ (t : Bor (List ℕ)). IsTextBehind t.now stored) same behind in
        let unmarked = behind_unmarked read.text.now stored here in record {
          there = λ file means. (file, inr (unmarked, text_behind read.text.now stored here file (unmarked_means given read.text.now read.unmarked file means)), kept_itself file);
          back = λ made means.
              let is_text = unmarked_means (Some tables) stored unmarked made means in
              (made, text_means given read.text.now read.unmarked made (text_before read.text.now stored here (file_seen source.file.now) read.only.holds made is_text), kept_itself made);
        }
  ]

  -- it isn't what stands for a file that isn't there
  is_present : (stored : List ℕ) → IsFileFor tables (Some source) stored → stored ≢ no_file_bytes
  is_present stored is none = elim is [
    | inl stands ↦
        let written = stands.written in
        let (rest, begins) = binary_begins tables stored written.made written.is in
        let same : magic ++ (1 ∷ rest) ≡ no_file_bytes = sym begins ∙ none in
        let version : 1 ≡ 0 = ap (λ l. get_or l 5 0) same in
        omega (arith, version)
    | inr (unsayable, (text, text_is, (size, spaces, begins, plain, white, framed, four))) ↦
        let same : (codes "% text" ++ size) ++ (10 ∷ (text.now ++ spaces)) ≡ no_file_bytes = sym begins ∙ none in
        let first : 37 ≡ 98 = ap (λ l. get_or l 0 0) same in
        omega (arith, first)
  ]

present : (stored : List ℕ) → stored ≢ no_file_bytes → unless_absent stored ≡ Some stored
present stored other = elim (cases_Bool (bytes_eq stored no_file_bytes)) [
  | inl same ↦ absurd (other ((bytes_eq-Decides stored no_file_bytes).0 same))
  | inr unequal ↦ rw unequal refl
]

absent : (stored : List ℕ) → stored ≡ no_file_bytes → unless_absent stored ≡ None
absent stored is = rw is refl

-- ---- names
read_at : (sources : List Source) (place : ℕ) (source : Source) → All IsRead sources → source_at sources place ≡ Some source → IsRead source
read_at [] place source all is = absurd (none-some source is)
read_at (s ∷ sources) place source all is = elim (cases_Bool (is_index (index_of_name s.name) place)) [
  | inl here ↦ subst IsRead (same_Some s source (rw here at is)) (All-head IsRead s sources all)
  | inr other ↦ read_at sources place source (All-tail IsRead s sources all) (rw other at is)
]

index_within : (name : List ℕ) (place : ℕ) → index_of_text name ≡ Some place → place < 65
unfolding known_names
index_within name place is = (position-Some (λ known. bytes_eq known name) known_names place [] is).0

module _ (sources : List Source) (all : All IsRead sources) (bundle : Bundle) (size : length bundle.files ≡ 65) (free : ArePrefixFree bundle.tables)
    (each : (place : ℕ) (d : List ℕ) → place < 65 → IsFileFor bundle.tables (source_at sources place) (get_or bundle.files place d)) (given : Option PrefixTables) where
  text_at : (name : List ℕ) (place : ℕ) → index_of_text name ≡ Some place → text_named sources name ≡ option_and_then (λ source. option_copied source.text) (source_at sources place)
  text_at name place at = ap (λ o. option_and_then (λ place. option_and_then (λ source. option_copied source.text) (source_at sources place)) o) at

  stored_at : (name : List ℕ) (place : ℕ) → index_of_text name ≡ Some place → place < 65 → embedded (Some bundle) name ≡ unless_absent (get_or bundle.files place [])
  stored_at name place at within =
      ap (λ o. option_and_then unless_absent (option_and_then (λ at. slice_get bundle.files at) o)) at ∙ ap (option_and_then unless_absent) (slice_get-get_or bundle.files place [] (omega (arith, size, within)))

  no_text : (name : List ℕ) → index_of_text name ≡ None → text_named sources name ≡ None
  no_text name at = ap (λ o. option_and_then (λ place. option_and_then (λ source. option_copied source.text) (source_at sources place)) o) at

  none_stored : (name : List ℕ) → index_of_text name ≡ None → embedded (Some bundle) name ≡ None
  none_stored name at = ap (λ o. option_and_then unless_absent (option_and_then (λ at. slice_get bundle.files at) o)) at

  to_bundle : (name bytes : List ℕ) → OfTexts sources name (Some bytes) → (stored : List ℕ) × OfBundle bundle name (Some stored) × Stands given bundle.tables bytes stored
  to_bundle name bytes said = by (index_of_text name) refl
    where
      found : (place : ℕ) → index_of_text name ≡ Some place → (s : Option Source) → source_at sources place ≡ s → (stored : List ℕ) × OfBundle bundle name (Some stored) × Stands given bundle.tables bytes stored
      found place at None none = absurd (none-some bytes (sym (said ∙ text_at name place at ∙ ap (option_and_then (λ source. option_copied source.text)) none)))
      found place at (Some source) here =
          let read = read_at sources place source all here in
          let within = index_within name place at in
          let stored = get_or bundle.files place [] in
          let is_for = subst (λ s. IsFileFor bundle.tables s stored) here (each place [] within) in
          let text : bytes ≡ read.text.now = same_Some bytes read.text.now (said ∙ text_at name place at ∙ ap (option_and_then (λ source. option_copied source.text)) here ∙ ap option_copied read.given) in (
            stored,
            sym (stored_at name place at within ∙ present stored (is_present given bundle.tables free source read stored is_for)),
            subst (λ b. Stands given bundle.tables b stored) (sym text) (stands_for given bundle.tables free source read stored is_for),
          )

      by : (o : Option ℕ) → index_of_text name ≡ o → (stored : List ℕ) × OfBundle bundle name (Some stored) × Stands given bundle.tables bytes stored
      by None at = absurd (none-some bytes (sym (said ∙ no_text name at)))
      by (Some place) at = found place at (source_at sources place) refl

  to_texts : (name stored : List ℕ) → OfBundle bundle name (Some stored) → (bytes : List ℕ) × OfTexts sources name (Some bytes) × Stands given bundle.tables bytes stored
  to_texts name stored said = by (index_of_text name) refl
    where
      found : (place : ℕ) → index_of_text name ≡ Some place → (s : Option Source) → source_at sources place ≡ s → (bytes : List ℕ) × OfTexts sources name (Some bytes) × Stands given bundle.tables bytes stored
      found place at None none =
          let within = index_within name place at in
          let is_for = subst (λ s. IsFileFor bundle.tables s (get_or bundle.files place [])) none (each place [] within) in
          absurd (none-some stored (sym (said ∙ stored_at name place at within ∙ absent (get_or bundle.files place []) is_for)))
      found place at (Some source) here =
          let read = read_at sources place source all here in
          let within = index_within name place at in
          let held = get_or bundle.files place [] in
          let is_for = subst (λ s. IsFileFor bundle.tables s held) here (each place [] within) in
          let same : stored ≡ held = same_Some stored held (said ∙ stored_at name place at within ∙ present held (is_present given bundle.tables free source read held is_for)) in (
            read.text.now,
            sym (text_at name place at ∙ ap (option_and_then (λ source. option_copied source.text)) here ∙ ap option_copied read.given),
            subst (Stands given bundle.tables read.text.now) (sym same) (stands_for given bundle.tables free source read held is_for),
          )

      by : (o : Option ℕ) → index_of_text name ≡ o → (bytes : List ℕ) × OfTexts sources name (Some bytes) × Stands given bundle.tables bytes stored
      by None at = absurd (none-some stored (sym (said ∙ none_stored name at)))
      by (Some place) at = found place at (source_at sources place) refl

  files_there : (bytes stored : List ℕ) → Stands given bundle.tables bytes stored → (file : File) → Means given bytes file → (made : File) × Means (Some bundle.tables) stored made × StandsFor AnswerAlike file made
  files_there bytes stored stands file means = let (made, is, keep) = stands.there file means in (made, is, record { uses = keep.uses; over = keep.answers })

  files_back : (stored bytes : List ℕ) → Stands given bundle.tables bytes stored → (made : File) → Means (Some bundle.tables) stored made → (file : File) × Means given bytes file × StandsFor (λ layers others. AnswerAlike others layers) made file
  files_back stored bytes stands made means = let (file, is, keep) = stands.back made means in (file, is, record { uses = sym keep.uses; over = λ below others alike. keep.answers others below alike })

  alike : (file : List ℕ) → MeanTheSame given bundle.tables file → HasMapsAlike sources bundle given file
  alike file same =
      let top : Stands given bundle.tables file file = record { there = λ f means. (f, (same f).0 means, kept_itself f); back = λ f means. (f, (same f).1 means, kept_itself f) } in record {
        bundled = followed AnswerAlike (Means given) (Means (Some bundle.tables)) (OfTexts sources) (OfBundle bundle) (Stands given bundle.tables) none_alike files_there to_bundle 16 file file top;
        unbundled = followed (λ layers others. AnswerAlike others layers) (Means (Some bundle.tables)) (Means given) (OfBundle bundle) (OfTexts sources) (λ stored bytes. Stands given bundle.tables bytes stored) none_alike files_back to_texts 16 file file top;
      }

bundle_free : (bytes : List ℕ) (bundle : Bundle) → IsBundle bytes bundle → ArePrefixFree bundle.tables
unfolding IsBundle
bundle_free bytes bundle (text, rest, sized, (holds, files)) = tables_free text bundle.tables holds

pub answers_as_texts : (sources : List Source) (bytes : List ℕ) → IsNamedBundle sources bytes → AnswersAsTexts sources bytes
answers_as_texts sources bytes named all bundle only given file same =
    let made : Bundle = record { tables = named.tables; files = named.texts } in
    let one : made ≡ bundle = only.alone made named.is in
    subst (λ b. HasMapsAlike sources b given file) one
    (alike sources all made named.all (bundle_free bytes made named.is) named.each given file (subst (λ b. MeanTheSame given b.tables file) (sym one) same))
