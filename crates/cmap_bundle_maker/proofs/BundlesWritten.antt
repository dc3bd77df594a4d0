-- The front of a bundle, and its files.
use Rattle.std.proofs.Common.{◌≡◌, ℕ, zero, suc, ◌+◌, ◌^◌, ◌<◌, ◌≤◌, inl, inr, true, false, List, [], ◌∷◌, ◌++◌, Some, None, length, get_or, drop, take, refl, ap, ◌∙◌, sym, subst, arith}
use Rattle.std.specs.Prelude.{Option, codes, if◌then◌else◌}
use lib.Dec.{eqb}
use Rattle.std.specs.Option.{option_eq}
use Rattle.std.proofs.lemmas.Option.{same_Some, slice_get_read}
use Rattle.std.specs.List.{All}
use Rattle.std.proofs.lemmas.List.Elements.{All-weaker}
use Rattle.std.proofs.lemmas.List.{append-nil, drop_more, take_more}
use Rattle.cmap_values.specs.CMapNames.{index_of_name}
use Rattle.cmap_values.specs.Files.{File}
use Rattle.cmap_values.specs.FilesSeen.{file_seen}
use Rattle.cmap_binary.specs.TableFronts.{TableAt}
use Rattle.cmap_binary.specs.Bundles.{HoldsTables, IsBundle, PrefixTables, no_file_bytes}
use Rattle.cmap_binary.specs.Fronts.{FramedAt, SizedAt}
use Rattle.cmap_bundle_maker.specs.Bundled.{HaveSymbols, IsFileWritten}
use Rattle.cmap_binary_writer.specs.Encoded.{HaveOneWordEach}
use Rattle.cmap_binary_writer.specs.Obstacles.{IsPreparedFor}
use Rattle.cmap_bundle_maker.specs.Gathered.{AreTablesFor}
use Rattle.cmap_bundle_maker.specs.Slots.{AllHavePlaces, AreSlotsFor, AreSlotsWritten, IsBundleOfSlots, IsFileFor, IsNamedBundle, IsSlotFor, IsSlotWritten, is_index, places, source_at}
use Rattle.cmap_binary_writer.specs.Written.{Appends, Writes, WritesAll, IsFramedFile}
use Rattle.cmap_binary_writer.specs.declared.prepared.Prepared.{Prepared}
use Rattle.cmap_bundle_maker.specs.declared.slots.Slot.{Slot}
use Rattle.cmap_bundle_maker.specs.declared.slots.Slot.TheVariants as slot
use Rattle.cmap_bundle_maker.specs.declared.source.Source.{Source}
use Rattle.cmap_binary_writer.proofs.FilesWritten.{AllOf-written, appended_more, appended_none}
use Rattle.cmap_binary_writer.proofs.FrontsWritten.{FramedAt-written}

pub HoldsTables-written : (tables : PrefixTables) (mid text : List ℕ) → Appends [] mid (Writes (TableAt 4) tables.delta) → Appends mid text (Writes (TableAt 1) tables.count) → HoldsTables text tables
HoldsTables-written tables mid text (first, first_is, delta) (second, second_is, count) = (
  tables.delta,
  second,
  subst (λ bs. TableAt 4 bs (tables.delta, second)) (sym (second_is ∙ ap (λ bs. bs ++ second) first_is)) (delta second),
  (tables.count, [], subst (λ bs. TableAt 1 bs (tables.count, [])) (append-nil second) (count []), refl),
)

pub bundle_written : (tables : PrefixTables) (slots : List Slot) (text mid bytes : List ℕ) → HoldsTables text tables → Appends [] mid (Writes SizedAt text) → (texts : List (List ℕ)) → Appends mid bytes (WritesAll (FramedAt 6) texts) → AreSlotsWritten tables slots texts → AreTablesFor slots tables → HaveOneWordEach tables → IsBundleOfSlots slots bytes
unfolding IsBundle
bundle_written tables slots text mid bytes holds (first, first_is, sized) texts (rest, rest_is, all) each spelled alone = (
  tables,
  texts,
  (
    text,
    rest,
    subst (λ bs. SizedAt bs (text, rest)) (sym (rest_is ∙ ap (λ bs. bs ++ rest) first_is)) (sized rest),
    (holds, AllOf-written (FramedAt 6) texts rest all),
  ),
  each,
  spelled,
  alone,
)

file_written : (tables : PrefixTables) (file : File) (p : Prepared) (text : List ℕ) → IsPreparedFor file p → IsSlotWritten tables (slot.File p) text → IsFileWritten tables file text
file_written tables file p text is written = record { encoded = (p, is, written.0); written = written.2 file is.says }

-- ---- a bundle of files by their names
for_source : (tables : PrefixTables) (source : Option Source) (s : Slot) (text : List ℕ) → IsSlotFor source s → IsSlotWritten tables s text → IsFileFor tables source text
for_source tables None slot.Absent text is written = written
for_source tables None (slot.File p) text is written = absurd is
for_source tables None (slot.Text t) text is written = absurd is
for_source tables (Some source) slot.Absent text is written = absurd is
for_source tables (Some source) (slot.File p) text is written = inl (file_written tables (file_seen source.file.now) p text is written)
for_source tables (Some source) (slot.Text t) text (unsayable, is) (written, short) = inr (unsayable, (t, is, written))

pub slots_length : (tables : PrefixTables) (slots : List Slot) (texts : List (List ℕ)) → AreSlotsWritten tables slots texts → length texts ≡ length slots
slots_length tables [] [] written = refl
slots_length tables [] (t ∷ texts) written = absurd written
slots_length tables (s ∷ slots) [] written = absurd written
slots_length tables (s ∷ slots) (t ∷ texts) (here, written) = ap suc (slots_length tables slots texts written)

pub slot_written : (tables : PrefixTables) (slots : List Slot) (texts : List (List ℕ)) (i : ℕ) (d : Slot) (e : List ℕ) → AreSlotsWritten tables slots texts → i < length slots → IsSlotWritten tables (get_or slots i d) (get_or texts i e)
slot_written tables [] texts i d e written within = absurd (omega arith)
slot_written tables (s ∷ slots) [] i d e written within = absurd written
slot_written tables (s ∷ slots) (t ∷ texts) zero d e (here, written) within = here
slot_written tables (s ∷ slots) (t ∷ texts) (suc i) d e (here, written) within = slot_written tables slots texts i d e written (omega arith)

pub bundle_of_sources : (sources : List Source) (slots : List Slot) (bytes : List ℕ) → AllHavePlaces sources → AreSlotsFor sources slots places → IsBundleOfSlots slots bytes → IsNamedBundle sources bytes
bundle_of_sources sources slots bytes named (count, each) (tables, texts, is, written, spelled, alone) = record {
  named = named;
  tables = tables;
  texts = texts;
  is = is;
  all = slots_length tables slots texts written ∙ count;
  each = λ place e within. for_source tables (source_at sources place) (get_or slots place slot.Absent) (get_or texts place e) (each place slot.Absent within) (slot_written tables slots texts place slot.Absent e written (omega (arith, count, within)));
  slots = slots;
  made = (count, each);
  spelled = spelled;
}

-- ---- files that are written one after another
written_push : (tables : PrefixTables) (slots : List Slot) (texts : List (List ℕ)) (s : Slot) (text : List ℕ) → AreSlotsWritten tables slots texts → IsSlotWritten tables s text → AreSlotsWritten tables (slots ++ s ∷ []) (texts ++ text ∷ [])
written_push tables [] [] s text each here = (here, tt)
written_push tables [] (t ∷ texts) s text each here = absurd each
written_push tables (x ∷ slots) [] s text each here = absurd each
written_push tables (x ∷ slots) (t ∷ texts) s text (first, each) here = (first, written_push tables slots texts s text each here)

-- the slots so far are written
abbrev pub SlotsWrittenTo : PrefixTables → List Slot → List ℕ → List ℕ → Type 0
SlotsWrittenTo tables slots old now = (texts : List (List ℕ)) × Appends old now (WritesAll (FramedAt 6) texts) × AreSlotsWritten tables slots texts

no_file_framed : IsFramedFile no_file_bytes
no_file_framed rest = FramedAt-written (codes "bcmap" ++ 0 ∷ []) [] no_file_bytes rest (record { bytes_are = refl; small = omega arith })

slot_framed : (tables : PrefixTables) (s : Slot) (text : List ℕ) → IsSlotWritten tables s text → IsFramedFile text
slot_framed tables (slot.File p) text written = written.1
slot_framed tables (slot.Text t) text ((size, spaces, is, small, blank, framed, four), short) = framed
slot_framed tables slot.Absent text written = subst IsFramedFile (sym written) no_file_framed

pub slots_written_none : (tables : PrefixTables) (old : List ℕ) → SlotsWrittenTo tables [] old old
slots_written_none tables old = ([], appended_none (FramedAt 6) old, tt)

pub slots_written_more : (tables : PrefixTables) (slots : List Slot) (i : ℕ) (s : Slot) (old now new : List ℕ) → i < length slots → s ≡ get_or slots i s → SlotsWrittenTo tables (take i slots) old now → Appends now new (IsSlotWritten tables s) → SlotsWrittenTo tables (take (i + 1) slots) old new
slots_written_more tables slots i s old now new within here (texts, all, each) (text, is, written) =
    let parted : take (i + 1) slots ≡ take i slots ++ s ∷ [] = take_more slots i s within ∙ ap (λ x. take i slots ++ x ∷ []) (sym here) in (
      texts ++ text ∷ [],
      appended_more (FramedAt 6) old now new texts text all (text, is, slot_framed tables s text written),
      subst (λ ss. AreSlotsWritten tables ss (texts ++ text ∷ [])) (sym parted) (written_push tables (take i slots) texts s text each written),
    )

-- symbols that fit
pub have_symbols : (tables : PrefixTables) → All (λ p. p.symbol ≤ 255) tables.count → All (λ p. p.symbol ≤ 4294967295) tables.delta → HaveSymbols tables
have_symbols tables counts deltas = record {
  deltas = All-weaker (λ p. p.symbol ≤ 4294967295) (λ p. p.symbol < 2 ^ 32) (λ p h. omega (arith, h)) tables.delta deltas;
  counts = All-weaker (λ p. p.symbol ≤ 255) (λ p. p.symbol < 2 ^ 8) (λ p h. omega (arith, h)) tables.count counts;
}

-- ---- the first source of a name
pub is_index_tested : (o : Option ℕ) (place : ℕ) → option_eq eqb o (Some place) ≡ is_index o place
is_index_tested None place = refl
is_index_tested (Some i) place = refl

pub same_item : {X : Type 0} (xs : List X) (i : ℕ) (x y : X) → i < length xs → x ≡ get_or xs i x → y ≡ get_or xs i y → x ≡ y
same_item xs i x y within first second = same_Some x y (sym (slice_get_read xs (length xs) i x refl within first) ∙ slice_get_read xs (length xs) i y refl within second)

pub source_found : (sources : List Source) (i : ℕ) (s : Source) (place : ℕ) → i < length sources → s ≡ get_or sources i s → option_eq eqb (index_of_name s.name) (Some place) ≡ true → source_at (drop i sources) place ≡ Some s
source_found sources i s place within here is =
    let rest : drop i sources ≡ s ∷ drop (i + 1) sources = drop_more sources i s within ∙ ap (λ x. x ∷ drop (i + 1) sources) (sym here) in
    let yes : is_index (index_of_name s.name) place ≡ true = sym (is_index_tested (index_of_name s.name) place) ∙ is in
    ap (λ ss. source_at ss place) rest ∙ ap (λ b. if b then Some s else source_at (drop (i + 1) sources) place) yes

pub source_passed : (sources : List Source) (i : ℕ) (s : Source) (place : ℕ) → i < length sources → s ≡ get_or sources i s → option_eq eqb (index_of_name s.name) (Some place) ≡ false → source_at (drop i sources) place ≡ source_at (drop (i + 1) sources) place
source_passed sources i s place within here other =
    let rest : drop i sources ≡ s ∷ drop (i + 1) sources = drop_more sources i s within ∙ ap (λ x. x ∷ drop (i + 1) sources) (sym here) in
    let passed : is_index (index_of_name s.name) place ≡ false = sym (is_index_tested (index_of_name s.name) place) ∙ other in
    ap (λ ss. source_at ss place) rest ∙ ap (λ b. if b then Some s else source_at (drop (i + 1) sources) place) passed
