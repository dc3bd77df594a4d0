-- Obstacles of bundles.
use Rattle.std.proofs.Common.{◌≡◌, ◌∙◌, ℕ, zero, suc, ◌+◌, ◌<◌, ◌^◌, inl, inr, true, false, List, [], ◌∷◌, ◌++◌, Some, None, get_or, length, take, refl, ap, sym, subst, arith}
use Rattle.std.specs.Prelude.{◌⊎◌, Option, IsSome, is_some}
use lib.Dec.{eqb}
use Rattle.std.specs.Option.{option_eq}
use Rattle.std.specs.List.{All, Any, Contains, flat_map}
use Rattle.std.proofs.lemmas.Bool.{cases_Bool, eqb-true}
use Rattle.std.proofs.lemmas.List.{take_more}
use Rattle.std.proofs.lemmas.List.Elements.{All-append, All-cons, All-contains, All-head, All-nil, All-push, All-tail, All-weaker}
use Rattle.std.proofs.lemmas.Option.{slice_get_read}
use Rattle.cmap_values.specs.CMapNames.{index_of_name}
use Rattle.cmap_values.specs.Files.{Declaration, File}
use Rattle.cmap_values.specs.FilesSeen.{file_seen}
use Rattle.cmap_values.specs.Outcomes.{RefusesWith}
use Rattle.cmap_values.specs.declared.fault.Fault.TheVariants.{Memory, Refused}
use Rattle.cmap_values.specs.declared.fault.Fault.{Fault}
use Rattle.cmap_binary.specs.Bundles.{PrefixTables}
use Rattle.cmap_binary.specs.PrefixWords.{CodeWord}
use Rattle.cmap_bundle_maker.specs.Bundled.{HaveSymbols}
use Rattle.cmap_bundle_maker.specs.Gathered.{AreTablesFor, counts_in, deltas_in, segments_in, slot_segments}
use Rattle.cmap_bundle_maker.specs.Slots.{AllHavePlaces, AreSlotsFor, IsSlotFor, is_index, source_at}
use Rattle.cmap_bundle_maker.specs.Tables.{table_for}
use Rattle.cmap_binary_writer.specs.Obstacles.{HasNoWord, IsLarge, IsPreparedObstacle}
use Rattle.cmap_binary_writer.specs.PreparedFiles.{IsPrepared}
use Rattle.cmap_binary_writer.specs.Segments.{DeclareEach}
use Rattle.cmap_binary_writer.specs.Spelled.{IsNoSymbol}
use Rattle.cmap_bundle_maker.specs.Unwritables.{AreSound, HasLongSlot, IsObstacleOf, IsPlaceless, IsSlotObstacle, IsSlotsObstacle, IsSound, IsTablesObstacle, IsUnwritable, IsUnwritableAs, IsUnwritableAt, IsUnwritableOf, IsWholeObstacle}
use Rattle.cmap_bundle_maker.specs.WordsMissing.{IsNoWordIf}
use Rattle.cmap_bundle_maker.proofs.BundlesWritten.{is_index_tested}
use Rattle.cmap_bundle_maker.proofs.TablesMade.{HasWordFor, HasWords, few_frequencies, has_words, some_table}
use Rattle.cmap_binary_writer.proofs.ObstaclesMet.{not_large}
use Rattle.cmap_binary_writer.proofs.Told.{Any-left, Any-right}
use Rattle.cmap_binary_writer.specs.declared.obstacle.Obstacle.TheVariants.{NoPlace, NoWord, TooLong}
use Rattle.cmap_binary_writer.specs.declared.obstacle.Obstacle.{Obstacle}
use Rattle.cmap_binary_writer.specs.declared.prepared.Prepared.{Prepared}
use Rattle.cmap_bundle_maker.specs.declared.unwritable.Unwritable.{Unwritable}
use Rattle.cmap_binary_writer.specs.declared.segments.Segment.{Segment}
use Rattle.cmap_bundle_maker.specs.declared.slots.Slot.{Slot}
use Rattle.cmap_bundle_maker.specs.declared.slots.Slot.TheVariants as slot
use Rattle.cmap_bundle_maker.specs.declared.source.Source.{Source}

-- ---- lists, one after another
any_flat : {X Y : Type 0} (f : X → List Y) (Q : Y → Type 0) (xs : List X) → Any (λ x. Any Q (f x)) xs → Any Q (flat_map f xs)
any_flat f Q [] (k, y, within, is, any) = absurd (omega (arith, within))
any_flat f Q (x ∷ xs) (zero, y, within, is, any) = Any-left Q (f x) (flat_map f xs) (subst (λ z. Any Q (f z)) (sym is) any)
any_flat f Q (x ∷ xs) (suc k, y, within, is, any) = Any-right Q (f x) (flat_map f xs) (any_flat f Q xs (k, y, omega (arith, within), is, any))

all_flat : {X Y : Type 0} (f : X → List Y) (P : Y → Type 0) (xs : List X) → All (λ x. All P (f x)) xs → All P (flat_map f xs)
all_flat f P [] all = All-nil P
all_flat f P (x ∷ xs) all = All-append P (f x) (flat_map f xs) (All-head (λ x. All P (f x)) x xs all) (all_flat f P xs (All-tail (λ x. All P (f x)) x xs all))

-- of all one thing holds, and of one another that it excludes
excluded : {X : Type 0} (P Q : X → Type 0) (xs : List X) → All P xs → Any Q xs → ((x : X) → P x → Q x → ⊥) → ⊥
excluded P Q xs all (k, x, within, is, q) clash = clash x (subst P is (all k x within)) q

-- ---- segments of files are sound
sound_each : (segments : List Segment) (parts : List (List Declaration)) → DeclareEach segments parts → All IsSound segments
sound_each [] parts each = All-nil IsSound
sound_each (s ∷ segments) [] each = absurd each
sound_each (s ∷ segments) (p ∷ parts) (first, each) = All-cons IsSound s segments (record { deltas = first.codes; counts = first.small; small = not_large s p first }) (sound_each segments parts each)

sound_prepared : (file : File) (prepared : Prepared) → IsPrepared file prepared → All IsSound prepared.segments.items
sound_prepared file prepared is = sound_each prepared.segments.items is.parts is.segments

sound_slot : (source : Option Source) (s : Slot) → IsSlotFor source s → All IsSound (slot_segments s)
sound_slot None slot.Absent is = All-nil IsSound
sound_slot None (slot.File p) is = absurd is
sound_slot None (slot.Text t) is = absurd is
sound_slot (Some source) slot.Absent is = absurd is
sound_slot (Some source) (slot.File p) is = sound_prepared (file_seen source.file.now) p is.says
sound_slot (Some source) (slot.Text t) is = All-nil IsSound

pub sound_for : (sources : List Source) (slots : List Slot) (count : ℕ) → AreSlotsFor sources slots count → AreSound slots
sound_for sources slots count (size, each) = all_flat slot_segments IsSound slots (λ k d within. sound_slot (source_at sources k) (get_or slots k d) (each k d (omega (arith, within, size))))

-- ---- their numbers
sound_deltas : (slots : List Slot) → AreSound slots → All (λ n. n < 2 ^ 32) (deltas_in (segments_in slots))
sound_deltas slots sound = all_flat (λ (s : Segment). s.deltas.items) (λ n. n < 2 ^ 32) (segments_in slots) (All-weaker IsSound (λ (s : Segment). All (λ n. n < 2 ^ 32) s.deltas.items) (λ s h. h.deltas) (segments_in slots) sound)

sound_counts : (slots : List Slot) → AreSound slots → All (λ n. n < 2 ^ 8) (counts_in (segments_in slots))
sound_counts slots sound = all_flat (λ (s : Segment). s.counts.items) (λ n. n < 2 ^ 8) (segments_in slots) (All-weaker IsSound (λ (s : Segment). All (λ n. n < 2 ^ 8) s.counts.items) (λ s h. h.counts) (segments_in slots) sound)

pub by_word : (slots : List Slot) (fault : Fault Obstacle) → IsNoWordIf ((table_for (deltas_in (segments_in slots)) ≡ None) ⊎ (table_for (counts_in (segments_in slots)) ≡ None)) fault → RefusesWith (λ obstacle. AreSound slots → IsWholeObstacle slots obstacle) fault
by_word slots (Refused NoWord) (inl none) = λ sound. none
by_word slots (Refused NoWord) (inr none) = λ sound. let few = few_frequencies (counts_in (segments_in slots)) (2 ^ 8) (sound_counts slots sound) in absurd (some_table (counts_in (segments_in slots)) (omega (arith, few)) none)
by_word slots (Refused other) h = absurd h
by_word slots Memory h = tt

-- ---- the tables for these numbers
no_word : (table : List CodeWord) (n : ℕ) → HasWordFor table n → IsNoSymbol table n → ⊥
no_word table n (k, w, within, is, symbol) none = none k w within (ap (λ (w : CodeWord). w.symbol) is ∙ symbol)

module _ (tables : PrefixTables) (slots : List Slot) (spelled : AreTablesFor slots tables) where
  deltas : HasWords (deltas_in (segments_in slots)) tables.delta
  deltas = has_words (deltas_in (segments_in slots)) tables.delta spelled.deltas

  counts : HasWords (counts_in (segments_in slots)) tables.count
  counts = has_words (counts_in (segments_in slots)) tables.count spelled.counts

  symbols_fit : AreSound slots → HaveSymbols tables
  symbols_fit sound = record {
    deltas = All-weaker (λ w. Contains (deltas_in (segments_in slots)) w.symbol) (λ w. w.symbol < 2 ^ 32) (λ w h. All-contains (λ n. n < 2 ^ 32) (deltas_in (segments_in slots)) w.symbol (sound_deltas slots sound) h) tables.delta deltas.handed;
    counts = All-weaker (λ w. Contains (counts_in (segments_in slots)) w.symbol) (λ w. w.symbol < 2 ^ 8) (λ w h. All-contains (λ n. n < 2 ^ 8) (counts_in (segments_in slots)) w.symbol (sound_counts slots sound) h) tables.count counts.handed;
  }

  all_spelled : Any (HasNoWord tables) (segments_in slots) → ⊥
  all_spelled (k, s, within, is, inl none) = excluded (HasWordFor tables.delta) (IsNoSymbol tables.delta) (deltas_in (segments_in slots)) deltas.known (any_flat (λ (s : Segment). s.deltas.items) (IsNoSymbol tables.delta) (segments_in slots) (k, s, within, is, none)) (no_word tables.delta)
  all_spelled (k, s, within, is, inr none) = excluded (HasWordFor tables.count) (IsNoSymbol tables.count) (counts_in (segments_in slots)) counts.known (any_flat (λ (s : Segment). s.counts.items) (IsNoSymbol tables.count) (segments_in slots) (k, s, within, is, none)) (no_word tables.count)

  words : AreSound slots → IsTablesObstacle tables slots NoWord → ⊥
  words sound (inl unfit) = unfit (symbols_fit sound)
  words sound (inr any) = all_spelled (any_flat slot_segments (HasNoWord tables) slots any)

  too_long : AreSound slots → IsTablesObstacle tables slots TooLong → HasLongSlot slots
  too_long sound (k, s, within, is, inl large) = absurd (excluded IsSound IsLarge (segments_in slots) sound (any_flat slot_segments IsLarge slots (k, s, within, is, large)) (λ x h l. h.small l))
  too_long sound (k, s, within, is, inr long) = record { tables = tables; spelled = spelled; long = (k, s, within, is, long) }

  pub by_tables : (o : Obstacle) → IsTablesObstacle tables slots o → AreSound slots → IsWholeObstacle slots o
  by_tables NoWord h sound = absurd (words sound h)
  by_tables TooLong h sound = too_long sound h
  by_tables other (k, s, within, is, h) sound = absurd h

-- what stops one stops all
pub slot_among : (tables : PrefixTables) (slots : List Slot) (i : ℕ) (s : Slot) → i < length slots → s ≡ get_or slots i s → (o : Obstacle) → IsSlotObstacle tables s o → IsSlotsObstacle tables slots o
slot_among tables slots i s within is o h = (i, s, within, sym is, h)

pub by_slots : (tables : PrefixTables) (slots : List Slot) (o : Obstacle) → IsSlotsObstacle tables slots o → IsTablesObstacle tables slots o
by_slots tables slots NoWord h = inr h
by_slots tables slots TooLong h = h
by_slots tables slots other h = h

-- what stops what is prepared
pub by_prepared : (tables : PrefixTables) (prepared : Prepared) (o : Obstacle) → IsPreparedObstacle tables prepared o → IsSlotObstacle tables (slot.File prepared) o
by_prepared tables prepared NoWord h = h
by_prepared tables prepared TooLong h = h
by_prepared tables prepared other h = absurd h

-- ---- the first source of a name
is_named : (o : Option ℕ) (place : ℕ) → option_eq eqb o (Some place) ≡ true → o ≡ Some place
is_named None place e = cc
is_named (Some i) place e = ap Some (eqb-true i place e)

none_push : (sources : List Source) (s : Source) (place : ℕ) → source_at sources place ≡ None → is_index (index_of_name s.name) place ≡ false → source_at (sources ++ s ∷ []) place ≡ None
none_push [] s place none other = rw other refl
none_push (x ∷ sources) s place none other = elim (cases_Bool (is_index (index_of_name x.name) place)) [
  | inl here ↦ let some : Some x ≡ None = rw here at none in cc
  | inr later ↦ rw later (none_push sources s place (rw later at none) other)
]

pub none_more : (sources : List Source) (i : ℕ) (s : Source) (place : ℕ) → i < length sources → s ≡ get_or sources i s → source_at (take i sources) place ≡ None → option_eq eqb (index_of_name s.name) (Some place) ≡ false → source_at (take (i + 1) sources) place ≡ None
none_more sources i s place within here none other =
    let parted : take (i + 1) sources ≡ take i sources ++ s ∷ [] = take_more sources i s within ∙ ap (λ x. take i sources ++ x ∷ []) (sym here) in
    ap (λ ss. source_at ss place) parted ∙ none_push (take i sources) s place none (sym (is_index_tested (index_of_name s.name) place) ∙ other)

pub unwritable_at : (sources : List Source) (i : ℕ) (s : Source) (place : ℕ) → i < length sources → s ≡ get_or sources i s → option_eq eqb (index_of_name s.name) (Some place) ≡ true → source_at (take i sources) place ≡ None → (u : Unwritable) → IsUnwritableAs s i u → IsUnwritableAt sources place u
unwritable_at sources i s place within here name first u (index_is, none, h) = record {
  index = i;
  is = index_is;
  source = s;
  at_index = slice_get_read sources (length sources) i s refl within here;
  obstacle_is = h;
  textless = none;
  named = is_named (index_of_name s.name) place name;
  first = first;
}

unwritable : (sources : List Source) (index : ℕ) (o : Obstacle) → IsUnwritable sources index o → IsObstacleOf sources (Some index) o
unwritable sources index NoPlace h = absurd h.obstacle_is
unwritable sources index other h = h

pub unwritable_of : (sources : List Source) (place : ℕ) (slots : List Slot) → AllHavePlaces sources → AreSlotsFor sources slots place → (u : Unwritable) → IsUnwritableAt sources place u → IsUnwritableOf sources u
unwritable_of sources place slots all below u h = subst (λ o. IsObstacleOf sources o u.obstacle) (sym h.is) (unwritable sources h.index u.obstacle (record {
  source = h.source;
  at_index = h.at_index;
  obstacle_is = h.obstacle_is;
  textless = h.textless;
  place = place;
  named = h.named;
  first = h.first;
  all = all;
  below = (slots, below);
}))

-- ---- names with places
pub is_missing : (o : Option ℕ) → is_some o ≡ false → o ≡ None
is_missing None e = refl
is_missing (Some i) e = let none : true ≡ false = e in cc

pub placeless : (sources : List Source) (i : ℕ) (s : Source) → i < length sources → s ≡ get_or sources i s → index_of_name s.name ≡ None → AllHavePlaces (take i sources) → IsPlaceless sources i
placeless sources i s within here none before = record { source = s; at_index = slice_get_read sources (length sources) i s refl within here; placeless = none; before = before }

pub places_more : (sources : List Source) (i : ℕ) (s : Source) → i < length sources → s ≡ get_or sources i s → IsSome (index_of_name s.name) → AllHavePlaces (take i sources) → AllHavePlaces (take (i + 1) sources)
places_more sources i s within here some before =
    let parted : take (i + 1) sources ≡ take i sources ++ s ∷ [] = take_more sources i s within ∙ ap (λ x. take i sources ++ x ∷ []) (sym here) in
    subst AllHavePlaces (sym parted) (All-push (λ source. IsSome (index_of_name source.name)) (take i sources) s before some)
