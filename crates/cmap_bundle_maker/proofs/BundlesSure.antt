-- A bundle that is made has no obstacle.
use Rattle.std.proofs.Common.{◌≡◌, ℕ, zero, suc, ◌<◌, inl, inr, false, true, List, [], ◌∷◌, Some, None, length, get_or, take, refl, ap, ◌∙◌, sym, subst, arith}
use Rattle.std.specs.Prelude.{Option, bytes_eq, is_some, slice_get}
use Rattle.std.specs.Borrow.{Bor}
use Rattle.std.proofs.lemmas.Bool.{cases_Bool, eq-eqb}
use Rattle.std.proofs.lemmas.List.Quantifiers.{position-Some}
use Rattle.std.proofs.lemmas.Option.{get_or_from_slice_get, none-some, same_Some, slice_get_within}
use Rattle.cmap_values.specs.CMapNames.{index_of_name, name_bytes}
use Rattle.cmap_values.specs.Names.{known_names}
use Rattle.cmap_values.specs.declared.names.CMapName.{CMapName}
use Rattle.cmap_values.specs.declared.names.CMapName.TheVariants.{Custom}
use Rattle.cmap_values.specs.Files.{File}
use Rattle.cmap_values.specs.FilesSeen.{file_seen}
use Rattle.cmap_binary.specs.Bundles.{PrefixTables}
use Rattle.cmap_binary_writer.specs.Encoded.{HaveOneWordEach}
use Rattle.cmap_binary_writer.specs.Obstacles.{IsPreparedFor}
use Rattle.cmap_binary_writer.specs.declared.obstacle.Obstacle.{Obstacle}
use Rattle.cmap_binary_writer.specs.declared.obstacle.Obstacle.TheVariants.{NoPlace, NoWord, TooLong}
use Rattle.cmap_binary_writer.proofs.EncodedAlone.{no_obstacle}
use Rattle.cmap_bundle_maker.specs.Gathered.{counts_in, deltas_in, segments_in}
use Rattle.cmap_bundle_maker.specs.Slots.{AreSlotsFor, IsBundleOfSlots, IsFileFor, IsNamedBundle, IsSlotFor, IsSlotWritten, is_index, places, source_at}
use Rattle.cmap_bundle_maker.specs.Tables.{table_for}
use Rattle.cmap_bundle_maker.specs.Unwritables.{HasLongSlot, IsLongSlot, IsObstacleOf, IsPlaceless, IsUnwritable, IsUnwritableOf, IsWholeObstacle}
use Rattle.cmap_bundle_maker.specs.declared.slots.Slot.{Slot}
use Rattle.cmap_bundle_maker.specs.declared.slots.Slot.TheVariants as slot
use Rattle.cmap_bundle_maker.specs.declared.source.Source.{Source}
use Rattle.cmap_bundle_maker.specs.declared.unwritable.Unwritable.{Unwritable}
use Rattle.cmap_bundle_maker.proofs.BundlesWritten.{slot_written}
use Rattle.cmap_bundle_maker.proofs.SlotsAlone.{numbers_alone}

-- ---- two answers to what is to be written
-- they are of one file, or of one text, or of none
abbrev SameSlot : Slot → Slot → Type 0
SameSlot (slot.File p) (slot.File q) = (file : File) × IsPreparedFor file p × IsPreparedFor file q
SameSlot (slot.Text u) (slot.Text v) = u ≡ v
SameSlot slot.Absent slot.Absent = Unit {0}
SameSlot _ _ = ⊥

same_for : (source : Option Source) (s t : Slot) → IsSlotFor source s → IsSlotFor source t → SameSlot s t
same_for None slot.Absent slot.Absent first second = tt
same_for None slot.Absent (slot.File q) first second = absurd second
same_for None slot.Absent (slot.Text v) first second = absurd second
same_for None (slot.File p) t first second = absurd first
same_for None (slot.Text u) t first second = absurd first
same_for (Some source) (slot.File p) (slot.File q) first second = (file_seen source.file.now, first, second)
same_for (Some source) (slot.File p) (slot.Text v) first ((obstacle, holds), text) = absurd (first.sayable obstacle holds)
same_for (Some source) (slot.File p) slot.Absent first second = absurd second
same_for (Some source) (slot.Text u) (slot.File q) ((obstacle, holds), text) second = absurd (second.sayable obstacle holds)
same_for (Some source) (slot.Text u) (slot.Text v) (unsayable, first) (unsayable_too, second) = same_Some u v (sym first ∙ second)
same_for (Some source) (slot.Text u) slot.Absent first second = absurd second
same_for (Some source) slot.Absent t first second = absurd first

abbrev AreSameFrom : List Slot → List Slot → Type 0
AreSameFrom a b = (k : ℕ) (d : Slot) → k < length a → SameSlot (get_or a k d) (get_or b k d)

-- ---- what all together can't be
no_long : (tables : PrefixTables) → HaveOneWordEach tables → (s t : Slot) (text : List ℕ) → SameSlot s t → IsSlotWritten tables s text → IsLongSlot tables t → ⊥
no_long tables alone (slot.File p) (slot.File q) text (file, for, for_too) (encoded, framed, written) long = (no_obstacle tables file text (p, for, encoded) TooLong (inr (q, for_too, long))).1 alone
no_long tables alone (slot.File p) (slot.Text v) text same written long = absurd same
no_long tables alone (slot.File p) slot.Absent text same written long = absurd same
no_long tables alone (slot.Text u) (slot.File q) text same written long = absurd same
no_long tables alone (slot.Text u) (slot.Text v) text same (written, short) long = omega (arith, short, long, ap (λ (t : Bor (List ℕ)). length t.now) same)
no_long tables alone (slot.Text u) slot.Absent text same written long = absurd same
no_long tables alone slot.Absent (slot.File q) text same written long = absurd same
no_long tables alone slot.Absent (slot.Text v) text same written long = absurd same
no_long tables alone slot.Absent slot.Absent text same written long = absurd long

module _ (a b : List Slot) (bytes : List ℕ) (bundle : IsBundleOfSlots a bytes) (size : length a ≡ length b) (each : AreSameFrom a b) (numbers : (deltas_in (segments_in a) ≡ deltas_in (segments_in b)) × (counts_in (segments_in a) ≡ counts_in (segments_in b))) where
  -- there are tables, and they are the same
  no_word_missing : table_for (deltas_in (segments_in b)) ≡ None → ⊥
  no_word_missing none = let (tables, texts, is, written, spelled, alone) = bundle in none-some tables.delta (sym (ap table_for numbers.0 ∙ none) ∙ spelled.deltas)

  same_tables : (t u : PrefixTables) → t.delta ≡ u.delta → t.count ≡ u.count → t ≡ u
  same_tables t u delta count = ap (λ d. record { delta = d; count = t.count }) delta ∙ ap (λ c. record { delta = u.delta; count = c }) count

  no_long_slot : HasLongSlot b → ⊥
  no_long_slot long =
      let (tables, texts, is, written, spelled, alone) = bundle in
      let delta = same_Some long.tables.delta tables.delta (sym long.spelled.deltas ∙ sym (ap table_for numbers.0) ∙ spelled.deltas) in
      let count = same_Some long.tables.count tables.count (sym long.spelled.counts ∙ sym (ap table_for numbers.1) ∙ spelled.counts) in
      let (k, t, within, at, is_long) = long.long in
      let here : k < length a = omega (arith, within, size) in
      no_long tables alone (get_or a k t) t (get_or texts k []) (subst (SameSlot (get_or a k t)) at (each k t here)) (slot_written tables a texts k t [] written here) (subst (λ ts. IsLongSlot ts t) (same_tables long.tables tables delta count) is_long)

  pub no_whole : (o : Obstacle) → IsWholeObstacle b o → ⊥
  no_whole NoWord none = no_word_missing none
  no_whole TooLong long = no_long_slot long
  no_whole other h = absurd h

-- ---- files by their names
below_places : (name : CMapName) (place : ℕ) → index_of_name name ≡ Some place → place < places
unfolding known_names
below_places (Custom bytes) place is = absurd (none-some place is)
below_places name place is = (position-Some (λ known. bytes_eq known (name_bytes name)) known_names place [] is).0

first_of : (sources : List Source) (index place : ℕ) (s : Source) → slice_get sources index ≡ Some s → index_of_name s.name ≡ Some place → source_at (take index sources) place ≡ None → source_at sources place ≡ Some s
first_of [] index place s at named first = absurd (none-some s at)
first_of (x ∷ sources) zero place s at named first =
    let same : x ≡ s = same_Some x s at in
    let here : is_index (index_of_name x.name) place ≡ true = ap (λ (x : Source). is_index (index_of_name x.name) place) same ∙ ap (λ o. is_index o place) named ∙ eq-eqb place place refl in
    rw here (ap Some same)
first_of (x ∷ sources) (suc index) place s at named first = elim (cases_Bool (is_index (index_of_name x.name) place)) [
  | inl here ↦ let some : Some x ≡ None = rw here at first in cc
  | inr other ↦ rw other (first_of sources index place s at named (rw other at first))
]

module _ (sources : List Source) (slots : List Slot) (bytes : List ℕ) (named : IsNamedBundle sources bytes) where
  no_placeless : (index : ℕ) → IsPlaceless sources index → ⊥
  no_placeless index h =
      let within = slice_get_within sources index h.source h.at_index in
      let some = named.named index h.source within in
      let there : is_some (index_of_name h.source.name) ≡ true = ap (λ (s : Source). is_some (index_of_name s.name)) (sym (get_or_from_slice_get sources index h.source h.source h.at_index)) ∙ some in
      let clash : false ≡ true = sym (ap is_some h.placeless) ∙ there in
      cc

  no_unwritable : (index : ℕ) (o : Obstacle) → IsUnwritable sources index o → ⊥
  no_unwritable index o h =
      let below = below_places h.source.name h.place h.named in
      let stands = subst (λ s. IsFileFor named.tables s (get_or named.texts h.place [])) (first_of sources index h.place h.source h.at_index h.named h.first) (named.each h.place [] below) in
      elim stands [
        | inl written ↦ let (prepared, for, encoded) = written.encoded in for.sayable o h.obstacle_is
        | inr (unsayable, (text, given, behind)) ↦ none-some text (sym h.textless ∙ given)
      ]

  no_obstacle_of : (index : Option ℕ) (o : Obstacle) → AreSlotsFor sources slots places → IsBundleOfSlots slots bytes → IsObstacleOf sources index o → ⊥
  no_obstacle_of (Some index) NoPlace made bundle h = no_placeless index h
  no_obstacle_of (Some index) other made bundle h = no_unwritable index other h
  no_obstacle_of None o (size, each) bundle (all, (others, (size_too, each_too), whole)) =
      no_whole slots others bytes bundle (size ∙ sym size_too) (λ k d within. let below : k < places = omega (arith, within, size) in same_for (source_at sources k) (get_or slots k d) (get_or others k d) (each k d below) (each_too k d below)) (numbers_alone sources places slots others (size, each) (size_too, each_too)) o whole

  pub no_unwritable_of : AreSlotsFor sources slots places → IsBundleOfSlots slots bytes → (u : Unwritable) → IsUnwritableOf sources u → ⊥
  no_unwritable_of made bundle u h = no_obstacle_of u.index u.obstacle made bundle h
