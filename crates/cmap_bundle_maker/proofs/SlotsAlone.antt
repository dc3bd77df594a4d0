-- Sources and files have one list of deltas only.
use Rattle.std.proofs.Common.{◌≡◌, ℕ, suc, ◌<◌, List, [], ◌∷◌, ◌++◌, Option, Some, None, get_or, length, map, refl, ap, ◌∙◌, sym, arith}
use Rattle.std.specs.List.{flat_map}
use Rattle.std.proofs.lemmas.List.{map-append}
use Rattle.std.proofs.lemmas.List.Folds.{flat_map-map}
use Rattle.cmap_values.specs.Files.{File}
use Rattle.cmap_values.specs.FilesSeen.{file_seen}
use Rattle.cmap_binary_writer.specs.Arranged.{SegmentSeen, segment_seen}
use Rattle.cmap_binary_writer.specs.declared.segments.Segment.{Segment}
use Rattle.cmap_binary_writer.proofs.EntriesAlone.{arranged_alone}
use Rattle.cmap_bundle_maker.specs.Gathered.{counts_in, deltas_in, segments_in, slot_segments}
use Rattle.cmap_bundle_maker.specs.Slots.{AreSlotsFor, IsSlotFor, source_at}
use Rattle.cmap_bundle_maker.specs.declared.slots.Slot.{Slot}
use Rattle.cmap_bundle_maker.specs.declared.slots.Slot.TheVariants as slot
use Rattle.cmap_bundle_maker.specs.declared.source.Source.{Source}

abbrev pub slot_seen : Slot → List SegmentSeen
slot_seen s = map segment_seen (slot_segments s)

-- what stands for a source is said by it: a file just where the binary form can say it
one_seen : (source : Option Source) (s t : Slot) → IsSlotFor source s → IsSlotFor source t → slot_seen s ≡ slot_seen t
one_seen None slot.Absent slot.Absent first second = refl
one_seen None slot.Absent (slot.File q) first second = absurd second
one_seen None slot.Absent (slot.Text v) first second = absurd second
one_seen None (slot.File p) t first second = absurd first
one_seen None (slot.Text u) t first second = absurd first
one_seen (Some source) (slot.File p) (slot.File q) first second = arranged_alone (file_seen source.file.now) p q first.arranged second.arranged
one_seen (Some source) (slot.File p) (slot.Text v) first ((obstacle, holds), text) = absurd (first.sayable obstacle holds)
one_seen (Some source) (slot.File p) slot.Absent first second = absurd second
one_seen (Some source) (slot.Text u) (slot.File q) ((obstacle, holds), text) second = absurd (second.sayable obstacle holds)
one_seen (Some source) (slot.Text u) (slot.Text v) first second = refl
one_seen (Some source) (slot.Text u) slot.Absent first second = absurd second
one_seen (Some source) slot.Absent t first second = absurd first

all_seen : (a b : List Slot) → length a ≡ length b → ((k : ℕ) (d : Slot) → k < length a → slot_seen (get_or a k d) ≡ slot_seen (get_or b k d)) → map segment_seen (segments_in a) ≡ map segment_seen (segments_in b)
all_seen [] [] size each = refl
all_seen [] (t ∷ b) size each = absurd (omega (arith, size))
all_seen (s ∷ a) [] size each = absurd (omega (arith, size))
all_seen (s ∷ a) (t ∷ b) size each = map-append segment_seen (slot_segments s) (segments_in a) ∙ ap (λ xs. xs ++ map segment_seen (segments_in a)) (each 0 s (omega arith)) ∙ ap (λ xs. slot_seen t ++ xs) (all_seen a b (omega (arith, size)) (λ k d within. each (suc k) d (omega (arith, within)))) ∙ sym (map-append segment_seen (slot_segments t) (segments_in b))

deltas_seen : (a b : List Segment) → map segment_seen a ≡ map segment_seen b → deltas_in a ≡ deltas_in b
deltas_seen a b same = sym (flat_map-map (λ (x : SegmentSeen). x.deltas) segment_seen a) ∙ ap (flat_map (λ (x : SegmentSeen). x.deltas)) same ∙ flat_map-map (λ (x : SegmentSeen). x.deltas) segment_seen b

counts_seen : (a b : List Segment) → map segment_seen a ≡ map segment_seen b → counts_in a ≡ counts_in b
counts_seen a b same = sym (flat_map-map (λ (x : SegmentSeen). x.counts) segment_seen a) ∙ ap (flat_map (λ (x : SegmentSeen). x.counts)) same ∙ flat_map-map (λ (x : SegmentSeen). x.counts) segment_seen b

-- sources have one list of deltas only, and one of counts
pub numbers_alone : (sources : List Source) (count : ℕ) (a b : List Slot) → AreSlotsFor sources a count → AreSlotsFor sources b count → (deltas_in (segments_in a) ≡ deltas_in (segments_in b)) × (counts_in (segments_in a) ≡ counts_in (segments_in b))
numbers_alone sources count a b (size, each) (other, all) =
    let same = all_seen a b (size ∙ sym other) (λ k d within. let below : k < count = omega (arith, within, size) in one_seen (source_at sources k) (get_or a k d) (get_or b k d) (each k d below) (all k d below)) in
    (deltas_seen (segments_in a) (segments_in b) same, counts_seen (segments_in a) (segments_in b) same)
