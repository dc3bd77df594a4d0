-- Numbers of segments, and of the segments of files, one after another.
use Rattle.std.proofs.Common.{◌≡◌, ℕ, ◌+◌, ◌<◌, List, [], ◌++◌, length, get_or, take, refl, ap, ◌∙◌, sym}
use Rattle.std.specs.List.{flat_map}
use Rattle.std.proofs.lemmas.List.Concat.{flat_map-append}
use Rattle.cmap_binary_writer.proofs.RowsAdded.{rows_more}
use Rattle.cmap_binary_writer.specs.declared.segments.Segment.{Segment}
use Rattle.cmap_bundle_maker.specs.Gathered.{segments_in, slot_segments}
use Rattle.cmap_bundle_maker.specs.declared.slots.Slot.{Slot}

-- the numbers of the file at `i` follow those of the files before it
pub gathered_more : (numbers : Segment → List ℕ) (slots : List Slot) (i : ℕ) (slot : Slot) (segments : List Segment) (now new : List ℕ) → i < length slots → slot ≡ get_or slots i slot → segments ≡ slot_segments slot → now ≡ flat_map numbers (segments_in (take i slots)) → new ≡ now ++ flat_map numbers segments → new ≡ flat_map numbers (segments_in (take (i + 1) slots))
gathered_more numbers slots i slot segments now new inside read here before more =
    let old = segments_in (take i slots) in
    more ∙ ap (λ ns. ns ++ flat_map numbers segments) before ∙ sym (flat_map-append numbers old segments) ∙ ap (flat_map numbers) (rows_more slot_segments slots i [] old slot (old ++ segments) inside refl (ap (λ ss. old ++ ss) (here ∙ ap slot_segments read)))
