-- Segments whose numbers are spelled hold the spans of their entries.
use Rattle.std.proofs.Common.{◌≡◌, ℕ, suc, ◌+◌, ◌-◌, ◌≤◌, List, [], ◌∷◌, ◌++◌, length, map, refl, ap, ◌∙◌, sym, subst, arith}
use Rattle.std.proofs.lemmas.List.{append_assoc, length-map}
use Rattle.cmap_runs.specs.Ranges.{Span}
use Rattle.cmap_values.specs.Files.{CidEntry}
use Rattle.cmap_values.specs.DeclarationsSeen.{cid_range_span, entries_seen}
use Rattle.cmap_values.specs.declared.declarations.CidRange.{CidRange}
use Rattle.cmap_binary.specs.Bundles.{PrefixTables}
use Rattle.cmap_binary.specs.BinaryEntries.{Shape, ranges, singles}
use Rattle.cmap_binary_writer.specs.ColumnsWritten.{WritesColumns}
use Rattle.cmap_binary_writer.specs.Held.{AreHeld, AreInOrder, AreShaped, counts_by, deltas_of, entry_span, spans_of}
use Rattle.cmap_binary_writer.specs.EncodersSeen.{shape_seen}
use Rattle.cmap_binary_writer.specs.Segments.{IsPayloadOf, WritesNumbers}
use Rattle.cmap_binary_writer.specs.Written.{Appends, bytes_of}
use Rattle.cmap_binary_writer.specs.declared.segments.Segment.{Segment}
use Rattle.cmap_binary_writer.proofs.CidsWritten.{CidEntriesIn, cids, payload_written}
use Rattle.cmap_binary_writer.proofs.ColumnsHeld.{range_columns, single_columns}

pub spans_seen : (xs : List CidRange) → map cid_range_span xs ≡ spans_of (entries_seen xs)
spans_seen [] = refl
spans_seen (x ∷ xs) = ap (λ ss. cid_range_span x ∷ ss) (spans_seen xs)

pub length_deltas_of : (base : ℕ) (spans : List Span) → length (deltas_of base spans) ≡ length spans
length_deltas_of base [] = refl
length_deltas_of base (s ∷ spans) = ap suc (length_deltas_of (s.end + 1) spans)

pub length_counts_by : (shape : Shape) (spans : List Span) → length (counts_by shape spans) ≤ length spans
length_counts_by ranges spans = omega (arith, length-map spans (λ (s : Span). s.end - s.start - 1))
length_counts_by singles spans = omega arith

pub numbers_columns : (tables : PrefixTables) (shape : Shape) (spans : List Span) (deltas counts bytes : List ℕ) → AreInOrder 0 spans → AreShaped shape spans → deltas ≡ deltas_of 0 spans → counts ≡ counts_by shape spans → WritesNumbers tables shape deltas counts bytes → WritesColumns tables shape spans bytes
numbers_columns tables ranges spans deltas counts bytes order shaped deltas_are counts_are (first, second, is, spelled, spelled_too) =
    let (whole, whole_is, columns) = range_columns tables spans order [] first bytes shaped (first, refl, rw deltas_are at spelled) (second, is, rw counts_are at spelled_too) in
    subst (WritesColumns tables ranges spans) (sym whole_is) columns
numbers_columns tables singles spans deltas counts bytes order shaped deltas_are counts_are spelled =
    let (whole, whole_is, columns) = single_columns tables spans order [] bytes shaped (bytes, refl, rw deltas_are at spelled) in
    subst (WritesColumns tables singles spans) (sym whole_is) columns

pub cids_spelled : (tables : PrefixTables) (shape : Shape) (es : List CidEntry) (deltas counts values columns payload : List ℕ) → AreHeld shape es → deltas ≡ deltas_of 0 (spans_of es) → counts ≡ counts_by shape (spans_of es) → values ≡ cids es
    → WritesNumbers tables shape deltas counts columns → payload ≡ bytes_of 2 (length deltas) ++ (columns ++ values) → CidEntriesIn tables shape payload es
cids_spelled tables shape es deltas counts values columns payload h deltas_are counts_are values_are spelled is =
    let n = length deltas in
    payload_written tables shape es (bytes_of 2 n) (bytes_of 2 n ++ columns) payload n refl (ap length deltas_are ∙ length_deltas_of 0 (spans_of es) ∙ length-map es entry_span) (columns, refl, numbers_columns tables shape (spans_of es) deltas counts columns h.order h.shaped deltas_are counts_are spelled) (is ∙ ap (λ vs. bytes_of 2 n ++ (columns ++ vs)) values_are ∙ sym (append_assoc (bytes_of 2 n) columns (cids es))) h

-- the payload of a segment, piece by piece
pub payload_is : (tables : PrefixTables) (segment : Segment) (a b new : List ℕ) (count : ℕ) → a ≡ bytes_of 2 count → count ≡ length segment.deltas.items → Appends a b (WritesNumbers tables (shape_seen segment.shape) segment.deltas.items segment.counts.items) → new ≡ b ++ segment.values.items → IsPayloadOf tables segment new
payload_is tables segment a b new count first size (columns, second, spelled) third = (columns, spelled, third ∙ ap (λ bs. bs ++ segment.values.items) (second ∙ ap (λ bs. bs ++ columns) (first ∙ ap (bytes_of 2) size)) ∙ append_assoc (bytes_of 2 (length segment.deltas.items)) columns segment.values.items)
