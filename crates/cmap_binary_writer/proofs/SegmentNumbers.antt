-- The numbers of a segment are those of what it declares.
use Rattle.std.proofs.Common.{◌≡◌, ℕ, ◌+◌, ◌-◌, ◌*◌, ◌^◌, ◌<◌, ◌≤◌, List, [], ◌∷◌, Option, Some, None, length, map, refl, ap, ◌∙◌, sym, arith}
use Rattle.std.specs.List.{All}
use Rattle.std.proofs.lemmas.List.{length-append, length-map}
use Rattle.std.proofs.lemmas.List.Elements.{All-cons, All-head, All-nil, All-tail}
use Rattle.cmap_runs.specs.Ranges.{Span}
use Rattle.cmap_values.specs.DeclarationsSeen.{bf_entry_seen, bf_range_span}
use Rattle.cmap_values.specs.Files.{CidEntry, Declaration}
use Rattle.cmap_values.specs.UnitsSeen.{units_seen}
use Rattle.cmap_values.specs.declared.declarations.BfRange.{BfRange}
use Rattle.cmap_binary.specs.BinaryEntries.{Shape, ranges, singles}
use Rattle.cmap_binary_writer.specs.EncodersSeen.{shape_seen}
use Rattle.cmap_binary_writer.specs.Held.{AreHeld, AreInOrder, counts_by, counts_of, deltas_of, entry_span, spans_of}
use Rattle.cmap_binary_writer.specs.Pieces.{IsShort, IsShortText}
use Rattle.cmap_binary_writer.specs.Segments.{DeclaresAll, IsSegmentOf, declared_span}
use Rattle.cmap_binary_writer.specs.Texts.{AreHeldTexts, destination, destinations}
use Rattle.cmap_binary_writer.specs.Written.{bytes_of}
use Rattle.cmap_binary_writer.specs.declared.segments.Segment.{Segment}
use Rattle.cmap_binary_writer.proofs.BytesWritten.{length-bytes_of, length-row}
use Rattle.cmap_binary_writer.proofs.CidsWritten.{cids}

-- ---- deltas
small_deltas : (base : ℕ) (spans : List Span) → AreInOrder base spans → All (λ n. n < 2 ^ 32) (deltas_of base spans)
small_deltas base [] order = All-nil (λ n. n < 2 ^ 32)
small_deltas base (s ∷ spans) (after, some, below, order) = All-cons (λ n. n < 2 ^ 32) (s.start - base) (deltas_of (s.end + 1) spans) (omega (arith, some, below)) (small_deltas (s.end + 1) spans order)

all_as : (most : ℕ) (xs ys : List ℕ) → xs ≡ ys → All (λ n. n < most) ys → All (λ n. n < most) xs
all_as most xs ys is all = rw is all

-- ---- counts
abbrev IsNarrow : Span → Type 0
IsNarrow s = s.end - s.start ≤ 256

small_counts : (spans : List Span) → All IsNarrow spans → All (λ n. n < 2 ^ 8) (counts_of spans)
small_counts [] narrow = All-nil (λ n. n < 2 ^ 8)
small_counts (s ∷ spans) narrow =
    let here : s.end - s.start ≤ 256 = All-head IsNarrow s spans narrow in
    All-cons (λ n. n < 2 ^ 8) (s.end - s.start - 1) (counts_of spans) (omega (arith, here)) (small_counts spans (All-tail IsNarrow s spans narrow))

small_by : (shape : Shape) (spans : List Span) → All IsNarrow spans → All (λ n. n < 2 ^ 8) (counts_by shape spans)
small_by ranges spans narrow = small_counts spans narrow
small_by singles spans narrow = All-nil (λ n. n < 2 ^ 8)

-- ---- CIDs
pub cid_spans : (len : ℕ) (es : List CidEntry) → map declared_span (map (Declaration.cid len) es) ≡ spans_of es
cid_spans len [] = refl
cid_spans len (e ∷ es) = ap (λ ss. entry_span e ∷ ss) (cid_spans len es)

narrow_cids : (es : List CidEntry) → All IsShort es → All IsNarrow (spans_of es)
narrow_cids [] short = All-nil IsNarrow
narrow_cids (e ∷ es) short = All-cons IsNarrow (entry_span e) (spans_of es) (All-head IsShort e es short).2 (narrow_cids es (All-tail IsShort e es short))

length-cids : (es : List CidEntry) → length (cids es) ≡ 2 * length es
length-cids [] = omega arith
length-cids (e ∷ es) = omega (arith, length-append (bytes_of 2 e.cid) (cids es), length-bytes_of 2 e.cid, length-cids es)

pub segment_of_cids : (segment : Segment) (len : ℕ) (es : List CidEntry) → DeclaresAll segment (map (Declaration.cid len) es) → AreHeld (shape_seen segment.shape) es → segment.deltas.items ≡ deltas_of 0 (spans_of es) → segment.counts.items ≡ counts_by (shape_seen segment.shape) (spans_of es) → segment.values.items ≡ cids es → IsSegmentOf segment (map (Declaration.cid len) es)
segment_of_cids segment len es declares held deltas counts values =
    let spans = cid_spans len es in
    let size : length (map (Declaration.cid len) es) ≡ length es = length-map es (Declaration.cid len) in
    record {
      declares = declares;
      deltas = deltas ∙ ap (deltas_of 0) (sym spans);
      counts = counts ∙ ap (counts_by (shape_seen segment.shape)) (sym spans);
      few = omega (arith, size, held.few);
      codes = all_as (2 ^ 32) segment.deltas.items (deltas_of 0 (spans_of es)) deltas (small_deltas 0 (spans_of es) held.order);
      small = all_as (2 ^ 8) segment.counts.items (counts_by (shape_seen segment.shape) (spans_of es)) counts (small_by (shape_seen segment.shape) (spans_of es) (narrow_cids es held.short));
      values = omega (arith, size, ap length values, length-cids es);
    }

-- ---- texts
pub text_spans : (xs : List BfRange) → map declared_span (map Declaration.bf (map bf_entry_seen xs)) ≡ map bf_range_span xs
text_spans [] = refl
text_spans (x ∷ xs) = ap (λ ss. bf_range_span x ∷ ss) (text_spans xs)

narrow_texts : (xs : List BfRange) → All IsShortText (map bf_entry_seen xs) → All IsNarrow (map bf_range_span xs)
narrow_texts [] short = All-nil IsNarrow
narrow_texts (x ∷ xs) short = All-cons IsNarrow (bf_range_span x) (map bf_range_span xs) (All-head IsShortText (bf_entry_seen x) (map bf_entry_seen xs) short).1 (narrow_texts xs (All-tail IsShortText (bf_entry_seen x) (map bf_entry_seen xs) short))

length-destination : (fixed : Option ℕ) (units : List ℕ) → length (destination fixed units) ≤ 1 + 2 * length units
length-destination None units = omega (arith, length-row 2 units)
length-destination (Some n) units = omega (arith, length-row 2 units)

length-destinations : (fixed : Option ℕ) (xs : List BfRange) → All IsShortText (map bf_entry_seen xs) → length (destinations fixed xs) ≤ 2 ^ 9 * length xs
length-destinations fixed [] short = omega arith
length-destinations fixed (x ∷ xs) short =
    let here = All-head IsShortText (bf_entry_seen x) (map bf_entry_seen xs) short in
    let units = units_seen x.units in
    omega (arith, length-append (destination fixed units) (destinations fixed xs), length-destination fixed units, here.0.2, length-destinations fixed xs (All-tail IsShortText (bf_entry_seen x) (map bf_entry_seen xs) short))

pub segment_of_texts : (segment : Segment) (fixed : Option ℕ) (xs : List BfRange) → DeclaresAll segment (map Declaration.bf (map bf_entry_seen xs)) → AreHeldTexts (shape_seen segment.shape) fixed xs → segment.deltas.items ≡ deltas_of 0 (map bf_range_span xs) → segment.counts.items ≡ counts_by (shape_seen segment.shape) (map bf_range_span xs) → segment.values.items ≡ destinations fixed xs → IsSegmentOf segment (map Declaration.bf (map bf_entry_seen xs))
segment_of_texts segment fixed xs declares held deltas counts values =
    let spans = text_spans xs in
    let size : length (map Declaration.bf (map bf_entry_seen xs)) ≡ length xs = length-map (map bf_entry_seen xs) Declaration.bf ∙ length-map xs bf_entry_seen in
    record {
      declares = declares;
      deltas = deltas ∙ ap (deltas_of 0) (sym spans);
      counts = counts ∙ ap (counts_by (shape_seen segment.shape)) (sym spans);
      few = omega (arith, size, held.few);
      codes = all_as (2 ^ 32) segment.deltas.items (deltas_of 0 (map bf_range_span xs)) deltas (small_deltas 0 (map bf_range_span xs) held.order);
      small = all_as (2 ^ 8) segment.counts.items (counts_by (shape_seen segment.shape) (map bf_range_span xs)) counts (small_by (shape_seen segment.shape) (map bf_range_span xs) (narrow_texts xs held.short));
      values = omega (arith, size, ap length values, length-destinations fixed xs held.short);
    }
