-- Codes with their texts that are written in a segment.
use Rattle.std.proofs.Common.{◌≡◌, ℕ, suc, ◌+◌, ◌^◌, ◌<◌, List, [], ◌∷◌, ◌++◌, Option, Some, None, length, map, refl, ap, ◌∙◌, sym, subst}
use Rattle.std.specs.List.{All}
use Rattle.std.proofs.lemmas.List.{append_assoc, append-nil, length-map}
use Rattle.std.proofs.lemmas.List.Elements.{All-head, All-tail}
use Rattle.cmap_runs.specs.Ranges.{Span}
use Rattle.cmap_values.specs.DeclarationsSeen.{bf_entry_seen, bf_range_span}
use Rattle.cmap_values.specs.Files.{BfEntry, Declaration}
use Rattle.cmap_values.specs.UnitsSeen.{units_seen}
use Rattle.cmap_values.specs.declared.declarations.BfRange.{BfRange}
use Rattle.cmap_binary.specs.Bundles.{PrefixTables}
use Rattle.cmap_binary.specs.BinaryEntries.{BfEntriesOf, DestinationAt, Shape, ranges, singles}
use Rattle.cmap_binary.specs.EntryByEntry.{BfEntryAt, BfsByEntry, Columns}
use Rattle.cmap_binary.specs.BinaryFiles as files
use Rattle.cmap_binary.proofs.EntriesByColumns.{bfs_same}
use Rattle.cmap_binary.specs.Fronts.{FieldAt, RowOf, Then}
use Rattle.cmap_binary_writer.specs.ColumnsWritten.{HaveSpans, WritesColumns}
use Rattle.cmap_binary_writer.specs.EncodersSeen.{shape_seen}
use Rattle.cmap_binary_writer.specs.Held.{AreInOrder, AreShaped, counts_by, deltas_of}
use Rattle.cmap_binary_writer.specs.Pieces.{IsShortText}
use Rattle.cmap_binary_writer.specs.Segments.{DeclaresAll, WritesNumbers}
use Rattle.cmap_binary_writer.specs.Texts.{AreHeldTexts, HasUnits, IsNumberOf, destination, destinations}
use Rattle.cmap_binary_writer.specs.Written.{bytes_of}
use Rattle.cmap_binary_writer.specs.declared.segments.Segment.{Segment}
use Rattle.cmap_binary_writer.proofs.ColumnsHeld.{range_columns, single_columns}
use Rattle.cmap_binary_writer.proofs.FrontsWritten.{FieldAt-written, fields, fields_written}

-- ---- columns
columns_written : (tables : PrefixTables) (shape : Shape) (spans : List Span) (bytes : List ℕ) → AreInOrder 0 spans → AreShaped shape spans → WritesNumbers tables shape (deltas_of 0 spans) (counts_by shape spans) bytes → WritesColumns tables shape spans bytes
columns_written tables ranges spans bytes order shaped (first, second, parts, deltas, counts) =
    let (made, is, columns) = range_columns tables spans order [] first (first ++ second) shaped (first, refl, deltas) (second, refl, counts) in
    subst (WritesColumns tables ranges spans) (sym (parts ∙ is)) columns
columns_written tables singles spans bytes order shaped deltas =
    let (made, is, columns) = single_columns tables spans order [] bytes shaped (bytes, refl, deltas) in
    subst (WritesColumns tables singles spans) (sym is) columns

length-deltas : (base : ℕ) (spans : List Span) → length (deltas_of base spans) ≡ length spans
length-deltas base [] = refl
length-deltas base (s ∷ spans) = ap suc (length-deltas (s.end + 1) spans)

-- ---- texts
destination_written : (fixed : Option ℕ) (e : BfRange) (rest : List ℕ) → HasUnits fixed e → All (λ u. u < 2 ^ 16) (units_seen e.units) → DestinationAt fixed (destination fixed (units_seen e.units) ++ rest) (units_seen e.units, rest)
destination_written None e rest counted small = (length (units_seen e.units), fields 2 (units_seen e.units) ++ rest, refl, fields_written 2 (units_seen e.units) rest small)
destination_written (Some n) e rest counted small = subst (λ k. RowOf (FieldAt 2) k (fields 2 (units_seen e.units) ++ rest) (units_seen e.units, rest)) counted (fields_written 2 (units_seen e.units) rest small)

texts_written : (tables : PrefixTables) (fixed : Option ℕ) (xs : List BfRange) (columns : Columns) (tail : List ℕ) → HaveSpans tables (map bf_range_span xs) columns → All (HasUnits fixed) xs → All IsShortText (map bf_entry_seen xs) → (last : Columns) × RowOf (BfEntryAt tables fixed) (length xs) (columns, destinations fixed xs ++ tail) (map bf_entry_seen xs, (last, tail))
texts_written tables fixed [] columns tail spans counted short = (columns, refl)
texts_written tables fixed (x ∷ xs) columns tail (later, span, spans) counted short =
    let units = units_seen x.units in
    let rest = destinations fixed xs ++ tail in
    let (last, row) = texts_written tables fixed xs later tail spans (All-tail (HasUnits fixed) x xs counted) (All-tail IsShortText (bf_entry_seen x) (map bf_entry_seen xs) short) in
    let fits = All-head IsShortText (bf_entry_seen x) (map bf_entry_seen xs) short in
    let here : BfEntryAt tables fixed (columns, destination fixed units ++ rest) (bf_entry_seen x, (later, rest)) = (bf_range_span x, later, span, (units, rest, destination_written fixed x rest (All-head (HasUnits fixed) x xs counted) fits.0.3, refl)) in (
      last,
      subst (λ bs. RowOf (BfEntryAt tables fixed) (suc (length xs)) (columns, bs) (map bf_entry_seen (x ∷ xs), (last, tail))) (sym (append_assoc (destination fixed units) (destinations fixed xs) tail)) (bf_entry_seen x, (later, rest), here, (map bf_entry_seen xs, (last, tail), row, refl)),
    )

-- the entries of a segment, after their number
abbrev BfEntriesIn : PrefixTables → Shape → Option ℕ → List ℕ → List BfEntry → Type 0
BfEntriesIn tables shape fixed payload = Then (FieldAt 2 payload) (BfEntriesOf tables shape fixed)

payload_written : (tables : PrefixTables) (shape : Shape) (fixed : Option ℕ) (xs : List BfRange) (bytes : List ℕ) → AreHeldTexts shape fixed xs → WritesColumns tables shape (map bf_range_span xs) bytes → BfEntriesIn tables shape fixed (bytes_of 2 (length xs) ++ (bytes ++ destinations fixed xs)) (map bf_entry_seen xs)
payload_written tables shape fixed xs bytes held (columns, at, spans) =
    let texts = destinations fixed xs in
    let (last, row) = texts_written tables fixed xs columns [] spans held.counted held.short in
    let all = subst (λ bs. RowOf (BfEntryAt tables fixed) (length xs) (columns, bs) (map bf_entry_seen xs, (last, []))) (append-nil texts) row in
    let es = map bf_entry_seen xs in
    let entries : BfsByEntry tables shape fixed (length xs) (bytes ++ texts) es = (columns, texts, at texts, (es, (last, []), all, refl)) in
    (length xs, bytes ++ texts, FieldAt-written 2 (length xs) (bytes ++ texts) held.few, (bfs_same tables shape fixed (length xs) (bytes ++ texts) es).1 entries)

-- the segment of these
pub segment_declares : (segment : Segment) (fixed : Option ℕ) (xs : List BfRange) → AreHeldTexts (shape_seen segment.shape) fixed xs → IsNumberOf (shape_seen segment.shape) fixed segment.number → segment.deltas.items ≡ deltas_of 0 (map bf_range_span xs) → segment.counts.items ≡ counts_by (shape_seen segment.shape) (map bf_range_span xs) → segment.values.items ≡ destinations fixed xs → DeclaresAll segment (map Declaration.bf (map bf_entry_seen xs))
segment_declares segment fixed xs held number deltas counts values tables payload (columns, numbers, whole) =
    let shape = shape_seen segment.shape in
    let spans = map bf_range_span xs in
    let es = map bf_entry_seen xs in
    let spelled = subst (λ ds. WritesNumbers tables shape ds (counts_by shape spans) columns) deltas (subst (λ cs. WritesNumbers tables shape segment.deltas.items cs columns) counts numbers) in
    let size : length segment.deltas.items ≡ length xs = ap length deltas ∙ length-deltas 0 spans ∙ length-map xs bf_range_span in
    let is : payload ≡ bytes_of 2 (length xs) ++ (columns ++ destinations fixed xs) = whole ∙ ap (λ n. bytes_of 2 n ++ (columns ++ segment.values.items)) size ∙ ap (λ bs. bytes_of 2 (length xs) ++ (columns ++ bs)) values in
    let entries = subst (λ bs. BfEntriesIn tables shape fixed bs es) (sym is) (payload_written tables shape fixed xs columns held (columns_written tables shape spans columns held.order held.shaped spelled)) in
    (files.texts shape fixed, number, (es, entries, refl))
