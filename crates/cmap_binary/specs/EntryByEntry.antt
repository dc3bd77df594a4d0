-- The entries of a segment, read one after another, each from the part that the entry before leaves. So the first entry at fault is known.
use Rattle.std.specs.Prelude.{ℕ, zero, suc, ◌+◌, ◌-◌, ◌<◌, ◌^◌, List, [], Option, Some, None}
use Rattle.cmap_binary.specs.PrefixWords.{CodeWord, bits}
use Rattle.cmap_values.specs.Spans.{Span}
use Rattle.cmap_values.specs.Files.{CidEntry, BfEntry}
use Rattle.cmap_binary.specs.Bundles.{PrefixTables}
use Rattle.cmap_binary.specs.Fronts.{Then, Gives, GivesIf, RowOf, FieldAt, SizedAt}
use Rattle.cmap_binary.specs.BinaryEntries.{DestinationAt, Shape, SymbolAt, ranges, singles}

-- The columns of a segment from the next entry on: the bits of the deltas, and for ranges the bits of the counts. `base` is the code after the entry before.
pub record Columns : Type 0 where
  pub deltas : List ℕ
  pub counts : Option (List ℕ)
  pub base : ℕ

-- the bits of the counts, if the entries are ranges
abbrev pub CountsAt : Shape → List ℕ → Option (List ℕ) × List ℕ → Type 0
CountsAt ranges text = Then (SizedAt text) (λ counts rest. Gives (Some (bits counts), rest))
CountsAt singles text = Gives (None, text)

-- the columns of a segment with these deltas
abbrev pub ColumnsAfter : Shape → List ℕ → List ℕ → Columns × List ℕ → Type 0
ColumnsAfter shape deltas text = Then (CountsAt shape text) (λ counts rest. Gives (record { deltas = bits deltas; counts = counts; base = 0 }, rest))

-- the columns of a segment, each in a sized piece
abbrev pub ColumnsAt : Shape → List ℕ → Columns × List ℕ → Type 0
ColumnsAt shape text = Then (SizedAt text) (ColumnsAfter shape)

-- the distance from the start of an entry to its end: one more than its count for a range, 0 for a single code
abbrev pub WidthAt : List CodeWord → Option (List ℕ) → ℕ × Option (List ℕ) → Type 0
WidthAt table None = Gives (0, None)
WidthAt table (Some counts) = Then (SymbolAt table counts) (λ count rest. Gives (count + 1, Some rest))

-- the codes of the next entry, which skips as many codes after the entry before as its delta states
abbrev pub SpanAt : PrefixTables → Columns → Span × Columns → Type 0
SpanAt tables columns =
    Then (SymbolAt tables.delta columns.deltas) (λ delta deltas. Then (WidthAt tables.count columns.counts) (λ width counts.
    let start = columns.base + delta in
    GivesIf (start + width < 2 ^ 32) (record { start = start; end = start + width }, record { deltas = deltas; counts = counts; base = start + width + 1 })))

-- the columns and the raw CIDs that are left, and the CID after the CIDs of the entry before
pub record CidColumns : Type 0 where
  pub columns : Columns
  pub raws : List ℕ
  pub next : ℕ

-- the CID that a raw CID stands for: the next CID for 0, or else the raw CID itself
abbrev pub cid_from : ℕ → ℕ → ℕ
cid_from zero next = next
cid_from (suc n) next = suc n

-- the next entry; raw CID 0 stands for the CID after the CIDs of the entry before
abbrev pub CidEntryAt : PrefixTables → CidColumns → CidEntry × CidColumns → Type 0
CidEntryAt tables left =
    Then (SpanAt tables left.columns) (λ span columns. Then (FieldAt 2 left.raws) (λ raw raws.
    let cid = cid_from raw left.next in
    GivesIf (cid < 2 ^ 32) (record { start = span.start; end = span.end; cid = cid }, record { columns = columns; raws = raws; next = cid + (span.end - span.start) + 1 })))

-- n entries of CIDs, after their columns
abbrev pub CidsOf : PrefixTables → Shape → ℕ → List ℕ → List CidEntry → Type 0
CidsOf tables shape n text = Then (ColumnsAt shape text) (λ columns raws. Then (RowOf (CidEntryAt tables) n (record { columns = columns; raws = raws; next = 0 })) (λ entries ignored. Gives entries))

-- n entries of CIDs; for no entries nothing is read
abbrev pub CidsByEntry : PrefixTables → Shape → ℕ → List ℕ → List CidEntry → Type 0
CidsByEntry tables shape zero text = Gives []
CidsByEntry tables shape n text = CidsOf tables shape n text

-- the next entry of texts, from the columns and the destinations that are left
abbrev pub BfEntryAt : PrefixTables → Option ℕ → Columns × List ℕ → BfEntry × (Columns × List ℕ) → Type 0
BfEntryAt tables fixed left =
    Then (SpanAt tables left.0) (λ span columns. Then (DestinationAt fixed left.1) (λ units rest. Gives (record { start = span.start; end = span.end; units = units }, (columns, rest))))

-- n entries of texts, after their columns
abbrev pub BfsByEntry : PrefixTables → Shape → Option ℕ → ℕ → List ℕ → List BfEntry → Type 0
BfsByEntry tables shape fixed n text = Then (ColumnsAt shape text) (λ columns rest. Then (RowOf (BfEntryAt tables fixed) n (columns, rest)) (λ entries ignored. Gives entries))
