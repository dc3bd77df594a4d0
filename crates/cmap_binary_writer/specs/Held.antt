-- Codes that one segment can hold, and the columns that hold them.
use Rattle.std.specs.Prelude.{◌≡◌, ℕ, ◌+◌, ◌-◌, ◌<◌, ◌≤◌, ◌^◌, List, [], ◌∷◌, All, length, map}
use Rattle.cmap_runs.specs.Ranges.{Span}
use Rattle.cmap_values.specs.Files.{CidEntry}
use Rattle.cmap_binary_writer.specs.Pieces.{IsShort}
use Rattle.cmap_binary.specs.BinaryEntries.{Shape, ranges, singles}
use Rattle.cmap_binary.specs.EntryByEntry.{cid_from}

abbrev pub entry_span : CidEntry → Span
entry_span e = record { start = e.start; end = e.end }

abbrev pub spans_of : List CidEntry → List Span
spans_of es = map entry_span es

-- spans of codes of 32 bits, each after the one before
abbrev pub AreInOrder : ℕ → List Span → Type 0
AreInOrder base [] = Unit {0}
AreInOrder base (s ∷ spans) = (base ≤ s.start) × (s.start ≤ s.end) × (s.end < 2 ^ 32) × AreInOrder (s.end + 1) spans

-- a range has two codes or more, and a single code is one
abbrev pub HasShape : Shape → ℕ → ℕ → Type 0
HasShape ranges start end = start < end
HasShape singles start end = start ≡ end

abbrev pub AreShaped : Shape → List Span → Type 0
AreShaped shape [] = Unit {0}
AreShaped shape (s ∷ spans) = HasShape shape s.start s.end × AreShaped shape spans

-- CIDs that a segment can hold: a CID is 0 only where the next CID would be 0
abbrev pub AreOwnCids : ℕ → List CidEntry → Type 0
AreOwnCids next [] = Unit {0}
AreOwnCids next (e ∷ es) = (cid_from e.cid next ≡ e.cid) × AreOwnCids (e.cid + (e.end - e.start) + 1) es

-- the entries that one segment can hold
pub record AreHeld (shape : Shape) (es : List CidEntry) : Type 0 where
  pub order : AreInOrder 0 (spans_of es)
  pub shaped : AreShaped shape (spans_of es)
  pub short : All IsShort es
  pub own : AreOwnCids 0 es
  pub few : length es < 2 ^ 16

-- for each span, the number of codes left out between the span before and it; for the first span, from base on
abbrev pub deltas_of : ℕ → List Span → List ℕ
deltas_of base [] = []
deltas_of base (s ∷ spans) = (s.start - base) ∷ deltas_of (s.end + 1) spans

-- for each span, the number of its codes beyond two
abbrev pub counts_of : List Span → List ℕ
counts_of spans = map (λ s. s.end - s.start - 1) spans

-- the counts of ranges; single codes have none
abbrev pub counts_by : Shape → List Span → List ℕ
counts_by ranges spans = counts_of spans
counts_by singles spans = []
