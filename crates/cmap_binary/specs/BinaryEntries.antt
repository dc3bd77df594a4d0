-- The entries of a segment of a binary file, read column by column.
use Rattle.std.specs.Prelude.{◌≡◌, ℕ, zero, ◌+◌, ◌-◌, ◌<◌, ◌^◌, ◌==◌, List, [], ◌∷◌, map, zip, replicate, Option, Some, None, All, if◌then◌else◌}
use Rattle.cmap_binary.specs.PrefixWords.{CodeWord, Decodes, bits}
use Rattle.cmap_values.specs.Spans.{Span}
use Rattle.cmap_values.specs.Files.{CidEntry, BfEntry}
use Rattle.cmap_binary.specs.Bundles.{PrefixTables}
use Rattle.cmap_binary.specs.Fronts.{Then, Gives, RowOf, ByteAt, FieldAt, SizedAt}

-- whether the entries of a segment are ranges, or single codes
pub data Shape : Type 0 where
  ranges : Shape
  singles : Shape

-- the symbol of the code word that the bits begin with
abbrev pub SymbolAt : List CodeWord → List ℕ → ℕ × List ℕ → Type 0
SymbolAt table stream r = (len : ℕ) × Decodes table stream r.0 len r.1

-- the symbols of n code words, with which the bits of a sized piece begin
abbrev pub SymbolsAt : List CodeWord → ℕ → List ℕ → List ℕ × List ℕ → Type 0
SymbolsAt table n text = Then (SizedAt text) (λ column rest. Then (RowOf (SymbolAt table) n (bits column)) (λ symbols ignored. Gives (symbols, rest)))

-- the codes of entries from a base on: each entry skips as many codes after the entry before as its delta states, and ends its width after its start
abbrev pub spans_from : ℕ → List ℕ → List ℕ → List Span
spans_from base (delta ∷ deltas) (width ∷ widths) = let start = base + delta in record { start = start; end = start + width } ∷ spans_from (start + width + 1) deltas widths
spans_from base _ _ = []

-- the codes of n entries, by their deltas and the counts of ranges: the width of a range is its count plus one, the width of a single code is 0
abbrev pub SpansAt : PrefixTables → Shape → ℕ → List ℕ → List Span × List ℕ → Type 0
SpansAt tables ranges n text = Then (SymbolsAt tables.delta n text) (λ deltas mid. Then (SymbolsAt tables.count n mid) (λ counts rest. Gives (spans_from 0 deltas (map (λ count. count + 1) counts), rest)))
SpansAt tables singles n text = Then (SymbolsAt tables.delta n text) (λ deltas rest. Gives (spans_from 0 deltas (replicate n 0), rest))

-- entries from their codes and their raw CIDs: raw CID 0 stands for the next CID, after the CIDs of the entry before
abbrev pub cid_entries : ℕ → List Span → List ℕ → List CidEntry
cid_entries next (span ∷ spans) (raw ∷ raws) = let cid = if raw == 0 then next else raw in record { start = span.start; end = span.end; cid = cid } ∷ cid_entries (cid + (span.end - span.start) + 1) spans raws
cid_entries next _ _ = []

-- n entries of CIDs; for no entries nothing is read
abbrev pub CidEntriesOf : PrefixTables → Shape → ℕ → List ℕ → List CidEntry → Type 0
CidEntriesOf tables shape zero text = Gives []
CidEntriesOf tables shape n text = Then (SpansAt tables shape n text) (λ spans mid. Then (RowOf (FieldAt 2) n mid) (λ raws ignored entries.
    (entries ≡ cid_entries 0 spans raws) × All (λ span. span.end < 2 ^ 32) spans × All (λ entry. entry.cid < 2 ^ 32) entries))

-- the units of a destination; if the segment doesn't fix their number, it comes before them
abbrev pub DestinationAt : Option ℕ → List ℕ → List ℕ × List ℕ → Type 0
DestinationAt (Some n) text = RowOf (FieldAt 2) n text
DestinationAt None text = Then (ByteAt text) (RowOf (FieldAt 2))

-- n entries of texts
abbrev pub BfEntriesOf : PrefixTables → Shape → Option ℕ → ℕ → List ℕ → List BfEntry → Type 0
BfEntriesOf tables shape fixed n text = Then (SpansAt tables shape n text) (λ spans mid. Then (RowOf (DestinationAt fixed) n mid) (λ texts ignored entries.
    (entries ≡ map (λ p. record { start = p.0.start; end = p.0.end; units = p.1 }) (zip spans texts)) × All (λ span. span.end < 2 ^ 32) spans))
