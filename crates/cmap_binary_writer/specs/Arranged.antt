-- The segments in which the entries of a file stand, and their order.
use Rattle.std.specs.Prelude.{◌≡◌, ◌⊎◌, ℕ, ◌+◌, ◌-◌, ◌*◌, ◌<◌, ◌≤◌, ◌^◌, ◌&&◌, nat_le, nat_lt, if◌then◌else◌, List, [], ◌∷◌, ◌++◌, All, Option, Some, None, flat_map, get_or, length, map}
use Rattle.std.specs.List.Sorted.{IsPermutation}
use Rattle.cmap_runs.specs.Ranges.{Span, runs_of}
use Rattle.cmap_values.specs.Files.{BfEntry, ByLength, CidEntry, Declaration, File}
use Rattle.cmap_layers.specs.Lookups.{bf_at, bf_span, cid_at, cid_span}
use Rattle.cmap_binary.specs.BinaryEntries.{Shape, ranges, singles}
use Rattle.cmap_binary_writer.specs.EncodersSeen.{shape_seen}
use Rattle.cmap_binary_writer.specs.Fields.{fields_of}
use Rattle.cmap_binary_writer.specs.Held.{deltas_of}
use Rattle.cmap_binary_writer.specs.Pieces.{AllSayAs, CanBeSplit, IsShort, IsShortText, SayTheSame}
use Rattle.cmap_binary_writer.specs.Segments.{declared_span}
use Rattle.cmap_binary_writer.specs.TextParts.{units_at}
use Rattle.cmap_binary_writer.specs.Texts.{destination}
use Rattle.cmap_binary_writer.specs.Weights.{run_span}
use Rattle.cmap_binary_writer.specs.Written.{bytes_of}
use Rattle.cmap_binary_writer.specs.declared.prepared.Prepared.{Prepared}
use Rattle.cmap_binary_writer.specs.declared.segments.Segment.{Segment}

-- ---- the type of a segment
abbrev pub shape_of : ℕ → ℕ → Shape
shape_of start end = if nat_lt start end then ranges else singles

-- the most units that segments of a shape can fix for all their texts
abbrev pub most_fixed : Shape → ℕ
most_fixed ranges = 2
most_fixed singles = 4

-- the fixed number of units for a text with this many units, if a segment can fix it
abbrev pub units_fixed : Shape → ℕ → Option ℕ
units_fixed shape count = if nat_le 1 count && nat_le count (most_fixed shape) then Some count else None

-- the type of segments with CIDs of codes of this length
abbrev pub cid_type : ℕ → Shape → ℕ
cid_type len ranges = 2 * len - 1
cid_type len singles = 2 * len

-- the type of segments with texts that have the fixed number of units
abbrev pub text_type : Shape → Option ℕ → ℕ
text_type ranges None = 15
text_type singles None = 16
text_type singles (Some n) = 16 + n
text_type ranges (Some n) = 20 + n

abbrev pub bf_type : BfEntry → ℕ
bf_type e = text_type (shape_of e.start e.end) (units_fixed (shape_of e.start e.end) (length e.units))

-- the type of the segments in which an entry stands
abbrev pub segment_type : Declaration → ℕ
segment_type (Declaration.cid len e) = cid_type len (shape_of e.start e.end)
segment_type (Declaration.bf e) = bf_type e
segment_type other = 0

-- ---- entries that stand in one segment
-- an entry keeps its value behind other entries, unless it has CID 0
abbrev pub IsOwn : Declaration → Type 0
IsOwn (Declaration.cid len e) = 0 < e.cid
IsOwn other = Unit {0}

-- the entry can come next after `before` in one segment
pub record CanFollow (before d : Declaration) : Type 0 where
  pub same : segment_type d ≡ segment_type before
  pub after : (declared_span before).end < (declared_span d).start
  pub own : IsOwn d

-- one entry or more, each of which can follow the one before
abbrev pub AreInOne : List Declaration → Type 0
AreInOne [] = ⊥
AreInOne (d ∷ []) = Unit {0}
AreInOne (d ∷ e ∷ ds) = CanFollow d e × AreInOne (e ∷ ds)

-- the part has as many entries as one segment can hold, or the next entry can't follow the part
abbrev pub AreEnded : List Declaration → List Declaration → Type 0
AreEnded part later = (d : Declaration) → length part < 65535 → 0 < length later → CanFollow (get_or part (length part - 1) d) (get_or later 0 d) → ⊥

-- parts that are as long as possible, one after another; each part stands in one segment
abbrev pub AreFull : List (List Declaration) → Type 0
AreFull [] = Unit {0}
AreFull (part ∷ parts) = AreInOne part × (length part < 2 ^ 16) × AreEnded part (flat_map (λ p. p) parts) × AreFull parts

-- ---- segments of entries
-- the number of codes of a range beyond two; a single code has no number
abbrev pub count_of : Declaration → List ℕ
count_of d = if nat_lt (declared_span d).start (declared_span d).end then ((declared_span d).end - (declared_span d).start - 1) ∷ [] else []

-- the CID or the text of an entry in bytes
abbrev pub value_of : Declaration → List ℕ
value_of (Declaration.cid len e) = bytes_of 2 e.cid
value_of (Declaration.bf e) = destination (units_fixed (shape_of e.start e.end) (length e.units)) e.units
value_of other = []

-- the segment has the type, the shape, the deltas, the counts and the values of these entries
pub record HoldsEntries (segment : Segment) (ds : List Declaration) : Type 0 where
  pub shape : All (λ d. shape_of (declared_span d).start (declared_span d).end ≡ shape_seen segment.shape) ds
  pub type : All (λ d. segment_type d ≡ segment.number) ds
  pub deltas : segment.deltas.items ≡ deltas_of 0 (map declared_span ds)
  pub counts : segment.counts.items ≡ flat_map count_of ds
  pub values : segment.values.items ≡ flat_map value_of ds

abbrev pub HoldEach : List Segment → List (List Declaration) → Type 0
HoldEach [] [] = Unit {0}
HoldEach (segment ∷ segments) (part ∷ parts) = HoldsEntries segment part × HoldEach segments parts
HoldEach segments parts = ⊥

-- the type of a segment, its shape, its deltas, its counts and its values
pub record SegmentSeen : Type 0 where
  pub type : ℕ
  pub shape : Shape
  pub deltas : List ℕ
  pub counts : List ℕ
  pub values : List ℕ

abbrev pub segment_seen : Segment → SegmentSeen
segment_seen segment = record { type = segment.number; shape = shape_seen segment.shape; deltas = segment.deltas.items; counts = segment.counts.items; values = segment.values.items }

-- these entries stand in the segments, in order, and each segment is full before the next one
pub record StandIn (segments : List Segment) (ds : List Declaration) : Type 0 where
  pub parts : List (List Declaration)
  pub held : HoldEach segments parts
  pub all : flat_map (λ p. p) parts ≡ ds
  pub full : AreFull parts

-- the new segments are the old ones and segments in which these entries stand
abbrev pub AddsFull : List Segment → List Segment → List Declaration → Type 0
AddsFull old new ds = (added : List Segment) × (new ≡ old ++ added) × StandIn added ds

-- ---- the entries of a list
-- one entry stands before another: its type is lower, or the types are equal and its codes are lower
abbrev pub IsBefore : Declaration → Declaration → Type 0
IsBefore d e = (segment_type d < segment_type e) ⊎ ((segment_type d ≡ segment_type e) × ((declared_span d).end < (declared_span e).start))

-- each entry is before the next one
abbrev pub AreOrdered : List Declaration → Type 0
AreOrdered ds = (k : ℕ) (d : Declaration) → k + 1 < length ds → IsBefore (get_or ds k d) (get_or ds (k + 1) d)

-- the pieces of a range: a range of more than 257 codes gives its first 256 codes as a piece, and so on
abbrev pub IsCut : Span → List Span → Type 0
IsCut s [] = ⊥
IsCut s (p ∷ []) = (p ≡ s) × (s.end - s.start ≤ 256)
IsCut s (p ∷ q ∷ ps) = (s.start + 256 < s.end) × (p ≡ record { start = s.start; end = s.start + 255 }) × IsCut (record { start = s.start + 256; end = s.end }) (q ∷ ps)

-- the pieces of ranges, one range after another
abbrev pub AreCut : List Span → List Span → Type 0
AreCut [] pieces = pieces ≡ []
AreCut (s ∷ spans) pieces = (here later : List Span) × (pieces ≡ here ++ later) × IsCut s here × AreCut spans later

-- the next range begins just after the other one, and its CIDs go on from the CIDs of the other one
pub record CanJoin (e next : CidEntry) : Type 0 where
  pub after : next.start ≡ e.end + 1
  pub cids : next.cid ≡ e.cid + (next.start - e.start)

-- each range comes after the one before, and the two couldn't be one range
abbrev pub AreWhole : List CidEntry → Type 0
AreWhole [] = Unit {0}
AreWhole (e ∷ []) = Unit {0}
AreWhole (e ∷ next ∷ es) = (e.end < next.start) × (CanJoin e next → ⊥) × AreWhole (next ∷ es)

-- the entries of a list of CIDs: the ranges of codes with consecutive CIDs by the list, as large as possible, each cut in pieces, and the pieces in order
pub record AreCidEntries (len : ℕ) (es made : List CidEntry) : Type 0 where
  pub ranges : List CidEntry
  pub pieces : List CidEntry
  pub said : SayTheSame cid_span cid_at es ranges
  pub small : All CanBeSplit ranges
  pub whole : AreWhole ranges
  pub cut : AreCut (map cid_span ranges) (map cid_span pieces)
  pub same : SayTheSame cid_span cid_at es pieces
  pub short : All IsShort pieces
  pub moved : IsPermutation pieces made
  pub ordered : AreOrdered (map (Declaration.cid len) made)

-- the entries of a list of texts: the runs of codes that one declaration decides, each of at most 2^16 codes and cut in pieces, and the pieces in order
pub record AreTextEntries (es made : List BfEntry) : Type 0 where
  pub pieces : List BfEntry
  pub few : All (λ run. run.high - run.low < 2 ^ 16) (runs_of (map bf_span es))
  pub cut : AreCut (map run_span (runs_of (map bf_span es))) (map bf_span pieces)
  pub same : SayTheSame bf_span bf_at es pieces
  pub units : AllSayAs bf_span units_at es pieces
  pub short : All IsShortText pieces
  pub moved : IsPermutation pieces made
  pub ordered : AreOrdered (map Declaration.bf made)

-- ---- a file
-- the new segments are the old ones and full segments with the entries of the list
abbrev pub AddsCidEntries : ℕ → List CidEntry → List Segment → List Segment → Type 0
AddsCidEntries len es old new = (made : List CidEntry) × AreCidEntries len es made × AddsFull old new (map (Declaration.cid len) made)

abbrev pub AddsTextEntries : List BfEntry → List Segment → List Segment → Type 0
AddsTextEntries es old new = (made : List BfEntry) × AreTextEntries es made × AddsFull old new (map Declaration.bf made)

-- lists of entries in full segments, one list after another
abbrev pub StandInTurn : List Segment → List (List Declaration) → Type 0
StandInTurn segments [] = segments ≡ []
StandInTurn segments (ds ∷ lists) = (here later : List Segment) × (segments ≡ here ++ later) × StandIn here ds × StandInTurn later lists

-- the new segments are the old ones and such segments
abbrev pub AddsInTurn : List Segment → List Segment → List (List Declaration) → Type 0
AddsInTurn old new lists = (added : List Segment) × (new ≡ old ++ added) × StandInTurn added lists

-- the entries of the lists of CIDs for codes of each length
pub record AreByLength (lists made : ByLength) : Type 0 where
  pub one : AreCidEntries 1 lists.one made.one
  pub two : AreCidEntries 2 lists.two made.two
  pub three : AreCidEntries 3 lists.three made.three
  pub four : AreCidEntries 4 lists.four made.four

abbrev pub lists_by_length : ByLength → List (List Declaration)
lists_by_length made = map (Declaration.cid 1) made.one ∷ map (Declaration.cid 2) made.two ∷ map (Declaration.cid 3) made.three ∷ map (Declaration.cid 4) made.four ∷ []

abbrev pub AddsByLength : ByLength → List Segment → List Segment → Type 0
AddsByLength lists old new = (made : ByLength) × AreByLength lists made × AddsInTurn old new (lists_by_length made)

-- the fields have the bytes of the file, and the segments have the entries of each list of the file, in order; this determines the segments
pub record IsArranged (file : File) (prepared : Prepared) : Type 0 where
  pub fields : prepared.fields.items ≡ fields_of file
  pub cids : ByLength
  pub texts : List BfEntry
  pub cid_entries : AreByLength file.lists.cids cids
  pub text_entries : AreTextEntries file.lists.bfs texts
  pub segments : StandInTurn prepared.segments.items (lists_by_length cids ++ map Declaration.bf texts ∷ [])

-- ---- private aid
-- the new pieces are the old ones and the pieces of the range
abbrev pub PushesCut : Span → List Span → List Span → Type 0
PushesCut s old new = (pieces : List Span) × (new ≡ old ++ pieces) × IsCut s pieces

-- all ranges end before a code
abbrev pub EndBefore : ℕ → List CidEntry → Type 0
EndBefore code es = All (λ e. e.end < code) es

-- a range is added after whole ranges, and the ranges stay whole
abbrev pub KeepsWhole : List CidEntry → List CidEntry → CidEntry → Type 0
KeepsWhole old new e = AreWhole old → EndBefore e.start old → AreWhole new × EndBefore (e.end + 1) new
