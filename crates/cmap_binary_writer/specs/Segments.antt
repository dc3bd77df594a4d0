-- Segments of CIDs and of texts, which leave open by which tables their numbers are spelled.
use Rattle.std.specs.Prelude.{◌≡◌, ℕ, ◌*◌, ◌<◌, ◌≤◌, ◌^◌, List, [], ◌∷◌, ◌++◌, All, flat_map, length, map}
use Rattle.cmap_runs.specs.Ranges.{Span}
use Rattle.cmap_values.specs.Files.{Declaration}
use Rattle.cmap_binary.specs.BinaryEntries as entries
use Rattle.cmap_binary.specs.BinaryFiles.{IsSegment, declares}
use Rattle.cmap_binary.specs.Bundles.{PrefixTables}
use Rattle.cmap_binary_writer.specs.ColumnsWritten.{WritesColumn}
use Rattle.cmap_binary_writer.specs.EncodersSeen.{shape_seen}
use Rattle.cmap_binary_writer.specs.Held.{counts_by, deltas_of}
use Rattle.cmap_binary_writer.specs.Written.{IsFramed, bytes_of}
use Rattle.cmap_binary_writer.specs.declared.segments.Segment.{Segment}

-- the columns of these numbers: a column of deltas, and for ranges also a column of counts
abbrev pub WritesNumbers : PrefixTables → entries.Shape → List ℕ → List ℕ → List ℕ → Type 0
WritesNumbers tables entries.ranges deltas counts bytes = (first second : List ℕ) × (bytes ≡ first ++ second) × WritesColumn tables.delta deltas first × WritesColumn tables.count counts second
WritesNumbers tables entries.singles deltas counts bytes = WritesColumn tables.delta deltas bytes

-- the payload of a segment whose numbers are spelled by these tables
abbrev pub IsPayloadOf : PrefixTables → Segment → List ℕ → Type 0
IsPayloadOf tables segment payload = (columns : List ℕ) × WritesNumbers tables (shape_seen segment.shape) segment.deltas.items segment.counts.items columns × (payload ≡ bytes_of 2 (length segment.deltas.items) ++ (columns ++ segment.values.items))

-- the segment makes these declarations, by any tables
abbrev pub DeclaresAll : Segment → List Declaration → Type 0
DeclaresAll segment ds = (tables : PrefixTables) (payload : List ℕ) → IsPayloadOf tables segment payload → IsSegment tables segment.number payload (declares ds)

abbrev pub declared_span : Declaration → Span
declared_span (Declaration.cid len e) = record { start = e.start; end = e.end }
declared_span (Declaration.notdef len e) = record { start = e.start; end = e.end }
declared_span (Declaration.bf e) = record { start = e.start; end = e.end }
declared_span (Declaration.codespace s) = record { start = s.low; end = s.high }

-- the segment makes these declarations, and its numbers are the numbers of their codes
pub record IsSegmentOf (segment : Segment) (ds : List Declaration) : Type 0 where
  pub declares : DeclaresAll segment ds
  pub deltas : segment.deltas.items ≡ deltas_of 0 (map declared_span ds)
  pub counts : segment.counts.items ≡ counts_by (shape_seen segment.shape) (map declared_span ds)
  pub few : length ds < 2 ^ 16
  pub codes : All (λ n. n < 2 ^ 32) segment.deltas.items
  pub small : All (λ n. n < 2 ^ 8) segment.counts.items
  pub values : length segment.values.items ≤ 2 ^ 9 * length ds

-- each segment makes the declarations of one part
abbrev pub DeclareEach : List Segment → List (List Declaration) → Type 0
DeclareEach [] [] = Unit {0}
DeclareEach (segment ∷ segments) (part ∷ parts) = IsSegmentOf segment part × DeclareEach segments parts
DeclareEach segments parts = ⊥

-- segments that make these declarations, in order
abbrev pub DeclareInOrder : List Segment → List Declaration → Type 0
DeclareInOrder segments ds = (parts : List (List Declaration)) × DeclareEach segments parts × (flat_map (λ part. part) parts ≡ ds)

-- the new segments are the old ones and segments that make these declarations
abbrev pub AddsSegments : List Segment → List Segment → List Declaration → Type 0
AddsSegments old new ds = (added : List Segment) × (new ≡ old ++ added) × DeclareInOrder added ds

-- the bytes of segments, in order: for each segment its type, its length and its payload
abbrev pub AreSegmentBytes : PrefixTables → List Segment → List ℕ → Type 0
AreSegmentBytes tables [] bytes = bytes ≡ []
AreSegmentBytes tables (segment ∷ segments) bytes = (payload : List ℕ) × (first : List ℕ) × (later : List ℕ) × IsPayloadOf tables segment payload × IsFramed (segment.number ∷ []) payload first × (bytes ≡ first ++ later) × AreSegmentBytes tables segments later
