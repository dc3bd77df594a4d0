-- The prepared form of a file, which leaves open by which tables its numbers are spelled.
use Rattle.std.specs.Prelude.{ℕ, ◌+◌, ◌*◌, ◌≤◌, List, ◌++◌, flat_map, length, map}
use Rattle.cmap_values.specs.Files.{BfEntry, CidEntry, Declaration, File}
use Rattle.cmap_binary.specs.BinaryFiles.{Content, declares, file_of}
use Rattle.std.specs.Global.{Vec}
use Rattle.cmap_values.specs.DeclarationsSeen.{entries_seen}
use Rattle.cmap_values.specs.declared.declarations.ByLength.{ByLength}
use Rattle.cmap_values.specs.declared.declarations.CidRange.{CidRange}
use Rattle.cmap_binary_writer.specs.Keeps.{HaveSameCids, HaveSameTexts, Keeps}
use Rattle.cmap_values.specs.ListsByKind.{by_length}
use Rattle.cmap_binary_writer.specs.Segments.{AddsSegments, DeclareEach}
use Rattle.cmap_binary_writer.specs.SegmentsWritten.{SegmentByAny}
use Rattle.cmap_layers.specs.Lookups.{bf_span, cid_span}
use Rattle.cmap_binary_writer.specs.Weights.{AreFew, weight_of}
use Rattle.cmap_binary_writer.specs.Written.{WritesAll}
use Rattle.cmap_binary_writer.specs.declared.prepared.Prepared.{Prepared}
use Rattle.cmap_binary_writer.specs.declared.segments.Segment.{Segment}

-- the new segments are the old ones and segments that give codes of this length the CIDs of a list
abbrev pub AddsSameCids : ℕ → List CidEntry → List Segment → List Segment → Type 0
AddsSameCids len es old new = (made : List CidEntry) × AddsSegments old new (map (Declaration.cid len) made) × HaveSameCids es made × AreFew (map cid_span es) (length made)

-- the new segments are the old ones and segments that give codes the texts of a list
abbrev pub AddsSameTexts : List BfEntry → List Segment → List Segment → Type 0
AddsSameTexts es old new = (made : List BfEntry) × AddsSegments old new (map Declaration.bf made) × HaveSameTexts es made × AreFew (map bf_span es) (length made)

-- the weights of all lists of a file
abbrev pub file_weight : File → ℕ
file_weight file = weight_of (map cid_span file.lists.cids.one) + (weight_of (map cid_span file.lists.cids.two) + (weight_of (map cid_span file.lists.cids.three) + (weight_of (map cid_span file.lists.cids.four) + weight_of (map bf_span file.lists.bfs))))

-- segments without columns and segments with columns, which together keep the content of the file
pub record IsPrepared (file : File) (prepared : Prepared) : Type 0 where
  pub contents : List Content
  pub parts : List (List Declaration)
  pub fields : WritesAll SegmentByAny contents prepared.fields.items
  pub segments : DeclareEach prepared.segments.items parts
  pub keeps : Keeps file (file_of (contents ++ map declares parts))
  pub few : 256 * length (flat_map (λ part. part) parts) ≤ file_weight file

-- the new segments are the old ones and segments that give codes of each length the CIDs of these lists
pub record AddsCidLists (lists : ByLength (Vec CidRange)) (old new : List Segment) : Type 0 where
  pub one : List CidEntry
  pub two : List CidEntry
  pub three : List CidEntry
  pub four : List CidEntry
  pub added : AddsSegments old new (by_length Declaration.cid one two three four)
  pub one_same : HaveSameCids (entries_seen lists.one.items) one
  pub two_same : HaveSameCids (entries_seen lists.two.items) two
  pub three_same : HaveSameCids (entries_seen lists.three.items) three
  pub four_same : HaveSameCids (entries_seen lists.four.items) four
  pub one_few : AreFew (map cid_span (entries_seen lists.one.items)) (length one)
  pub two_few : AreFew (map cid_span (entries_seen lists.two.items)) (length two)
  pub three_few : AreFew (map cid_span (entries_seen lists.three.items)) (length three)
  pub four_few : AreFew (map cid_span (entries_seen lists.four.items)) (length four)
