-- The reasons why a file can't be written in the binary form.
use Rattle.std.specs.Prelude.{◌≡◌, ◌≢◌, ◌⊎◌, ℕ, ℤ, pos, ◌+◌, ◌≤◌, ◌<◌, ◌^◌, List, Any, Contains, Option, Some, None, IsSomeAnd, length, map}
use Rattle.cmap_runs.specs.Ranges.{Span, runs_of}
use Rattle.cmap_values.specs.declared.range.Range.{Range}
use Rattle.cmap_values.specs.Files.{BfEntry, ByLength, CidEntry, Codespace, File, of_length}
use Rattle.cmap_values.specs.Metadata.{Collection, FileMetadata}
use Rattle.cmap_values.specs.Names.{Family, family_of, ordering_of, registry_of}
use Rattle.cmap_layers.specs.Lookups.{bf_span, cid_span, last_bf}
use Rattle.cmap_binary.specs.Bundles.{PrefixTables}
use Rattle.cmap_binary.specs.PrefixWords.{CodeWord}
use Rattle.cmap_binary_writer.specs.Arranged.{IsArranged}
use Rattle.cmap_binary_writer.specs.MetadataWritten.{collection_len}
use Rattle.cmap_binary_writer.specs.Pieces.{cid_told}
use Rattle.cmap_binary_writer.specs.PreparedFiles.{IsPrepared}
use Rattle.cmap_binary_writer.specs.Segments.{AreSegmentBytes}
use Rattle.cmap_binary_writer.specs.Spelled.{IsNoSymbol}
use Rattle.cmap_binary_writer.specs.TextParts.{units_at}
use Rattle.cmap_binary_writer.specs.declared.prepared.Prepared.{Prepared}
use Rattle.cmap_binary_writer.specs.declared.segments.Segment.{Segment}
use Rattle.cmap_binary_writer.specs.declared.obstacle.Obstacle.{Obstacle}
use Rattle.cmap_binary_writer.specs.declared.obstacle.Obstacle.TheVariants.{CustomFamily, LargeCid, LargeCode, NoPlace, NoWord, Supplement, Text, TooLong, ZeroByte}

-- a CID that doesn't fit in two bytes, or no CID since it doesn't fit in 32 bits
abbrev pub IsLargeCid : Option ℕ → Type 0
IsLargeCid None = Unit {0}
IsLargeCid (Some cid) = 2 ^ 16 ≤ cid

-- the range is a run of codes for which one declaration decides
abbrev pub IsRunOf : List Span → Range → Type 0
IsRunOf spans range = Any (λ run. (run.low ≡ range.start) × (run.high ≡ range.end)) (runs_of spans)

-- a list gives the last code of a run a large CID
abbrev pub GivesLargeCid : List CidEntry → Range → Type 0
GivesLargeCid es range = IsRunOf (map cid_span es) range × IsSomeAnd (cid_told es range.end) IsLargeCid

-- a notdef declaration of this range has a large CID
abbrev pub IsLargeNotdef : Range → CidEntry → Type 0
IsLargeNotdef range e = (e.start ≡ range.start) × (e.end ≡ range.end) × (2 ^ 16 ≤ e.cid)

-- the code is one of two ends, and it doesn't fit in this many bytes
abbrev pub IsLargeEnd : ℕ → ℕ → ℕ → ℕ → Type 0
IsLargeEnd code len low high = ((code ≡ low) ⊎ (code ≡ high)) × (256 ^ len ≤ code)

-- the registry or the ordering of the family has a zero byte
abbrev pub HoldsZero : Collection → Type 0
HoldsZero collection = Contains (registry_of collection.family) 0 ⊎ Contains (ordering_of collection.family) 0

-- the family isn't the family that its registry and ordering name
abbrev pub IsMisnamed : Collection → Type 0
IsMisnamed collection = family_of (registry_of collection.family) (ordering_of collection.family) ≢ collection.family

-- the supplement is n, and it doesn't fit in two bytes
abbrev pub HasWideSupplement : ℤ → Collection → Type 0
HasWideSupplement n collection = (collection.supplement ≡ n) × ((number : ℕ) → number < 2 ^ 16 → pos number ≢ n)

-- the declaration that decides a run gives the first code of the run a text whose number of units doesn't fit in a byte
abbrev pub HasLongText : List BfEntry → Range → Type 0
HasLongText es range = IsRunOf (map bf_span es) range × IsSomeAnd (last_bf es range.start) (λ e. 2 ^ 8 ≤ length (units_at e range.start))

-- a run has more than 2^16 codes
abbrev pub HasManyTexts : List BfEntry → Range → Type 0
HasManyTexts es range = (range.start + 2 ^ 16 ≤ range.end) × IsRunOf (map bf_span es) range

-- the payload and the five bytes before it have 2^32 bytes or more
abbrev pub IsLongCollection : Collection → Type 0
IsLongCollection collection = 2 ^ 32 ≤ 5 + collection_len collection

abbrev pub IsLongName : List ℕ → Type 0
IsLongName name = 2 ^ 32 ≤ 5 + length name

-- the payload for the collection, the name of the file or the name of a used file is too long
abbrev pub HasLongName : File → Type 0
HasLongName file = (IsSomeAnd file.metadata.collection IsLongCollection ⊎ IsSomeAnd file.metadata.name IsLongName) ⊎ Any IsLongName file.uses

-- P holds for some length and the list for codes of this length
abbrev pub InSomeList : ByLength → (ℕ → List CidEntry → Type 0) → Type 0
InSomeList lists P = (len : ℕ) × P len (of_length lists len)

-- the file has the obstacle, so it has no binary form
abbrev pub IsObstacle : File → Obstacle → Type 0
IsObstacle file (LargeCid range) = InSomeList file.lists.cids (λ len es. GivesLargeCid es range) ⊎ InSomeList file.lists.notdefs (λ len es. Any (IsLargeNotdef range) es)
IsObstacle file (LargeCode code) = Any (λ space. IsLargeEnd code space.len space.low space.high) file.lists.spaces ⊎ InSomeList file.lists.notdefs (λ len es. Any (λ e. IsLargeEnd code len e.start e.end) es)
IsObstacle file ZeroByte = IsSomeAnd file.metadata.collection HoldsZero
IsObstacle file CustomFamily = IsSomeAnd file.metadata.collection IsMisnamed
IsObstacle file (Supplement n) = IsSomeAnd file.metadata.collection (HasWideSupplement n)
IsObstacle file (Text range) = HasLongText file.lists.bfs range ⊎ HasManyTexts file.lists.bfs range
IsObstacle file TooLong = HasLongName file
IsObstacle file NoWord = ⊥
IsObstacle file NoPlace = ⊥

-- the file has no obstacle
abbrev pub IsSayable : File → Type 0
IsSayable file = (obstacle : Obstacle) → IsObstacle file obstacle → ⊥

-- the prepared form of a file: the file has no obstacle, and the prepared form has its content and arrangement
pub record IsPreparedFor (file : File) (prepared : Prepared) : Type 0 where
  pub sayable : IsSayable file
  pub says : IsPrepared file prepared
  pub arranged : IsArranged file prepared

-- a number of the segment has no code word in its table
abbrev pub HasNoWord : PrefixTables → Segment → Type 0
HasNoWord tables segment = Any (IsNoSymbol tables.delta) segment.deltas.items ⊎ Any (IsNoSymbol tables.count) segment.counts.items

-- the prepared form of the file has a number without a code word in these tables
abbrev pub IsUnspelled : PrefixTables → File → Type 0
IsUnspelled tables file = (prepared : Prepared) × IsPreparedFor file prepared × Any (HasNoWord tables) prepared.segments.items

-- the head of ten bytes, the fields and the bytes of all segments have 2^32 bytes or more
pub record IsLongBy (tables : PrefixTables) (prepared : Prepared) : Type 0 where
  pub bytes : List ℕ
  pub are : AreSegmentBytes tables prepared.segments.items bytes
  pub long : 2 ^ 32 ≤ 10 + (length prepared.fields.items + length bytes)

-- the prepared form of the file is too long
abbrev pub IsLongFile : PrefixTables → File → Type 0
IsLongFile tables file = (prepared : Prepared) × IsPreparedFor file prepared × IsLongBy tables prepared

-- the obstacles to writing a file with these tables
abbrev pub IsWriteObstacle : PrefixTables → File → Obstacle → Type 0
IsWriteObstacle tables file NoWord = IsUnspelled tables file
IsWriteObstacle tables file TooLong = HasLongName file ⊎ IsLongFile tables file
IsWriteObstacle tables file other = IsObstacle file other

-- ---- private aid
-- the obstacles that parts of a file have
abbrev pub IsCodeObstacle : ℕ → ℕ → Obstacle → Type 0
IsCodeObstacle len code (LargeCode large) = (large ≡ code) × (256 ^ len ≤ code)
IsCodeObstacle len code other = ⊥

abbrev pub IsNotdefObstacle : ℕ → CidEntry → Obstacle → Type 0
IsNotdefObstacle len e (LargeCid range) = IsLargeNotdef range e
IsNotdefObstacle len e (LargeCode code) = IsLargeEnd code len e.start e.end
IsNotdefObstacle len e other = ⊥

abbrev pub IsNotdefsObstacle : ℕ → List CidEntry → Obstacle → Type 0
IsNotdefsObstacle len es (LargeCid range) = Any (IsLargeNotdef range) es
IsNotdefsObstacle len es (LargeCode code) = Any (λ e. IsLargeEnd code len e.start e.end) es
IsNotdefsObstacle len es other = ⊥

abbrev pub IsNotdefListsObstacle : ByLength → Obstacle → Type 0
IsNotdefListsObstacle lists (LargeCid range) = InSomeList lists (λ len es. Any (IsLargeNotdef range) es)
IsNotdefListsObstacle lists (LargeCode code) = InSomeList lists (λ len es. Any (λ e. IsLargeEnd code len e.start e.end) es)
IsNotdefListsObstacle lists other = ⊥

abbrev pub IsSpaceObstacle : Codespace → Obstacle → Type 0
IsSpaceObstacle space (LargeCode code) = IsLargeEnd code space.len space.low space.high
IsSpaceObstacle space other = ⊥

abbrev pub IsSpacesObstacle : List Codespace → Obstacle → Type 0
IsSpacesObstacle spaces (LargeCode code) = Any (λ space. IsLargeEnd code space.len space.low space.high) spaces
IsSpacesObstacle spaces other = ⊥

abbrev pub IsTerminatedObstacle : List ℕ → Obstacle → Type 0
IsTerminatedObstacle text ZeroByte = Contains text 0
IsTerminatedObstacle text other = ⊥

abbrev pub IsFamilyObstacle : Family → Obstacle → Type 0
IsFamilyObstacle family CustomFamily = family_of (registry_of family) (ordering_of family) ≢ family
IsFamilyObstacle family other = ⊥

abbrev pub IsCollectionObstacle : Collection → Obstacle → Type 0
IsCollectionObstacle collection ZeroByte = HoldsZero collection
IsCollectionObstacle collection CustomFamily = IsMisnamed collection
IsCollectionObstacle collection (Supplement n) = HasWideSupplement n collection
IsCollectionObstacle collection other = ⊥

abbrev pub IsGivenCollectionObstacle : Option Collection → Obstacle → Type 0
IsGivenCollectionObstacle o ZeroByte = IsSomeAnd o HoldsZero
IsGivenCollectionObstacle o CustomFamily = IsSomeAnd o IsMisnamed
IsGivenCollectionObstacle o (Supplement n) = IsSomeAnd o (HasWideSupplement n)
IsGivenCollectionObstacle o TooLong = IsSomeAnd o IsLongCollection
IsGivenCollectionObstacle o other = ⊥

abbrev pub IsMetadataObstacle : FileMetadata → Obstacle → Type 0
IsMetadataObstacle m TooLong = IsSomeAnd m.collection IsLongCollection ⊎ IsSomeAnd m.name IsLongName
IsMetadataObstacle m other = IsGivenCollectionObstacle m.collection other

abbrev pub IsCidObstacle : List CidEntry → Obstacle → Type 0
IsCidObstacle es (LargeCid range) = GivesLargeCid es range
IsCidObstacle es other = ⊥

abbrev pub IsCidListsObstacle : ByLength → Obstacle → Type 0
IsCidListsObstacle lists (LargeCid range) = InSomeList lists (λ len es. GivesLargeCid es range)
IsCidListsObstacle lists other = ⊥

abbrev pub IsTextObstacle : List BfEntry → Obstacle → Type 0
IsTextObstacle es (Text range) = HasLongText es range ⊎ HasManyTexts es range
IsTextObstacle es other = ⊥

abbrev pub IsColumnObstacle : List CodeWord → List ℕ → Obstacle → Type 0
IsColumnObstacle table symbols NoWord = Any (IsNoSymbol table) symbols
IsColumnObstacle table symbols TooLong = 2 ^ 30 ≤ length symbols
IsColumnObstacle table symbols other = ⊥

-- the number of entries doesn't fit in two bytes
abbrev pub HasManyEntries : Segment → Type 0
HasManyEntries segment = (2 ^ 16 ≤ length segment.deltas.items) ⊎ (2 ^ 16 ≤ length segment.counts.items)

-- the segment is too large to be a segment of a prepared file
abbrev pub IsLarge : Segment → Type 0
IsLarge segment = HasManyEntries segment ⊎ (2 ^ 31 ≤ length segment.values.items)

abbrev pub IsSegmentObstacle : PrefixTables → Segment → Obstacle → Type 0
IsSegmentObstacle tables segment NoWord = HasNoWord tables segment
IsSegmentObstacle tables segment TooLong = HasManyEntries segment
IsSegmentObstacle tables segment other = ⊥

abbrev pub IsSegmentsObstacle : PrefixTables → List Segment → Obstacle → Type 0
IsSegmentsObstacle tables segments NoWord = Any (HasNoWord tables) segments
IsSegmentsObstacle tables segments TooLong = Any IsLarge segments
IsSegmentsObstacle tables segments other = ⊥

-- the obstacles to writing a prepared file
abbrev pub IsPreparedObstacle : PrefixTables → Prepared → Obstacle → Type 0
IsPreparedObstacle tables prepared NoWord = Any (HasNoWord tables) prepared.segments.items
IsPreparedObstacle tables prepared TooLong = Any IsLarge prepared.segments.items ⊎ IsLongBy tables prepared
IsPreparedObstacle tables prepared other = ⊥
