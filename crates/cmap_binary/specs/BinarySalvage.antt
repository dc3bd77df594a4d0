-- The content of a binary file apart from its faults: each segment is read by itself.
use Rattle.std.specs.Prelude.{◌≡◌, ◌≢◌, ℕ, ◌+◌, ◌≤◌, List, [], ◌∷◌, ◌++◌, length, take, drop, slice_index}
use Rattle.cmap_values.specs.Files.{File}
use Rattle.cmap_values.specs.Only.{IsOnly, HoldsOfNone}
use Rattle.cmap_values.specs.declared.fault.Reason.{Reason}
use Rattle.cmap_values.specs.declared.fault.Reason.TheVariants.{Header, SegmentLength}
use Rattle.cmap_values.specs.declared.fault.Stop.{Stop}
use Rattle.cmap_binary.specs.Bundles.{PrefixTables}
use Rattle.cmap_binary.specs.BinaryFiles.{BodyOf, Content, IsSegment, file_of, magic}
use Rattle.cmap_binary.specs.Fronts.{BytesAt, FramedAt, GivesIf, Then}
use Rattle.cmap_binary.specs.WrongSegments.{WrongSegment}

-- a segment, with its type and its length, has this content
abbrev pub SegmentSays : PrefixTables → List ℕ → Content → Type 0
SegmentSays tables segment = IsSegment tables (slice_index segment 0) (drop 5 segment)

-- a segment can't be read, and this is the reason
abbrev pub SaysNothing : PrefixTables → List ℕ → Reason → Type 0
SaysNothing tables segment reason = HoldsOfNone (SegmentSays tables segment) × WrongSegment tables (slice_index segment 0) (drop 5 segment) reason

-- the contents and the faults of the segments in the bytes from this offset of a file on
pub data SegmentsFrom (tables : PrefixTables) : ℕ → List ℕ → List Content → List Stop → Type 0 where
  -- the end
  ended : {offset : ℕ} → SegmentsFrom tables offset [] [] []
  -- the last fault: the bytes don't begin with a whole segment
  cut_short : {offset : ℕ} {bytes : List ℕ} → bytes ≢ [] → HoldsOfNone (FramedAt 1 bytes)
      → SegmentsFrom tables offset bytes [] (record { offset = offset; reason = SegmentLength } ∷ [])
  -- a segment that can be read adds its content
  said : {offset : ℕ} {bytes segment rest : List ℕ} {content : Content} {contents : List Content} {faults : List Stop} → FramedAt 1 bytes (segment, rest) → IsOnly (SegmentSays tables segment) content
      → SegmentsFrom tables (offset + length segment) rest contents faults → SegmentsFrom tables offset bytes (content ∷ contents) faults
  -- a segment at fault adds no content
  at_fault : {offset : ℕ} {bytes segment rest : List ℕ} {contents : List Content} {faults : List Stop} → (reason : Reason) → FramedAt 1 bytes (segment, rest) → SaysNothing tables segment reason
      → SegmentsFrom tables (offset + length segment) rest contents faults → SegmentsFrom tables offset bytes contents (record { offset = offset; reason = reason } ∷ faults)

-- the bytes after a header of version 1, whatever length the header declares
abbrev pub AfterHeader : List ℕ → List ℕ → Type 0
AfterHeader bytes = Then (BytesAt 10 bytes) (λ header rest. GivesIf (take 6 header ≡ magic ++ 1 ∷ []) rest)

-- the fault of a header
abbrev pub header_fault : Stop
header_fault = record { offset = 0; reason = Header }

-- the bytes that are read as segments, and the fault of the header, if there is one
pub data BodyRead (bytes : List ℕ) : List ℕ → List Stop → Type 0 where
  -- a file is read up to the length that its header gives
  whole : {body : List ℕ} → BodyOf bytes body → BodyRead bytes body []
  -- if the length is wrong, all bytes after the header are read
  wrong_length : {body : List ℕ} → HoldsOfNone (BodyOf bytes) → AfterHeader bytes body → BodyRead bytes body (header_fault ∷ [])
  -- without a header nothing is read
  no_header : HoldsOfNone (AfterHeader bytes) → BodyRead bytes [] (header_fault ∷ [])

-- the contents of the segments after a header give the file together, and the faults of the segments come after the first faults
abbrev pub SegmentsSalvaged : PrefixTables → List ℕ → File → List Stop → List Stop → Type 0
SegmentsSalvaged tables body file first faults = (contents : List Content) × (later : List Stop) × SegmentsFrom tables 10 body contents later × (file ≡ file_of contents) × (faults ≡ first ++ later)

-- the content of a binary file apart from its faults, and the faults
abbrev pub SalvagesBinary : PrefixTables → List ℕ → File → List Stop → Type 0
SalvagesBinary tables bytes file faults = (body : List ℕ) × (first : List Stop) × BodyRead bytes body first × SegmentsSalvaged tables body file first faults

-- there is a fault, and the first one lies within this many bytes
abbrev pub BeginsWithin : ℕ → List Stop → Type 0
BeginsWithin len faults = (stop : Stop) × (more : List Stop) × (faults ≡ stop ∷ more) × (stop.offset ≤ len)
