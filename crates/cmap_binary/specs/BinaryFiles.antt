-- CMap files in the binary form bcmap: segments, each with its own content.
use Rattle.std.specs.Prelude.{◌≡◌, ℕ, zero, suc, pos, List, [], ◌∷◌, ◌++◌, map, flat_map, filter_map, take, drop, codes, slice_get, slice_index, Option, Some, None}
use Rattle.std.specs.List.{fold}
use Rattle.cmap_values.specs.Names.{family_of}
use Rattle.cmap_values.specs.Files.{CidEntry, Codespace, Declaration, Mode, Collection, File, FileMetadata, lists_of, mode_numbered}
use Rattle.cmap_binary.specs.Bundles.{PrefixTables}
use Rattle.cmap_binary.specs.BinaryEntries.{Shape, ranges, singles, CidEntriesOf, BfEntriesOf}
use Rattle.cmap_binary.specs.Fronts.{Then, Gives, GivesIf, RowOf, AllOf, ByteAt, FieldAt, CodeAt, FramedAt, TerminatedAt}

-- the content of a segment
pub data Content : Type 0 where
  declares : List Declaration → Content
  uses : List ℕ → Content
  sets_mode : Option Mode → Content
  sets_name : List ℕ → Content
  sets_collection : Collection → Content

-- the types of segments
pub data Kind : Type 0 where
  -- CIDs for codes of this length
  cids : Shape → ℕ → Kind
  -- texts with this number of units each, or each after the number of its units
  texts : Shape → Option ℕ → Kind
  base : Kind
  notdefs : Kind
  mode : Kind
  codespaces : Kind
  name : Kind
  collection : Kind

-- the kinds of segments by their types, from type 1 on
abbrev pub kinds : List Kind
kinds =
    cids ranges 1 ∷ cids singles 1 ∷ cids ranges 2 ∷ cids singles 2 ∷ cids ranges 3 ∷ cids singles 3 ∷ cids ranges 4 ∷ cids singles 4
    ∷ base ∷ notdefs ∷ mode ∷ codespaces ∷ name ∷ collection
    ∷ texts ranges None ∷ texts singles None ∷ texts singles (Some 1) ∷ texts singles (Some 2) ∷ texts singles (Some 3) ∷ texts singles (Some 4) ∷ texts ranges (Some 1) ∷ texts ranges (Some 2) ∷ []

abbrev pub kind_of : ℕ → Option Kind
kind_of zero = None
kind_of (suc n) = slice_get kinds n

-- a notdef entry: start, end, a CID of two bytes
abbrev pub NotdefAt : ℕ → List ℕ → CidEntry × List ℕ → Type 0
NotdefAt width text =
    Then (CodeAt width text) (λ start mid. Then (CodeAt width mid) (λ end tail. Then (FieldAt 2 tail) (λ cid rest. Gives (record { start = start; end = end; cid = cid }, rest))))

-- the width of the codes, the number of the entries, and the entries
abbrev pub NotdefsIn : List ℕ → ℕ × List CidEntry → Type 0
NotdefsIn payload = Then (ByteAt payload) (λ width mid. Then (FieldAt 2 mid) (λ n text. Then (RowOf (NotdefAt width) n text) (λ entries ignored. Gives (width, entries))))

-- a codespace range: the length of its codes, the low code, the high code
abbrev pub CodespaceAt : List ℕ → Codespace × List ℕ → Type 0
CodespaceAt text =
    Then (ByteAt text) (λ len mid. Then (CodeAt len mid) (λ low tail. Then (CodeAt len tail) (λ high rest. Gives (record { len = len; low = low; high = high }, rest))))

abbrev pub CodespacesIn : List ℕ → List Codespace → Type 0
CodespacesIn payload = Then (ByteAt payload) (λ n text. Then (RowOf CodespaceAt n text) (λ spaces ignored. Gives spaces))

-- the registry and the ordering each end at the first zero byte
abbrev pub CollectionIn : List ℕ → Collection → Type 0
CollectionIn payload =
    Then (TerminatedAt payload) (λ registry mid. Then (TerminatedAt mid) (λ ordering tail. Then (FieldAt 2 tail) (λ supplement ignored. Gives (record { family = family_of registry ordering; supplement = pos supplement }))))

-- the content that is made from a value that is read
abbrev pub Made : {A : Type 0} → (A → Type 0) → (A → Content) → Content → Type 0
Made reads make content = (value : _) × reads value × (content ≡ make value)

-- the content of a payload of this type; payload after the part that is read is ignored
abbrev pub SaysAs : PrefixTables → Kind → List ℕ → Content → Type 0
SaysAs tables (cids shape len) payload = Made (Then (FieldAt 2 payload) (CidEntriesOf tables shape)) (λ entries. declares (map (Declaration.cid len) entries))
SaysAs tables (texts shape fixed) payload = Made (Then (FieldAt 2 payload) (BfEntriesOf tables shape fixed)) (λ entries. declares (map Declaration.bf entries))
SaysAs tables base payload = Gives (uses payload)
SaysAs tables notdefs payload = Made (NotdefsIn payload) (λ r. declares (map (Declaration.notdef r.0) r.1))
SaysAs tables mode payload = Made (ByteAt payload) (λ r. sets_mode (mode_numbered r.0))
SaysAs tables codespaces payload = Made (CodespacesIn payload) (λ spaces. declares (map Declaration.codespace spaces))
SaysAs tables name payload = Gives (sets_name payload)
SaysAs tables collection payload = Made (CollectionIn payload) sets_collection

-- a segment of this type with this payload has this content
abbrev pub IsSegment : PrefixTables → ℕ → List ℕ → Content → Type 0
IsSegment tables number payload content = (kind : Kind) × (kind_of number ≡ Some kind) × SaysAs tables kind payload content

-- a segment of a file: a byte for its type, its whole length, its payload
abbrev pub SegmentAt : PrefixTables → List ℕ → Content × List ℕ → Type 0
SegmentAt tables bytes r = Then (FramedAt 1 bytes) (λ segment rest said. IsSegment tables (slice_index segment 0) (drop 5 segment) said.0 × (said.1 ≡ rest)) r

abbrev pub declared_in : Content → List Declaration
declared_in (declares ds) = ds
declared_in _ = []

abbrev pub name_used : Content → Option (List ℕ)
name_used (uses used) = Some used
name_used _ = None

-- the metadata of a file after a segment with this content: a value that the segment sets replaces the value that was set before
abbrev pub metadata_after : FileMetadata → Content → FileMetadata
metadata_after before (sets_mode set) = record before { mode = set }
metadata_after before (sets_name set) = record before { name = Some set }
metadata_after before (sets_collection set) = record before { collection = Some set }
metadata_after before _ = before

-- the file that the contents of its segments give together
abbrev pub file_of : List Content → File
file_of contents = record {
  metadata = fold metadata_after (record { collection = None; name = None; mode = None }) contents;
  lists = lists_of (flat_map declared_in contents);
  uses = filter_map name_used contents;
}

-- the first bytes of a binary file
abbrev pub magic : List ℕ
magic = codes "bcmap"

abbrev pub IsMarkedBinary : List ℕ → Type 0
IsMarkedBinary bytes = (rest : List ℕ) × (bytes ≡ magic ++ rest)

-- the segments of a file of version 1, after the ten bytes of its header; bytes after the length that the header declares are ignored
abbrev pub BodyOf : List ℕ → List ℕ → Type 0
BodyOf bytes = Then (FramedAt 6 bytes) (λ file ignored. GivesIf (take 6 file ≡ magic ++ 1 ∷ []) (drop 10 file))

-- the bytes are a binary file with the content of this file
unfoldable pub IsBinaryFile : PrefixTables → List ℕ → File → Type 0
IsBinaryFile tables bytes file = (body : List ℕ) × (contents : List Content) × BodyOf bytes body × AllOf (SegmentAt tables) body contents × (file ≡ file_of contents)
