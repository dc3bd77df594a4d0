-- The bytes of the segments of a file that have no columns.
use Rattle.std.specs.Prelude.{◌≡◌, ℕ, zero, suc, pos, nat_abs, ◌+◌, ◌<◌, ◌^◌, List, [], ◌∷◌, ◌++◌, All, IfSome, Option, Some, None, drop, flat_map, length, take}
use Rattle.cmap_values.specs.CodeLengths.{IsCodeLength}
use Rattle.cmap_values.specs.Files.{ByLength, CidEntry, Codespace, File}
use Rattle.cmap_values.specs.Metadata.{Collection, FileMetadata, Mode, horizontal, vertical}
use Rattle.cmap_values.specs.Names.{family_of, ordering_of, registry_of}
use Rattle.cmap_binary_writer.specs.MetadataWritten.{collection_len}
use Rattle.cmap_binary_writer.specs.Written.{bytes_of}

-- ---- segments
-- the type of a segment, its whole length, and its payload
abbrev pub segment_bytes : ℕ → List ℕ → List ℕ
segment_bytes number payload = (number ∷ bytes_of 4 (5 + length payload)) ++ payload

-- a list in at most `steps` parts of `most` elements each; the last part may have fewer
abbrev pub parts_in : {A : Type 0} → ℕ → ℕ → List A → List (List A)
parts_in zero most xs = []
parts_in (suc steps) most [] = []
parts_in (suc steps) most (x ∷ xs) = take most (x ∷ xs) ∷ parts_in steps most (drop most (x ∷ xs))

abbrev pub parts_of : {A : Type 0} → ℕ → List A → List (List A)
parts_of most xs = parts_in (length xs) most xs

-- a segment of this type for each part of at most `most` elements
abbrev pub part_segments : {A : Type 0} → ℕ → (List A → List ℕ) → ℕ → List A → List ℕ
part_segments number payload most xs = flat_map (λ part. segment_bytes number (payload part)) (parts_of most xs)

-- ---- metadata
abbrev pub terminated_bytes : List ℕ → List ℕ
terminated_bytes text = text ++ 0 ∷ []

abbrev pub collection_payload : Collection → List ℕ
collection_payload collection = terminated_bytes (registry_of collection.family) ++ (terminated_bytes (ordering_of collection.family) ++ bytes_of 2 (nat_abs collection.supplement))

abbrev pub mode_number : Mode → ℕ
mode_number horizontal = 0
mode_number vertical = 1

abbrev pub option_bytes : {A : Type 0} → (A → List ℕ) → Option A → List ℕ
option_bytes say None = []
option_bytes say (Some x) = say x

abbrev pub collection_bytes : Option Collection → List ℕ
collection_bytes o = option_bytes (λ collection. segment_bytes 14 (collection_payload collection)) o

abbrev pub name_bytes : Option (List ℕ) → List ℕ
name_bytes o = option_bytes (λ name. segment_bytes 13 name) o

abbrev pub mode_bytes : Option Mode → List ℕ
mode_bytes o = option_bytes (λ mode. segment_bytes 11 (mode_number mode ∷ [])) o

abbrev pub metadata_bytes : FileMetadata → List ℕ
metadata_bytes m = collection_bytes m.collection ++ (name_bytes m.name ++ mode_bytes m.mode)

abbrev pub uses_bytes : List (List ℕ) → List ℕ
uses_bytes names = flat_map (λ name. segment_bytes 9 name) names

-- ---- declarations
-- the length of the codes, the low code, the high code
abbrev pub space_bytes : Codespace → List ℕ
space_bytes space = space.len ∷ (bytes_of space.len space.low ++ bytes_of space.len space.high)

abbrev pub spaces_payload : List Codespace → List ℕ
spaces_payload spaces = length spaces ∷ flat_map space_bytes spaces

abbrev pub spaces_bytes : List Codespace → List ℕ
spaces_bytes spaces = part_segments 12 spaces_payload 255 spaces

-- start, end, CID
abbrev pub notdef_bytes : ℕ → CidEntry → List ℕ
notdef_bytes len e = bytes_of len e.start ++ (bytes_of len e.end ++ bytes_of 2 e.cid)

abbrev pub notdefs_payload : ℕ → List CidEntry → List ℕ
notdefs_payload len es = len ∷ (bytes_of 2 (length es) ++ flat_map (notdef_bytes len) es)

abbrev pub notdefs_bytes : ℕ → List CidEntry → List ℕ
notdefs_bytes len es = part_segments 10 (notdefs_payload len) 65535 es

abbrev pub notdef_lists_bytes : ByLength → List ℕ
notdef_lists_bytes lists = notdefs_bytes 1 lists.one ++ (notdefs_bytes 2 lists.two ++ (notdefs_bytes 3 lists.three ++ notdefs_bytes 4 lists.four))

-- ---- a file
abbrev pub fields_of : File → List ℕ
fields_of file = metadata_bytes file.metadata ++ (uses_bytes file.uses ++ (spaces_bytes file.lists.spaces ++ notdef_lists_bytes file.lists.notdefs))

-- ---- private aid
-- the values that these bytes can represent
pub record CodeFits (len code : ℕ) : Type 0 where
  pub length : IsCodeLength len
  pub small : code < 256 ^ len

abbrev pub SpaceFits : Codespace → Type 0
SpaceFits space = CodeFits space.len space.low × CodeFits space.len space.high

abbrev pub NotdefFits : ℕ → CidEntry → Type 0
NotdefFits len e = CodeFits len e.start × CodeFits len e.end × (e.cid < 2 ^ 16)

abbrev pub IsUnterminated : List ℕ → Type 0
IsUnterminated text = All (λ b. b ≡ 0 → ⊥) text

pub record IsSayableCollection (collection : Collection) : Type 0 where
  pub registry : IsUnterminated (registry_of collection.family)
  pub ordering : IsUnterminated (ordering_of collection.family)
  pub named : family_of (registry_of collection.family) (ordering_of collection.family) ≡ collection.family
  pub number : ℕ
  pub narrow : number < 2 ^ 16
  pub supplement : pos number ≡ collection.supplement

abbrev pub CollectionFits : Collection → Type 0
CollectionFits collection = IsSayableCollection collection × (5 + collection_len collection < 2 ^ 32)

abbrev pub NameFits : List ℕ → Type 0
NameFits name = 5 + length name < 2 ^ 32

pub record MetadataFits (m : FileMetadata) : Type 0 where
  pub collection : IfSome m.collection CollectionFits
  pub name : IfSome m.name NameFits

pub record NotdefsFit (lists : ByLength) : Type 0 where
  pub one : All (NotdefFits 1) lists.one
  pub two : All (NotdefFits 2) lists.two
  pub three : All (NotdefFits 3) lists.three
  pub four : All (NotdefFits 4) lists.four

pub record FieldsFit (file : File) : Type 0 where
  pub metadata : MetadataFits file.metadata
  pub uses : All NameFits file.uses
  pub spaces : All SpaceFits file.lists.spaces
  pub notdefs : NotdefsFit file.lists.notdefs
