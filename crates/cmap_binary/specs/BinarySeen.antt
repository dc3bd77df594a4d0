-- Private aid: what contracts see of the types of segments, and of a file to which a segment is added.
use Rattle.std.specs.Prelude.{◌≡◌, ℕ, List, [], ◌∷◌, ◌++◌, map, Result}
use Rattle.std.specs.Global.{Vec}
use Rattle.cmap_values.specs.CodeLengths.{length_of}
use Rattle.cmap_values.specs.Files.{Declaration, File, Lists, lists_of}
use Rattle.cmap_values.specs.ListsAppended.{append_lists}
use Rattle.cmap_values.specs.Only.{IsOnly, HoldsOfNone}
use Rattle.cmap_values.specs.Outcomes.{Outcome}
use Rattle.cmap_values.specs.declared.declarations.CidRange.{CidRange}
use Rattle.cmap_values.specs.declared.declarations.Lists as declarations
use Rattle.cmap_values.specs.declared.fault.Fault.{Fault}
use Rattle.cmap_values.specs.declared.fault.Reason.{Reason}
use Rattle.cmap_binary.specs.Bundles.{PrefixTables}
use Rattle.cmap_binary.specs.BinaryFiles as files
use Rattle.cmap_binary.specs.BinaryFiles.{Content, declares, uses, SegmentAt, file_of, metadata_after}
use Rattle.cmap_binary.specs.Fronts.{AllOf, RowOf}
use Rattle.cmap_binary.specs.declared.kinds.Kind.{Kind}
use Rattle.cmap_binary.specs.declared.kinds.Kind.TheVariants.{Cids, Texts, Base, Notdefs, Mode, Codespaces, Name, Collection}
use Rattle.cmap_binary.specs.ColumnsSeen.{shape_seen}
use Rattle.cmap_binary.specs.WrongSegments.{WrongInRow}

abbrev pub kind_seen : Kind → files.Kind
kind_seen (Cids shape len) = files.cids (shape_seen shape) (length_of len)
kind_seen (Texts shape units) = files.texts (shape_seen shape) units
kind_seen Base = files.base
kind_seen Notdefs = files.notdefs
kind_seen Mode = files.mode
kind_seen Codespaces = files.codespaces
kind_seen Name = files.name
kind_seen Collection = files.collection

-- the file with the content of one more segment
abbrev pub with_content : File → Content → File
with_content file (declares ds) = record file { lists = append_lists file.lists (lists_of ds) }
with_content file (uses text) = record file { uses = file.uses ++ text ∷ [] }
with_content file content = record file { metadata = metadata_after file.metadata content }

-- exactly one content is read, and it is added to the file
pub record SaysContent (reads : Content → Type 0) (old new : File) : Type 0 where
  pub content : Content
  pub only : IsOnly reads content
  pub says : new ≡ with_content old content

-- nothing can be read, and this is the reason
abbrev pub IsWrong : {A : Type 0} → (A → Type 0) → (Reason → Type 0) → Reason → Type 0
IsWrong reads wrong reason = HoldsOfNone reads × wrong reason

-- a call that reads the only value that can be read, or else gives the reason
abbrev pub ReadsOr : {A B : Type 0} → (B → Type 0) → (Reason → Type 0) → (A → B) → Result A (Fault Reason) → Type 0
ReadsOr reads wrong seen = Outcome (λ x. IsOnly reads (seen x)) (IsWrong reads wrong)

-- a call that adds the content that it reads to a file
abbrev pub Adds : (Content → Type 0) → (Reason → Type 0) → File → File → Result Unit (Fault Reason) → Type 0
Adds reads wrong old new = Outcome (λ done. SaysContent reads old new) (IsWrong reads wrong)

-- a call that adds the content that it reads to a file; if nothing can be read, the file stays as it was
abbrev pub AddsWhole : (Content → Type 0) → (Reason → Type 0) → File → File → Result Unit (Fault Reason) → Type 0
AddsWhole reads wrong old new = Outcome (λ done. SaysContent reads old new) (λ reason. IsWrong reads wrong reason × (new ≡ old))

-- exactly these declarations are read, and they are added to the lists
pub record SaysDeclared (reads : Content → Type 0) (old new : Lists) : Type 0 where
  pub declared : List Declaration
  pub only : IsOnly reads (declares declared)
  pub says : new ≡ append_lists old (lists_of declared)

-- a call that adds the declarations that it reads to lists
abbrev pub Declares : (Content → Type 0) → (Reason → Type 0) → Lists → Lists → Result Unit (Fault Reason) → Type 0
Declares reads wrong old new = Outcome (λ done. SaysDeclared reads old new) (IsWrong reads wrong)

-- exactly these n entries in a row are read, and they are added to the lists as declarations of this kind
pub record SaysRow {A S : Type 0} (item : S → A × S → Type 0) (kind : A → Declaration) (n : ℕ) (start : S) (old new : Lists) : Type 0 where
  pub entries : List A
  pub end : S
  pub only : IsOnly (RowOf item n start) (entries, end)
  pub says : new ≡ append_lists old (lists_of (map kind entries))

-- a call that adds the entries that it reads in a row to lists
abbrev pub AddsRow : {A S : Type 0} → (S → A × S → Type 0) → (S → Reason → Type 0) → (A → Declaration) → ℕ → S → Lists → Lists → Result Unit (Fault Reason) → Type 0
AddsRow item wrong kind n start old new = Outcome (λ done. SaysRow item kind n start old new) (IsWrong (RowOf item n start) (WrongInRow item wrong n start))

-- the other lists, with this list of the CIDs for codes of two bytes
abbrev pub with_cids_of_two : Vec CidRange → declarations.Lists → declarations.Lists
with_cids_of_two list others = record {
  cids = record { one = others.cids.one; two = list; three = others.cids.three; four = others.cids.four };
  notdefs = others.notdefs;
  bfs = others.bfs;
  spaces = others.spaces;
}

-- the bytes are segments in a row, and their contents together give the file
abbrev pub SegmentsSay : PrefixTables → List ℕ → File → Type 0
SegmentsSay tables bytes file = (contents : List Content) × AllOf (SegmentAt tables) bytes contents × (file ≡ file_of contents)

-- for contents that don't depend on the tables
abbrev pub no_tables : PrefixTables
no_tables = record { delta = []; count = [] }
