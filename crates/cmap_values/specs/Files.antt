-- The content of one file: its metadata, its declarations, and the files that it uses.
use Rattle.std.specs.Prelude.{ℕ, List, [], ◌∷◌, ◌==◌, if◌then◌else◌}
pub use Rattle.cmap_values.specs.Metadata.{Mode, horizontal, vertical, Collection, FileMetadata, mode_numbered}

-- codes from start to end: the code start + k has the CID cid + k, or in a notdef declaration the CID cid
pub record CidEntry : Type 0 where
  pub start : ℕ
  pub end : ℕ
  pub cid : ℕ

-- codes from start to end: the code start + k has the text of the units at the offset k
pub record BfEntry : Type 0 where
  pub start : ℕ
  pub end : ℕ
  pub units : List ℕ

-- codes of len bytes, where each byte lies between the bytes of low and high at its position
pub record Codespace : Type 0 where
  pub len : ℕ
  pub low : ℕ
  pub high : ℕ

-- one declaration of a file; declarations of CIDs are filed by a length of codes
pub data Declaration : Type 0 where
  cid : ℕ → CidEntry → Declaration
  notdef : ℕ → CidEntry → Declaration
  bf : BfEntry → Declaration
  codespace : Codespace → Declaration

-- lists for codes of one to four bytes
pub record ByLength : Type 0 where
  pub one : List CidEntry
  pub two : List CidEntry
  pub three : List CidEntry
  pub four : List CidEntry

abbrev pub of_length : ByLength → ℕ → List CidEntry
of_length lists len =
    if len == 1 then lists.one
    else if len == 2 then lists.two
    else if len == 3 then lists.three
    else if len == 4 then lists.four
    else []

-- the declarations of a file by their kinds, each list in the order of the file
pub record Lists : Type 0 where
  pub cids : ByLength
  pub notdefs : ByLength
  pub bfs : List BfEntry
  pub spaces : List Codespace

abbrev pub cids_of : ℕ → List Declaration → List CidEntry
cids_of len [] = []
cids_of len (cid n entry ∷ rest) = if n == len then entry ∷ cids_of len rest else cids_of len rest
cids_of len (_ ∷ rest) = cids_of len rest

abbrev pub notdefs_of : ℕ → List Declaration → List CidEntry
notdefs_of len [] = []
notdefs_of len (notdef n entry ∷ rest) = if n == len then entry ∷ notdefs_of len rest else notdefs_of len rest
notdefs_of len (_ ∷ rest) = notdefs_of len rest

abbrev pub bfs_of : List Declaration → List BfEntry
bfs_of [] = []
bfs_of (bf entry ∷ rest) = entry ∷ bfs_of rest
bfs_of (_ ∷ rest) = bfs_of rest

abbrev pub spaces_of : List Declaration → List Codespace
spaces_of [] = []
spaces_of (codespace space ∷ rest) = space ∷ spaces_of rest
spaces_of (_ ∷ rest) = spaces_of rest

abbrev pub lists_of : List Declaration → Lists
lists_of ds = record {
  cids = record { one = cids_of 1 ds; two = cids_of 2 ds; three = cids_of 3 ds; four = cids_of 4 ds };
  notdefs = record { one = notdefs_of 1 ds; two = notdefs_of 2 ds; three = notdefs_of 3 ds; four = notdefs_of 4 ds };
  bfs = bfs_of ds;
  spaces = spaces_of ds;
}

-- the content of a file; the names of the files that it uses are in the order of the file
pub record File : Type 0 where
  pub metadata : FileMetadata
  pub lists : Lists
  pub uses : List (List ℕ)
