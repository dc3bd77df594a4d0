-- Private aid: declarations in the order of their kinds.
use Rattle.std.specs.Prelude.{ℕ, List, ◌++◌, map}
use Rattle.cmap_values.specs.Files.{CidEntry, Declaration, Lists}

-- the declarations of one kind, for codes of one to four bytes
abbrev pub by_length : (ℕ → CidEntry → Declaration) → List CidEntry → List CidEntry → List CidEntry → List CidEntry → List Declaration
by_length declare one two three four = map (declare 1) one ++ (map (declare 2) two ++ (map (declare 3) three ++ map (declare 4) four))

-- all declarations of a file
abbrev pub declarations_of : Lists → List Declaration
declarations_of l =
    (map Declaration.codespace l.spaces ++ by_length Declaration.notdef l.notdefs.one l.notdefs.two l.notdefs.three l.notdefs.four)
    ++ (by_length Declaration.cid l.cids.one l.cids.two l.cids.three l.cids.four ++ map Declaration.bf l.bfs)
