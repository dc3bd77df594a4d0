-- The names of the maps from Unicode, in UTF-16, to the CIDs of character collections. Adobe Technical Note 5099.
use Rattle.std.specs.Prelude.{ℕ, List, Option, None, Some, bytes_eq, codes, if◌then◌else◌, option_map}
use Rattle.cmap_values.specs.declared.writing_mode.WritingMode.{WritingMode}
use Rattle.cmap_values.specs.declared.writing_mode.WritingMode.TheVariants.{Horizontal, Vertical}

-- the names for horizontal and for vertical writing
abbrev pub names_of : List ℕ → Option (List ℕ × List ℕ)
names_of collection =
    if bytes_eq collection (codes "Adobe-Japan1") then Some (codes "UniJIS-UTF16-H", codes "UniJIS-UTF16-V")
    else if bytes_eq collection (codes "Adobe-GB1") then Some (codes "UniGB-UTF16-H", codes "UniGB-UTF16-V")
    else if bytes_eq collection (codes "Adobe-CNS1") then Some (codes "UniCNS-UTF16-H", codes "UniCNS-UTF16-V")
    else if bytes_eq collection (codes "Adobe-Korea1") then Some (codes "UniKS-UTF16-H", codes "UniKS-UTF16-V")
    else if bytes_eq collection (codes "Adobe-KR") then Some (codes "UniAKR-UTF16-H", codes "UniAKR-UTF16-H")
    else if bytes_eq collection (codes "Adobe-Japan2") then Some (codes "UniHojo-UTF16-H", codes "UniHojo-UTF16-V")
    else None

abbrev for_mode : WritingMode → List ℕ × List ℕ → List ℕ
for_mode Horizontal (horizontal, vertical) = horizontal
for_mode Vertical (horizontal, vertical) = vertical

-- the name for a writing mode
abbrev pub name_for : List ℕ → WritingMode → Option (List ℕ)
name_for collection mode = option_map (for_mode mode) (names_of collection)
