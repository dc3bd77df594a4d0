-- The number of declarations of each kind in a layer.
use Rattle.std.specs.Prelude.{ℕ, length}
use Rattle.cmap_values.specs.Files as files
use Rattle.cmap_values.specs.declared.declarations.ByLength.{ByLength}
use Rattle.cmap_layers.specs.declared.layer.DeclarationCounts.{DeclarationCounts}

-- the number of declarations in the list for codes of each length
abbrev pub lengths_of : files.ByLength → ByLength ℕ
lengths_of lists = record { one = length lists.one; two = length lists.two; three = length lists.three; four = length lists.four }

abbrev pub counts_of : files.Lists → DeclarationCounts
counts_of lists = record { cids = lengths_of lists.cids; notdefs = lengths_of lists.notdefs; bfs = length lists.bfs }
