use Rattle.std.proofs.Common.{◌≡◌, ℕ, List, take}
use Rattle.std.specs.List.{count_by}
use Rattle.cmap_text.specs.Rows.{is_other, is_whole}
use Rattle.cmap_text.specs.declared.salvage.rows.Row.{Row}
use Rattle.cmap_text.proofs.salvage.rows.are_rows.Given as goal

-- so many of the rows before this index are whole, and so many others hold parts
pub record Counted (whole others index : ℕ) (rows : List Row) : Type 0 where
  pub wholes : whole ≡ count_by is_whole (take index rows)
  pub rest : others ≡ count_by is_other (take index rows)

abbrev pub invariant-loop-row : goal.invariant-loop-row
invariant-loop-row l = Counted l.whole l.others l.row-index l.rows
