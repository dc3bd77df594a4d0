-- Private aid: ranges that are merged, with the blocks that are made from them.
use Rattle.std.specs.Prelude.{ℕ, ◌*◌, ◌≤◌, List, Option, IfSome, length, map}
use Rattle.cmap_runs.specs.Blocks.{AreMade}
use Rattle.cmap_runs.specs.DeclaredRanges.{ArePlacesApart, LieApartBefore, range_at}
use Rattle.cmap_runs.specs.HeldRuns.{AreHeld, runs_held}
use Rattle.cmap_runs.specs.Ranges.{Run, Span}
use Rattle.cmap_runs.specs.declared.runs.block_maker.BlockMaker.{BlockMaker}
use Rattle.cmap_runs.specs.declared.runs.blocks.Block.{Block}
use Rattle.cmap_runs.specs.declared.runs.held.RunList.{RunList}
use Rattle.cmap_runs.specs.declared.runs.indices.Apart.{Apart}

abbrev pub AreMadeBy : List Run → ℕ → BlockMaker → Type 0
AreMadeBy runs count maker = AreMade runs count maker.list.items maker.most maker.begun maker.starts

-- the ranges at the indices lie apart before the code, and the blocks are made from all these ranges
pub record AreMerged (spans : List Span) (indices : List ℕ) (next : ℕ) (list : List Block) (most begun starts : ℕ) : Type 0 where
  pub lie : LieApartBefore spans indices next
  pub begin : 32 * length list ≤ next
  pub made : AreMade (map (range_at spans) indices) (length (map (range_at spans) indices)) list most begun starts

abbrev pub IsMerged : List Span → Apart → Type 0
IsMerged spans apart = AreMerged spans apart.indices.items apart.next apart.blocks.list.items apart.blocks.most apart.blocks.begun apart.blocks.starts

-- the merged ranges of all declarations, with their blocks
pub record AreAllMerged (spans : List Span) (apart : Apart) : Type 0 where
  pub places : ArePlacesApart spans apart.indices.items
  pub made : AreMadeBy (map (range_at spans) apart.indices.items) (length (map (range_at spans) apart.indices.items)) apart.blocks

-- the runs of the declarations, with their blocks if blocks are made
pub record AreFound (spans : List Span) (runs : RunList) (blocks : Option BlockMaker) : Type 0 where
  pub held : AreHeld spans runs
  pub made : IfSome blocks (AreMadeBy (runs_held spans runs) (length (runs_held spans runs)))
