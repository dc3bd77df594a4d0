-- Private aid: the runs of blocks of codes.
use Rattle.std.specs.Prelude.{◌==◌, if◌then◌else◌, ℕ, ◌+◌, ◌-◌, ◌*◌, ◌/◌, ◌<◌, ◌≤◌, ◌^◌, ◌≡◌, List, All, length, get_or, count_ones}
use Rattle.std.specs.List.{AllWithin}
use Rattle.cmap_runs.specs.Ranges.{Run, Holds}
use Rattle.cmap_runs.specs.declared.runs.blocks.Block.{Block}
use Rattle.cmap_runs.specs.declared.runs.held.Blocks.{Blocks}

-- how many runs begin up to and including the code of a block at `place`; 0 if no run holds a code of the block
abbrev pub begun_by : Block → ℕ → ℕ
begun_by block place = if block.begun == 65536 then 0 else block.begun + count_ones (block.starts / 2 ^ (31 - place))

-- of the first `count` runs, exactly the first `begun` begin up to and including the code
pub record HaveBegun (runs : List Run) (count code begun : ℕ) : Type 0 where
  pub within : begun ≤ count
  pub before : AllWithin (λ run. run.low ≤ code) runs 0 begun
  pub after : AllWithin (λ run. code < run.low) runs begun count

-- the first `begun` runs begin up to and including the code, and no other run holds the code
pub record MayHold (runs : List Run) (code begun : ℕ) : Type 0 where
  pub within : begun ≤ length runs
  pub before : AllWithin (λ run. run.low ≤ code) runs 0 begun
  pub after : AllWithin (λ run. ¬ (Holds code run)) runs begun (length runs)

-- each block has 32 codes
pub record AreBlocks (runs : List Run) (blocks : Blocks) : Type 0 where
  pub each : (i place : ℕ) (d : Block) → i < length blocks.list.items → place < 32
      → MayHold runs (32 * i + place) (begun_by (get_or blocks.list.items i d) place)
  pub within : blocks.left ≤ length runs
  pub before : AllWithin (λ run. run.high < 32 * length blocks.list.items) runs 0 (length runs - blocks.left)
  pub end : All (λ run. run.high < blocks.end) runs
  -- there are no blocks if there are no runs
  pub some : 0 < length blocks.list.items → 0 < length runs

-- no start stands at this place or later, in a word with a bit for each place; the first place has the high bit
abbrev pub AreBefore : ℕ → ℕ → Type 0
AreBefore starts place = starts ≡ starts / 2 ^ (32 - place) * 2 ^ (32 - place)

-- the bits for the starts of the runs from `begun` on and before `index`, in the block whose first code is `first`
pub record AreStarts (runs : List Run) (first begun index starts : ℕ) : Type 0 where
  pub counts : (place : ℕ) → place < 32 → HaveBegun runs index (first + place) (begun + count_ones (starts / 2 ^ (31 - place)))
  pub clear : (place : ℕ) → place ≤ 32 → AllWithin (λ run. run.low < first + place) runs begun index → AreBefore starts place

-- the open block of the first `count` runs, after the blocks that are made
pub record IsOpen (runs : List Run) (count code begun starts : ℕ) : Type 0 where
  pub starts_are : AreStarts runs code begun count starts
  pub last : AllWithin (λ run. run.low < code + 32) runs 0 count

-- the first blocks, at most `most`, of the first `count` runs; the other runs begin after those blocks
pub record AreMade (runs : List Run) (count : ℕ) (list : List Block) (most begun starts : ℕ) : Type 0 where
  pub each : (i place : ℕ) (d : Block) → i < length list → place < 32 → MayHold runs (32 * i + place) (begun_by (get_or list i d) place)
  pub within : (begun ≤ count) × (count ≤ length runs)
  pub before : AllWithin (λ run. run.low < 32 * length list) runs 0 begun
  pub later : AllWithin (λ run. 32 * length list ≤ run.low) runs count (length runs)
  pub unfinished : length list < most → IsOpen runs count (32 * length list) begun starts
