-- Private aid: a tidy list to which a declaration was added.
use Rattle.std.specs.Prelude.{◌≡◌, ℕ, ◌+◌, ◌-◌, ◌<◌, ◌≤◌, ◌^◌, List, All, Some, length, if◌then◌else◌}
use Rattle.cmap_runs.specs.Ranges.{Span, contains}
use Rattle.cmap_values.specs.declared.range.Range.{Range}
use Rattle.cmap_tokens.specs.Texts.{shifted}
use Rattle.cmap_values.specs.Files.{BfEntry}
use Rattle.cmap_edit.specs.Tidy.{AreTidy, AreTidyTexts, last_unit, said, said_with, units_at, units_said}
pub use Rattle.cmap_edit.specs.Tidy.{IsSaidTo}

-- the new list is tidy, gives the codes of the row the answers of the row, and gives other codes the answers of the old list
pub record AddsRow {E X : Type 0} (span : E → Span) (at : E → ℕ → X) (IsRow : E → Type 0) (CouldBeOne : E → E → Type 0) (old : List E) (row : E) (new : List E) : Type 0 where
  pub tidy : AreTidy span IsRow CouldBeOne new
  pub said : (code : ℕ) → said span at new code ≡ (if contains (span row) code then Some (at row code) else said span at old code)
  pub last : All (λ e. (span e).end ≤ (span row).end) new

-- what declarations of a kind keep: `merge` gives the one that two could be
pub record AreMerged {E X : Type 0} (span : E → Span) (at : E → ℕ → X) (IsRow : E → Type 0) (CouldBeOne : E → E → Type 0) (merge : E → E → E) : Type 0 where
  pub filled : (e : E) → IsRow e → (span e).start ≤ (span e).end
  pub meets : (e later : E) → CouldBeOne e later → (span e).end + 1 ≡ (span later).start
  pub row : (e later : E) → IsRow e → IsRow later → CouldBeOne e later → IsRow (merge e later)
  pub spans : (e later : E) → span (merge e later) ≡ record { start = (span e).start; end = (span later).end }
  pub old : (e later : E) (code : ℕ) → at (merge e later) code ≡ at e code
  pub new : (e later : E) (code : ℕ) → IsRow e → IsRow later → CouldBeOne e later → (span later).start ≤ code → code ≤ (span later).end → at (merge e later) code ≡ at later code
  pub before : (x e later : E) → CouldBeOne x (merge e later) → CouldBeOne x e

-- a tidy list for codes below `next`, which gives them the answers of another list
pub record SaysSoFar {E X : Type 0} (span : E → Span) (at : E → ℕ → X) (list : List E) (next : ℕ) (new : List E) : Type 0 where
  pub before : All (λ e. (span e).end < next) new
  pub said : (code : ℕ) → code < next → said span at new code ≡ said span at list code

-- the declaration gives the codes of the range texts whose last unit counts on from these units
abbrev pub GivesTexts : BfEntry → Range → List ℕ → Type 0
GivesTexts e range units = (0 < length units) × (last_unit units + (range.end - range.start) < 2 ^ 16) × ((code : ℕ) → range.start ≤ code → units_at e code ≡ shifted units (code - range.start))

-- a tidy list to which codes were added with the texts that count on from these units
pub record AddsTexts (old : List BfEntry) (range : Range) (units : List ℕ) (new : List BfEntry) : Type 0 where
  pub tidy : AreTidyTexts new
  pub said : (code : ℕ) → units_said new code ≡ said_with range (λ code. shifted units (code - range.start)) (units_said old) code
  pub last : All (λ e. e.end ≤ range.end) new
