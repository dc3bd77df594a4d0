-- Private aid: declarations for rows of codes in a row.
use Rattle.std.specs.Prelude.{◌≡◌, ℕ, ◌≤◌, List, Option}
use Rattle.cmap_runs.specs.Ranges.{Span}
use Rattle.cmap_values.specs.Files.{BfEntry}
use Rattle.cmap_layers.specs.Lookups.{bf_span}
use Rattle.cmap_edit.specs.Tidy.{AreTidy, CouldBeOneText, IsTextRow, said, units_at}
use Rattle.cmap_edit.specs.TidyAdded.{AddsRow, AreMerged}

-- how declarations answer for rows of codes
pub record Layout (E X : Type 0) : Type 1 where
  pub span : E → Span
  -- the answer of a declaration for a code
  pub at : E → ℕ → X
  -- the declarations that a tidy list may have
  pub IsRow : E → Type 0
  pub CouldBeOne : E → E → Type 0
  -- the one that two could be
  pub merge : E → E → E

module _ {E X : Type 0} (layout : Layout E X) where
  abbrev pub AreTidyIn : List E → Type 0
  AreTidyIn entries = AreTidy layout.span layout.IsRow layout.CouldBeOne entries

  abbrev pub said_in : List E → ℕ → Option X
  said_in entries code = said layout.span layout.at entries code

  abbrev pub AddsRowIn : List E → E → List E → Type 0
  AddsRowIn old row new = AddsRow layout.span layout.at layout.IsRow layout.CouldBeOne old row new

  -- what proofs for all kinds of declarations rest on
  abbrev pub IsLayout : Type 0
  IsLayout = AreMerged layout.span layout.at layout.IsRow layout.CouldBeOne layout.merge

  -- a row that begins with a code, ends at most with another and gives these answers
  pub record IsRowFrom (here : ℕ → X) (start last : ℕ) (span : Span) (row : E) : Type 0 where
    pub is_row : layout.IsRow row
    pub spans : layout.span row ≡ span
    pub starts : span.start ≡ start
    pub filled : start ≤ span.end
    pub ends : span.end ≤ last
    pub answers : (code : ℕ) → start ≤ code → code ≤ span.end → layout.at row code ≡ here code

-- the one that two declarations of texts could be
abbrev pub merged_text : BfEntry → BfEntry → BfEntry
merged_text e later = record e { end = later.end }

abbrev pub text_layout : Layout BfEntry (Option (List ℕ))
text_layout = record { span = bf_span; at = units_at; IsRow = IsTextRow; CouldBeOne = CouldBeOneText; merge = merged_text }
