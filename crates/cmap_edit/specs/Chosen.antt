-- The chosen codes.
use Rattle.std.specs.Prelude.{◌≡◌, ℕ, List, Any}
use Rattle.cmap_runs.specs.Ranges.{Span}
use Rattle.cmap_values.specs.CodeLengths.{length_of}
use Rattle.cmap_layers.specs.CodeRanges.{IsIn}
use Rattle.cmap_edit.specs.declared.flatten.codes.Codes.{Codes}

-- one of the ranges has codes of len bytes and contains this code
abbrev pub Chosen : List Codes → ℕ → ℕ → Type 0
Chosen codes code len = Any (λ one. (length_of one.len ≡ len) × IsIn code one.range) codes

-- one of the ranges contains the number, for codes of whatever length: a lookup of a text uses the
-- number alone
abbrev pub ChosenNumber : List Codes → ℕ → Type 0
ChosenNumber codes code = Any (λ one. IsIn code one.range) codes

-- ---- private aid
abbrev pub codes_span : Codes → Span
codes_span one = record { start = one.range.start; end = one.range.end }
