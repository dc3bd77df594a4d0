-- A bound on the number of entries for a list of declarations.
use Rattle.std.specs.Prelude.{ℕ, ◌+◌, ◌-◌, ◌*◌, ◌≤◌, List}
use Rattle.std.specs.List.{sum_by}
use Rattle.cmap_runs.specs.Ranges.{Run, Span, runs_of}
use Rattle.cmap_values.specs.DeclarationsSeen.{bf_range_span, cid_range_span}
use Rattle.cmap_values.specs.declared.declarations.BfRange.{BfRange}
use Rattle.cmap_values.specs.declared.declarations.CidRange.{CidRange}

abbrev pub run_span : Run → Span
run_span run = record { start = run.low; end = run.high }

abbrev pub span_weight : Span → ℕ
span_weight span = 256 + (span.end - span.start)

-- for each run of codes that one declaration decides: 256, and the number of codes after its first
abbrev pub weight_of : List Span → ℕ
weight_of spans = sum_by (λ run. span_weight (run_span run)) (runs_of spans)

-- at most one entry for each run, and one for each 256 codes after the first of the run
abbrev pub AreFew : List Span → ℕ → Type 0
AreFew spans count = 256 * count ≤ weight_of spans

-- ---- private aid
abbrev pub cids_weight : List CidRange → ℕ
cids_weight ranges = sum_by (λ range. span_weight (cid_range_span range)) ranges

abbrev pub texts_weight : List BfRange → ℕ
texts_weight ranges = sum_by (λ range. span_weight (bf_range_span range)) ranges
