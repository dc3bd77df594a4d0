-- How many entries a list comes to: runs, ranges that go on, and pieces.
use Rattle.std.proofs.Common.{◌≡◌, ℕ, ◌+◌, ◌-◌, ◌*◌, ◌<◌, ◌≤◌, List, [], ◌∷◌, Some, get_or, length, map, set, take, refl, ap, ◌∙◌, subst, arith}
use Rattle.std.specs.List.{slice_get, sum_by}
use Rattle.std.proofs.lemmas.List.{take_all}
use Rattle.std.proofs.lemmas.List.Sums.{sum_by-set, sum_by_more}
use Rattle.std.proofs.lemmas.Option.{get_or_from_slice_get}
use Rattle.cmap_runs.specs.Ranges.{Run}
use Rattle.cmap_values.specs.DeclarationsSeen.{bf_entry_seen, bf_range_span, cid_entry_seen, cid_range_span}
use Rattle.cmap_values.specs.declared.declarations.BfRange.{BfRange}
use Rattle.cmap_values.specs.declared.declarations.CidRange.{CidRange}
use Rattle.cmap_layers.specs.Lookups.{bf_span, cid_span}
use Rattle.cmap_binary_writer.specs.Follows.{GoesOn}
use Rattle.cmap_binary_writer.specs.Weights.{cids_weight, run_span, span_weight}
use Rattle.cmap_binary_writer.proofs.CidParts.{longer}

-- a range that goes on is one with the last
pub longer_weight : (xs : List CidRange) (range last : CidRange) → 0 < length xs → slice_get xs (length xs - 1) ≡ Some last → last.range.start ≤ last.range.end → range.range.start ≤ range.range.end → ((d : CidRange) → GoesOn (get_or xs (length xs - 1) d) range)
    → cids_weight (set xs (length xs - 1) (longer last range)) ≤ cids_weight xs + span_weight (cid_range_span range)
longer_weight xs range last some at filled more goes =
    let same : get_or xs (length xs - 1) last ≡ last = get_or_from_slice_get xs (length xs - 1) last last at in
    let on : GoesOn last range = subst (λ x. GoesOn x range) same (goes last) in
    let weight : CidRange → ℕ = λ r. span_weight (cid_range_span r) in
    omega (arith, on.next, filled, more, sum_by-set weight xs (length xs - 1) (longer last range) last (omega (arith, some)), ap weight same)

-- one run more
pub run_weighed : (runs : List Run) (i : ℕ) (run : Run) → i < length runs → slice_get runs i ≡ Some run → sum_by (λ run. span_weight (run_span run)) (take (i + 1) runs) ≡ sum_by (λ run. span_weight (run_span run)) (take i runs) + span_weight (run_span run)
run_weighed runs i run within at = sum_by_more (λ (run : Run). span_weight (run_span run)) runs i run within ∙ ap (λ (r : Run). sum_by (λ (run : Run). span_weight (run_span run)) (take i runs) + span_weight (run_span r)) (get_or_from_slice_get runs i run run at)

pub runs_weighed : (runs : List Run) (i : ℕ) → length runs ≤ i → sum_by (λ run. span_weight (run_span run)) (take i runs) ≡ sum_by (λ run. span_weight (run_span run)) runs
runs_weighed runs i past = ap (sum_by (λ (run : Run). span_weight (run_span run))) (take_all i runs past)

-- the pieces of one range more
pub pieces_weighed : (xs : List CidRange) (i : ℕ) (d : CidRange) (old new : ℕ) → i < length xs → 256 * old ≤ cids_weight (take i xs) → 256 * new ≤ 256 * old + span_weight (cid_range_span (get_or xs i d)) → 256 * new ≤ cids_weight (take (i + 1) xs)
pieces_weighed xs i d old new within before more = omega (arith, before, more, sum_by_more (λ (r : CidRange). span_weight (cid_range_span r)) xs i d within)

-- the spans of a list, as they are seen
pub cid_spans_seen : (xs : List CidRange) → map cid_span (map cid_entry_seen xs) ≡ map cid_range_span xs
cid_spans_seen [] = refl
cid_spans_seen (x ∷ xs) = ap (λ ss. cid_range_span x ∷ ss) (cid_spans_seen xs)

pub bf_spans_seen : (xs : List BfRange) → map bf_span (map bf_entry_seen xs) ≡ map bf_range_span xs
bf_spans_seen [] = refl
bf_spans_seen (x ∷ xs) = ap (λ ss. bf_range_span x ∷ ss) (bf_spans_seen xs)
