use Rattle.std.proofs.Common.{◌<◌, All, List, length, map, sym, subst}
use Rattle.std.proofs.lemmas.List.{length-map}
use Rattle.std.specs.List.{range_with_len}
use Rattle.std.specs.List.Sorted.{IsNonDecreasingBy, IsPermutation}
use Rattle.cmap_runs.specs.DeclaredRanges.{AreRanges, ArePlacesApart, LieApart, range_at}
use Rattle.cmap_runs.specs.HeldRuns.{AreHeld}
use Rattle.cmap_runs.specs.Ranges.{Run, Span}
use Rattle.std.proofs.lemmas.Result.{IfOk-weaker}
use Rattle.cmap_runs.proofs.RangesDecide.{few_indices, is_index, runs_at_indices}
use Rattle.cmap_runs.proofs.runs.sweep.runs_in_order.Goals as goal

pub are_apart-requires : goal.are_apart-requires
are_apart-requires g c =
    subst (All (λ index. index < length c.args.declarations.now)) (sym c.as_slice.ensures.value) (is_index _ c.args.indices.items c.requires.indices)

pub returns-then-are_apart : goal.returns-then-are_apart
returns-then-are_apart g c =
    let list = c.args.declarations.now in let spans = map g.T.HasRange.span list in let indices = c.args.indices.items in
    let apart : ArePlacesApart spans indices = record {
      every = subst (λ n. IsPermutation (range_with_len 0 n) indices) (sym (length-map list g.T.HasRange.span)) c.requires.indices;
      apart = subst (λ indices. LieApart (map (range_at spans) indices)) c.as_slice.ensures.value (c.are_apart.ensures c.if-are_apart.true);
    } in
    record { runs = runs_at_indices spans indices apart; within = is_index (length spans) indices apart.every; few = few_indices spans indices apart }

pub ranges_at-requires : goal.ranges_at-requires
ranges_at-requires g c = record { indices = c.requires.indices; order = c.requires.order }

pub sweep-requires : goal.sweep-requires
sweep-requires g c = subst (IsNonDecreasingBy (λ (range : Run). range.low)) (sym c.as_slice-2.ensures.value) c.in_ok-ranges.ensures.order

pub returns : goal.returns
returns g c =
    let spans = map g.T.HasRange.span c.args.declarations.now in
    IfOk-weaker c.sweep.result (λ runs. (spans : List Span) → AreRanges spans (length spans) c.as_slice-2.result.now → AreHeld spans runs) (AreHeld spans)
    (λ runs all. all spans (subst (AreRanges spans (length spans)) (sym c.as_slice-2.ensures.value) c.in_ok-ranges.ensures.ranges)) c.sweep.ensures
