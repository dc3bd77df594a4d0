use Rattle.std.proofs.Common.{length, map, subst}
use Rattle.std.specs.Prelude.{IfSome}
use Rattle.cmap_runs.specs.Made.{AreAllMerged}
use Rattle.cmap_runs.proofs.RangesDecide.{few_indices, is_index, runs_at_indices}
use Rattle.cmap_runs.proofs.runs.sweep.runs_by_index.Goals as goal

pub returns-in-Some : goal.returns-in-Some
returns-in-Some g c =
    let spans = map g.T.HasRange.span c.args.declarations.now in let apart = c.in-Some.field-0 in let indices = apart.indices.items in
    let all : AreAllMerged spans apart = subst (λ found. IfSome found (AreAllMerged spans)) c.in-Some.is c.in_ok-indices.ensures in
    record {
      held = record { runs = runs_at_indices spans indices all.places; within = is_index (length spans) indices all.places.every; few = few_indices spans indices all.places };
      made = all.made;
    }

pub runs_in_order-requires : goal.runs_in_order-requires
runs_in_order-requires g c =
    let ordered = c.in_ok-indices_in_order-in-None.ensures in record { indices = ordered.indices; order = ordered.order }
