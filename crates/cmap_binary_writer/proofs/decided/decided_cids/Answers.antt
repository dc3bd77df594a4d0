use Rattle.std.proofs.Common.{◌≤◌, All, map, subst}
use Rattle.std.specs.Prelude.{IfErr, IfOk}
use Rattle.std.proofs.lemmas.Result.{IfOk-from_err}
use Rattle.cmap_values.specs.DeclarationsSeen.{cid_range_span, entries_seen}
use Rattle.cmap_values.specs.Outcomes.{RefusesWith}
use Rattle.cmap_layers.specs.Lookups.{cid_at, cid_span}
use Rattle.cmap_binary_writer.specs.Obstacles.{IsCidObstacle}
use Rattle.cmap_binary_writer.specs.Pieces.{CanBeSplit, SayTheSame}
use Rattle.cmap_binary_writer.specs.Weights.{cids_weight, weight_of}
use Rattle.cmap_values.proofs.Outcomes.{memory_on}
use Rattle.cmap_binary_writer.proofs.decided.decided_cids.Goals as goal

pub ranges_of-requires : goal.ranges_of-requires
ranges_of-requires c = c.in_ok-table.ensures.1

pub returns-clause-same : goal.returns-clause-same
returns-clause-same c =
    subst (λ xs. IfOk c.ranges_of.result (λ ranges. SayTheSame cid_span cid_at (entries_seen xs) (entries_seen ranges.items) × All CanBeSplit (entries_seen ranges.items))) c.in_ok-table.ensures.0 c.ranges_of.ensures.same

pub returns-clause-err : goal.returns-clause-err
returns-clause-err c =
    subst (λ xs. IfErr c.ranges_of.result (RefusesWith (IsCidObstacle (entries_seen xs)))) c.in_ok-table.ensures.0 c.ranges_of.ensures.err

pub returns-in_err-table-clause-same : goal.returns-in_err-table-clause-same
returns-in_err-table-clause-same c = IfOk-from_err _ _ c.from_residual.ensures.0

pub returns-in_err-table-clause-err : goal.returns-in_err-table-clause-err
returns-in_err-table-clause-err c = memory_on _ _ c.from_residual.ensures.1

pub returns-clause-few : goal.returns-clause-few
returns-clause-few c = subst (λ xs. IfOk c.ranges_of.result (λ ranges. cids_weight ranges.items ≤ weight_of (map cid_range_span xs))) c.in_ok-table.ensures.0 c.ranges_of.ensures.few

pub returns-in_err-table-clause-few : goal.returns-in_err-table-clause-few
returns-in_err-table-clause-few c = IfOk-from_err _ _ c.from_residual.ensures.0
