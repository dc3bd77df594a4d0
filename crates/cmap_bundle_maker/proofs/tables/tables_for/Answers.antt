use Rattle.std.proofs.Common.{◌≡◌, Some, subst}
use Rattle.cmap_bundle_maker.specs.Tables.{table_for}
use Rattle.cmap_bundle_maker.proofs.tables.tables_for.Goals as goal

pub returns-clause-made : goal.returns-clause-made
returns-clause-made c = record {
  deltas = subst (λ numbers. table_for numbers ≡ Some c.in_ok-encoder_for.field-0) c.in_ok-deltas.ensures.deltas c.in_ok-encoder_for.ensures.made;
  counts = subst (λ numbers. table_for numbers ≡ Some c.in_ok-encoder_for-2.field-0) c.in_ok-deltas.ensures.counts c.in_ok-encoder_for-2.ensures.made;
}
