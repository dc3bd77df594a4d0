use Rattle.std.proofs.Common.{◌≤◌, ◌+◌, ◌*◌, ◌∙◌, ◌++◌, length, ap, refl, subst, sym, arith}
use Rattle.std.proofs.lemmas.List.{append_assoc}
use Rattle.std.proofs.lemmas.Result.{IfOk-from_err, IfOk-weaker}
use Rattle.cmap_values.proofs.Outcomes.{refused_on, refuses_on}
use Rattle.cmap_binary_writer.specs.ColumnsWritten.{WritesColumn}
use Rattle.cmap_binary_writer.specs.EncodersSeen.{encoders_seen, shape_seen}
use Rattle.cmap_binary_writer.specs.Segments.{WritesNumbers}
use Rattle.cmap_binary_writer.specs.Written.{Appends}
use Rattle.cmap_binary_writer.proofs.ObstaclesMet.{by_counts, by_deltas}
use Rattle.cmap_binary_writer.proofs.columns.push_columns.Goals as goal

pub returns-in-Ranges-clause-written : goal.returns-in-Ranges-clause-written
returns-in-Ranges-clause-written c =
    let tables = encoders_seen c.args.tables.now in
    let segment = c.args.segment.now in
    let old = c.args.out.now.items in
    let mid = c.push_column.new.out.items in
    let new = c.push_column-in-Ranges.new.out.items in
    let (first, first_is, deltas) = subst (λ xs. Appends old mid (WritesColumn tables.delta xs)) c.deref.ensures.value c.in_ok-push_column.ensures.written in
    IfOk-weaker _ _ _ (λ _ more.
    let (second, second_is, counts) = subst (λ xs. Appends mid new (WritesColumn tables.count xs)) c.deref-in-Ranges.ensures.value more in
    let whole = second_is ∙ ap (λ bs. bs ++ second) first_is ∙ append_assoc old first second in
    subst (λ shape. Appends old new (WritesNumbers tables (shape_seen shape) segment.deltas.items segment.counts.items)) (sym c.in-Ranges.is) (first ++ second, whole, (first, second, refl, deltas, counts))) c.push_column-in-Ranges.ensures.written

pub returns-in-Singles-clause-written : goal.returns-in-Singles-clause-written
returns-in-Singles-clause-written c =
    let tables = encoders_seen c.args.tables.now in
    let segment = c.args.segment.now in
    let old = c.args.out.now.items in
    let new = c.push_column.new.out.items in
    subst (λ shape. Appends old new (WritesNumbers tables (shape_seen shape) segment.deltas.items segment.counts.items)) (sym c.in-Singles.is) (subst (λ xs. Appends old new (WritesColumn tables.delta xs)) c.deref.ensures.value c.in_ok-push_column.ensures.written)

pub returns-in_err-push_column-clause-err : goal.returns-in_err-push_column-clause-err
returns-in_err-push_column-clause-err c = refuses_on _ _ c.from_residual.ensures.1 c.in_err-push_column.ensures.err (by_deltas (encoders_seen c.args.tables.now) c.args.segment.now _ c.deref.ensures.value)

pub returns-in-Ranges-clause-err : goal.returns-in-Ranges-clause-err
returns-in-Ranges-clause-err c = refused_on _ c.push_column-in-Ranges.ensures.err (by_counts (encoders_seen c.args.tables.now) c.args.segment.now _ c.deref-in-Ranges.ensures.value)

pub returns-in_err-push_column-clause-written : goal.returns-in_err-push_column-clause-written
returns-in_err-push_column-clause-written c = IfOk-from_err _ _ c.from_residual.ensures.0

pub returns-in_err-push_column-clause-len : goal.returns-in_err-push_column-clause-len
returns-in_err-push_column-clause-len c = IfOk-from_err _ _ c.from_residual.ensures.0

pub returns-in-Ranges-clause-len : goal.returns-in-Ranges-clause-len
returns-in-Ranges-clause-len c = IfOk-weaker _ _ (λ _. length c.push_column-in-Ranges.new.out.items ≤ length c.args.out.now.items + 8 + 4 * (length c.args.segment.now.deltas.items + length c.args.segment.now.counts.items)) (λ _ more. omega (arith, more, c.in_ok-push_column.ensures.len, ap length c.deref.ensures.value, ap length c.deref-in-Ranges.ensures.value)) c.push_column-in-Ranges.ensures.len

pub returns-in-Singles-clause-len : goal.returns-in-Singles-clause-len
returns-in-Singles-clause-len c = omega (arith, c.in_ok-push_column.ensures.len, ap length c.deref.ensures.value)
