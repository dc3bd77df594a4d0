use Rattle.std.proofs.Common.{◌∙◌, ◌≡◌, ◌++◌, All, ap, map, subst, sym}
use Rattle.std.proofs.lemmas.Result.{IfOk-from_err}
use Rattle.cmap_values.specs.DeclarationsSeen.{bf_entry_seen}
use Rattle.cmap_binary_writer.specs.Arranged.{bf_type}
use Rattle.cmap_binary_writer.specs.EncodersSeen.{shape_seen}
use Rattle.cmap_binary_writer.specs.Texts.{destinations}
use Rattle.cmap_binary_writer.specs.declared.segments.Segment.{Segment}
use Rattle.cmap_binary_writer.proofs.ArrangedTexts.{holds_texts, text_values}
use Rattle.cmap_binary_writer.proofs.SegmentNumbers.{segment_of_texts}
use Rattle.cmap_binary_writer.proofs.TextsWritten.{segment_declares}
use Rattle.cmap_binary_writer.proofs.texts.text_segment.Goals as goal

pub returns-clause-says : goal.returns-clause-says
returns-clause-says c =
    let form = c.args.form in
    let entries = c.args.entries.now in
    let segment : Segment = record { number = c.number.result; shape = form.shape; deltas = c.in_ok-deltas.field-0; counts = c.in_ok-counts.field-0; values = c.push_texts.new.out } in
    let values = c.in_ok-push_texts.ensures ∙ ap (λ bs. bs ++ destinations form.units entries) c.new-values.ensures.items in
    let declares = segment_declares segment form.units entries c.requires.held c.number.ensures.read c.in_ok-deltas.ensures c.in_ok-counts.ensures values in
    segment_of_texts segment form.units entries declares c.requires.held c.in_ok-deltas.ensures c.in_ok-counts.ensures values

pub returns-clause-holds : goal.returns-clause-holds
returns-clause-holds c =
    let form = c.args.form in
    holds_texts _ form.units c.args.entries.now c.requires.held (subst (λ n. All (λ e. bf_type e ≡ n) (map bf_entry_seen c.args.entries.now)) (sym c.number.ensures.is) c.requires.typed) c.in_ok-deltas.ensures c.in_ok-counts.ensures (c.in_ok-push_texts.ensures ∙ ap (λ bs. bs ++ destinations form.units c.args.entries.now) c.new-values.ensures.items ∙ text_values (shape_seen form.shape) form.units c.args.entries.now c.requires.fixes c.requires.typed)

pub returns-in_err-push_texts-clause-says : goal.returns-in_err-push_texts-clause-says
returns-in_err-push_texts-clause-says c = IfOk-from_err _ _ c.from_residual.ensures.0

pub returns-in_err-push_texts-clause-holds : goal.returns-in_err-push_texts-clause-holds
returns-in_err-push_texts-clause-holds c = IfOk-from_err _ _ c.from_residual.ensures.0

pub returns-in_err-deltas-clause-says : goal.returns-in_err-deltas-clause-says
returns-in_err-deltas-clause-says c = IfOk-from_err _ _ c.from_residual-in_err-deltas.ensures.0

pub returns-in_err-deltas-clause-holds : goal.returns-in_err-deltas-clause-holds
returns-in_err-deltas-clause-holds c = IfOk-from_err _ _ c.from_residual-in_err-deltas.ensures.0

pub returns-in_err-counts-clause-says : goal.returns-in_err-counts-clause-says
returns-in_err-counts-clause-says c = IfOk-from_err _ _ c.from_residual-in_err-counts.ensures.0

pub returns-in_err-counts-clause-holds : goal.returns-in_err-counts-clause-holds
returns-in_err-counts-clause-holds c = IfOk-from_err _ _ c.from_residual-in_err-counts.ensures.0
