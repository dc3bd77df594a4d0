use Rattle.std.proofs.Common.{List, [], ◌∷◌, ◌++◌, length, sym, ap, ◌∙◌, arith}
use Rattle.std.proofs.lemmas.Bool.{cond-false}
use Rattle.std.proofs.lemmas.List.{length_push}
use Rattle.cmap_runs.specs.Ranges.{Run}
use Rattle.std.proofs.lemmas.Result.{IfOk-from_err}
use Rattle.cmap_runs.proofs.runs.held.Runs.add.Goals as goal

pub returns-in_err-push-clause-added : goal.returns-in_err-push-clause-added
returns-in_err-push-clause-added c = IfOk-from_err _ _ c.from_residual.ensures.0

pub returns-in_err-push-clause-few : goal.returns-in_err-push-clause-few
returns-in_err-push-clause-few c = IfOk-from_err _ _ c.from_residual.ensures.0

pub returns : goal.returns
returns c =
    let runs = c.args.self.now in let run : Run = record { low = c.args.low; high = c.args.high; index = c.args.index } in
    let items = c.in_ok-push.ensures.items ∙ ap (λ (run : Run). c.self.inside.list.items ++ run ∷ []) c.new.ensures ∙ ap (λ (runs : List Run). runs ++ run ∷ []) c.self.view_is in
    record {
      added = items ∙ sym (cond-false _ _ _ (sym (c.is_continued_by.ensures.answer c.args.high) ∙ c.if-is_continued_by.false));
      few = omega (arith, ap length items, length_push runs run);
      err = tt;
    }
