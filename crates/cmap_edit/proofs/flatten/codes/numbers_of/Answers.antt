use Rattle.std.proofs.Common.{◌≡◌, ◌∙◌, sym, subst}
use Rattle.std.specs.Prelude.{◌↔◌, IsSome}
use Rattle.std.proofs.lemmas.Result.{IfOk-weaker}
use Rattle.cmap_runs.specs.Ranges.{last_of}
use Rattle.cmap_edit.specs.Chosen.{ChosenNumber, codes_span}
use Rattle.cmap_edit.proofs.ChosenCodes.{has_any}
use Rattle.cmap_edit.proofs.flatten.codes.numbers_of.Goals as goal

pub returns : goal.returns
returns c =
    let codes = c.args.codes.now in
    IfOk-weaker c.build.result (λ table. table ≡ c.in_ok-list.list.items) _
    (λ table is code. subst (λ table. IsSome (last_of codes_span table code) ↔ ChosenNumber codes code) (sym (is ∙ c.in_ok-list.ensures.items)) (has_any codes_span codes code)) c.build.ensures
