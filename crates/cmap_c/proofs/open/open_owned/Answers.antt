use Rattle.std.proofs.Common.{◌≡◌, ◌≢◌, ◌∙◌, subst, sym}
use Rattle.std.specs.Prelude.{IfNone}
use Rattle.std.specs.Option.{option_copied}
use Rattle.cmap_binary.specs.BundleSeen.{tables_given}
use Rattle.cmap_values.specs.Outcomes.{RefusesWith}
use Rattle.cmap_load.specs.Opened as opened
use Rattle.cmap_load.specs.declared.refusal.Cause.TheVariants as cause
use Rattle.cmap_load.specs.declared.refusal.Refusal.{Refusal}
use Rattle.cmap_c.specs.NamedFiles.{answers}
use Rattle.cmap_c.specs.Opened.{ExceedsBudgetNamed, FitsBudgetNamed, HasNoMapNamed, IsMapNamed, IsUnknownOver}
use Rattle.cmap_c.proofs.StatusOfCauses.{refused}
use Rattle.cmap_c.proofs.open.open_owned.Goals as goal

pub returns-in-Ok-Some : goal.returns-in-Ok-Some
unfolding IsMapNamed FitsBudgetNamed
returns-in-Ok-Some c =
    let names = answers (option_copied c.args.bundle) c.args.files.now in
    let name = c.args.name.now in
    let map : opened.IsMapNamed (tables_given c.tables_of.result) names name c.in-Ok-Some.layers = rw c.in-Ok-Some.field-0-is at c.in-Ok-Some.ensures.accepts in
    (subst (λ tables. opened.IsMapNamed tables names name c.in-Ok-Some.layers) c.tables_of.ensures map, subst (λ tables. opened.FitsBudgetNamed tables names name c.args.budget) c.tables_of.ensures c.in-Ok-Some.ensures.within)

pub returns-in-Ok-None : goal.returns-in-Ok-None
unfolding IsUnknownOver
returns-in-Ok-None c =
    let names = answers (option_copied c.args.bundle) c.args.files.now in
    subst (λ found. IfNone found (opened.IsUnknown names c.args.name.now)) c.in-Ok-None.field-0-is c.in-Ok-None.ensures.absent

pub returns-in-Err : goal.returns-in-Err
unfolding HasNoMapNamed FitsBudgetNamed ExceedsBudgetNamed
returns-in-Err c =
    let bundle = option_copied c.args.bundle in
    let files = c.args.files.now in
    let names = answers bundle files in
    let name = c.args.name.now in
    let budget = c.args.budget in
    refused (IsMapNamed bundle files name) (HasNoMapNamed bundle files name) (FitsBudgetNamed bundle files name budget) (ExceedsBudgetNamed bundle files name budget) ⊥ (IsUnknownOver bundle files name)
    c.in-Err.fault _ c.ending_of.ensures
    (subst (λ tables. RefusesWith (λ (r : Refusal). r.cause ≢ cause.OverBudget → opened.HasNoMapNamed tables names name × opened.FitsBudgetNamed tables names name budget) c.in-Err.fault) c.tables_of.ensures c.in-Err.ensures.refuses)
    (subst (λ tables. RefusesWith (λ (r : Refusal). r.cause ≡ cause.OverBudget → opened.ExceedsBudgetNamed tables names name budget) c.in-Err.fault) c.tables_of.ensures c.in-Err.ensures.over)

pub open_layers-requires-clause-by_name : goal.open_layers-requires-clause-by_name
open_layers-requires-clause-by_name c _ _ _ one other = one ∙ sym other
