use Rattle.std.proofs.Common.{◌≡◌, ◌≢◌, ◌∙◌, subst, sym}
use Rattle.std.specs.Option.{option_copied}
use Rattle.cmap_values.specs.NamesSeen.{names_seen}
use Rattle.cmap_values.specs.Outcomes.{RefusesWith}
use Rattle.cmap_load.specs.Maps as maps
use Rattle.cmap_load.specs.declared.refusal.Cause.TheVariants as cause
use Rattle.cmap_load.specs.declared.refusal.Refusal.{Refusal}
use Rattle.cmap_c.specs.NamedFiles.{ExceedsBudgetOver, FitsBudgetOver, HasNoMapOver, IsMapOver, LeadsToFaultOver, answers}
use Rattle.cmap_c.proofs.MapsExplained.{told}
use Rattle.cmap_c.proofs.explain.explain_owned.Goals as goal

pub returns-in-Ok : goal.returns-in-Ok
unfolding IsMapOver FitsBudgetOver
returns-in-Ok c =
    let names = answers (option_copied c.args.bundle) c.args.files.now in
    let bytes = c.args.data.now in
    ((subst (λ tables. maps.IsMapOf tables names bytes c.in-Ok.layers) c.tables_of.ensures c.in-Ok.ensures.accepts, subst (λ tables. maps.FitsBudget tables names bytes c.args.budget) c.tables_of.ensures c.in-Ok.ensures.within), tt)

pub returns-in-Err : goal.returns-in-Err
unfolding ExceedsBudgetOver FitsBudgetOver HasNoMapOver LeadsToFaultOver
returns-in-Err c =
    let names = answers (option_copied c.args.bundle) c.args.files.now in
    let bytes = c.args.data.now in
    let budget = c.args.budget in
    told (option_copied c.args.bundle) c.args.files.now bytes budget c.in-Err.fault c.of.result
    (subst (λ tables. RefusesWith (λ (r : Refusal). r.cause ≢ cause.OverBudget → maps.HasNoMap tables names bytes × maps.FitsBudget tables names bytes budget) c.in-Err.fault) c.tables_of.ensures c.in-Err.ensures.refuses)
    (subst (λ tables. RefusesWith (λ (r : Refusal). r.cause ≡ cause.OverBudget → maps.ExceedsBudget tables names bytes budget) c.in-Err.fault) c.tables_of.ensures c.in-Err.ensures.over)
    (subst (λ tables. RefusesWith (λ (r : Refusal). maps.LeadsToFault tables names bytes budget (names_seen r.names.items) r.cause) c.in-Err.fault) c.tables_of.ensures c.in-Err.ensures.blames) c.of.ensures

pub read_layers-requires-clause-by_name : goal.read_layers-requires-clause-by_name
read_layers-requires-clause-by_name c _ _ _ one other = one ∙ sym other
