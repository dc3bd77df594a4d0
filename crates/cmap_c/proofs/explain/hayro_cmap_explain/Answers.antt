use Rattle.std.proofs.Common.{◌≡◌}
use Rattle.std.specs.Option.{option_copied}
use Rattle.cmap_c.specs.Endings.{IsExplainedOver}
use Rattle.cmap_c.specs.NamedFiles.{ExceedsBudgetOver, FitsBudgetOver, HasNoMapOver, IsMapOver, budget_of}
use Rattle.cmap_c.proofs.MapsKept.{Ended, ended, few}
use Rattle.cmap_c.proofs.MapsExplained.{explains, told_ends, unwritten}
use Rattle.cmap_c.proofs.explain.hayro_cmap_explain.Goals as goal

-- the map, or why there is none
explained : (c : goal.After-keep_read) → IsExplainedOver c.args.bundle.now.slot.bundle c.args.files.now c.args.data.now (budget_of c.args.budget) c.explain_owned-explained.result
explained c =
    let given : option_copied c.bundle.result ≡ c.args.bundle.now.slot.bundle = c.bundle.ensures.bundle in
    rw (given, c.limit.ensures) at c.explain_owned-explained.ensures

-- what the number says that is returned
says : (c : goal.After-keep_read) → let bundle = c.args.bundle.now.slot.bundle in let files = c.args.files.now in let bytes = c.args.data.now in let budget = budget_of c.args.budget in
    Ended (IsMapOver bundle files bytes) (HasNoMapOver bundle files bytes) (FitsBudgetOver bundle files bytes budget) (ExceedsBudgetOver bundle files bytes budget) ⊥ ⊥ c.keep_read.result c.keep_read.new.handle.slot.map
says c = ended _ _ _ _ _ _ c.tell.result _ _ (told_ends _ _ _ _ c.explain_owned-explained.result _ _ _ _ _ _ _ (explained c) c.tell.ensures) c.keep_read.ensures

pub returns-clause-accepts : goal.returns-clause-accepts
returns-clause-accepts c = (says c).accepts

pub returns-clause-refuses : goal.returns-clause-refuses
returns-clause-refuses c = (says c).refuses

pub returns-clause-over : goal.returns-clause-over
returns-clause-over c = (says c).passes

pub returns-clause-within : goal.returns-clause-within
returns-clause-within c = (says c).within

pub returns-clause-explains : goal.returns-clause-explains
returns-clause-explains c = explains _ _ _ _ c.explain_owned-explained.result _ _ _ _ _ _ _ _ _ (explained c) c.tell.ensures c.keep_read.ensures

pub returns-clause-unwritten : goal.returns-clause-unwritten
returns-clause-unwritten c = unwritten c.explain_owned-explained.result _ _ _ _ _ _ _ _ _ c.tell.ensures c.keep_read.ensures

pub returns-clause-failed : goal.returns-clause-failed
returns-clause-failed c = few (says c).failed
