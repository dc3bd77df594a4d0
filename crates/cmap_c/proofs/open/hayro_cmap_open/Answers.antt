use Rattle.std.proofs.Common.{◌≡◌, ◌≤◌, ◌⊎◌, ℕ, inl, inr}
use Rattle.std.specs.Option.{option_copied}
use Rattle.cmap_c.specs.NamedFiles.{budget_of}
use Rattle.cmap_c.specs.Opened.{ExceedsBudgetNamed, FitsBudgetNamed, HasNoMapNamed, IsMapNamed, IsUnknownOver}
use Rattle.cmap_c.proofs.MapsKept.{Ended, ended}
use Rattle.cmap_c.proofs.open.hayro_cmap_open.Goals as goal

-- what the number says that is returned
says : (c : goal.After-keep_read) → let bundle = c.args.bundle.now.slot.bundle in let files = c.args.files.now in let name = c.args.name.now in let budget = budget_of c.args.budget in
    Ended (IsMapNamed bundle files name) (HasNoMapNamed bundle files name) (FitsBudgetNamed bundle files name budget) (ExceedsBudgetNamed bundle files name budget) ⊥ (IsUnknownOver bundle files name) c.keep_read.result c.keep_read.new.handle.slot.map
says c =
    let given : option_copied c.bundle.result ≡ c.args.bundle.now.slot.bundle = c.bundle.ensures.bundle in
    ended _ _ _ _ _ _ c.open_owned-opened.result _ _ (rw (given, c.limit.ensures) at c.open_owned-opened.ensures) c.keep_read.ensures

absent_or_few : {n : ℕ} {A B : Type 0} → (n ≡ 0) ⊎ (((n ≤ 3) ⊎ (((n ≡ 4) × ⊥) ⊎ ((n ≡ 5) × B))) × A) → (n ≡ 0) ⊎ (((n ≤ 3) ⊎ (n ≡ 5)) × A)
absent_or_few (inl done) = inl done
absent_or_few (inr (inl below, rest)) = inr (inl below, rest)
absent_or_few (inr (inr (inl four), rest)) = absurd four.1
absent_or_few (inr (inr (inr five), rest)) = inr (inr five.0, rest)

pub returns-clause-accepts : goal.returns-clause-accepts
returns-clause-accepts c = (says c).accepts

pub returns-clause-absent : goal.returns-clause-absent
returns-clause-absent c = (says c).unknown

pub returns-clause-refuses : goal.returns-clause-refuses
returns-clause-refuses c = (says c).refuses

pub returns-clause-over : goal.returns-clause-over
returns-clause-over c = (says c).passes

pub returns-clause-within : goal.returns-clause-within
returns-clause-within c = (says c).within

pub returns-clause-failed : goal.returns-clause-failed
returns-clause-failed c = absent_or_few (says c).failed
