use Rattle.std.proofs.Common.{◌≡◌, ◌≢◌, [], length, rules, None, Some}
use Rattle.cmap_binary.specs.BundleSeen.{bundle_seen}
use Rattle.cmap_binary.specs.Bundles.{IsBundle}
use Rattle.cmap_values.specs.Only.{IsOnly, HoldsOfNone}
use Rattle.cmap_c.specs.NamedFiles.{ExceedsBudgetOver, FitsBudgetOver, HasNoMapOver, IsMapOver, OfGiven}
use Rattle.cmap_c.proofs.GivenBundles.{OfGiven-empty, OfGiven-some}
use Rattle.cmap_c.proofs.MapsKept.{Ends-weaker}
use Rattle.cmap_c.proofs.parse.parse.Goals as goal

pub returns-then-is_empty : goal.returns-then-is_empty
returns-then-is_empty c =
    let bytes = c.args.bundle.now in
    let none : length bytes ≡ 0 = search rules in
    let files = c.args.files.now in
    let file = c.args.data.now in
    let budget = c.args.budget in
    Ends-weaker (IsMapOver None files file) (λ map. OfGiven bytes (λ given. IsMapOver given files file map)) (HasNoMapOver None files file) (OfGiven bytes (λ given. HasNoMapOver given files file))
    (FitsBudgetOver None files file budget) (OfGiven bytes (λ given. FitsBudgetOver given files file budget)) (ExceedsBudgetOver None files file budget) (OfGiven bytes (λ given. ExceedsBudgetOver given files file budget))
    ((bytes ≢ []) × HoldsOfNone (IsBundle bytes)) ⊥ c.parse_owned.result
    (λ map. OfGiven-empty bytes (λ given. IsMapOver given files file map) none) (OfGiven-empty bytes (λ given. HasNoMapOver given files file) none)
    (OfGiven-empty bytes (λ given. FitsBudgetOver given files file budget) none) (OfGiven-empty bytes (λ given. ExceedsBudgetOver given files file budget) none) c.parse_owned.ensures

pub returns-in-Ok-Some : goal.returns-in-Ok-Some
unfolding ExceedsBudgetOver FitsBudgetOver HasNoMapOver IsMapOver
returns-in-Ok-Some c =
    let bytes = c.args.bundle.now in
    let bundle = bundle_seen c.in-Ok-Some.bundle in
    let some : bytes ≢ [] = search rules in
    let only : IsOnly (IsBundle bytes) bundle = rw c.in-Ok-Some.field-0-is at c.in-Ok-Some.ensures in
    let files = c.args.files.now in
    let file = c.args.data.now in
    let budget = c.args.budget in
    Ends-weaker (IsMapOver (Some bundle) files file) (λ map. OfGiven bytes (λ given. IsMapOver given files file map)) (HasNoMapOver (Some bundle) files file) (OfGiven bytes (λ given. HasNoMapOver given files file))
    (FitsBudgetOver (Some bundle) files file budget) (OfGiven bytes (λ given. FitsBudgetOver given files file budget)) (ExceedsBudgetOver (Some bundle) files file budget) (OfGiven bytes (λ given. ExceedsBudgetOver given files file budget))
    ((bytes ≢ []) × HoldsOfNone (IsBundle bytes)) ⊥ c.parse_from.result
    (λ map. OfGiven-some bytes (λ given. IsMapOver given files file map) bundle some only) (OfGiven-some bytes (λ given. HasNoMapOver given files file) bundle some only)
    (OfGiven-some bytes (λ given. FitsBudgetOver given files file budget) bundle some only) (OfGiven-some bytes (λ given. ExceedsBudgetOver given files file budget) bundle some only) c.parse_from.ensures
