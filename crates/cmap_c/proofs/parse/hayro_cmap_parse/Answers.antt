use Rattle.std.proofs.Common.{◌≡◌, ◌≢◌, ◌≤◌, ◌⊎◌, ℕ, [], arith, inl, inr}
use Rattle.cmap_binary.specs.Bundles.{IsBundle}
use Rattle.cmap_values.specs.Only.{HoldsOfNone}
use Rattle.cmap_c.specs.NamedFiles.{ExceedsBudgetOver, FitsBudgetOver, HasNoMapOver, IsMapOver, OfGiven, budget_of}
use Rattle.cmap_c.proofs.MapsKept.{Ended, ended}
use Rattle.cmap_c.proofs.parse.hayro_cmap_parse.Goals as goal

-- what the number says that is returned
says : (c : goal.After-keep_read) → let bytes = c.args.bundle.now in let files = c.args.files.now in let file = c.args.data.now in let budget = budget_of c.args.budget in
    Ended (λ map. OfGiven bytes (λ given. IsMapOver given files file map)) (OfGiven bytes (λ given. HasNoMapOver given files file)) (OfGiven bytes (λ given. FitsBudgetOver given files file budget))
    (OfGiven bytes (λ given. ExceedsBudgetOver given files file budget)) ((bytes ≢ []) × HoldsOfNone (IsBundle bytes)) ⊥ c.keep_read.result c.keep_read.new.handle.slot.map
says c = ended _ _ _ _ _ _ c.parse.result _ _ (rw c.limit.ensures at c.parse.ensures) c.keep_read.ensures

at_most_four : {n : ℕ} {A B : Type 0} → (n ≡ 0) ⊎ (((n ≤ 3) ⊎ (((n ≡ 4) × B) ⊎ ((n ≡ 5) × ⊥))) × A) → (n ≡ 0) ⊎ ((n ≤ 4) × A)
at_most_four (inl done) = inl done
at_most_four (inr (inl below, rest)) = inr (omega arith, rest)
at_most_four (inr (inr (inl four), rest)) = let is = four.0 in inr (omega arith, rest)
at_most_four (inr (inr (inr five), rest)) = absurd five.1

pub returns : goal.returns
returns c =
    let ends = says c in
    record {
      accepts = ends.accepts;
      refuses = ends.refuses;
      over = ends.passes;
      within = ends.within;
      not_a_bundle = ends.not_a_bundle;
      failed = at_most_four ends.failed;
    }
