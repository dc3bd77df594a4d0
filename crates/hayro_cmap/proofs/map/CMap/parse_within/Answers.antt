use Rattle.std.proofs.Common.{◌≡◌, refl, ℕ, List, Ok, Err, Some, None}
use Rattle.std.specs.Prelude.{◌≢◌, IsErrOf, IsSome, IfOk, IfErr, IfNone, IfSome, OnOk, Option, Result}
use Rattle.cmap_values.specs.Outcomes.{RefusesWith}
use Rattle.cmap_values.specs.declared.fault.Fault.{Fault}
use Rattle.cmap_values.specs.declared.fault.Fault.TheVariants.{Refused, Memory}
use Rattle.cmap_load.specs.Budgets.{Passes, Trail}
use Rattle.hayro_cmap.specs.declared.budget.ParseError.{ParseError}
use Rattle.hayro_cmap.specs.declared.budget.ParseError.TheVariants as parse_error
use Rattle.cmap_load.specs.declared.refusal.Cause.{Cause}
use Rattle.cmap_load.specs.declared.refusal.Cause.TheVariants.{Malformed, NoFile, ChainLength, OverBudget}
use Rattle.cmap_load.proofs.OneName.{IsByName-from_answers}
use Rattle.hayro_cmap.proofs.map.CMap.parse_within.Goals as goal

-- what is passed is there
is_some : (opens : Trail → Type 0) (opens_first : List (List ℕ) → List ℕ → Type 0) (budget : Option ℕ) → Passes opens opens_first budget → IsSome budget
is_some opens opens_first (Some budget) passes = refl
is_some opens opens_first None passes = absurd passes.first.1.over

-- what a map or none of it says
record Answered {A : Type 0} (is_map : A → Type 0) (none fits passes : Type 0) (result : Result (Option A) ParseError) : Type 0 where
  accepts : IfOk result (λ found. IfSome found is_map)
  refuses : IfOk result (λ found. IfNone found none)
  within : OnOk result fits
  over : IsErrOf result parse_error.OverBudget → passes

of_cause : {A : Type 0} {is_map : A → Type 0} {none fits over : Type 0} (result : Result (Option A) ParseError) (cause : Cause)
    → (cause ≡ OverBudget → result ≡ Err parse_error.OverBudget) → (cause ≢ OverBudget → result ≡ Ok None)
    → (cause ≢ OverBudget → none × fits) → (cause ≡ OverBudget → over) → Answered is_map none fits over result
of_cause result OverBudget passed other refuses over = rw (passed refl) (record { accepts = tt; refuses = tt; within = tt; over = λ _. over refl })
of_cause result (Malformed stop) passed other refuses over = let (lacks, fits) = refuses (λ e. cc) in rw (other (λ e. cc)) (record { accepts = tt; refuses = lacks; within = fits; over = λ e. cc })
of_cause result NoFile passed other refuses over = let (lacks, fits) = refuses (λ e. cc) in rw (other (λ e. cc)) (record { accepts = tt; refuses = lacks; within = fits; over = λ e. cc })
of_cause result ChainLength passed other refuses over = let (lacks, fits) = refuses (λ e. cc) in rw (other (λ e. cc)) (record { accepts = tt; refuses = lacks; within = fits; over = λ e. cc })

answered : {A R : Type 0} {is_map : A → Type 0} {none fits over : Type 0} (cause_of : R → Cause) (found : Result A (Fault R)) (result : Result (Option A) ParseError)
    → IfOk found (λ map. result ≡ Ok (Some map))
    → IfErr found (RefusesWith (λ refusal. cause_of refusal ≡ OverBudget → result ≡ Err parse_error.OverBudget))
    → IfErr found (RefusesWith (λ refusal. cause_of refusal ≢ OverBudget → result ≡ Ok None))
    → (found ≡ Err Memory → result ≡ Err parse_error.Memory)
    → IfOk found is_map → OnOk found fits
    → IfErr found (RefusesWith (λ refusal. cause_of refusal ≢ OverBudget → none × fits))
    → IfErr found (RefusesWith (λ refusal. cause_of refusal ≡ OverBudget → over)) → Answered is_map none fits over result
answered cause_of (Ok map) result is passed other memory accepts within refuses over = rw is (record { accepts = accepts; refuses = tt; within = within; over = λ e. cc })
answered cause_of (Err (Refused refusal)) result is passed other memory accepts within refuses over = of_cause result (cause_of refusal) passed other refuses over
answered cause_of (Err Memory) result is passed other memory accepts within refuses over = rw (memory refl) (record { accepts = tt; refuses = tt; within = tt; over = λ e. cc })

pub parse_from-requires-clause-by_name : goal.parse_from-requires-clause-by_name
parse_from-requires-clause-by_name g c = IsByName-from_answers g.F.Fn c.args.get_cmap.now c.requires.by_name

pub returns : goal.returns
returns g c =
    let without = c.without_refusal.ensures in
    let found = c.parse_from.ensures in
    let answered = answered (λ refusal. refusal.cause) _ _ without.found without.over without.none without.memory found.accepts found.within found.refuses found.over in
    record { accepts = answered.accepts; refuses = answered.refuses; within = answered.within; some = λ e. is_some _ _ c.args.budget (answered.over e); over = answered.over }
