-- What calls that may fail answer.
use Rattle.std.proofs.Common.{◌≡◌, Ok, Err}
use Rattle.std.specs.Prelude.{Result, IfErr, IsErrAnd}
use Rattle.cmap_values.specs.Outcomes.{Outcome, RefusesWith}
use Rattle.cmap_values.specs.declared.fault.Fault.{Fault}
use Rattle.cmap_values.specs.declared.fault.Fault.TheVariants.{Refused, Memory}

-- what holds of what is refused, by what else holds of it
pub refused_as : {R : Type 0} {P Q : R → Type 0} (fault : Fault R) → RefusesWith P fault → ((refused : R) → P refused → Q refused) → RefusesWith Q fault
refused_as (Refused refused) holds gives = gives refused holds
refused_as Memory holds gives = tt

-- the error of a call, passed on by `?`
pub refuses_on : {A R : Type 0} {P Q : R → Type 0} (result : Result A (Fault R)) (fault : Fault R) → IsErrAnd result (λ e. e ≡ fault) → RefusesWith P fault → ((refused : R) → P refused → Q refused) → IfErr result (RefusesWith Q)
refuses_on (Ok x) fault is refused gives = absurd is
refuses_on (Err error) fault is refused gives = rw is (refused_as fault refused gives)

pub passed_on : {A R : Type 0} {P Q : R → Type 0} (S : A → Type 0) (result : Result A (Fault R)) (fault : Fault R) → IsErrAnd result (λ e. e ≡ fault) → RefusesWith P fault → ((refused : R) → P refused → Q refused) → Outcome S Q result
passed_on S (Ok x) fault is refused gives = absurd is
passed_on S (Err error) fault is refused gives = (tt, rw is (refused_as fault refused gives))

-- what holds of a result that is handed on
pub refused_on : {A R : Type 0} {P Q : R → Type 0} (result : Result A (Fault R)) → IfErr result (RefusesWith P) → ((refused : R) → P refused → Q refused) → IfErr result (RefusesWith Q)
refused_on (Ok x) h gives = tt
refused_on (Err fault) h gives = refused_as fault h gives

-- of a want of memory, passed on by `?`, nothing is said
pub memory_on : {A R : Type 0} (P : R → Type 0) (result : Result A (Fault R)) → IsErrAnd result (λ e. e ≡ Memory) → IfErr result (RefusesWith P)
memory_on P (Ok x) is = absurd is
memory_on P (Err error) is = rw is tt
