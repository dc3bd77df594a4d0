-- How many bytes codes of texts are written with.
use Rattle.std.proofs.Math.Path.{fun_ext}
use Rattle.std.proofs.Common.{◌≡◌, ℕ, Err, List, Ok, subst}
use Rattle.std.specs.Prelude.{Result}
use Rattle.cmap_values.specs.Files.{File}
use Rattle.cmap_values.specs.Outcomes.{Outcome}
use Rattle.cmap_values.specs.declared.fault.Fault.{Fault}
use Rattle.cmap_values.proofs.Outcomes.{refused_as}
use Rattle.cmap_text_writer.specs.Written.{IsWritten}

-- with lengths that are the same for each code
pub written_so : (lengths others : ℕ → ℕ) (file : File) (text : List ℕ) → ((code : ℕ) → lengths code ≡ others code) → IsWritten lengths file text → IsWritten others file text
written_so lengths others file text same written = subst (λ f. IsWritten f file text) (fun_ext same) written

-- what holds of an answer and of what is refused, by what else holds of them
pub outcome_as : {A R : Type 0} {P P_too : A → Type 0} {Q Q_too : R → Type 0} (result : Result A (Fault R)) → Outcome P Q result → ((x : A) → P x → P_too x) → ((r : R) → Q r → Q_too r) → Outcome P_too Q_too result
outcome_as (Ok x) (holds, none) gives refuses = (gives x holds, tt)
outcome_as (Err fault) (none, holds) gives refuses = (tt, refused_as fault holds refuses)
