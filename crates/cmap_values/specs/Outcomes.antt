-- The outcomes of calls that read: what holds of the answer, and what holds of the refusal. If memory runs out, nothing is claimed.
use Rattle.std.specs.Prelude.{ℕ, ◌+◌, ◌<◌, ◌≤◌, List, ◌++◌, length, take, IfOk, IfErr, MatchOption, Option, Result}
use Rattle.cmap_values.specs.Only.{IsOnly, HoldsOfNone}
use Rattle.cmap_values.specs.declared.fault.Fault.{Fault}
use Rattle.cmap_values.specs.declared.fault.Fault.TheVariants as fault
use Rattle.cmap_values.specs.declared.fault.Stop.{Stop}

-- P holds of the refusal; if memory runs out, nothing is claimed
abbrev pub RefusesWith : {R : Type 0} → (R → Type 0) → Fault R → Type 0
RefusesWith P (fault.Refused refused) = P refused
RefusesWith P fault.Memory = Unit {0}

-- the answer satisfies IsAnswer, and the refusal satisfies refuses
abbrev pub Outcome : {A R : Type 0} → (A → Type 0) → (R → Type 0) → Result A (Fault R) → Type 0
Outcome IsAnswer refuses result = IfOk result IsAnswer × IfErr result (RefusesWith refuses)

-- the first holds if the call succeeds, and the second holds if the call refuses
abbrev pub Succeeds : {A R : Type 0} → Type 0 → Type 0 → Result A (Fault R) → Type 0
Succeeds succeeds refuses = Outcome (λ done. succeeds) (λ reason. refuses)

-- the answer, as contracts see it, is the only value with the property P; the call refuses only if no value has P
abbrev pub Reads : {A B R : Type 0} → (B → Type 0) → (A → B) → Result A (Fault R) → Type 0
Reads P seen = Outcome (λ x. IsOnly P (seen x)) (λ reason. HoldsOfNone P)

abbrev pub Finds : {A B : Type 0} → (B → Type 0) → (A → B) → Option A → Type 0
Finds P seen result = MatchOption result (HoldsOfNone P) (λ x. IsOnly P (seen x))

-- ---- files
-- if a file is refused, refuses holds, and the offset of the stop is at most len
abbrev pub StopsWithin : ℕ → Type 0 → Fault Stop → Type 0
StopsWithin len refuses = RefusesWith (λ stop. refuses × (stop.offset ≤ len))

-- the answer, as contracts see it, is the only value with the property P of these bytes; the call refuses only if no value has P, and stops within the bytes
abbrev pub ReadsFile : {A B : Type 0} → (List ℕ → B → Type 0) → (A → B) → List ℕ → Result A (Fault Stop) → Type 0
ReadsFile P seen bytes = Outcome (λ x. IsOnly (P bytes) (seen x)) (λ stop. HoldsOfNone (P bytes) × (stop.offset ≤ length bytes))

-- if a file is refused before its end, no bytes with the same prefix, up to and including the byte at the offset of the stop, have the property P
abbrev pub DecidedBy : {B : Type 0} → (List ℕ → B → Type 0) → List ℕ → Stop → Type 0
DecidedBy P bytes stop = stop.offset < length bytes → (more : List ℕ) → HoldsOfNone (P (take (1 + stop.offset) bytes ++ more))
