-- Why a file gives no map, as C sees it: numbers, and the names that lead to the file at fault.
use Rattle.std.specs.Prelude.{◌≡◌, ℕ, ◌≤◌, ◌-◌, ◌==◌, List, ◌++◌, Option, Some, None, if◌then◌else◌, length, map, option_map}
use Rattle.std.proofs.Math.ListN.{replicate}
use Rattle.std.specs.List.{concat}
use Rattle.cmap_values.specs.NamesSeen.{names_seen}
use Rattle.cmap_values.specs.Outcomes.{RefusesWith}
use Rattle.cmap_values.specs.declared.fault.Fault.{Fault}
use Rattle.cmap_values.specs.declared.fault.Fault.TheVariants as fault
use Rattle.cmap_values.specs.declared.fault.Reason.{Reason}
use Rattle.cmap_values.specs.declared.fault.Reason.TheVariants as reason
use Rattle.cmap_values.specs.declared.fault.Segment.{Segment}
use Rattle.cmap_values.specs.declared.fault.Segment.TheVariants as segment
use Rattle.cmap_load.specs.declared.refusal.Cause.{Cause}
use Rattle.cmap_load.specs.declared.refusal.Cause.TheVariants as cause
use Rattle.cmap_load.specs.declared.refusal.Refusal.{Refusal}
use Rattle.cmap_handles.specs.Rooms.{IsPut}
use Rattle.cmap_handles.specs.Statuses.{number}
use Rattle.cmap_c.specs.declared.fault.FaultNumbers.{FaultNumbers}
use Rattle.cmap_c.specs.declared.fault.Told.{Told}
use Rattle.cmap_handles.specs.declared.status.Status.{Status}
use Rattle.cmap_handles.specs.declared.status.Status.TheVariants.{Refused, NoMemory, OverBudget}

-- the number of a segment
abbrev pub segment_number : Segment → ℕ
segment_number segment.Cids = 1
segment_number segment.Texts = 2
segment_number segment.Notdefs = 3
segment_number segment.WritingMode = 4
segment_number segment.Codespaces = 5
segment_number segment.Collection = 6

-- the number of a reason
abbrev pub reason_number : Reason → ℕ
reason_number reason.EndWithinSection = 2
reason_number reason.CodeExpected = 3
reason_number reason.CodeLength = 4
reason_number reason.UnequalLengths = 5
reason_number reason.CidExpected = 6
reason_number reason.TextExpected = 7
reason_number reason.BracketExpected = 8
reason_number reason.UseWithoutName = 9
reason_number reason.Header = 10
reason_number reason.SegmentLength = 11
reason_number reason.SegmentType = 12
reason_number (reason.Field s) = 13
reason_number (reason.Entry s) = 14
reason_number (reason.CodeTooLarge s) = 15
reason_number reason.CidTooLarge = 16
reason_number reason.UnclosedString = 17
reason_number reason.WrongDigit = 18
reason_number reason.StrayDelimiter = 19

-- the number of the segment that a reason names, or 0
abbrev pub segment_of : Reason → ℕ
segment_of (reason.Field s) = segment_number s
segment_of (reason.Entry s) = segment_number s
segment_of (reason.CodeTooLarge s) = segment_number s
segment_of reason.UnclosedString = 0
segment_of reason.WrongDigit = 0
segment_of reason.StrayDelimiter = 0
segment_of reason.EndWithinSection = 0
segment_of reason.CodeExpected = 0
segment_of reason.CodeLength = 0
segment_of reason.UnequalLengths = 0
segment_of reason.CidExpected = 0
segment_of reason.TextExpected = 0
segment_of reason.BracketExpected = 0
segment_of reason.UseWithoutName = 0
segment_of reason.Header = 0
segment_of reason.SegmentLength = 0
segment_of reason.SegmentType = 0
segment_of reason.CidTooLarge = 0

-- the numbers of a cause: the number of the cause, the number of the reason, the number of the segment, and the offset; the last three are 0 unless the file is malformed
abbrev pub numbers_of : Cause → ℕ × ℕ × ℕ × ℕ
numbers_of (cause.Malformed stop) = (1, reason_number stop.reason, segment_of stop.reason, stop.offset)
numbers_of cause.NoFile = (2, 0, 0, 0)
numbers_of cause.ChainLength = (3, 0, 0, 0)
numbers_of cause.OverBudget = (4, 0, 0, 0)

abbrev pub status_of : Cause → Status
status_of (cause.Malformed stop) = Refused
status_of cause.NoFile = Refused
status_of cause.ChainLength = Refused
status_of cause.OverBudget = OverBudget

-- these are the numbers of the cause
abbrev pub HasNumbers : FaultNumbers → Cause → Type 0
HasNumbers fault cause = (fault.cause, fault.reason, fault.segment, fault.offset) ≡ numbers_of cause

-- the fault has the number of names, at most 16, and the length of each name in bytes, followed by zeros
abbrev pub HasNames : FaultNumbers → List (List ℕ) → Type 0
HasNames fault names = (length names ≤ 16) × (fault.names ≡ length names) × (fault.name_lens ≡ map length names ++ replicate (16 - length names) 0)

-- the fault of these names and this cause, by its numbers
abbrev pub fault_numbers : List (List ℕ) → Cause → FaultNumbers
fault_numbers names cause = record {
  cause = (numbers_of cause).0;
  reason = (numbers_of cause).1;
  segment = (numbers_of cause).2;
  offset = (numbers_of cause).3;
  names = length names;
  name_lens = map length names ++ replicate (16 - length names) 0;
}

-- what C is told of a cause and of the names that lead to the file at fault
abbrev pub IsToldOf : List (List ℕ) → Cause → Told → Type 0
IsToldOf names cause told = (told.cause ≡ cause) × HasNumbers told.fault cause × HasNames told.fault names × (told.names.items ≡ concat names)

-- C is told of names and a cause with this property
abbrev pub IsToldWith : (List (List ℕ) → Cause → Type 0) → Told → Type 0
IsToldWith leads told = (names : List (List ℕ)) × leads names told.cause × IsToldOf names told.cause told

-- C has a cause and names with this property: the numbers of the cause, the lengths of the names, and the names one after another in the buffer, if they fit
pub record IsExplained (leads : List (List ℕ) → Cause → Type 0) (fault : FaultNumbers) (old new : List ℕ) (needed status : ℕ) : Type 0 where
  pub path : List (List ℕ)
  pub cause : Cause
  pub leads_there : leads path cause
  pub numbers : HasNumbers fault cause
  pub lengths : HasNames fault path
  pub is_status : status ≡ number (status_of cause)
  pub put : ℕ
  pub are_put : IsPut (concat path) old new needed put

-- ---- private aid
-- C is told of a refusal, if there is memory for it
abbrev pub IsToldFrom : Fault Refusal → Fault Told → Type 0
IsToldFrom (fault.Refused refusal) told = RefusesWith (IsToldOf (names_seen refusal.names.items) refusal.cause) told
IsToldFrom fault.Memory told = told ≡ fault.Memory

-- how a call ends if a file is refused or memory runs out
abbrev pub ending_of : Fault Refusal → Status
ending_of (fault.Refused refusal) = status_of refusal.cause
ending_of fault.Memory = NoMemory

-- the segment of a number
abbrev pub segment_numbered : ℕ → Option Segment
segment_numbered n =
    if n == 1 then Some segment.Cids
    else if n == 2 then Some segment.Texts
    else if n == 3 then Some segment.Notdefs
    else if n == 4 then Some segment.WritingMode
    else if n == 5 then Some segment.Codespaces
    else if n == 6 then Some segment.Collection
    else None

-- the one reason that may have these numbers
abbrev pub possible_reason : ℕ → ℕ → Option Reason
possible_reason n s =
    if n == 2 then Some reason.EndWithinSection
    else if n == 3 then Some reason.CodeExpected
    else if n == 4 then Some reason.CodeLength
    else if n == 5 then Some reason.UnequalLengths
    else if n == 6 then Some reason.CidExpected
    else if n == 7 then Some reason.TextExpected
    else if n == 8 then Some reason.BracketExpected
    else if n == 9 then Some reason.UseWithoutName
    else if n == 10 then Some reason.Header
    else if n == 11 then Some reason.SegmentLength
    else if n == 12 then Some reason.SegmentType
    else if n == 13 then option_map (λ segment. reason.Field segment) (segment_numbered s)
    else if n == 14 then option_map (λ segment. reason.Entry segment) (segment_numbered s)
    else if n == 15 then option_map (λ segment. reason.CodeTooLarge segment) (segment_numbered s)
    else if n == 16 then Some reason.CidTooLarge
    else if n == 17 then Some reason.UnclosedString
    else if n == 18 then Some reason.WrongDigit
    else if n == 19 then Some reason.StrayDelimiter
    else None

-- the one cause that may have these numbers
abbrev pub cause_numbered : ℕ × ℕ × ℕ × ℕ → Option Cause
cause_numbered (n, reason, segment, offset) =
    if n == 1 then option_map (λ reason. cause.Malformed (record { offset = offset; reason = reason })) (possible_reason reason segment)
    else if n == 2 then Some cause.NoFile
    else if n == 3 then Some cause.ChainLength
    else if n == 4 then Some cause.OverBudget
    else None

abbrev pub possible_cause : FaultNumbers → Option Cause
possible_cause fault = cause_numbered (fault.cause, fault.reason, fault.segment, fault.offset)
