-- The cause of numbers is the one that has them.
use Rattle.std.proofs.Common.{◌≡◌, ◌∙◌, Some, None, ap, refl, sym}
use Rattle.std.specs.Prelude.{option_map}
use Rattle.cmap_values.specs.Only.{IsOnly, HoldsOfNone}
use Rattle.cmap_values.specs.declared.fault.Reason.{Reason}
use Rattle.cmap_values.specs.declared.fault.Reason.TheVariants as reason
use Rattle.cmap_values.specs.declared.fault.Segment.{Segment}
use Rattle.cmap_values.specs.declared.fault.Segment.TheVariants as segment
use Rattle.cmap_load.specs.declared.refusal.Cause.{Cause}
use Rattle.cmap_load.specs.declared.refusal.Cause.TheVariants as cause
use Rattle.cmap_c.specs.Faults.{HasNumbers, cause_numbered, numbers_of, possible_cause, possible_reason, reason_number, segment_number, segment_numbered, segment_of}
use Rattle.cmap_c.specs.declared.fault.FaultNumbers.{FaultNumbers}

segment_found : (s : Segment) → segment_numbered (segment_number s) ≡ Some s
segment_found segment.Cids = refl
segment_found segment.Texts = refl
segment_found segment.Notdefs = refl
segment_found segment.WritingMode = refl
segment_found segment.Codespaces = refl
segment_found segment.Collection = refl

reason_found : (r : Reason) → possible_reason (reason_number r) (segment_of r) ≡ Some r
reason_found reason.UnclosedString = refl
reason_found reason.WrongDigit = refl
reason_found reason.StrayDelimiter = refl
reason_found reason.EndWithinSection = refl
reason_found reason.CodeExpected = refl
reason_found reason.CodeLength = refl
reason_found reason.UnequalLengths = refl
reason_found reason.CidExpected = refl
reason_found reason.TextExpected = refl
reason_found reason.BracketExpected = refl
reason_found reason.UseWithoutName = refl
reason_found reason.Header = refl
reason_found reason.SegmentLength = refl
reason_found reason.SegmentType = refl
reason_found reason.CidTooLarge = refl
reason_found (reason.Field s) = ap (option_map (λ s. reason.Field s)) (segment_found s)
reason_found (reason.Entry s) = ap (option_map (λ s. reason.Entry s)) (segment_found s)
reason_found (reason.CodeTooLarge s) = ap (option_map (λ s. reason.CodeTooLarge s)) (segment_found s)

cause_found : (c : Cause) → cause_numbered (numbers_of c) ≡ Some c
cause_found (cause.Malformed stop) = ap (option_map (λ r. cause.Malformed (record { offset = stop.offset; reason = r }))) (reason_found stop.reason)
cause_found cause.NoFile = refl
cause_found cause.ChainLength = refl
cause_found cause.OverBudget = refl

module _ (fault : FaultNumbers) where
  pub possible : (c : Cause) → HasNumbers fault c → possible_cause fault ≡ Some c
  possible c has = ap cause_numbered has ∙ cause_found c

  pub only_cause : (found : Cause) → possible_cause fault ≡ Some found → HasNumbers fault found → IsOnly (HasNumbers fault) found
  only_cause found is has = record { holds = has; alone = λ c other. let same : Some c ≡ Some found = sym (possible c other) ∙ is in cc }

  pub no_cause : possible_cause fault ≡ None → HoldsOfNone (HasNumbers fault)
  no_cause is c has = let same : None ≡ Some c = sym is ∙ possible c has in cc

  pub no_other : (found : Cause) → possible_cause fault ≡ Some found → (HasNumbers fault found → ⊥) → HoldsOfNone (HasNumbers fault)
  no_other found is not c has = let same : Some c ≡ Some found = sym (possible c has) ∙ is in let of : c ≡ found = cc in not (rw (← of) has)
