-- The first fault of a binary file: it is that of the segments that are left, and it is one.
use Rattle.std.proofs.Common.{◌≡◌, ℕ, ◌+◌, ◌≤◌, refl, sym, ap, ◌∙◌, subst, List, drop, length, Ok, Err, inl, inr, arith}
use Rattle.std.specs.Prelude.{IfErr, Result, slice_index}
use Rattle.cmap_values.specs.Only.{IsOnly}
use Rattle.cmap_values.specs.Outcomes.{RefusesWith}
use Rattle.cmap_values.specs.declared.fault.Fault.{Fault}
use Rattle.cmap_values.specs.declared.fault.Stop.{Stop}
use Rattle.cmap_values.proofs.Outcomes.{refused_as}
use Rattle.cmap_binary.specs.Bundles.{PrefixTables}
use Rattle.cmap_binary.specs.Fronts.{FramedAt}
use Rattle.cmap_binary.proofs.Fronts.{framed_alone}
use Rattle.cmap_binary.proofs.FrontsAlone.{ArePrefixFree}
use Rattle.cmap_binary.specs.BinaryFaults.{IsBinaryFault, SegmentFault, after_segment, no_segment, says_nothing}
use Rattle.cmap_binary.specs.BinaryFiles.{BodyOf, Content}
use Rattle.cmap_binary.specs.BinarySalvage.{SaysNothing, SegmentSays}
use Rattle.cmap_binary.proofs.Bodies.{body_alone}
use Rattle.cmap_binary.proofs.ReasonsAlone.{segment_wrong}
use Rattle.cmap_binary.proofs.SegmentsSalvaged.{offset_of}

-- the segments before these all say something
abbrev pub FaultsLead : PrefixTables → List ℕ → List ℕ → Type 0
FaultsLead tables start here = (stop : Stop) → SegmentFault tables (offset_of start here) here stop → SegmentFault tables 10 start stop

pub faults_lead : (tables : PrefixTables) (start : List ℕ) → FaultsLead tables start start
faults_lead tables start stop fault = let here : offset_of start start ≡ 10 = omega arith in subst (λ n. SegmentFault tables n start stop) here fault

pub faults_lead_on : (tables : PrefixTables) (start here : List ℕ) {segment rest : List ℕ} {content : Content} → FaultsLead tables start here → length here ≤ length start → FramedAt 1 here (segment, rest) → IsOnly (SegmentSays tables segment) content
    → FaultsLead tables start rest
faults_lead_on tables start here {segment} {rest} leads within framed only stop fault =
    let (size, after, field, (filled, split)) = framed in
    let next : offset_of start here + length segment ≡ offset_of start rest = omega (arith, split.3, split.4, within) in
    leads stop (after_segment framed only (subst (λ n. SegmentFault tables n rest stop) (sym next) fault))

pub fault_of_segments : {A : Type 0} (tables : PrefixTables) (bytes body : List ℕ) → BodyOf bytes body → (result : Result A (Fault Stop)) → IfErr result (RefusesWith (SegmentFault tables 10 body)) → IfErr result (RefusesWith (IsBinaryFault tables bytes))
fault_of_segments tables bytes body at (Ok x) stops = tt
fault_of_segments tables bytes body at (Err fault) stops = refused_as fault stops (λ stop first. inr (body, at, first))

-- ---- there is one fault
module _ (tables : PrefixTables) (free : ArePrefixFree tables) where
  segments_alike : {offset : ℕ} {bytes : List ℕ} {stop other : Stop} → SegmentFault tables offset bytes stop → SegmentFault tables offset bytes other → stop ≡ other
  segments_alike (no_segment some wrong) (no_segment also none) = refl
  segments_alike (no_segment some wrong) (says_nothing reason framed told) = absurd (wrong _ framed)
  segments_alike (no_segment some wrong) (after_segment framed only fault) = absurd (wrong _ framed)
  segments_alike (says_nothing reason framed wrong) (no_segment some none) = absurd (none _ framed)
  segments_alike {offset} (says_nothing {segment = segment} reason framed wrong) (says_nothing other also too) =
      let same = framed_alone 1 _ _ also framed in
      let here = subst (λ p. SaysNothing tables p.0 other) same too in
      ap (λ r. record { offset = offset; reason = r }) (segment_wrong tables free (slice_index segment 0) (drop 5 segment) reason other wrong.1 here.1)
  segments_alike (says_nothing reason framed wrong) (after_segment {content = content} also only fault) = let same = framed_alone 1 _ _ also framed in absurd (wrong.0 content (subst (λ p. SegmentSays tables p.0 content) same only.holds))
  segments_alike (after_segment framed only fault) (no_segment some wrong) = absurd (wrong _ framed)
  segments_alike (after_segment {content = content} framed only fault) (says_nothing reason also wrong) = let same = framed_alone 1 _ _ framed also in absurd (wrong.0 content (subst (λ p. SegmentSays tables p.0 content) same only.holds))
  segments_alike {offset} {other = other} (after_segment {segment = segment} {rest = rest} framed only fault) (after_segment {segment = next} {rest = left} also says found) =
      let same = framed_alone 1 (next, left) (segment, rest) also framed in
      segments_alike fault (subst (λ p. SegmentFault tables (offset + length p.0) p.1 other) same found)

  pub one_binary_fault : (bytes : List ℕ) (stop other : Stop) → IsBinaryFault tables bytes stop → IsBinaryFault tables bytes other → stop ≡ other
  one_binary_fault bytes stop other fault found = elim fault [
    | inl (wrong, is) ↦ elim found [
      | inl (none, same) ↦ is ∙ sym same
      | inr (body, at, first) ↦ absurd (wrong body at)
    ]
    | inr (body, at, first) ↦ elim found [
      | inl (none, same) ↦ absurd (none body at)
      | inr (next, also, then) ↦ segments_alike first (subst (λ b. SegmentFault tables 10 b other) (body_alone bytes next body also at) then)
    ]
  ]
