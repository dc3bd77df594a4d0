-- What the number by which a call ends says of the map that it read, and of the handle that keeps it.
use Rattle.std.proofs.Common.{◌≡◌, ◌<◌, ◌≤◌, ◌⊎◌, ℕ, List, IsSomeAnd, None, Option, Ok, Err, Result, arith, inl, inr}
use Rattle.cmap_layers.specs.Layers.{Layer}
use Rattle.cmap_c.specs.Endings.{Ends, IsKept}
use Rattle.cmap_handles.specs.Statuses.{number}
use Rattle.cmap_handles.specs.declared.status.Status.{Status}
use Rattle.cmap_handles.specs.declared.status.Status.TheVariants.{Done, Refused, NoMemory, OverBudget, NotABundle, Absent, NoRoom}

below_two : {n : ℕ} → 1 < n → (n ≡ 0) ⊎ (n ≡ 1) → ⊥
below_two many (inl is) = omega arith
below_two many (inr is) = omega arith

module _ (IsMap : List Layer → Type 0) (none fits over invalid absent : Type 0) where
  -- what each number says
  pub record Ended (status : ℕ) (now : Option (List Layer)) : Type 0 where
    pub accepts : status ≡ 0 → IsSomeAnd now IsMap
    pub refuses : status ≡ 1 → none
    pub passes : status ≡ 3 → over
    pub within : (status ≡ 0) ⊎ (status ≡ 1) → fits
    pub not_a_bundle : status ≡ 4 → invalid
    pub unknown : status ≡ 5 → absent
    pub failed : (status ≡ 0) ⊎ (((status ≤ 3) ⊎ (((status ≡ 4) × invalid) ⊎ ((status ≡ 5) × absent))) × (now ≡ None))

  ended_as : (s : Status) (status : ℕ) (now : Option (List Layer)) → Ends IsMap none fits over invalid absent (Err s) → status ≡ number s → now ≡ None → Ended status now
  ended_as Done status now says is empty = absurd says
  ended_as Refused status now says is empty = record {
    accepts = λ h. absurd (omega arith);
    refuses = λ h. says.0;
    passes = λ h. absurd (omega arith);
    within = λ h. says.1;
    not_a_bundle = λ h. absurd (omega arith);
    unknown = λ h. absurd (omega arith);
    failed = inr (inl (omega arith), empty);
  }
  ended_as NoMemory status now says is empty = record {
    accepts = λ h. absurd (omega arith);
    refuses = λ h. absurd (omega arith);
    passes = λ h. absurd (omega arith);
    within = λ h. absurd (below_two (omega arith) h);
    not_a_bundle = λ h. absurd (omega arith);
    unknown = λ h. absurd (omega arith);
    failed = inr (inl (omega arith), empty);
  }
  ended_as OverBudget status now says is empty = record {
    accepts = λ h. absurd (omega arith);
    refuses = λ h. absurd (omega arith);
    passes = λ h. says;
    within = λ h. absurd (below_two (omega arith) h);
    not_a_bundle = λ h. absurd (omega arith);
    unknown = λ h. absurd (omega arith);
    failed = inr (inl (omega arith), empty);
  }
  ended_as NotABundle status now says is empty = record {
    accepts = λ h. absurd (omega arith);
    refuses = λ h. absurd (omega arith);
    passes = λ h. absurd (omega arith);
    within = λ h. absurd (below_two (omega arith) h);
    not_a_bundle = λ h. says;
    unknown = λ h. absurd (omega arith);
    failed = inr (inr (inl (is, says)), empty);
  }
  ended_as Absent status now says is empty = record {
    accepts = λ h. absurd (omega arith);
    refuses = λ h. absurd (omega arith);
    passes = λ h. absurd (omega arith);
    within = λ h. absurd (below_two (omega arith) h);
    not_a_bundle = λ h. absurd (omega arith);
    unknown = λ h. says;
    failed = inr (inr (inr (is, says)), empty);
  }
  ended_as NoRoom status now says is empty = absurd says

  pub ended : (read : Result (List Layer) Status) (status : ℕ) (now : Option (List Layer)) → Ends IsMap none fits over invalid absent read → IsKept read status now → Ended status now
  ended (Err s) status now says kept = ended_as s status now says kept.0 kept.1
  ended (Ok map) status now says (inl kept) = record {
    accepts = λ h. rw kept.1 says.0;
    refuses = λ h. absurd (omega arith);
    passes = λ h. absurd (omega arith);
    within = λ h. says.1;
    not_a_bundle = λ h. absurd (omega arith);
    unknown = λ h. absurd (omega arith);
    failed = inl kept.0;
  }
  ended (Ok map) status now says (inr kept) = record {
    accepts = λ h. absurd (omega arith);
    refuses = λ h. absurd (omega arith);
    passes = λ h. absurd (omega arith);
    within = λ h. says.1;
    not_a_bundle = λ h. absurd (omega arith);
    unknown = λ h. absurd (omega arith);
    failed = inr (inl (omega arith), kept.1);
  }

-- it ends so where the file is one that C hands in
pub few : {n : ℕ} {A : Type 0} → (n ≡ 0) ⊎ (((n ≤ 3) ⊎ (((n ≡ 4) × ⊥) ⊎ ((n ≡ 5) × ⊥))) × A) → (n ≡ 0) ⊎ ((n ≤ 3) × A)
few (inl done) = inl done
few (inr (inl below, rest)) = inr (below, rest)
few (inr (inr (inl four), rest)) = absurd four.1
few (inr (inr (inr five), rest)) = absurd five.1

-- another thing may be said of the map and of each status
pub Ends-weaker : (IsMap IsMap' : List Layer → Type 0) (none none' fits fits' over over' invalid absent : Type 0) (read : Result (List Layer) Status) → ((map : List Layer) → IsMap map → IsMap' map) → (none → none') → (fits → fits') → (over → over')
    → Ends IsMap none fits over ⊥ ⊥ read → Ends IsMap' none' fits' over' invalid absent read
Ends-weaker IsMap IsMap' none none' fits fits' over over' invalid absent (Ok map) is refuses within passes says = (is map says.0, within says.1)
Ends-weaker IsMap IsMap' none none' fits fits' over over' invalid absent (Err Done) is refuses within passes says = says
Ends-weaker IsMap IsMap' none none' fits fits' over over' invalid absent (Err Refused) is refuses within passes says = (refuses says.0, within says.1)
Ends-weaker IsMap IsMap' none none' fits fits' over over' invalid absent (Err NoMemory) is refuses within passes says = says
Ends-weaker IsMap IsMap' none none' fits fits' over over' invalid absent (Err OverBudget) is refuses within passes says = passes says
Ends-weaker IsMap IsMap' none none' fits fits' over over' invalid absent (Err NotABundle) is refuses within passes says = absurd says
Ends-weaker IsMap IsMap' none none' fits fits' over over' invalid absent (Err Absent) is refuses within passes says = absurd says
Ends-weaker IsMap IsMap' none none' fits fits' over over' invalid absent (Err NoRoom) is refuses within passes says = says
