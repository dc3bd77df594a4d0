-- Of a file that is refused there is one first fault: one list of names leads to it, and it has one cause.
use Rattle.std.proofs.Common.{◌≡◌, ℕ, zero, suc, refl, sym, ap, ◌∙◌, subst, List, [], ◌∷◌, ◌++◌, length, inl, inr, arith}
use Rattle.std.specs.Prelude.{◌≢◌, ◌⊎◌, All, min, Option, Some, None}
use Rattle.std.specs.List.{AllZip}
use Rattle.std.proofs.lemmas.List.Elements.{All-head, All-tail}
use Rattle.cmap_values.specs.Only.{HoldsOfNone}
use Rattle.cmap_values.specs.declared.fault.Stop.{Stop}
use Rattle.cmap_binary.specs.Bundles.{PrefixTables}
use Rattle.cmap_binary.proofs.FrontsAlone.{ArePrefixFree, tables_free}
use Rattle.cmap_binary.proofs.FaultsFirst.{one_binary_fault}
use Rattle.cmap_text.specs.TextReading.{StopsText}
use Rattle.cmap_text.specs.TokenParsers.{Refused, offset_of}
use Rattle.cmap_layers.specs.Layers.{Layer}
use Rattle.cmap_load.specs.Answers.{IsByName}
use Rattle.cmap_load.specs.Layers.{AreLayers, Means, OfAnswer}
use Rattle.cmap_load.specs.Maps.{FitsBudget, HasNoMap, LeadsToFault}
use Rattle.cmap_load.specs.Salvage.{AreOfBundle, IsFirstPastFaults, IsRefusedFor}
use Rattle.cmap_load.specs.Refusals.{HasLayers, IsFault, IsFirstFault, IsMissing, IsOwnFault, IsUsedAfter}
use Rattle.cmap_load.specs.declared.refusal.Cause.{Cause}
use Rattle.cmap_load.specs.declared.refusal.Cause.TheVariants.{Malformed, NoFile, ChainLength, OverBudget}
use Rattle.cmap_load.proofs.SalvagedMaps.{first_map}

-- no code word of the tables begins another one
abbrev pub AreFree : Option PrefixTables → Type 0
AreFree None = Unit {0}
AreFree (Some tables) = ArePrefixFree tables

pub free_of_bundle : (tables : Option PrefixTables) → AreOfBundle tables → AreFree tables
free_of_bundle None of_bundle = tt
free_of_bundle (Some tables) (text, holds) = tables_free text tables holds

-- ---- one place in a file
abbrev stop_of : ℕ → Refused → Stop
stop_of len e = record { offset = min (offset_of e) len; reason = e.reason }

stop_at : (len : ℕ) (e : Refused) (stop : Stop) → stop.offset ≡ min (offset_of e) len → stop.reason ≡ e.reason → stop ≡ stop_of len e
stop_at len e stop offset reason = rw (← offset, ← reason) refl

text_alike : (text : List ℕ) (stop other : Stop) → StopsText text stop → StopsText text other → stop ≡ other
text_alike text stop other (e, is, offset, reason) (d, same, place, why) =
    let one : e ≡ d = cc in
    stop_at (length text) e stop offset reason ∙ ap (stop_of (length text)) one ∙ sym (stop_at (length text) d other place why)

pub first_alike : (tables : Option PrefixTables) → AreFree tables → (bytes : List ℕ) (stop other : Stop) → IsFirstFault tables bytes stop → IsFirstFault tables bytes other → stop ≡ other
first_alike None free bytes stop other first also = text_alike bytes stop other first also
first_alike (Some tables) free bytes stop other first also = elim first [
  | inl (marked, is) ↦ elim also [
    | inl (_, same) ↦ one_binary_fault tables free bytes stop other is same
    | inr (unmarked, _) ↦ absurd (unmarked marked)
  ]
  | inr (unmarked, is) ↦ elim also [
    | inl (marked, _) ↦ absurd (unmarked marked)
    | inr (_, same) ↦ text_alike bytes stop other is same
  ]
]

-- ---- one name among uses
-- of the names before which each has a property, one alone lacks it
one_name : (P : List ℕ → Type 0) (name other : List ℕ) (before after also then : List (List ℕ)) → before ++ name ∷ after ≡ also ++ other ∷ then → All P before → All P also → (P name → ⊥) → (P other → ⊥) → name ≡ other
one_name P name other [] after [] then same all each lacks wants = cc
one_name P name other [] after (b ∷ also) then same all each lacks wants = let is : name ≡ b = cc in absurd (lacks (subst P (sym is) (All-head P b also each)))
one_name P name other (a ∷ before) after [] then same all each lacks wants = let is : a ≡ other = cc in absurd (wants (subst P is (All-head P a before all)))
one_name P name other (a ∷ before) after (b ∷ also) then same all each lacks wants =
    let rest : before ++ name ∷ after ≡ also ++ other ∷ then = cc in
    one_name P name other before after also then rest (All-tail P a before all) (All-tail P b also each) lacks wants

same_name : (P : List ℕ → Type 0) (uses : List (List ℕ)) (name other : List ℕ) → IsUsedAfter P uses name → IsUsedAfter P uses other → (P name → ⊥) → (P other → ⊥) → name ≡ other
same_name P uses name other (before, after, split, all) (also, then, cut, each) lacks wants = one_name P name other before after also then (sym split ∙ cut) all each lacks wants

-- where each name has layers, this one has
each_has : (P : List ℕ → List Layer → Type 0) (before after : List (List ℕ)) (name : List ℕ) (each : List (List Layer)) → AllZip P (before ++ name ∷ after) each → (layers : List Layer) × P name layers
each_has P [] after name [] h = absurd h
each_has P [] after name (x ∷ each) h = (x, h.0)
each_has P (b ∷ before) after name [] h = absurd h
each_has P (b ∷ before) after name (x ∷ each) h = each_has P before after name each h.1

module _ (tables : Option PrefixTables) (free : AreFree tables) (answer : List ℕ → Option (List ℕ) → Type 0) (by_name : IsByName answer) where
  -- ---- what is at fault has no layers
  own_none : (bytes : List ℕ) (cause : Cause) → IsOwnFault tables answer bytes cause → HoldsOfNone (Means tables bytes)
  own_none bytes (Malformed stop) fault = fault.0
  own_none bytes NoFile fault = absurd fault
  own_none bytes ChainLength fault = absurd fault
  own_none bytes OverBudget fault = absurd fault

  missing_none : (room : ℕ) (name : List ℕ) (cause : Cause) → IsMissing tables answer room name cause → HasLayers tables answer room name → ⊥
  missing_none room name (Malformed stop) missing has = missing
  missing_none room name NoFile (some, none) (layers, (bytes, said, are)) = let same : None ≡ Some bytes = by_name name None (Some bytes) none said in absurd (cc)
  missing_none room name ChainLength no_room (layers, (bytes, said, are)) = subst (λ most. AreLayers (Means tables) answer most bytes layers) no_room are
  missing_none room name OverBudget missing has = missing

  abbrev Ends : ℕ → List ℕ → List (List ℕ) → Cause → Type 0
  Ends room name names cause = (IsMissing tables answer room name cause × (names ≡ [])) ⊎ ((base : List ℕ) × answer name (Some base) × IsFault tables answer room base names cause)

  same_bytes : (name bytes base : List ℕ) → answer name (Some bytes) → answer name (Some base) → bytes ≡ base
  same_bytes name bytes base said also = let same : Some bytes ≡ Some base = by_name name (Some bytes) (Some base) said also in cc

  no_layers_at : (most : ℕ) (bytes : List ℕ) (names : List (List ℕ)) (cause : Cause) → IsFault tables answer most bytes names cause → HoldsOfNone (AreLayers (Means tables) answer most bytes)
  no_layers_at zero bytes names cause fault layers are = are
  no_layers_at (suc most) bytes [] cause fault layers (file, base, means, is_base, is) = own_none bytes cause fault file means
  no_layers_at (suc most) bytes (name ∷ names) cause (file, only, (before, after, split, found), ends) layers (other, base, means, (each, all, is_base), is) =
      let uses : other.uses ≡ before ++ name ∷ after = ap (λ f. f.uses) (only.alone other means) ∙ split in
      let has = each_has (OfAnswer answer (AreLayers (Means tables) answer most)) before after name each (subst (λ u. AllZip (OfAnswer answer (AreLayers (Means tables) answer most)) u each) uses all) in
      elim ends [
        | inl (missing, none) ↦ missing_none most name cause missing has
        | inr (bytes, said, fault) ↦ no_layers_at most bytes names cause fault has.0 (subst (λ b. AreLayers (Means tables) answer most b has.0) (same_bytes name has.1.0 bytes has.1.1 said) has.1.2)
      ]

  ends_none : (room : ℕ) (name : List ℕ) (names : List (List ℕ)) (cause : Cause) → Ends room name names cause → HasLayers tables answer room name → ⊥
  ends_none room name names cause ends has = elim ends [
    | inl (missing, none) ↦ missing_none room name cause missing has
    | inr (base, said, fault) ↦ no_layers_at room base names cause fault has.0 (subst (λ b. AreLayers (Means tables) answer room b has.0) (same_bytes name has.1.0 base has.1.1 said) has.1.2)
  ]

  -- ---- one fault
  own_alike : (bytes : List ℕ) (cause other : Cause) → IsOwnFault tables answer bytes cause → IsOwnFault tables answer bytes other → (cause ≡ other)
  own_alike bytes (Malformed stop) (Malformed other) fault also = ap Malformed (first_alike tables free bytes stop other fault.3 also.3)
  own_alike bytes (Malformed stop) NoFile fault also = absurd also
  own_alike bytes (Malformed stop) ChainLength fault also = absurd also
  own_alike bytes (Malformed stop) OverBudget fault also = absurd also
  own_alike bytes NoFile other fault also = absurd fault
  own_alike bytes ChainLength other fault also = absurd fault
  own_alike bytes OverBudget other fault also = absurd fault

  missing_alike : (room : ℕ) (name : List ℕ) (cause other : Cause) → IsMissing tables answer room name cause → IsMissing tables answer room name other → (cause ≡ other)
  missing_alike room name NoFile NoFile missing also = refl
  missing_alike room name ChainLength ChainLength missing also = refl
  missing_alike room name NoFile ChainLength missing also = absurd (omega (arith, missing.0, also))
  missing_alike room name ChainLength NoFile missing also = absurd (omega (arith, missing, also.0))
  missing_alike room name NoFile (Malformed stop) missing also = absurd also
  missing_alike room name NoFile OverBudget missing also = absurd also
  missing_alike room name ChainLength (Malformed stop) missing also = absurd also
  missing_alike room name ChainLength OverBudget missing also = absurd also
  missing_alike room name (Malformed stop) other missing also = absurd missing
  missing_alike room name OverBudget other missing also = absurd missing

  -- a name that is missing leads to no file
  missing_here : (room : ℕ) (name base : List ℕ) (names : List (List ℕ)) (cause other : Cause) → IsMissing tables answer room name cause → answer name (Some base) → IsFault tables answer room base names other → ⊥
  missing_here room name base names (Malformed stop) other missing said fault = missing
  missing_here room name base names NoFile other (some, none) said fault = let same : None ≡ Some base = by_name name None (Some base) none said in absurd (cc)
  missing_here room name base names ChainLength other no_room said fault = subst (λ most. IsFault tables answer most base names other) no_room fault
  missing_here room name base names OverBudget other missing said fault = missing

  ends_alike : (most : ℕ) (name : List ℕ) (names others : List (List ℕ)) (cause other : Cause)
      → ((base : List ℕ) → IsFault tables answer most base names cause → IsFault tables answer most base others other → (names ≡ others) × (cause ≡ other))
      → Ends most name names cause → Ends most name others other → (names ≡ others) × (cause ≡ other)
  ends_alike most name names others cause other deeper ends stops = elim ends [
    | inl (missing, none) ↦ elim stops [
      | inl (also, empty) ↦ (none ∙ sym empty, missing_alike most name cause other missing also)
      | inr (base, said, fault) ↦ absurd (missing_here most name base others cause other missing said fault)
    ]
    | inr (base, said, fault) ↦ elim stops [
      | inl (also, empty) ↦ absurd (missing_here most name base names other cause also said fault)
      | inr (under, answered, found) ↦ deeper base fault (subst (λ b. IsFault tables answer most b others other) (same_bytes name under base answered said) found)
    ]
  ]

  pub one_fault : (most : ℕ) (bytes : List ℕ) (names others : List (List ℕ)) (cause other : Cause) → IsFault tables answer most bytes names cause → IsFault tables answer most bytes others other → (names ≡ others) × (cause ≡ other)
  one_fault zero bytes names others cause other fault also = absurd fault
  one_fault (suc most) bytes [] [] cause other fault also = (refl, own_alike bytes cause other fault also)
  one_fault (suc most) bytes [] (o ∷ others) cause other fault (file, only, used, ends) = absurd (own_none bytes cause fault file only.holds)
  one_fault (suc most) bytes (n ∷ names) [] cause other (file, only, used, ends) also = absurd (own_none bytes other also file only.holds)
  one_fault (suc most) bytes (n ∷ names) (o ∷ others) cause other (file, only, used, ends) (found, alone, taken, stops) =
      let uses : found ≡ file = only.alone found alone.holds in
      let same : n ≡ o = same_name (HasLayers tables answer most) file.uses n o used (subst (λ f. IsUsedAfter (HasLayers tables answer most) f.uses o) uses taken) (ends_none most n names cause ends) (ends_none most o others other stops) in
      let (rest, cause_is) = ends_alike most n names others cause other (λ base fault also. one_fault most base names others cause other fault also) ends (subst (λ name. Ends most name others other) (sym same) stops) in
      (cc, cause_is)

  -- a fault that isn't of the budget
  fault_only : (budget : Option ℕ) (bytes : List ℕ) (names : List (List ℕ)) (cause : Cause) → cause ≢ OverBudget → LeadsToFault tables answer bytes budget names cause → IsFault tables answer 16 bytes names cause
  fault_only budget bytes names (Malformed stop) other leads = leads
  fault_only budget bytes names NoFile other leads = leads
  fault_only budget bytes names ChainLength other leads = leads
  fault_only budget bytes names OverBudget other leads = absurd (other refl)

  -- it is the first one that is read past
  pub first_past : (budget : Option ℕ) (bytes : List ℕ) (names : List (List ℕ)) (cause : Cause) → cause ≢ OverBudget → HasNoMap tables answer bytes → FitsBudget tables answer bytes budget → LeadsToFault tables answer bytes budget names cause → IsFirstPastFaults tables answer bytes budget names cause
  first_past budget bytes names cause other no_map fits leads layers faults salvages =
      let (first, more, found, begins, shows, no_budget, also) = first_map tables answer bytes budget by_name layers faults salvages no_map fits in
      let (same, one) = one_fault 16 bytes first.names names found cause (fault_only budget bytes first.names found no_budget also) (fault_only budget bytes names cause other leads) in
      (first, more, begins, same, subst (λ ns. IsRefusedFor tables answer bytes ns first.cause cause) same (subst (IsRefusedFor tables answer bytes first.names first.cause) one shows))
