-- What the faults say of a file and of those that it uses: without one it has the layers that are found; else the first is why it has none.
use Rattle.std.proofs.Common.{◌≡◌, ℕ, zero, suc, refl, sym, ap, ◌∙◌, subst, false, List, [], ◌∷◌, ◌++◌, length, inl, inr, arith, append-nil, append_assoc}
use Rattle.std.specs.Prelude.{map, Option, Some, None}
use Rattle.std.specs.List.{All, last_or}
use Rattle.std.proofs.lemmas.List.Elements.{All-append, All-cons, All-nil}
use Rattle.cmap_values.specs.Files.{File}
use Rattle.cmap_values.specs.Only.{IsOnly, HoldsOfNone}
use Rattle.cmap_values.specs.declared.fault.Stop.{Stop}
use Rattle.cmap_binary.specs.Bundles.{PrefixTables}
use Rattle.cmap_layers.specs.Layers.{Layer, layer_of}
use Rattle.cmap_load.specs.Answers.{IsByName}
use Rattle.cmap_load.specs.BytesSpent.{About, Leaves, Resolves, GoesOverAt, of_file, of_use, of_uses}
use Rattle.cmap_load.specs.Layers.{Means}
use Rattle.cmap_load.specs.Refusals.{Fails, HasLayers, IsFaultWithin, IsUseFaultWithin, IsUsedAfter}
use Rattle.cmap_load.specs.Salvage.{Found, IsLedTo, IsReadWithin, IsRefusedFor, NamedFault, Opening, Reading, Salvages, SalvagesEach, SalvagesBytes, SalvagesNamed, SalvagesUse}
use Rattle.cmap_load.specs.declared.refusal.Cause.{Cause}
use Rattle.cmap_load.specs.declared.refusal.Cause.TheVariants.{Malformed, NoFile, ChainLength, OverBudget}
use Rattle.cmap_load.proofs.Blamed.{fails_as, leads_file, leads_use}
use Rattle.cmap_load.proofs.BudgetLeft.{Leaves-none}
use Rattle.cmap_load.proofs.BytesPastFaults as bytes_past
use Rattle.cmap_load.proofs.OneUse.{Resolves-answered, Refuses-answered, Refuses-unanswered, GoesOver-answered, GoesOverAt-answered}
use Rattle.cmap_load.proofs.UsesInOrder.{AreUsed, AreUsed-none, AreUsed-more, IsUsedAfter-used, Resolves-used, Refuses-used, GoesOver-used, GoesOverAt-used}
use Rattle.cmap_load.proofs.WholeFile.{GoesOver-here, GoesOverAt-here, Refuses-no_file, Resolves-file, Refuses-file, GoesOver-file, GoesOverAt-file}

-- the last of some names with another one after them
last_of : (names : List (List ℕ)) (name : List ℕ) (o : Option (List ℕ)) → last_or o (names ++ name ∷ []) ≡ Some name
last_of [] name o = refl
last_of (first ∷ names) name o = last_of names name (Some first)

-- the first fault refuses the key, which is shown by its cause, and its names lead there after these
pub record Refuted {Key : Type 0} (shown : List (List ℕ) → Cause → Cause → Type 0) (about : About Key) (key : Key) (leads : List (List ℕ) → Cause → Type 0) (names : List (List ℕ)) (budget : Option ℕ) (fault : NamedFault) : Type 0 where
  pub left : Option ℕ
  pub fails : Fails about key budget left fault.cause
  pub below : List (List ℕ)
  pub named : fault.names ≡ names ++ below
  pub cause : Cause
  pub shows : shown fault.names fault.cause cause
  pub leads_on : leads below cause

abbrev pub HasNone : Reading → Type 0
HasNone reading = reading.causes ≡ []

-- the first fault of what is opened
pub record HasFirst (readings : List Reading) (fault : NamedFault) : Type 0 where
  pub before : List Reading
  pub more : List Reading
  pub causes : List Cause
  pub split : readings ≡ before ++ record { names = fault.names; causes = fault.cause ∷ causes } ∷ more
  pub none : All HasNone before

-- the same after others that have none, and before others
begins_after : (first : List Reading) {readings : List Reading} {fault : NamedFault} → All HasNone first → HasFirst readings fault → HasFirst (first ++ readings) fault
begins_after first {readings} {fault} none begins =
    let here : Reading = record { names = fault.names; causes = fault.cause ∷ begins.causes } in
    record {
      before = first ++ begins.before;
      more = begins.more;
      causes = begins.causes;
      split = ap (λ r. first ++ r) begins.split ∙ sym (append_assoc first begins.before (here ∷ begins.more));
      none = All-append HasNone first begins.before none begins.none;
    }

begins_before : (last : List Reading) {readings : List Reading} {fault : NamedFault} → HasFirst readings fault → HasFirst (readings ++ last) fault
begins_before last {readings} {fault} begins =
    let here : Reading = record { names = fault.names; causes = fault.cause ∷ begins.causes } in
    record {
      before = begins.before;
      more = begins.more ++ last;
      causes = begins.causes;
      split = ap (λ r. r ++ last) begins.split ∙ append_assoc begins.before (here ∷ begins.more) last;
      none = begins.none;
    }

begins_as : {readings others : List Reading} {fault : NamedFault} → others ≡ readings → HasFirst readings fault → HasFirst others fault
begins_as {readings} {others} {fault} is begins = subst (λ r. HasFirst r fault) (sym is) begins

none_as : {readings others : List Reading} → others ≡ readings → All HasNone readings → All HasNone others
none_as is none = subst (All HasNone) (sym is) none

begins_here : (names : List (List ℕ)) (cause : Cause) (causes : List Cause) (more : List Reading) → HasFirst (record { names = names; causes = cause ∷ causes } ∷ more) (record { names = names; cause = cause })
begins_here names cause causes more = record { before = []; more = more; causes = causes; split = refl; none = All-nil HasNone }

-- what is found without a fault, or else what the first one says
pub data Ends {Key : Type 0} (shown : List (List ℕ) → Cause → Cause → Type 0) (about : About Key) (key : Key) (leads : List (List ℕ) → Cause → Type 0) (names : List (List ℕ)) (budget : Option ℕ) (found : Found) : Type 0 where
  right : All HasNone found.readings → Resolves about key found.layers budget found.after.left → found.after.closed ≡ false → Ends shown about key leads names budget found
  wrong : (fault : NamedFault) → HasFirst found.readings fault → Refuted shown about key leads names budget fault → Ends shown about key leads names budget found

module _ (tables : Option PrefixTables) (answer : List ℕ → Option (List ℕ) → Type 0) (top : List ℕ) where
  abbrev shown : List (List ℕ) → Cause → Cause → Type 0
  shown = IsRefusedFor tables answer top

  -- the names lead to these bytes
  abbrev Leads : List (List ℕ) → List ℕ → Type 0
  Leads names bytes = IsLedTo tables answer top (last_or None names) bytes

  abbrev leads_in : ℕ → List ℕ → Option ℕ → List (List ℕ) → Cause → Type 0
  leads_in most bytes budget names cause = IsFaultWithin tables answer budget most bytes names cause

  abbrev leads_from : ℕ → List ℕ → Option ℕ → List (List ℕ) → Cause → Type 0
  leads_from room name budget names cause = IsUseFaultWithin tables answer budget room name names cause

  abbrev file_about : ℕ → About (List ℕ)
  file_about most = of_file (Means tables) answer most

  abbrev use_about : ℕ → About (List ℕ)
  use_about room = of_use (Means tables) answer room

  -- ---- a file by itself
  pub data ReadEnds (most : ℕ) (bytes : List ℕ) (names : List (List ℕ)) (budget : Option ℕ) (file : File) (causes : List Cause) (rest : Option ℕ) : Type 0 where
    whole : causes ≡ [] → IsOnly (Means tables bytes) file → Leaves budget (length bytes) rest → ReadEnds most bytes names budget file causes rest
    faulty : (cause : Cause) (more : List Cause) → causes ≡ cause ∷ more → Refuted shown (file_about (suc most)) bytes (leads_in (suc most) bytes budget) names budget (record { names = names; cause = cause }) → ReadEnds most bytes names budget file causes rest

  past_ends : (most : ℕ) (bytes : List ℕ) (names : List (List ℕ)) → Leads names bytes → (budget : Option ℕ) (file : File) (stops : List Stop) (rest : Option ℕ) → Leaves budget (length bytes) rest → HoldsOfNone (Means tables bytes) → (stops_are : List Stop) → stops ≡ stops_are
      → SalvagesBytes tables bytes file stops_are → ReadEnds most bytes names budget file (map Malformed stops_are) rest
  past_ends most bytes names led budget file stops rest leaves none [] is salvages = absurd (none file (bytes_past.no_fault bytes file tables salvages))
  past_ends most bytes names led budget file stops rest leaves none (fault ∷ more) is salvages =
      let (stop, shows, within, decided, first) = bytes_past.first_fault bytes file tables fault more none salvages in
      faulty (Malformed fault) (map Malformed more) refl (record {
        left = rest;
        fails = Refuses-no_file (Means tables) answer most bytes budget rest none leaves;
        below = [];
        named = sym (append-nil names);
        cause = Malformed stop;
        shows = (bytes, fault, led, refl, shows);
        leads_on = (none, within, decided, first);
      })

  read_ends : (most : ℕ) (bytes : List ℕ) (names : List (List ℕ)) → Leads names bytes → (budget : Option ℕ) (file : File) (causes : List Cause) (rest : Option ℕ) → IsReadWithin tables budget bytes file causes rest → ReadEnds most bytes names budget file causes rest
  read_ends most bytes names led budget file causes rest reads = elim reads [
    | inl (over, nothing, causes_are, same) ↦ faulty OverBudget [] causes_are (record {
      left = rest;
      fails = GoesOver-here (Means tables) answer most bytes budget over;
      below = [];
      named = sym (append-nil names);
      cause = OverBudget;
      shows = refl;
      leads_on = GoesOverAt-here (Means tables) answer most bytes budget over;
    })
    | inr (stops, leaves, past, causes_are) ↦ elim past [
      | inl (only, none) ↦ whole (causes_are ∙ ap (λ s. map Malformed s) none) only leaves
      | inr (none, salvages) ↦ subst (λ c. ReadEnds most bytes names budget file c rest) (sym causes_are) (past_ends most bytes names led budget file stops rest leaves none stops refl salvages)
    ]
  ]

  -- ---- uses, one after another
  module _ (room : ℕ) (names : List (List ℕ)) where
    -- a use among them is refuted, and what it passes they pass
    pub record UseRefuted (uses : List (List ℕ)) (budget : Option ℕ) (fault : NamedFault) : Type 0 where
      pub name : List ℕ
      pub used : IsUsedAfter (HasLayers tables answer room) uses name
      pub before : Option ℕ
      pub left : Option ℕ
      pub fails : Fails (of_uses (use_about room)) uses budget left fault.cause
      pub below : List (List ℕ)
      pub named : fault.names ≡ names ++ below
      pub cause : Cause
      pub shows : shown fault.names fault.cause cause
      pub leads_on : leads_from room name before below cause
      pub passes : (leading : List (List ℕ)) → GoesOverAt (use_about room) name before leading → GoesOverAt (of_uses (use_about room)) uses budget leading

    pub data UsesEnd (uses : List (List ℕ)) (budget : Option ℕ) (found : Found) : Type 0 where
      all_right : All HasNone found.readings → Resolves (of_uses (use_about room)) uses found.layers budget found.after.left → found.after.closed ≡ false → UsesEnd uses budget found
      one_wrong : (fault : NamedFault) → HasFirst found.readings fault → UseRefuted uses budget fault → UsesEnd uses budget found

    abbrev EachEnds : (List ℕ → List Layer → Opening → Found → Type 0) → Type 0
    EachEnds salvages = (name : List ℕ) (base : List Layer) (opening : Opening) (found : Found) → opening.closed ≡ false → salvages name base opening found → Ends shown (use_about room) name (leads_from room name opening.left) names opening.left found

    module _ (salvages : List ℕ → List Layer → Opening → Found → Type 0) (each : EachEnds salvages) (uses : List (List ℕ)) (budget : Option ℕ) where
      uses_end : (rest : List (List ℕ)) (base : List Layer) (opening : Opening) (found : Found) → opening.closed ≡ false → AreUsed (use_about room) uses rest base budget opening.left
          → SalvagesEach salvages rest base opening found → UsesEnd uses budget found
      uses_end [] base opening found is_open used is =
          all_right (none_as (ap (λ f. f.readings) is) (All-nil HasNone)) (subst (λ f. Resolves (of_uses (use_about room)) uses f.layers budget f.after.left) (sym is) (Resolves-used used)) (ap (λ f. f.after.closed) is ∙ is_open)
      uses_end (name ∷ rest) base opening found is_open used (first, last, finds, others, is) =
          by (λ still_open resolves. uses_end rest first.layers first.after last still_open (AreUsed-more used resolves) others) (each name base opening first is_open finds)
        where
          after : All HasNone first.readings → UsesEnd uses budget last → UsesEnd uses budget found
          after none (all_right no_more resolved at_end) =
              all_right (none_as (ap (λ f. f.readings) is) (All-append HasNone first.readings last.readings none no_more)) (subst (λ f. Resolves (of_uses (use_about room)) uses f.layers budget f.after.left) (sym is) resolved) (ap (λ f. f.after.closed) is ∙ at_end)
          after none (one_wrong fault begins refuted) = one_wrong fault (begins_as (ap (λ f. f.readings) is) (begins_after first.readings none begins)) refuted

          by : (first.after.closed ≡ false → Resolves (use_about room) name first.layers opening.left first.after.left → UsesEnd uses budget last)
              → Ends shown (use_about room) name (leads_from room name opening.left) names opening.left first → UsesEnd uses budget found
          by later (right none resolves still_open) = after none (later still_open resolves)
          by later (wrong fault begins refuted) = one_wrong fault (begins_as (ap (λ f. f.readings) is) (begins_before last.readings begins)) (record {
            name = name;
            used = IsUsedAfter-used used;
            before = opening.left;
            left = refuted.left;
            fails = fails_as (Refuses-used used) (GoesOver-used used) fault.cause refuted.fails;
            below = refuted.below;
            named = refuted.named;
            cause = refuted.cause;
            shows = refuted.shows;
            leads_on = refuted.leads_on;
            passes = GoesOverAt-used used;
          })

  -- ---- a file over those that it uses
  module _ (by_name : IsByName answer) where
    module _ (most : ℕ) (names : List (List ℕ)) (bytes : List ℕ) (opening : Opening) (is_open : opening.closed ≡ false) (salvages : List ℕ → List Layer → Opening → Found → Type 0) (each : EachEnds most names salvages) where
      -- what its uses end in
      over_uses : (file : File) (rest : Option ℕ) (below found : Found) → IsOnly (Means tables bytes) file → Leaves opening.left (length bytes) rest → UsesEnd most names file.uses rest below
          → found ≡ record { layers = layer_of file ∷ below.layers; readings = record { names = names; causes = [] } ∷ below.readings; after = below.after } → Ends shown (file_about (suc most)) bytes (leads_in (suc most) bytes opening.left) names opening.left found
      over_uses file rest below found only leaves (all_right none resolves still_open) is =
          right (none_as (ap (λ f. f.readings) is) (All-cons HasNone (record { names = names; causes = [] }) below.readings refl none)) (subst (λ f. Resolves (file_about (suc most)) bytes f.layers opening.left f.after.left) (sym is) (Resolves-file (Means tables) answer most bytes opening.left file rest only leaves below.layers below.after.left resolves)) (ap (λ f. f.after.closed) is ∙ still_open)
      over_uses file rest below found only leaves (one_wrong fault begins refuted) is = wrong fault (begins_as (ap (λ f. f.readings) is) (begins_after (record { names = names; causes = [] } ∷ []) (All-cons HasNone (record { names = names; causes = [] }) [] refl (All-nil HasNone)) begins)) (record {
        left = refuted.left;
        fails = fails_as (Refuses-file (Means tables) answer most bytes opening.left file rest only leaves refuted.left) (GoesOver-file (Means tables) answer most bytes opening.left file rest only leaves) fault.cause refuted.fails;
        below = refuted.below;
        named = refuted.named;
        cause = refuted.cause;
        shows = refuted.shows;
        leads_on = leads_file tables answer opening.left refuted.before most bytes file refuted.name only refuted.used
            (λ leading over. GoesOverAt-file (Means tables) answer most bytes opening.left file rest only leaves leading (refuted.passes leading over)) refuted.cause refuted.below refuted.leads_on;
      })

      file_ends : (file : File) (causes : List Cause) (rest : Option ℕ) (below found : Found) → ReadEnds most bytes names opening.left file causes rest
          → SalvagesEach salvages file.uses [] (record { left = rest; closed = opening.closed }) below
          → found ≡ record { layers = layer_of file ∷ below.layers; readings = record { names = names; causes = causes } ∷ below.readings; after = below.after } → Ends shown (file_about (suc most)) bytes (leads_in (suc most) bytes opening.left) names opening.left found
      file_ends file causes rest below found (whole none only leaves) uses is =
          let ends = uses_end most names salvages each file.uses rest file.uses [] (record { left = rest; closed = opening.closed }) below is_open (AreUsed-none file.uses rest) uses in
          over_uses file rest below found only leaves ends (is ∙ rw none refl)
      file_ends file causes rest below found (faulty cause more begins refuted) uses is =
          wrong (record { names = names; cause = cause }) (begins_as (ap (λ f. f.readings) is ∙ rw begins refl) (begins_here names cause more below.readings)) refuted

    module _ (names : List (List ℕ)) (name : List ℕ) (opening : Opening) where
      module _ (salvages : List (List ℕ) → List ℕ → Opening → Found → Type 0) where
        -- the file of a name
        named_ends : (room : ℕ) (found : Found) → ((bytes : List ℕ) → answer name (Some bytes) → salvages (names ++ name ∷ []) bytes opening found → Ends shown (file_about room) bytes (leads_in room bytes opening.left) (names ++ name ∷ []) opening.left found)
            → SalvagesNamed answer salvages room (names ++ name ∷ []) name opening found → Ends shown (use_about room) name (leads_from room name opening.left) names opening.left found
        named_ends zero found file is = wrong (record { names = names ++ name ∷ []; cause = ChainLength }) (begins_as (ap (λ f. f.readings) is) (begins_here (names ++ name ∷ []) ChainLength [] [])) (record {
          left = opening.left;
          fails = record { none = λ layers h. h.2; spent = record { lengths = []; opened = record { holds = refl; alone = λ other o. o }; leaves = Leaves-none opening.left } };
          below = name ∷ [];
          named = refl;
          cause = ChainLength;
          shows = refl;
          leads_on = (refl, inl (refl, refl));
        })
        named_ends (suc room) found file finds = elim finds [
          | inl (said, is) ↦ wrong (record { names = names ++ name ∷ []; cause = NoFile }) (begins_as (ap (λ f. f.readings) is) (begins_here (names ++ name ∷ []) NoFile [] [])) (record {
            left = opening.left;
            fails = Refuses-unanswered (Means tables) answer by_name name opening.left (suc room) room refl said;
            below = name ∷ [];
            named = refl;
            cause = NoFile;
            shows = refl;
            leads_on = (refl, inl ((omega arith, said), refl));
          })
          | inr (bytes, said, salvaged) ↦ answered bytes said (file bytes said salvaged)
        ]
          where
            answered : (bytes : List ℕ) → answer name (Some bytes) → Ends shown (file_about (suc room)) bytes (leads_in (suc room) bytes opening.left) (names ++ name ∷ []) opening.left found → Ends shown (use_about (suc room)) name (leads_from (suc room) name opening.left) names opening.left found
            answered bytes said (right none resolves still_open) = right none (Resolves-answered (Means tables) answer by_name name opening.left (suc room) room refl bytes said found.layers found.after.left resolves) still_open
            answered bytes said (wrong fault begins refuted) = wrong fault begins (record {
              left = refuted.left;
              fails = fails_as (Refuses-answered (Means tables) answer by_name name opening.left (suc room) room refl bytes said refuted.left) (GoesOver-answered (Means tables) answer by_name name opening.left (suc room) room refl bytes said) fault.cause refuted.fails;
              below = name ∷ refuted.below;
              named = refuted.named ∙ append_assoc names (name ∷ []) refuted.below;
              cause = refuted.cause;
              shows = refuted.shows;
              leads_on = leads_use tables answer opening.left (suc room) room name bytes refl said (GoesOverAt-answered (Means tables) answer by_name name opening.left (suc room) room refl bytes said) refuted.cause refuted.below refuted.leads_on;
            })

    -- what is found of a file
    pub salvages_end : (most : ℕ) (names : List (List ℕ)) (bytes : List ℕ) → Leads names bytes → (opening : Opening) (found : Found) → opening.closed ≡ false → Salvages tables answer most names bytes opening found → Ends shown (file_about most) bytes (leads_in most bytes opening.left) names opening.left found
    salvages_end zero names bytes led opening found is_open salvages = absurd salvages
    salvages_end (suc most) names bytes led opening found is_open (file, causes, rest, below, reads, uses, is) =
        let each : EachEnds most names (SalvagesUse answer (Salvages tables answer most) most names) = λ name under now one still_open finds. elim finds [
          | inl (closed, none) ↦ absurd (cc)
          | inr (opens, named) ↦ named_ends names name now (Salvages tables answer most) most one (λ base said salvaged. salvages_end most (names ++ name ∷ []) base (subst (λ o. IsLedTo tables answer top o base) (sym (last_of names name None)) said) now one opens salvaged) named
        ] in
        file_ends most names bytes opening is_open (SalvagesUse answer (Salvages tables answer most) most names) each file causes rest below found (read_ends most bytes names led opening.left file causes rest reads) uses is
