-- What a call says of what a handle has, which it lends.
use Rattle.std.proofs.Common.{◌≡◌, ◌∙◌, ◌⊎◌, ℕ, List, Option, Some, None, Result, Ok, Err, ap, inl, inr, refl, subst, sym}
use Rattle.std.specs.Prelude.{IfOk, IsSomeAnd, MatchOption, MatchResult, option_and_then}
use Rattle.std.specs.declared.alloc.AllocError.{AllocError}
use Rattle.std.proofs.lemmas.Option.{none-some, same_Some}
use Rattle.cmap_layers.specs.Layers.{Layer}
use Rattle.cmap_layers.specs.Lookups.{InCodespace}
use Rattle.cmap_handles.specs.Handles.{InHandle}
use Rattle.cmap_handles.specs.Statuses.{number}
use Rattle.cmap_handles.specs.declared.status.Status.TheVariants.{Done, NoMemory}
use Rattle.cmap_handles.proofs.StatusNumbers.{not_both}

-- the handle has none
pub no_map : {M : Type 0} (map : Option M) (A : Type 0) (P : M → Type 0) → None ≡ map → A → MatchOption map A P
no_map None A P same absent = absent
no_map (Some m) A P same absent = absurd (none-some m same)

pub none_found : {M X : Type 0} (find : M → Option X) (map : Option M) (A : Type 0) (P : X → Type 0) → None ≡ map → A → MatchOption (option_and_then find map) A P
none_found find None A P same absent = absent
none_found find (Some m) A P same absent = absurd (none-some m same)

-- the handle has one
pub of_map : {M : Type 0} (map : Option M) (m : M) (A : Type 0) (P : M → Type 0) → Some m ≡ map → P m → MatchOption map A P
of_map None m A P same holds = absurd (none-some m (sym same))
of_map (Some given) m A P same holds = subst P (same_Some m given same) holds

pub found_in : {M X : Type 0} (find : M → Option X) (map : Option M) (m : M) (A : Type 0) (P : X → Type 0) → Some m ≡ map → MatchOption (find m) A P → MatchOption (option_and_then find map) A P
found_in find None m A P same holds = absurd (none-some m (sym same))
found_in find (Some given) m A P same holds = subst (λ l. MatchOption (find l) A P) (same_Some m given same) holds

pub found_some : {M X : Type 0} (find : M → Option X) (map : Option M) (m : M) (P : X → Type 0) → Some m ≡ map → IsSomeAnd (find m) P → IsSomeAnd (option_and_then find map) P
found_some find None m P same holds = absurd (none-some m (sym same))
found_some find (Some given) m P same holds = subst (λ l. IsSomeAnd (find l) P) (same_Some m given same) holds

-- what is answered goes on to another call
pub answered_in : {M X : Type 0} (find : M → Option X) (map : Option M) (m : M) (answer : Option X) (A : Type 0) (P : X → Type 0) → Some m ≡ map → answer ≡ find m → MatchOption answer A P
    → MatchOption (option_and_then find map) A P
answered_in find map m answer A P same found holds = found_in find map m A P same (subst (λ o. MatchOption o A P) found holds)

-- whether the code lies in a codespace range of the map
pub in_lent : (map : Option (List Layer)) (m : List Layer) (code len : ℕ) → Some m ≡ map → InHandle map code len → InCodespace m code len
in_lent None m code len same within = absurd within
in_lent (Some given) m code len same within = subst (λ l. InCodespace l code len) (sym (same_Some m given same)) within

pub in_handle : (map : Option (List Layer)) (m : List Layer) (code len : ℕ) → Some m ≡ map → InCodespace m code len → InHandle map code len
in_handle None m code len same within = absurd (none-some m (sym same))
in_handle (Some given) m code len same within = subst (λ l. InCodespace l code len) (same_Some m given same) within

-- what is answered of what a handle may have
pub given_in : {M X : Type 0} (find : Option M → Option X) (map lent : Option M) (answer : Option X) (A : Type 0) (P : X → Type 0) → answer ≡ find lent → lent ≡ map → MatchOption answer A P → MatchOption (find map) A P
given_in find map lent answer A P found same holds = subst (λ o. MatchOption o A P) (found ∙ ap find same) holds

-- what was made is kept, or nothing where memory ran out
abbrev pub AreKept : {M : Type 0} → M → ℕ → Option M → Type 0
AreKept given status now = ((status ≡ number Done) × (now ≡ Some given)) ⊎ ((status ≡ number NoMemory) × (now ≡ None))

pub kept : {M B : Type 0} (value : B → M) (made : Result B AllocError) (given : M) (status : ℕ) (now : Option M) → IfOk made (λ b. value b ≡ given)
    → MatchResult made (λ b. (status ≡ number Done) × (now ≡ Some (value b))) (λ _. (status ≡ number NoMemory) × (now ≡ None)) → AreKept given status now
kept value (Ok b) given status now made keeps = inl (keeps.0, keeps.1 ∙ ap Some made)
kept value (Err e) given status now made keeps = inr keeps

pub kept_done : {M : Type 0} (given : M) (status : ℕ) (now : Option M) → AreKept given status now → status ≡ number Done → now ≡ Some given
kept_done given status now (inl done) is = done.1
kept_done given status now (inr memory) is = absurd (not_both NoMemory Done refl memory.0 is)

pub kept_or_none : {M : Type 0} (given : M) (status : ℕ) (now : Option M) → AreKept given status now → (status ≡ number Done) ⊎ ((status ≡ number NoMemory) × (now ≡ None))
kept_or_none given status now (inl done) = inl done.0
kept_or_none given status now (inr memory) = inr memory

-- what was shared is kept
pub shared : {M B : Type 0} (value : B → M) (map : Option M) (made : Result B AllocError) (m : M) (status : ℕ) (now : Option M) → Some m ≡ map → IfOk made (λ b. value b ≡ m)
    → MatchResult made (λ b. (status ≡ number Done) × (now ≡ Some (value b))) (λ _. (status ≡ number NoMemory) × (now ≡ None))
    → ((status ≡ number Done) × (now ≡ map)) ⊎ ((status ≡ number NoMemory) × (now ≡ None))
shared value map made m status now same made_is keeps = elim (kept value made m status now made_is keeps) [ inl done ↦ inl (done.0, done.1 ∙ same) | inr memory ↦ inr memory ]
