-- Names that lead from the first file down to another one.
use Rattle.std.proofs.Common.{◌≡◌, refl, sym, ap, subst, ◌∙◌, arith, ℕ, zero, suc, ◌-◌, ◌<◌, true, false, List, [], ◌∷◌, ◌++◌, append_assoc, append-nil, length, sum, Option, Some, None, inl, inr}
use Rattle.std.specs.List.{Contains}
use Rattle.std.specs.Borrow.{Bor}
use Rattle.std.proofs.lemmas.List.{map-append}
use Rattle.std.proofs.lemmas.List.Elements.{Contains-append_right}
use Rattle.cmap_values.specs.NamesSeen.{names_seen}
use Rattle.cmap_binary.specs.Bundles.{PrefixTables}
use Rattle.cmap_load.specs.Budgets.{IsOver, OpensEach, OpensEachFirst, OpensUse, OpensUseFirst, PassesAt, Trail}
use Rattle.cmap_load.specs.BytesSpent.{Leaves}
use Rattle.cmap_load.specs.Refusals.{HasLayers, IsFault, IsMissing, IsOwnFault, IsUsedAfter}
use Rattle.cmap_load.specs.declared.refusal.Cause.{Cause}
use Rattle.cmap_load.specs.declared.refusal.Cause.TheVariants.{Malformed, NoFile, ChainLength, OverBudget}
use Rattle.cmap_load.proofs.BudgetLeft.{IsOver-more, IsOver-none, Leaves-append, Leaves-none, Leaves-within, PassesAt-after, not_over, sum-append}
use Rattle.cmap_values.specs.declared.fault.Stop.{Stop}
use Rattle.cmap_load.specs.Loading.{Answer, FailsToOpen, IsAnswered, IsFaulty, IsRefusal, IsWanted, Leads, LeadsToAnswer, OpensOnly, OpensOnlyFirst, Uses, bytes_at, first_answer}
use Rattle.cmap_load.proofs.Agreed.{all_have}
use Rattle.cmap_load.proofs.Trails.{each_after, each_first_after}

pub names_pushed : (items pushed : List (Bor (List ℕ))) (name : Bor (List ℕ)) → pushed ≡ items ++ name ∷ [] → names_seen pushed ≡ names_seen items ++ name.now ∷ []
names_pushed items pushed name is = ap names_seen is ∙ map-append (λ (x : Bor (List ℕ)). x.now) items (name ∷ [])

use_answered : (answer : List ℕ → Option (List ℕ) → Type 0) (R : List ℕ → Trail → Type 0) (room : ℕ) (name base : List ℕ) (trail : Trail) → 0 < room → answer name (Some base) → R base trail → OpensUse answer R room name trail
use_answered answer R zero name base trail some said h = absurd (omega (arith, some))
use_answered answer R (suc room) name base trail some said h = inr (base, said, h)

use_first_answered : (answer : List ℕ → Option (List ℕ) → Type 0) (F : List ℕ → List (List ℕ) → List ℕ → Type 0) (room : ℕ) (name base : List ℕ) (more : List (List ℕ)) (lengths : List ℕ) → 0 < room → answer name (Some base) → F base more lengths → OpensUseFirst answer F room name (name ∷ more) lengths
use_first_answered answer F zero name base more lengths some said h = absurd (omega (arith, some))
use_first_answered answer F (suc room) name base more lengths some said h = (more, refl, (base, said, h))

-- a use that opens nothing
use_missing : (answer : List ℕ → Option (List ℕ) → Type 0) (R : List ℕ → Trail → Type 0) (room : ℕ) (name : List ℕ) → answer name None → OpensUse answer R room name ([], true)
use_missing answer R zero name said = refl
use_missing answer R (suc room) name said = inl (said, refl)

use_no_room : (answer : List ℕ → Option (List ℕ) → Type 0) (R : List ℕ → Trail → Type 0) (room : ℕ) (name : List ℕ) → room ≡ 0 → OpensUse answer R room name ([], true)
use_no_room answer R zero name none = refl
use_no_room answer R (suc room) name none = absurd (omega (arith, none))

one_length : (count : ℕ) → sum (count ∷ []) ≡ count
one_length count = omega arith

module _ (tables : Option PrefixTables) (answers : List Answer) (budget : Option ℕ) (first : List ℕ) where
  pub leads_first : Leads tables answers budget first 16 [] budget first
  leads_first = record {
    some = omega arith;
    few = omega arith;
    lengths = [];
    leaves = Leaves-none budget;
    fault = λ more cause f. f;
    broken = λ rest o. o;
    opened = λ more rest o. o;
  }

  module _ (most : ℕ) (names : List (List ℕ)) (left : Option ℕ) (bytes : List ℕ) (leads : Leads tables answers budget first most names left bytes) where
    room : suc (most - 1) ≡ most
    room = let some = leads.some in omega (arith, some)

    -- the file is at fault
    pub faulty_here : (stop : Stop) → IsOwnFault tables (IsAnswered answers) bytes (Malformed stop) → (IsOver left (length bytes) → ⊥) → IsFaulty tables answers budget first names (Malformed stop)
    faulty_here stop fault within = record {
      fault = subst (λ l. IsFault tables (IsAnswered answers) 16 first l (Malformed stop)) (append-nil names)
          (leads.fault [] (Malformed stop) (subst (λ m. IsFault tables (IsAnswered answers) m bytes [] (Malformed stop)) room fault));
      lengths = leads.lengths ++ length bytes ∷ [];
      broken = leads.broken (length bytes ∷ []) (subst (λ m. OpensOnly tables (IsAnswered answers) m bytes (length bytes ∷ [], true)) room (inl (fault.0, refl)));
      within = λ over. Leaves-within budget left (sum leads.lengths) (sum (length bytes ∷ [])) leads.leaves (λ more. within (subst (IsOver left) (one_length (length bytes)) more)) (subst (IsOver budget) (sum-append leads.lengths (length bytes ∷ [])) over);
    }

    -- the file is the first to pass the budget
    pub over_here : IsOver left (length bytes) → PassesAt (OpensOnlyFirst tables (IsAnswered answers) 16 first) budget names
    over_here over =
        PassesAt-after {P = OpensOnlyFirst tables (IsAnswered answers) most bytes} {Q = OpensOnlyFirst tables (IsAnswered answers) 16 first} leads.lengths [] names leads.leaves
        (λ lengths o. subst (λ l. OpensOnlyFirst tables (IsAnswered answers) 16 first l (leads.lengths ++ lengths)) (append-nil names) (leads.opened [] lengths o))
        (record {
          before = [];
          last = length bytes;
          opened = subst (λ m. OpensOnlyFirst tables (IsAnswered answers) m bytes [] (length bytes ∷ [])) room (inl (refl, refl));
          within = IsOver-none left;
          over = IsOver-more left (length bytes) (sum (length bytes ∷ [])) (omega arith) over;
        })

    module _ (name opened : List ℕ) (uses : Uses tables answers (most - 1) bytes name opened) (after : Option ℕ) (leaves : Leaves left (sum (length bytes ∷ opened)) after) where
      used : IsUsedAfter (HasLayers tables (IsAnswered answers) (most - 1)) uses.file.uses name
      used = (uses.before, uses.after, uses.split, all_have tables (IsAnswered answers) (most - 1) uses.before (opened, false) refl uses.whole.opened)

      spent : Leaves budget (sum (leads.lengths ++ length bytes ∷ opened)) after
      spent = Leaves-append budget left after leads.lengths (length bytes ∷ opened) leads.leaves leaves

      abbrev R : List ℕ → Trail → Type 0
      R = OpensOnly tables (IsAnswered answers) (most - 1)

      abbrev F : List ℕ → List (List ℕ) → List ℕ → Type 0
      F = OpensOnlyFirst tables (IsAnswered answers) (most - 1)

      file_broken : (rest : List ℕ) → OpensUse (IsAnswered answers) R (most - 1) name (rest, true) → OpensOnly tables (IsAnswered answers) 16 first ((leads.lengths ++ length bytes ∷ opened) ++ rest, true)
      file_broken rest o = subst (λ l. OpensOnly tables (IsAnswered answers) 16 first (l, true)) (sym (append_assoc leads.lengths (length bytes ∷ opened) rest))
          (leads.broken ((length bytes ∷ opened) ++ rest) (subst (λ m. OpensOnly tables (IsAnswered answers) m bytes ((length bytes ∷ opened) ++ rest, true)) room
          (inr (uses.file, (opened ++ rest, true), uses.only, subst (λ u. OpensEach (OpensUse (IsAnswered answers) R (most - 1)) u (opened ++ rest, true)) (sym uses.split) (each_after (OpensUse (IsAnswered answers) R (most - 1)) uses.before (name ∷ uses.after) (opened, false) (rest, true) refl uses.whole.opened (inl (o, refl))), refl))))

      file_first : (more : List (List ℕ)) (rest : List ℕ) → OpensUseFirst (IsAnswered answers) F (most - 1) name (name ∷ more) rest → OpensOnlyFirst tables (IsAnswered answers) 16 first ((names ++ name ∷ []) ++ more) ((leads.lengths ++ length bytes ∷ opened) ++ rest)
      file_first more rest o =
          subst (λ n. OpensOnlyFirst tables (IsAnswered answers) 16 first n ((leads.lengths ++ length bytes ∷ opened) ++ rest)) (sym (append_assoc names (name ∷ []) more))
          (subst (λ l. OpensOnlyFirst tables (IsAnswered answers) 16 first (names ++ name ∷ more) l) (sym (append_assoc leads.lengths (length bytes ∷ opened) rest))
          (leads.opened (name ∷ more) ((length bytes ∷ opened) ++ rest) (subst (λ m. OpensOnlyFirst tables (IsAnswered answers) m bytes (name ∷ more) ((length bytes ∷ opened) ++ rest)) room
          (inr (
            uses.file,
            opened ++ rest,
            uses.only,
            subst (λ u. OpensEachFirst (OpensUse (IsAnswered answers) R (most - 1)) (OpensUseFirst (IsAnswered answers) F (most - 1)) u (name ∷ more) (opened ++ rest)) (sym uses.split)
                (each_first_after (OpensUse (IsAnswered answers) R (most - 1)) (OpensUseFirst (IsAnswered answers) F (most - 1)) uses.before (name ∷ uses.after) (name ∷ more) (opened, false) rest refl uses.whole.opened (inl o)),
            refl,
          )))))

      -- the use has no file
      missing : (cause : Cause) → IsMissing tables (IsAnswered answers) (most - 1) name cause → OpensUse (IsAnswered answers) R (most - 1) name ([], true) → IsFaulty tables answers budget first (names ++ name ∷ []) cause
      missing cause is_missing ends = record {
        fault = leads.fault (name ∷ []) cause (subst (λ m. IsFault tables (IsAnswered answers) m bytes (name ∷ []) cause) room (uses.file, uses.only, used, inl (is_missing, refl)));
        lengths = (leads.lengths ++ length bytes ∷ opened) ++ [];
        broken = file_broken [] ends;
        within = λ over. not_over budget after (sum (leads.lengths ++ length bytes ∷ opened)) spent (subst (λ l. IsOver budget (sum l)) (append-nil (leads.lengths ++ length bytes ∷ opened)) over);
      }

      pub no_room : most ≡ 1 → IsFaulty tables answers budget first (names ++ name ∷ []) ChainLength
      no_room one =
          let none : most - 1 ≡ 0 = omega (arith, one) in
          missing ChainLength none (use_no_room (IsAnswered answers) R (most - 1) name none)

      -- the use has an answer
      pub leads_down : (base : List ℕ) → 1 < most → IsAnswered answers name (Some base) → Leads tables answers budget first (most - 1) (names ++ name ∷ []) after base
      leads_down base more said =
          let some : 0 < most - 1 = omega (arith, more) in
          record {
            some = some;
            few = let few = leads.few in omega (arith, few);
            lengths = leads.lengths ++ length bytes ∷ opened;
            leaves = spent;
            fault = λ below cause f. subst (λ l. IsFault tables (IsAnswered answers) 16 first l cause) (sym (append_assoc names (name ∷ []) below))
                (leads.fault (name ∷ below) cause (subst (λ m. IsFault tables (IsAnswered answers) m bytes (name ∷ below) cause) room (uses.file, uses.only, used, inr (base, said, f))));
            broken = λ rest o. file_broken rest (use_answered (IsAnswered answers) R (most - 1) name base (rest, true) some said o);
            opened = λ below rest o. file_first below rest (use_first_answered (IsAnswered answers) F (most - 1) name base below rest some said o);
          }

      pub leads_to_answer : (given : Option (List ℕ)) → 1 < most → IsAnswered answers name given → LeadsToAnswer tables answers budget first (names ++ name ∷ []) after given
      leads_to_answer None more said = missing NoFile (omega (arith, more), said) (use_missing (IsAnswered answers) R (most - 1) name said)
      leads_to_answer (Some base) more said = (most - 1, leads_down base more said)

  -- an answer that isn't opened
  pub refusal : (names : List (List ℕ)) (left : Option ℕ) (given : Option (List ℕ)) (cause : Cause) → LeadsToAnswer tables answers budget first names left given → FailsToOpen tables given left cause → IsRefusal tables answers budget first names cause
  refusal names left None (Malformed stop) leads (bytes, there, fails) = absurd (cc)
  refusal names left None OverBudget leads (bytes, there, fails) = absurd (cc)
  refusal names left None NoFile leads fails = leads
  refusal names left given ChainLength leads fails = absurd fails
  refusal names left (Some base) (Malformed stop) (most, leads) (bytes, there, fails) =
      let same : bytes ≡ base = cc in
      faulty_here most names left base leads stop (subst (λ b. IsOwnFault tables (IsAnswered answers) b (Malformed stop)) same fails.0) (subst (λ b. IsOver left (length b) → ⊥) same fails.1)
  refusal names left (Some base) OverBudget (most, leads) (bytes, there, fails) =
      let same : bytes ≡ base = cc in over_here most names left base leads (subst (λ b. IsOver left (length b)) same fails)
  refusal names left (Some base) NoFile leads fails = absurd (cc)

pub wanted : (tables : Option PrefixTables) (answers : List Answer) (i room : ℕ) (bytes name lengths : List ℕ) → i < length answers → bytes_at answers i ≡ Some bytes → Uses tables answers room bytes name lengths → first_answer answers name ≡ None → IsWanted tables answers name
wanted tables answers i room bytes name lengths lt there uses none =
    ((i, lt, (bytes, there, (uses.file, uses.only, subst (λ l. Contains l name) (sym uses.split) (Contains-append_right uses.before (name ∷ uses.after) name (0, omega arith, refl))))), none)
