-- What one use finds and opens is what the file does that answers its name.
use Rattle.std.proofs.Common.{◌≡◌, ◌-◌, arith, refl, subst, ℕ, suc, Bool, true, false, List, [], ◌∷◌, Option, Some, None, inl, inr}
use Rattle.cmap_values.specs.Files.{File}
use Rattle.cmap_load.specs.Answers.{IsByName}
use Rattle.cmap_load.specs.Budgets.{Trail, Opens, OpensUse}
use Rattle.cmap_load.specs.BytesSpent.{Spends, Resolves, Refuses, GoesOver, GoesOverAt, of_file, of_use}
use Rattle.cmap_layers.specs.Layers.{Layer}
use Rattle.cmap_load.specs.Layers.{AreLayers, OfAnswer}
use Rattle.cmap_load.proofs.BudgetLeft.{Leaves-none}

-- room for one file more
pub room_left : (below : ℕ) → (below ≡ 0 → ⊥) → suc (below - 1) ≡ below
room_left below some = omega (arith, some)

module _ (means : List ℕ → File → Type 0) (answer : List ℕ → Option (List ℕ) → Type 0) (by_name : IsByName answer) (name : List ℕ) (budget : Option ℕ) (most n : ℕ) (is : suc n ≡ most) where
  module _ (bytes : List ℕ) (said : answer name (Some bytes)) where
    of_bytes : {A : Type 0} (P : List ℕ → A → Type 0) (x : A) → OfAnswer answer P name x → P bytes x
    of_bytes P x h = let same : Some h.0 ≡ Some bytes = by_name name (Some h.0) (Some bytes) h.1 said in let e : h.0 ≡ bytes = cc in subst (λ b. P b x) e h.2

    opens_bytes : (trail : Trail) → OpensUse answer (Opens means answer (suc n)) (suc n) name trail → Opens means answer (suc n) bytes trail
    opens_bytes trail o = elim o [
      | inl x ↦ (let same : None ≡ Some bytes = by_name name None (Some bytes) x.0 said in absurd (cc))
      | inr y ↦ of_bytes (Opens means answer (suc n)) trail y
    ]

    Spends-used : (broken : Bool) (left : Option ℕ) → Spends (of_file means answer (suc n)) bytes broken budget left → Spends (of_use means answer (suc n)) name broken budget left
    Spends-used broken left s = record {
      lengths = s.lengths;
      opened = record { holds = inr (bytes, said, s.opened.holds); alone = λ other o. s.opened.alone other (opens_bytes other o) };
      leaves = s.leaves;
    }

    pub Resolves-answered : (layers : List Layer) (left : Option ℕ) → Resolves (of_file means answer (suc n)) bytes layers budget left → Resolves (of_use means answer most) name layers budget left
    Resolves-answered layers left found = subst (λ m. Resolves (of_use means answer m) name layers budget left) is (record {
      only = record { holds = (bytes, said, found.only.holds); alone = λ other h. found.only.alone other (of_bytes (AreLayers means answer (suc n)) other h) };
      spent = Spends-used false left found.spent;
    })

    pub Refuses-answered : (left : Option ℕ) → Refuses (of_file means answer (suc n)) bytes budget left → Refuses (of_use means answer most) name budget left
    Refuses-answered left refused = subst (λ m. Refuses (of_use means answer m) name budget left) is (record {
      none = λ layers h. refused.none layers (of_bytes (AreLayers means answer (suc n)) layers h);
      spent = Spends-used true left refused.spent;
    })

    pub GoesOver-answered : GoesOver (of_file means answer (suc n)) bytes budget → GoesOver (of_use means answer most) name budget
    GoesOver-answered past = subst (λ m. GoesOver (of_use means answer m) name budget) is (λ trail o. past trail (opens_bytes trail o))

    pub GoesOverAt-answered : (names : List (List ℕ)) → GoesOverAt (of_file means answer (suc n)) bytes budget names → GoesOverAt (of_use means answer most) name budget (name ∷ names)
    GoesOverAt-answered names past = subst (λ m. GoesOverAt (of_use means answer m) name budget (name ∷ names)) is (record {
      before = past.before;
      last = past.last;
      opened = (names, refl, (bytes, said, past.opened));
      within = past.within;
      over = past.over;
    })

  pub Refuses-unanswered : answer name None → Refuses (of_use means answer most) name budget budget
  Refuses-unanswered said = subst (λ m. Refuses (of_use means answer m) name budget budget) is (record {
    none = λ x h. (let same : None ≡ Some h.0 = by_name name None (Some h.0) said h.1 in absurd (cc));
    spent = record {
      lengths = [];
      opened = record {
        holds = inl (said, refl);
        alone = λ other o. elim o [ inl x ↦ x.1 | inr y ↦ (let same : None ≡ Some y.0 = by_name name None (Some y.0) said y.1 in absurd (cc)) ];
      };
      leaves = Leaves-none budget;
    };
  })
