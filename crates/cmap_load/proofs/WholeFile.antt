-- What a file finds and opens: its own layer and length, and what its uses do.
use Rattle.std.proofs.Common.{◌≡◌, refl, sym, ap, subst, ◌∙◌, ℕ, suc, Bool, true, false, List, [], ◌∷◌, length, Option, arith, inl, inr, sum}
use Rattle.cmap_values.specs.Files.{File}
use Rattle.cmap_values.specs.Only.{IsOnly, HoldsOfNone}
use Rattle.cmap_load.specs.Budgets.{IsOver, Trail, Opens}
use Rattle.cmap_load.specs.BytesSpent.{About, Leaves, Spends, Resolves, Refuses, GoesOver, GoesOverAt, of_file, of_use, of_uses}
use Rattle.cmap_layers.specs.Layers.{Layer, layer_of}
use Rattle.cmap_load.proofs.BudgetLeft.{sum-append, IsOver-more, IsOver-none, Leaves-one, Leaves-append, Leaves-over_append, PassesAt-after}

module _ (means : List ℕ → File → Type 0) (answer : List ℕ → Option (List ℕ) → Type 0) (most : ℕ) (bytes : List ℕ) (budget : Option ℕ) where
  -- the file passes the budget by itself
  pub GoesOver-here : IsOver budget (length bytes) → GoesOver (of_file means answer (suc most)) bytes budget
  GoesOver-here over =
      let more : (rest : List ℕ) → IsOver budget (sum (length bytes ∷ rest)) = λ rest. IsOver-more budget (length bytes) (sum (length bytes ∷ rest)) (omega (arith, sum-append (length bytes ∷ []) rest)) over in
      λ trail o. elim o [
        | inl x ↦ subst (λ (t : Trail). IsOver budget (sum t.0)) (sym x.1) (more [])
        | inr y ↦ subst (λ (t : Trail). IsOver budget (sum t.0)) (sym y.4) (more y.1.0)
      ]

  pub GoesOverAt-here : IsOver budget (length bytes) → GoesOverAt (of_file means answer (suc most)) bytes budget []
  GoesOverAt-here over = record {
    before = [];
    last = length bytes;
    opened = inl (refl, refl);
    within = IsOver-none budget;
    over = IsOver-more budget (length bytes) (sum (length bytes ∷ [])) (omega arith) over;
  }

  pub Refuses-no_file : (left : Option ℕ) → HoldsOfNone (means bytes) → Leaves budget (length bytes) left → Refuses (of_file means answer (suc most)) bytes budget left
  Refuses-no_file left none leaves = record {
    none = λ layers h. none h.0 h.2;
    spent = record {
      lengths = length bytes ∷ [];
      opened = record { holds = inl (none, refl); alone = λ other o. elim o [ inl x ↦ x.1 | inr y ↦ absurd (none y.0 y.2) ] };
      leaves = Leaves-one budget left (length bytes) leaves;
    };
  }

  module _ (file : File) (rest : Option ℕ) (only : IsOnly (means bytes) file) (spent : Leaves budget (length bytes) rest) where
    abbrev under : About (List (List ℕ))
    under = of_uses (of_use means answer most)

    leaves : Leaves budget (sum (length bytes ∷ [])) rest
    leaves = Leaves-one budget rest (length bytes) spent

    after_file : (trail : Trail) → Opens means answer (suc most) bytes trail → (more : Trail) × under.opens file.uses more × (trail ≡ (length bytes ∷ more.0, more.1))
    after_file trail o = elim o [
      | inl x ↦ absurd (x.0 file only.holds)
      | inr y ↦ (y.1, subst (λ (f : File). under.opens f.uses y.1) (only.alone y.0 y.2) y.3, y.4)
    ]

    Spends-file : (broken : Bool) (left : Option ℕ) → Spends under file.uses broken rest left → Spends (of_file means answer (suc most)) bytes broken budget left
    Spends-file broken left s = record {
      lengths = length bytes ∷ s.lengths;
      opened = record {
        holds = inr (file, (s.lengths, broken), only.holds, s.opened.holds, refl);
        alone = λ other o. let more = after_file other o in more.2 ∙ ap (λ (t : Trail). (length bytes ∷ t.0, t.1)) (s.opened.alone more.0 more.1);
      };
      leaves = Leaves-append budget rest left (length bytes ∷ []) s.lengths leaves s.leaves;
    }

    pub Resolves-file : (base : List Layer) (left : Option ℕ) → Resolves under file.uses base rest left → Resolves (of_file means answer (suc most)) bytes (layer_of file ∷ base) budget left
    Resolves-file base left found = record {
      only = record {
        holds = (file, base, only.holds, found.only.holds, refl);
        alone = λ other h.
            let same : h.0 ≡ file = only.alone h.0 h.2 in
            let is_base : h.1 ≡ base = found.only.alone h.1 (subst (λ (f : File). under.layers f.uses h.1) same h.3) in
            h.4 ∙ ap (λ (f : File). layer_of f ∷ h.1) same ∙ ap (λ b. layer_of file ∷ b) is_base;
      };
      spent = Spends-file false left found.spent;
    }

    pub Refuses-file : (left : Option ℕ) → Refuses under file.uses rest left → Refuses (of_file means answer (suc most)) bytes budget left
    Refuses-file left refused = record {
      none = λ layers h. refused.none h.1 (subst (λ (f : File). under.layers f.uses h.1) (only.alone h.0 h.2) h.3);
      spent = Spends-file true left refused.spent;
    }

    pub GoesOver-file : GoesOver under file.uses rest → GoesOver (of_file means answer (suc most)) bytes budget
    GoesOver-file past =
        λ trail o.
        let whole = after_file trail o in
        subst (λ (t : Trail). IsOver budget (sum t.0)) (sym whole.2) (Leaves-over_append budget rest (length bytes ∷ []) whole.0.0 leaves (past whole.0 whole.1))

    pub GoesOverAt-file : (names : List (List ℕ)) → GoesOverAt under file.uses rest names → GoesOverAt (of_file means answer (suc most)) bytes budget names
    GoesOverAt-file names past = PassesAt-after (length bytes ∷ []) names names leaves (λ lengths o. inr (file, lengths, only.holds, o, refl)) past
