-- What uses find and open, one after another.
use Rattle.std.proofs.Common.{◌≡◌, refl, sym, ap, subst, ◌∙◌, ℕ, Bool, true, false, List, [], ◌∷◌, ◌++◌, Option, Some, None, arith, inl, inr, append_assoc, sum}
use Rattle.std.specs.Prelude.{unwrap_or}
use Rattle.std.specs.List.{All, AllZip, last_or}
use Rattle.std.proofs.lemmas.List.Elements.{All-nil, All-push}
use Rattle.cmap_values.specs.Only.{IsOnly, HoldsOfNone}
use Rattle.cmap_load.specs.Budgets.{IsOver, Trail}
use Rattle.cmap_load.specs.BytesSpent.{About, Leaves, Spends, Resolves, Refuses, GoesOver, GoesOverAt, of_uses}
use Rattle.cmap_load.specs.Refusals.{IsUsedAfter}
use Rattle.cmap_layers.specs.Layers.{Layer}
use Rattle.cmap_load.proofs.BudgetLeft.{sum-append, IsOver-more, Leaves-none, Leaves-append, Leaves-over_append, PassesAt-after}

-- a trail after files of these lengths
abbrev trail_after : List ℕ → Trail → Trail
trail_after lengths trail = (lengths ++ trail.0, trail.1)

-- a use of this name has layers
abbrev pub Has : About (List ℕ) → List ℕ → Type 0
Has use_of name = (layers : List Layer) × use_of.layers name layers

module _ (use_of : About (List ℕ)) where
  -- the base, where these layers came before the names
  abbrev pub IsBaseAfter : Option (List Layer) → List (List ℕ) → List Layer → Type 0
  IsBaseAfter last names base = (each : List (List Layer)) × AllZip use_of.layers names each × (base ≡ unwrap_or (last_or last each) [])

  IsBaseAfter-next : (last : Option (List Layer)) (name : List ℕ) (names : List (List ℕ)) (next base : List Layer) → IsOnly (use_of.layers name) next → IsBaseAfter last (name ∷ names) base → IsBaseAfter (Some next) names base
  IsBaseAfter-next last name names next base only ([], h, e) = absurd h
  IsBaseAfter-next last name names next base only (layers ∷ each, h, e) = (each, h.1, e ∙ ap (λ (l : List Layer). unwrap_or (last_or (Some l) each) []) (only.alone layers h.0))

  IsBaseAfter-refused : (last : Option (List Layer)) (name : List ℕ) (names : List (List ℕ)) (base : List Layer) → HoldsOfNone (use_of.layers name) → IsBaseAfter last (name ∷ names) base → ⊥
  IsBaseAfter-refused last name names base none ([], h, e) = h
  IsBaseAfter-refused last name names base none (layers ∷ each, h, e) = none layers h.0

  IsBaseAfter-end : (last : Option (List Layer)) (base : List Layer) → IsBaseAfter last [] base → base ≡ unwrap_or last []
  IsBaseAfter-end last base ([], h, e) = e
  IsBaseAfter-end last base (layers ∷ each, h, e) = absurd h

  opens-next : (name : List ℕ) (names : List (List ℕ)) (first : List ℕ) (trail : Trail) → IsOnly (use_of.opens name) (first, false) → (of_uses use_of).opens (name ∷ names) trail
      → (rest : Trail) × (of_uses use_of).opens names rest × (trail ≡ trail_after first rest)
  opens-next name names first trail only o = elim o [
    | inl x ↦ (let b : trail.1 ≡ false = ap (λ (t : Trail). t.1) (only.alone trail x.0) in let c = x.1 in absurd (cc))
    | inr y ↦ (y.1, y.3, y.4 ∙ ap (λ (t : Trail). trail_after t.0 y.1) (only.alone (y.0, false) y.2))
  ]

  -- between two uses: of all names but the rest each has layers alone, the last of them the base, and what they open is spent
  pub record AreUsed (names rest : List (List ℕ)) (base : List Layer) (budget left : Option ℕ) : Type 0 where
    pub before : List (List ℕ)
    pub split : names ≡ before ++ rest
    pub found : All (Has use_of) before
    pub last : Option (List Layer)
    pub is_base : base ≡ unwrap_or last []
    pub base_of_names : (whole : List Layer) → IsBaseAfter last rest whole → IsBaseAfter None names whole
    pub base_of_rest : (whole : List Layer) → IsBaseAfter None names whole → IsBaseAfter last rest whole
    pub lengths : List ℕ
    pub names_open : (trail : Trail) → (of_uses use_of).opens rest trail → (of_uses use_of).opens names (trail_after lengths trail)
    pub rest_opens : (trail : Trail) → (of_uses use_of).opens names trail → (more : Trail) × (of_uses use_of).opens rest more × (trail ≡ trail_after lengths more)
    pub names_open_first : (leading : List (List ℕ)) (more : List ℕ) → (of_uses use_of).opens_first rest leading more → (of_uses use_of).opens_first names leading (lengths ++ more)
    pub leaves : Leaves budget (sum lengths) left

module _ {use_of : About (List ℕ)} where
  pub AreUsed-none : (names : List (List ℕ)) (budget : Option ℕ) → AreUsed use_of names names [] budget budget
  AreUsed-none names budget = record {
    before = [];
    split = refl;
    found = All-nil (Has use_of);
    last = None;
    is_base = refl;
    base_of_names = λ whole h. h;
    base_of_rest = λ whole h. h;
    lengths = [];
    names_open = λ trail o. o;
    rest_opens = λ trail o. (trail, o, refl);
    names_open_first = λ leading more o. o;
    leaves = Leaves-none budget;
  }

  module _ {names rest : List (List ℕ)} {base : List Layer} {budget left : Option ℕ} (used : AreUsed use_of names rest base budget left) where
    Spends-rest : (broken : Bool) (after : Option ℕ) → Spends (of_uses use_of) rest broken left after → Spends (of_uses use_of) names broken budget after
    Spends-rest broken after s = record {
      lengths = used.lengths ++ s.lengths;
      opened = record {
        holds = used.names_open (s.lengths, broken) s.opened.holds;
        alone = λ other o. let more = used.rest_opens other o in more.2 ∙ ap (λ (t : Trail). trail_after used.lengths t) (s.opened.alone more.0 more.1);
      };
      leaves = Leaves-append budget left after used.lengths s.lengths used.leaves s.leaves;
    }

  -- no name is left
  pub Resolves-used : {names : List (List ℕ)} {base : List Layer} {budget left : Option ℕ} → AreUsed use_of names [] base budget left → Resolves (of_uses use_of) names base budget left
  Resolves-used {names} {base} {budget} {left} used = record {
    only = record {
      holds = used.base_of_names base ([], tt, used.is_base);
      alone = λ other h. IsBaseAfter-end use_of used.last other (used.base_of_rest other h) ∙ sym used.is_base;
    };
    spent = Spends-rest used false left (record { lengths = []; opened = record { holds = refl; alone = λ other o. o }; leaves = Leaves-none left });
  }

  module _ {names rest : List (List ℕ)} {name : List ℕ} {base : List Layer} {budget left : Option ℕ} (used : AreUsed use_of names (name ∷ rest) base budget left) where
    -- one more name
    pub AreUsed-more : {next : List Layer} {after : Option ℕ} → Resolves use_of name next left after → AreUsed use_of names rest next budget after
    AreUsed-more {next} {after} found = let first = found.spent.lengths in record {
      before = used.before ++ name ∷ [];
      split = used.split ∙ sym (append_assoc used.before (name ∷ []) rest);
      found = All-push (Has use_of) used.before name used.found (next, found.only.holds);
      last = Some next;
      is_base = refl;
      base_of_names = λ whole h. used.base_of_names whole (next ∷ h.0, (found.only.holds, h.1), h.2);
      base_of_rest = λ whole h. IsBaseAfter-next use_of used.last name rest next whole found.only (used.base_of_rest whole h);
      lengths = used.lengths ++ first;
      names_open = λ trail o. subst (λ (l : List ℕ). (of_uses use_of).opens names (l, trail.1)) (sym (append_assoc used.lengths first trail.0))
          (used.names_open (trail_after first trail) (inr (first, trail, found.spent.opened.holds, o, refl)));
      rest_opens = λ trail o. let more = used.rest_opens trail o in let next = opens-next use_of name rest first more.0 found.spent.opened more.1 in
          (next.0, next.1, more.2 ∙ ap (λ (t : Trail). trail_after used.lengths t) next.2 ∙ ap (λ (l : List ℕ). (l, next.0.1)) (sym (append_assoc used.lengths first next.0.0)));
      names_open_first = λ leading more o. subst (λ (l : List ℕ). (of_uses use_of).opens_first names leading l) (sym (append_assoc used.lengths first more))
          (used.names_open_first leading (first ++ more) (inr (first, more, found.spent.opened.holds, o, refl)));
      leaves = Leaves-append budget left after used.lengths first used.leaves found.spent.leaves;
    }

    -- a name after those that have layers
    pub IsUsedAfter-used : IsUsedAfter (Has use_of) names name
    IsUsedAfter-used = (used.before, rest, used.split, used.found)

    -- a name without layers
    pub Refuses-used : {after : Option ℕ} → Refuses use_of name left after → Refuses (of_uses use_of) names budget after
    Refuses-used {after} refused = let spent = refused.spent in record {
      none = λ whole h. IsBaseAfter-refused use_of used.last name rest whole refused.none (used.base_of_rest whole h);
      spent = Spends-rest used true after (record {
        lengths = spent.lengths;
        opened = record {
          holds = inl (spent.opened.holds, refl);
          alone = λ other o. elim o [
            | inl x ↦ spent.opened.alone other x.0
            | inr y ↦ (let b : false ≡ true = ap (λ (t : Trail). t.1) (spent.opened.alone (y.0, false) y.2) in absurd (cc))
          ];
        };
        leaves = spent.leaves;
      });
    }

    -- a name that passes what is left
    pub GoesOver-used : GoesOver use_of name left → GoesOver (of_uses use_of) names budget
    GoesOver-used past = λ trail o.
        let more = used.rest_opens trail o in
        let over : IsOver left (sum more.0.0) = elim more.1 [
          | inl x ↦ past more.0 x.0
          | inr y ↦ (let e : sum more.0.0 ≡ sum (y.0 ++ y.1.0) = ap (λ (t : Trail). sum t.0) y.4 in
              IsOver-more left (sum y.0) (sum more.0.0) (omega (arith, e, sum-append y.0 y.1.0)) (past (y.0, false) y.2))
        ] in
        subst (λ (t : Trail). IsOver budget (sum t.0)) (sym more.2) (Leaves-over_append budget left used.lengths more.0.0 used.leaves over)

    pub GoesOverAt-used : (leading : List (List ℕ)) → GoesOverAt use_of name left leading → GoesOverAt (of_uses use_of) names budget leading
    GoesOverAt-used leading past = PassesAt-after used.lengths leading leading used.leaves (λ lengths o. used.names_open_first leading lengths (inl o)) past
