-- The files that are opened first, up to the one that names lead to, are a front of all that are opened.
use Rattle.std.proofs.Common.{◌≡◌, refl, sym, ap, ◌∙◌, subst, ℕ, zero, suc, true, false, true≢false, List, [], ◌∷◌, ◌++◌, length, Option, Some, None, inl, inr, append-nil, append_assoc}
use Rattle.cmap_values.specs.Files.{File}
use Rattle.cmap_load.specs.Answers.{IsByName}
use Rattle.cmap_load.specs.Budgets.{Trail, Opens, OpensEach, OpensEachFirst, OpensFirst, OpensUse, OpensUseFirst}

abbrev pub IsFrontOf : List ℕ → List ℕ → Type 0
IsFrontOf front whole = (rest : List ℕ) × (whole ≡ front ++ rest)

front_more : (front whole more : List ℕ) → IsFrontOf front whole → IsFrontOf front (whole ++ more)
front_more front whole more (rest, is) = (rest ++ more, ap (λ l. l ++ more) is ∙ append_assoc front rest more)

pub front_after : (first front whole : List ℕ) → IsFrontOf front whole → IsFrontOf (first ++ front) (first ++ whole)
front_after first front whole (rest, is) = (rest, ap (λ l. first ++ l) is ∙ sym (append_assoc first front rest))

module _ (opens also : List ℕ → Trail → Type 0) (once : (name : List ℕ) (trail other : Trail) → opens name trail → also name other → trail ≡ other) where
  not_broken : (name : List ℕ) (trail other : Trail) → opens name trail → also name other → trail.1 ≡ true → other.1 ≡ false → ⊥
  not_broken name trail other a b broken whole = let same = once name trail other a b in true≢false (sym broken ∙ ap (λ (t : Trail). t.1) same ∙ whole)

  not_whole : (name : List ℕ) (trail other : Trail) → opens name trail → also name other → trail.1 ≡ false → other.1 ≡ true → ⊥
  not_whole name trail other a b whole broken = let same = once name trail other a b in true≢false (sym broken ∙ sym (ap (λ (t : Trail). t.1) same) ∙ whole)

  pub each_once : (names : List (List ℕ)) (trail other : Trail) → OpensEach opens names trail → OpensEach also names other → trail ≡ other
  each_once [] trail other is same = is ∙ sym same
  each_once (name ∷ names) trail other (inl (a, broken)) (inl (b, too)) = once name trail other a b
  each_once (name ∷ names) trail other (inl (a, broken)) (inr (first, rest, b, more, is)) = absurd (not_broken name trail (first, false) a b broken refl)
  each_once (name ∷ names) trail other (inr (first, rest, a, more, is)) (inl (b, broken)) = absurd (not_whole name (first, false) other a b refl broken)
  each_once (name ∷ names) trail other (inr (first, rest, a, more, is)) (inr (second, last, b, others, too)) =
      let same : first ≡ second = ap (λ (t : Trail). t.0) (once name (first, false) (second, false) a b) in
      let left : rest ≡ last = each_once names rest last more others in
      is ∙ ap (λ l. (l ++ rest.0, rest.1)) same ∙ ap (λ (t : Trail). (second ++ t.0, t.1)) left ∙ sym too

  module _ (opens_first : List ℕ → List (List ℕ) → List ℕ → Type 0)
      (front : (name : List ℕ) (leading : List (List ℕ)) (lengths : List ℕ) (trail : Trail) → opens_first name leading lengths → also name trail → IsFrontOf lengths trail.0) where
    pub each_front : (names leading : List (List ℕ)) (lengths : List ℕ) (trail : Trail) → OpensEachFirst opens opens_first names leading lengths → OpensEach also names trail → IsFrontOf lengths trail.0
    each_front [] leading lengths trail first all = absurd first
    each_front (name ∷ names) leading lengths trail (inl here) (inl (a, broken)) = front name leading lengths trail here a
    each_front (name ∷ names) leading lengths trail (inl here) (inr (first, rest, a, more, is)) =
        subst (λ (t : Trail). IsFrontOf lengths t.0) (sym is) (front_more lengths first rest.0 (front name leading lengths (first, false) here a))
    each_front (name ∷ names) leading lengths trail (inr (first, rest, a, later, is)) (inl (b, broken)) = absurd (not_whole name (first, false) trail a b refl broken)
    each_front (name ∷ names) leading lengths trail (inr (first, rest, a, later, is)) (inr (second, last, b, others, too)) =
        let same : first ≡ second = ap (λ (t : Trail). t.0) (once name (first, false) (second, false) a b) in
        let after = front_after second rest last.0 (each_front names leading rest last later others) in
        subst (λ l. IsFrontOf l trail.0) (sym (is ∙ ap (λ l. l ++ rest) same)) (subst (λ (t : Trail). IsFrontOf (second ++ rest) t.0) (sym too) after)

module _ (means : List ℕ → File → Type 0) (answer : List ℕ → Option (List ℕ) → Type 0)
    (one_file : (bytes : List ℕ) (file other : File) → means bytes file → means bytes other → file ≡ other) (by_name : IsByName answer) where
  one_answer : (name bytes others : List ℕ) → answer name (Some bytes) → answer name (Some others) → bytes ≡ others
  one_answer name bytes others a b = let same : Some bytes ≡ Some others = by_name name (Some bytes) (Some others) a b in cc

  no_answer : (name bytes : List ℕ) → answer name None → answer name (Some bytes) → ⊥
  no_answer name bytes a b = let same : None ≡ Some bytes = by_name name None (Some bytes) a b in absurd (cc)

  -- what a use opens is one trail, where what its file opens is
  use_once : (room : ℕ) → ((bytes : List ℕ) (trail other : Trail) → Opens means answer room bytes trail → Opens means answer room bytes other → trail ≡ other)
      → (name : List ℕ) (trail other : Trail) → OpensUse answer (Opens means answer room) room name trail → OpensUse answer (Opens means answer room) room name other → trail ≡ other
  use_once zero once name trail other a b = a ∙ sym b
  use_once (suc room) once name trail other (inl (none, is)) (inl (also, same)) = is ∙ sym same
  use_once (suc room) once name trail other (inl (none, is)) (inr (bytes, said, b)) = absurd (no_answer name bytes none said)
  use_once (suc room) once name trail other (inr (bytes, said, a)) (inl (none, same)) = absurd (no_answer name bytes none said)
  use_once (suc room) once name trail other (inr (bytes, said, a)) (inr (others, also, b)) =
      once others trail other (subst (λ x. Opens means answer (suc room) x trail) (one_answer name bytes others said also) a) b

  -- what a file opens is one trail
  pub opens_once : (most : ℕ) (bytes : List ℕ) (trail other : Trail) → Opens means answer most bytes trail → Opens means answer most bytes other → trail ≡ other
  opens_once zero bytes trail other a b = absurd a
  opens_once (suc most) bytes trail other (inl (none, is)) (inl (also, same)) = is ∙ sym same
  opens_once (suc most) bytes trail other (inl (none, is)) (inr (file, rest, meant, each, same)) = absurd (none file meant)
  opens_once (suc most) bytes trail other (inr (file, rest, meant, each, is)) (inl (none, same)) = absurd (none file meant)
  opens_once (suc most) bytes trail other (inr (file, rest, meant, each, is)) (inr (second, last, also, others, same)) =
      let one : file ≡ second = one_file bytes file second meant also in
      let left : rest ≡ last = each_once (OpensUse answer (Opens means answer most) most) (OpensUse answer (Opens means answer most) most) (use_once most (opens_once most)) second.uses rest last
      (subst (λ (f : File). OpensEach (OpensUse answer (Opens means answer most) most) f.uses rest) one each) others in
      is ∙ ap (λ (t : Trail). (length bytes ∷ t.0, t.1)) left ∙ sym same

  use_front : (room : ℕ) → ((bytes : List ℕ) (names : List (List ℕ)) (lengths : List ℕ) (trail : Trail) → OpensFirst means answer room bytes names lengths → Opens means answer room bytes trail → IsFrontOf lengths trail.0)
      → (name : List ℕ) (names : List (List ℕ)) (lengths : List ℕ) (trail : Trail) → OpensUseFirst answer (OpensFirst means answer room) room name names lengths → OpensUse answer (Opens means answer room) room name trail → IsFrontOf lengths trail.0
  use_front zero front name names lengths trail a b = absurd a
  use_front (suc room) front name names lengths trail (below, is, (bytes, said, first)) (inl (none, same)) = absurd (no_answer name bytes none said)
  use_front (suc room) front name names lengths trail (below, is, (bytes, said, first)) (inr (others, also, b)) =
      front bytes below lengths trail first (subst (λ x. Opens means answer (suc room) x trail) (one_answer name others bytes also said) b)

  -- each list of first files is a front of every trail
  pub first_is_front : (most : ℕ) (bytes : List ℕ) (names : List (List ℕ)) (lengths : List ℕ) (trail : Trail) → OpensFirst means answer most bytes names lengths → Opens means answer most bytes trail → IsFrontOf lengths trail.0
  first_is_front zero bytes names lengths trail a b = absurd a
  first_is_front (suc most) bytes names lengths trail (inl (here, is)) (inl (none, same)) = ([], ap (λ (t : Trail). t.0) same ∙ sym (append-nil (length bytes ∷ [])) ∙ ap (λ l. l ++ []) (sym is))
  first_is_front (suc most) bytes names lengths trail (inl (here, is)) (inr (file, rest, meant, each, same)) = (rest.0, ap (λ (t : Trail). t.0) same ∙ ap (λ l. l ++ rest.0) (sym is))
  first_is_front (suc most) bytes names lengths trail (inr (file, rest, meant, each, is)) (inl (none, same)) = absurd (none file meant)
  first_is_front (suc most) bytes names lengths trail (inr (file, rest, meant, each, is)) (inr (second, last, also, others, same)) =
      let one : second ≡ file = one_file bytes second file also meant in
      let after = front_after (length bytes ∷ []) rest last.0
      (each_front (OpensUse answer (Opens means answer most) most) (OpensUse answer (Opens means answer most) most) (use_once most (opens_once most)) (OpensUseFirst answer (OpensFirst means answer most) most) (use_front most (first_is_front most)) file.uses names rest last each
      (subst (λ (f : File). OpensEach (OpensUse answer (Opens means answer most) most) f.uses last) one others)) in
      subst (λ l. IsFrontOf l trail.0) (sym is) (subst (λ (t : Trail). IsFrontOf (length bytes ∷ rest) t.0) (sym same) after)
