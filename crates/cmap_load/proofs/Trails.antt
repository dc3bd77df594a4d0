-- What uses open, one after another.
use Rattle.std.proofs.Common.{◌≡◌, refl, sym, ap, ◌∙◌, subst, arith, ℕ, zero, suc, ◌≤◌, true, false, List, [], ◌∷◌, ◌++◌, append_assoc, length, Option, Some, None, inl, inr}
use Rattle.cmap_values.specs.Files.{File}
use Rattle.cmap_values.specs.Only.{IsOnly}
use Rattle.cmap_binary.specs.Bundles.{PrefixTables}
use Rattle.cmap_load.specs.Answers.{IsByName}
use Rattle.cmap_load.specs.Budgets.{Opens, OpensEach, OpensEachFirst, OpensFirst, OpensUse, OpensUseFirst, Trail}
use Rattle.cmap_load.specs.Layers.{Means}
use Rattle.cmap_load.proofs.FirstFiles.{IsFrontOf, each_front, each_once, front_after}
use Rattle.cmap_load.specs.Loading.{Agrees, Answer, AreWhole, IsAnswered, IsWhole, OpensOnly, OpensOnlyFirst, Uses}
use Rattle.std.proofs.Common.{append-nil}

-- ---- uses
each_whole : (R S : List ℕ → Trail → Type 0) → ((name lengths : List ℕ) → R name (lengths, false) → S name (lengths, false)) → (names : List (List ℕ)) (trail : Trail) → trail.1 ≡ false → OpensEach R names trail → OpensEach S names trail
each_whole R S gives [] trail whole h = h
each_whole R S gives (name ∷ names) trail whole (inl (h, broken)) = absurd (cc)
each_whole R S gives (name ∷ names) trail whole (inr (first, rest, h, more, is)) =
    let still : rest.1 ≡ false = sym (ap (λ (t : Trail). t.1) is) ∙ whole in
    inr (first, rest, gives name first h, each_whole R S gives names rest still more, is)

module _ {R S : List ℕ → Trail → Type 0} where
  each_as : ((name : List ℕ) (trail : Trail) → R name trail → S name trail) → (names : List (List ℕ)) (trail : Trail) → OpensEach R names trail → OpensEach S names trail
  each_as gives [] trail h = h
  each_as gives (name ∷ names) trail (inl (h, broken)) = inl (gives name trail h, broken)
  each_as gives (name ∷ names) trail (inr (first, rest, h, more, is)) = inr (first, rest, gives name (first, false) h, each_as gives names rest more, is)

  each_first_as : {F G : List ℕ → List (List ℕ) → List ℕ → Type 0} → ((name : List ℕ) (trail : Trail) → R name trail → S name trail)
      → ((name : List ℕ) (leading : List (List ℕ)) (lengths : List ℕ) → F name leading lengths → G name leading lengths)
      → (names leading : List (List ℕ)) (lengths : List ℕ) → OpensEachFirst R F names leading lengths → OpensEachFirst S G names leading lengths
  each_first_as gives first_as [] leading lengths h = absurd h
  each_first_as gives first_as (name ∷ names) leading lengths (inl h) = inl (first_as name leading lengths h)
  each_first_as gives first_as (name ∷ names) leading lengths (inr (first, rest, h, later, is)) = inr (first, rest, gives name (first, false) h, each_first_as gives first_as names leading rest later, is)

-- after uses that are whole
module _ (R : List ℕ → Trail → Type 0) where
  pub each_after : (before rest : List (List ℕ)) (opened trail : Trail) → opened.1 ≡ false → OpensEach R before opened → OpensEach R rest trail → OpensEach R (before ++ rest) (opened.0 ++ trail.0, trail.1)
  each_after [] rest opened trail whole h more = subst (λ (t : Trail). OpensEach R rest (t.0 ++ trail.0, trail.1)) (sym h) more
  each_after (name ∷ before) rest opened trail whole (inl (h, broken)) more = absurd (cc)
  each_after (name ∷ before) rest opened trail whole (inr (first, others, h, after, is)) more =
      let still : others.1 ≡ false = sym (ap (λ (t : Trail). t.1) is) ∙ whole in
      inr (
        first,
        (others.0 ++ trail.0, trail.1),
        h,
        each_after before rest others trail still after more,
        ap (λ (t : Trail). (t.0 ++ trail.0, trail.1)) is ∙ ap (λ (l : List ℕ). (l, trail.1)) (append_assoc first others.0 trail.0),
      )

  pub each_first_after : (F : List ℕ → List (List ℕ) → List ℕ → Type 0) (before rest leading : List (List ℕ)) (opened : Trail) (more : List ℕ) → opened.1 ≡ false → OpensEach R before opened → OpensEachFirst R F rest leading more
      → OpensEachFirst R F (before ++ rest) leading (opened.0 ++ more)
  each_first_after F [] rest leading opened more whole h first = subst (λ (t : Trail). OpensEachFirst R F rest leading (t.0 ++ more)) (sym h) first
  each_first_after F (name ∷ before) rest leading opened more whole (inl (h, broken)) first = absurd (cc)
  each_first_after F (name ∷ before) rest leading opened more whole (inr (here, others, h, after, is)) first =
      let still : others.1 ≡ false = sym (ap (λ (t : Trail). t.1) is) ∙ whole in
      inr (
        here,
        others.0 ++ more,
        h,
        each_first_after F before rest leading others more still after first,
        ap (λ (t : Trail). t.0 ++ more) is ∙ append_assoc here others.0 more,
      )

-- ---- files
module _ (tables : Option PrefixTables) where
  module _ {answer other : List ℕ → Option (List ℕ) → Type 0} (agrees : Agrees answer other) where
    use_as : {R S : List ℕ → Trail → Type 0} → ((bytes : List ℕ) (trail : Trail) → R bytes trail → S bytes trail) → (room : ℕ) (name : List ℕ) (trail : Trail) → OpensUse answer R room name trail → OpensUse other S room name trail
    use_as gives zero name trail h = h
    use_as gives (suc room) name trail (inl (none, is)) = inl (agrees name None none, is)
    use_as gives (suc room) name trail (inr (bytes, said, h)) = inr (bytes, agrees name (Some bytes) said, gives bytes trail h)

    use_first_as : {F G : List ℕ → List (List ℕ) → List ℕ → Type 0} → ((bytes : List ℕ) (leading : List (List ℕ)) (lengths : List ℕ) → F bytes leading lengths → G bytes leading lengths)
        → (room : ℕ) (name : List ℕ) (leading : List (List ℕ)) (lengths : List ℕ) → OpensUseFirst answer F room name leading lengths → OpensUseFirst other G room name leading lengths
    use_first_as gives zero name leading lengths h = absurd h
    use_first_as gives (suc room) name leading lengths (below, is, (bytes, said, h)) = (below, is, (bytes, agrees name (Some bytes) said, gives bytes below lengths h))

    -- by more answers
    pub opens_as : (most : ℕ) (bytes : List ℕ) (trail : Trail) → OpensOnly tables answer most bytes trail → OpensOnly tables other most bytes trail
    opens_as zero bytes trail h = absurd h
    opens_as (suc most) bytes trail (inl h) = inl h
    opens_as (suc most) bytes trail (inr (file, rest, only, each, is)) = inr (file, rest, only, each_as (use_as (opens_as most) most) file.uses rest each, is)

    pub opens_means : (most : ℕ) (bytes : List ℕ) (trail : Trail) → OpensOnly tables answer most bytes trail → Opens (Means tables) other most bytes trail
    opens_means zero bytes trail h = absurd h
    opens_means (suc most) bytes trail (inl h) = inl h
    opens_means (suc most) bytes trail (inr (file, rest, only, each, is)) = inr (file, rest, only.holds, each_as (use_as (opens_means most) most) file.uses rest each, is)

    pub first_as : (most : ℕ) (bytes : List ℕ) (names : List (List ℕ)) (lengths : List ℕ) → OpensOnlyFirst tables answer most bytes names lengths → OpensOnlyFirst tables other most bytes names lengths
    first_as zero bytes names lengths h = absurd h
    first_as (suc most) bytes names lengths (inl h) = inl h
    first_as (suc most) bytes names lengths (inr (file, rest, only, each, is)) =
        inr (file, rest, only, each_first_as (use_as (opens_as most) most) (use_first_as (first_as most) most) file.uses names rest each, is)

    pub first_means : (most : ℕ) (bytes : List ℕ) (names : List (List ℕ)) (lengths : List ℕ) → OpensOnlyFirst tables answer most bytes names lengths → OpensFirst (Means tables) other most bytes names lengths
    first_means zero bytes names lengths h = absurd h
    first_means (suc most) bytes names lengths (inl h) = inl h
    first_means (suc most) bytes names lengths (inr (file, rest, only, each, is)) =
        inr (file, rest, only.holds, each_first_as (use_as (opens_means most) most) (use_first_as (first_means most) most) file.uses names rest each, is)

  module _ (answer : List ℕ → Option (List ℕ) → Type 0) where
    use_more : (most more : ℕ) → most ≤ more → ((bytes lengths : List ℕ) → OpensOnly tables answer most bytes (lengths, false) → OpensOnly tables answer more bytes (lengths, false))
        → (name lengths : List ℕ) → OpensUse answer (OpensOnly tables answer most) most name (lengths, false) → OpensUse answer (OpensOnly tables answer more) more name (lengths, false)
    use_more zero more le gives name lengths h = let e : false ≡ true = ap (λ (t : Trail). t.1) h in absurd (cc)
    use_more (suc most) zero le gives name lengths h = absurd (omega (arith, le))
    use_more (suc most) (suc more) le gives name lengths (inl (none, is)) = let e : false ≡ true = ap (λ (t : Trail). t.1) is in absurd (cc)
    use_more (suc most) (suc more) le gives name lengths (inr (bytes, said, h)) = inr (bytes, said, gives bytes lengths h)

    -- where more files may stand in a chain
    pub opens_more : (most more : ℕ) → most ≤ more → (bytes lengths : List ℕ) → OpensOnly tables answer most bytes (lengths, false) → OpensOnly tables answer more bytes (lengths, false)
    opens_more zero more le bytes lengths h = absurd h
    opens_more (suc most) zero le bytes lengths h = absurd (omega (arith, le))
    opens_more (suc most) (suc more) le bytes lengths (inl (none, is)) = let e : false ≡ true = ap (λ (t : Trail). t.1) is in absurd (cc)
    opens_more (suc most) (suc more) le bytes lengths (inr (file, rest, only, each, is)) =
        let less : most ≤ more = omega (arith, le) in
        let whole : rest.1 ≡ false = sym (ap (λ (t : Trail). t.1) is) in
        inr (file, rest, only, each_whole (OpensUse answer (OpensOnly tables answer most) most) (OpensUse answer (OpensOnly tables answer more) more) (use_more most more less (opens_more most more less)) file.uses rest whole each, is)

    pub uses_more : (most more : ℕ) → most ≤ more → (uses : List (List ℕ)) (lengths : List ℕ) → OpensEach (OpensUse answer (OpensOnly tables answer most) most) uses (lengths, false) → OpensEach (OpensUse answer (OpensOnly tables answer more) more) uses (lengths, false)
    uses_more most more le uses lengths each = each_whole (OpensUse answer (OpensOnly tables answer most) most) (OpensUse answer (OpensOnly tables answer more) more) (use_more most more le (opens_more most more le)) uses (lengths, false) refl each

  -- ---- one trail
  module _ {answer : List ℕ → Option (List ℕ) → Type 0} (by_name : IsByName answer) where
    one_answer : (name bytes others : List ℕ) → answer name (Some bytes) → answer name (Some others) → bytes ≡ others
    one_answer name bytes others a b = let same : Some bytes ≡ Some others = by_name name (Some bytes) (Some others) a b in cc

    no_answer : (name bytes : List ℕ) → answer name None → answer name (Some bytes) → ⊥
    no_answer name bytes a b = let same : None ≡ Some bytes = by_name name None (Some bytes) a b in absurd (cc)

    use_same : {R S : List ℕ → Trail → Type 0} → ((bytes : List ℕ) (trail other : Trail) → R bytes trail → S bytes other → trail ≡ other)
        → (room : ℕ) (name : List ℕ) (trail other : Trail) → OpensUse answer R room name trail → OpensUse answer S room name other → trail ≡ other
    use_same once zero name trail other a b = a ∙ sym b
    use_same once (suc room) name trail other (inl (none, is)) (inl (also, same)) = is ∙ sym same
    use_same once (suc room) name trail other (inl (none, is)) (inr (bytes, said, b)) = absurd (no_answer name bytes none said)
    use_same once (suc room) name trail other (inr (bytes, said, a)) (inl (none, same)) = absurd (no_answer name bytes none said)
    use_same {R} {S} once (suc room) name trail other (inr (bytes, said, a)) (inr (others, also, b)) = once others trail other (subst (λ x. R x trail) (one_answer name bytes others said also) a) b

    pub opens_same : (most : ℕ) (bytes : List ℕ) (trail other : Trail) → OpensOnly tables answer most bytes trail → Opens (Means tables) answer most bytes other → trail ≡ other
    opens_same zero bytes trail other a b = absurd a
    opens_same (suc most) bytes trail other (inl (none, is)) (inl (also, same)) = is ∙ sym same
    opens_same (suc most) bytes trail other (inl (none, is)) (inr (file, rest, meant, each, same)) = absurd (none file meant)
    opens_same (suc most) bytes trail other (inr (file, rest, only, each, is)) (inl (none, same)) = absurd (none file only.holds)
    opens_same (suc most) bytes trail other (inr (file, rest, only, each, is)) (inr (second, last, meant, others, same)) =
        let one : second ≡ file = only.alone second meant in
        let left : rest ≡ last = each_once (OpensUse answer (OpensOnly tables answer most) most) (OpensUse answer (Opens (Means tables) answer most) most) (use_same (opens_same most) most) file.uses rest last each
        (subst (λ (f : File). OpensEach (OpensUse answer (Opens (Means tables) answer most) most) f.uses last) one others) in
        is ∙ ap (λ (t : Trail). (length bytes ∷ t.0, t.1)) left ∙ sym same

    use_front : {F : List ℕ → List (List ℕ) → List ℕ → Type 0} {S : List ℕ → Trail → Type 0} → ((bytes : List ℕ) (names : List (List ℕ)) (lengths : List ℕ) (trail : Trail) → F bytes names lengths → S bytes trail → IsFrontOf lengths trail.0)
        → (room : ℕ) (name : List ℕ) (names : List (List ℕ)) (lengths : List ℕ) (trail : Trail) → OpensUseFirst answer F room name names lengths → OpensUse answer S room name trail → IsFrontOf lengths trail.0
    use_front front zero name names lengths trail a b = absurd a
    use_front front (suc room) name names lengths trail (below, is, (bytes, said, first)) (inl (none, same)) = absurd (no_answer name bytes none said)
    use_front {F} {S} front (suc room) name names lengths trail (below, is, (bytes, said, first)) (inr (others, also, b)) = front bytes below lengths trail first (subst (λ x. S x trail) (one_answer name others bytes also said) b)

    -- the first files are a front of all that are opened
    pub files_front : (most : ℕ) (bytes : List ℕ) (names : List (List ℕ)) (lengths : List ℕ) (trail : Trail) → OpensOnlyFirst tables answer most bytes names lengths → Opens (Means tables) answer most bytes trail → IsFrontOf lengths trail.0
    files_front zero bytes names lengths trail a b = absurd a
    files_front (suc most) bytes names lengths trail (inl (here, is)) (inl (none, same)) = ([], ap (λ (t : Trail). t.0) same ∙ sym (append-nil (length bytes ∷ [])) ∙ ap (λ l. l ++ []) (sym is))
    files_front (suc most) bytes names lengths trail (inl (here, is)) (inr (file, rest, meant, each, same)) = (rest.0, ap (λ (t : Trail). t.0) same ∙ ap (λ l. l ++ rest.0) (sym is))
    files_front (suc most) bytes names lengths trail (inr (file, rest, only, each, is)) (inl (none, same)) = absurd (none file only.holds)
    files_front (suc most) bytes names lengths trail (inr (file, rest, only, each, is)) (inr (second, last, meant, others, same)) =
        let one : second ≡ file = only.alone second meant in
        let after = front_after (length bytes ∷ []) rest last.0
        (each_front (OpensUse answer (OpensOnly tables answer most) most) (OpensUse answer (Opens (Means tables) answer most) most) (use_same (opens_same most) most) (OpensUseFirst answer (OpensOnlyFirst tables answer most) most) (use_front (files_front most) most) file.uses names rest last each
        (subst (λ (f : File). OpensEach (OpensUse answer (Opens (Means tables) answer most) most) f.uses last) one others)) in
        subst (λ l. IsFrontOf l trail.0) (sym is) (subst (λ (t : Trail). IsFrontOf (length bytes ∷ rest) t.0) (sym same) after)

  -- what opens files, by answers that agree, is the one trail
  pub opens_only : {answer other : List ℕ → Option (List ℕ) → Type 0} → Agrees answer other → IsByName other → (most : ℕ) (bytes : List ℕ) (trail : Trail) → OpensOnly tables answer most bytes trail → IsOnly (Opens (Means tables) other most bytes) trail
  opens_only agrees by_name most bytes trail h = record {
    holds = opens_means agrees most bytes trail h;
    alone = λ found g. sym (opens_same by_name most bytes trail found (opens_as agrees most bytes trail h) g);
  }

-- by more answers, of a list of them
module _ (tables : Option PrefixTables) (answers others : List Answer) (agrees : Agrees (IsAnswered answers) (IsAnswered others)) where
  pub IsWhole-as : (most : ℕ) (bytes lengths : List ℕ) → IsWhole tables answers most bytes lengths → IsWhole tables others most bytes lengths
  IsWhole-as most bytes lengths whole = record { opened = opens_as tables {answer = IsAnswered answers} {other = IsAnswered others} agrees most bytes (lengths, false) whole.opened }

  pub AreWhole-as : (room : ℕ) (uses : List (List ℕ)) (lengths : List ℕ) → AreWhole tables answers room uses lengths → AreWhole tables others room uses lengths
  AreWhole-as room uses lengths whole = record {
    opened = each_as (use_as tables {answer = IsAnswered answers} {other = IsAnswered others} agrees {R = OpensOnly tables (IsAnswered answers) room} {S = OpensOnly tables (IsAnswered others) room} (opens_as tables {answer = IsAnswered answers} {other = IsAnswered others} agrees room) room) uses (lengths, false) whole.opened;
  }

  pub Uses-as : (room : ℕ) (bytes name lengths : List ℕ) → Uses tables answers room bytes name lengths → Uses tables others room bytes name lengths
  Uses-as room bytes name lengths uses = record {
    file = uses.file;
    only = uses.only;
    before = uses.before;
    after = uses.after;
    split = uses.split;
    whole = AreWhole-as room uses.before lengths uses.whole;
  }

-- what is opened whole is one list
pub whole_same : (tables : Option PrefixTables) (answers : List Answer) → IsByName (IsAnswered answers) → (most more : ℕ) (bytes lengths others : List ℕ) → most ≤ 16 → more ≤ 16 → IsWhole tables answers most bytes lengths → IsWhole tables answers more bytes others → lengths ≡ others
whole_same tables answers by_name most more bytes lengths others le less first second =
    let high = opens_more tables (IsAnswered answers) most 16 le bytes lengths first.opened in
    let also = opens_more tables (IsAnswered answers) more 16 less bytes others second.opened in
    ap (λ (t : Trail). t.0) (opens_same tables by_name 16 bytes (lengths, false) (others, false) high (opens_means tables {answer = IsAnswered answers} {other = IsAnswered answers} (λ name b said. said) 16 bytes (others, false) also))
