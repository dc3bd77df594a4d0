-- Which prefixes of a text fall into pieces.
use Rattle.std.proofs.Common.{◌≡◌, ℕ, zero, suc, ◌+◌, ◌-◌, ◌<◌, ◌≤◌, Bool, true, false, List, [], ◌∷◌, ◌++◌, get_or, length, take, drop, Option, Some, None, refl, sym, ap, ◌∙◌, subst, inl, inr, arith, length-append, length-drop}
use Rattle.std.specs.Prelude.{◌↔◌, Any, IsSome, IsTrue, if◌then◌else◌, option_and_then}
use Rattle.std.proofs.lemmas.Bool.{cases_lt, false≢true}
use Rattle.std.proofs.lemmas.List.{drop-take, drop_all, drop_at, get_or-drop, length-take-le, take-append-drop, take-take, take_at}
use Rattle.std.proofs.lemmas.List.Quantifiers.{Any-push}
use Rattle.std.proofs.lemmas.Option.{none-some, same_Some}
use Rattle.cmap_encode.specs.ChoicesSeen.{choices_of, owned, owned_at}
use Rattle.cmap_encode.specs.Encodings.{IsLongestEncodable}
use Rattle.cmap_encode.specs.Pieces as pieces
use Rattle.cmap_encode.specs.Pieces.{IsEncodable, nothing}
use Rattle.cmap_encode.specs.Prefixes.{AreNodes, EndsPiece, IsLongestBelow, WentOn}
use Rattle.cmap_encode.specs.Standing.{one}
use Rattle.cmap_encode.specs.TreeSeen.{node_of, step_of}
use Rattle.cmap_encode.specs.declared.choices.Choices.{Choices}
use Rattle.cmap_encode.proofs.PiecesParted.{encodable_more, last_piece}
use Rattle.cmap_encode.proofs.RunsAdded.{any_kept, any_split}
use Rattle.cmap_encode.proofs.TextsOwned.{longer_chosen, node_rest, none_chosen, one_chosen}

pub nothing_among : {A : Type 0} (P : A → Type 0) → Any P [] → ⊥
nothing_among P (k, x, within, at, holds) = omega arith

-- ---- a text that falls into pieces ends with one
module _ (choices : pieces.Choices) (text : List ℕ) where
  pub record EndsAt (k : ℕ) : Type 0 where
    pub before : k < length text
    pub encodable : IsEncodable choices (take k text)
    pub chosen : IsSome (choices (drop k text))

  pub ends_at : IsEncodable choices text → 0 < length text → (k : ℕ) × EndsAt k
  ends_at encodable some =
      let last = last_piece choices text encodable some in
      let k = length last.before in (
        k,
        record {
          before = omega (arith, ap (λ (t : List ℕ). length t) last.is, length-append last.before last.piece, last.some);
          encodable = subst (IsEncodable choices) (sym (ap (take k) last.is ∙ take_at last.before last.piece k refl)) last.encodable;
          chosen = subst (λ t. IsSome (choices t)) (sym (ap (drop k) last.is ∙ drop_at last.before last.piece k refl)) last.chosen;
        },
      )

  pub ends_encodable : (k : ℕ) → EndsAt k → IsEncodable choices text
  ends_encodable k ends = subst (IsEncodable choices) (take-append-drop k text) (encodable_more choices (take k text) (drop k text) ends.encodable (omega (arith, length-drop k text, ends.before)) ends.chosen)

module _ (choices : Choices) (text : List ℕ) where
  -- ---- one prefix after another
  pub first_nodes : AreNodes choices text 0 []
  first_nodes = λ n. (λ among. absurd (nothing_among (λ m. m ≡ n) among), λ after. absurd (omega (arith, after.before)))

  module _ (count last : ℕ) (nodes : List ℕ) (may_begin : Bool) (are : AreNodes choices text count nodes) (begins : IsTrue may_begin ↔ IsEncodable (choices_of choices) (take count text)) (within : count + 1 ≤ length text) (last_is : last ≡ get_or text count last) where
    size : length (take (count + 1) text) ≡ count + 1
    size = length-take-le (count + 1) text within

    -- what follows a prefix, up to a character and with it
    rest_is : (k more : ℕ) → k ≤ more → drop k (take more text) ≡ take (more - k) (drop k text)
    rest_is k more before = ap (λ n. drop k (take n text)) (omega arith) ∙ drop-take k (more - k) text

    last_rest : (k : ℕ) → k ≤ count → last ≡ get_or (drop k text) (count - k) last
    last_rest k before = last_is ∙ get_dropped k before
      where
        get_dropped : (k : ℕ) → k ≤ count → get_or text count last ≡ get_or (drop k text) (count - k) last
        get_dropped k before = let sum : count ≡ k + (count - k) = omega arith in ap (λ n. get_or text n last) sum ∙ sym (get_or-drop k text (count - k) last)

    -- a piece that begins with the character
    one_next : one (owned choices.index) choices.exact last ≡ choices_of choices (drop count (take (count + 1) text))
    one_next =
        let single : count + 1 - count ≡ 1 = omega arith in
        let none : count - count ≡ 0 = omega arith in
        one_chosen choices (drop count text) last last (omega (arith, length-drop count text)) (subst (λ n. last ≡ get_or (drop count text) n last) none (last_rest count (omega arith)))
        ∙ ap (choices_of choices) (ap (λ n. take n (drop count text)) (sym single) ∙ sym (rest_is count (count + 1) (omega arith)))

    -- one that began before it
    longer_next : (k : ℕ) (node : Option ℕ) → k < count → node_of choices.index.tree (drop k (take count text)) ≡ node → owned_at choices.index node last ≡ choices_of choices (drop k (take (count + 1) text))
    longer_next k node before at =
        let less : count + 1 - k - 1 ≡ count - k = omega arith in
        longer_chosen choices (drop k text) (count + 1 - k) last last node (omega arith) (omega (arith, length-drop k text))
        (sym at ∙ ap (node_of choices.index.tree) (rest_is k count (omega arith)) ∙ ap (λ n. node_of choices.index.tree (take n (drop k text))) (sym less))
        (subst (λ n. last ≡ get_or (drop k text) n last) (sym less) (last_rest k (omega arith)))
        ∙ ap (choices_of choices) (sym (rest_is k (count + 1) (omega arith)))

    node_next : (k : ℕ) → k ≤ count → node_of choices.index.tree (drop k (take (count + 1) text)) ≡ option_and_then (λ n. step_of choices.index.tree n last) (node_of choices.index.tree (drop k (take count text)))
    node_next k before =
        let single : count + 1 - 1 ≡ count = omega arith in
        subst (λ j. node_of choices.index.tree (drop k (take (count + 1) text)) ≡ option_and_then (λ n. step_of choices.index.tree n (get_or text j last)) (node_of choices.index.tree (drop k (take j text)))) single (node_rest choices.index text (count + 1) last (omega arith) within k (omega arith))
        ∙ ap (λ c. option_and_then (λ n. step_of choices.index.tree n c) (node_of choices.index.tree (drop k (take count text)))) (sym last_is)

    falls_at : (k : ℕ) → k ≤ count → IsEncodable (choices_of choices) (take k text) → IsSome (choices_of choices (drop k (take (count + 1) text))) → IsEncodable (choices_of choices) (take (count + 1) text)
    falls_at k before encodable chosen =
        ends_encodable (choices_of choices) (take (count + 1) text) k (record {
          before = omega (arith, size);
          encodable = subst (IsEncodable (choices_of choices)) (sym (take-take k (count + 1) text (omega arith))) encodable;
          chosen = chosen;
        })

    pub falls_next : EndsPiece choices may_begin nodes last → IsEncodable (choices_of choices) (take (count + 1) text)
    falls_next (inl (may, some)) = falls_at count (omega arith) (begins.0 may) (subst (λ o. IsSome o) one_next some)
    falls_next (inr (i, n, lt, at, some)) =
        let after = (are n).0 (i, n, lt, at, refl) in
        falls_at after.k (omega (arith, after.before)) after.encodable (subst (λ o. IsSome o) (longer_next after.k (Some n) after.before after.node) some)

    pub not_next : (EndsPiece choices may_begin nodes last → ⊥) → IsEncodable (choices_of choices) (take (count + 1) text) → ⊥
    not_next none encodable =
        let (k, ends) = ends_at (choices_of choices) (take (count + 1) text) encodable (omega (arith, size)) in
        let prefix : IsEncodable (choices_of choices) (take k text) = subst (IsEncodable (choices_of choices)) (take-take k (count + 1) text (omega (arith, ends.before, size))) ends.encodable in
        elim (cases_lt k count) [
          | inl before ↦ by_node k (node_of choices.index.tree (drop k (take count text))) before refl prefix ends.chosen
          | inr last ↦
              let here : k ≡ count = omega (arith, ends.before, size) in
              none (inl (begins.1 (subst (λ n. IsEncodable (choices_of choices) (take n text)) here prefix), subst (λ o. IsSome o) (sym one_next) (subst (λ n. IsSome (choices_of choices (drop n (take (count + 1) text)))) here ends.chosen)))
        ]
      where
        by_node : (k : ℕ) (node : Option ℕ) → k < count → node_of choices.index.tree (drop k (take count text)) ≡ node → IsEncodable (choices_of choices) (take k text) → IsSome (choices_of choices (drop k (take (count + 1) text))) → ⊥
        by_node k None before at prefix chosen = false≢true (subst (λ o. IsSome o) (sym (longer_next k None before at)) chosen)
        by_node k (Some n) before at prefix chosen =
            let (i, m, lt, there, same) = (are n).1 (record { k = k; before = before; encodable = prefix; node = at }) in
            none (inr (i, m, lt, there, subst (λ j. IsSome (owned_at choices.index (Some j) last)) (sym same) (subst (λ o. IsSome o) (sym (longer_next k (Some n) before at)) chosen)))

    from_step : (k n : ℕ) (node : Option ℕ) → k < count → node_of choices.index.tree (drop k (take count text)) ≡ node → IsEncodable (choices_of choices) (take k text) → option_and_then (λ m. step_of choices.index.tree m last) node ≡ Some n → Any (λ m. step_of choices.index.tree m last ≡ Some n) nodes
    from_step k n None before at prefix steps = absurd (none-some n steps)
    from_step k n (Some m) before at prefix steps =
        let (i, x, lt, there, same) = (are m).1 (record { k = k; before = before; encodable = prefix; node = at }) in
        (i, x, lt, there, ap (λ j. step_of choices.index.tree j last) same ∙ steps)

    -- the node of the character alone
    node_alone : node_of choices.index.tree (drop count (take (count + 1) text)) ≡ step_of choices.index.tree 0 last
    node_alone =
        node_next count (omega arith)
        ∙ ap (option_and_then (λ n. step_of choices.index.tree n last)) (ap (node_of choices.index.tree) (drop_all count (take count text) (omega (arith, length-take-le count text (omega arith)))))

    pub nodes_next : (new : List ℕ) → WentOn choices last may_begin nodes new → AreNodes choices text (count + 1) new
    nodes_next new went = λ n. (
      λ among. elim ((went n).0 among) [
        | inl (may, steps) ↦ record { k = count; before = omega arith; encodable = begins.0 may; node = node_alone ∙ steps }
        | inr (i, m, lt, at, steps) ↦
            let before = (are m).0 (i, m, lt, at, refl) in record {
              k = before.k;
              before = omega (arith, before.before);
              encodable = before.encodable;
              node = node_next before.k (omega (arith, before.before)) ∙ ap (option_and_then (λ j. step_of choices.index.tree j last)) before.node ∙ steps;
            }
      ],
      λ after. elim (cases_lt after.k count) [
        | inl before ↦ (went n).1 (inr (from_step after.k n (node_of choices.index.tree (drop after.k (take count text))) before refl after.encodable (sym (node_next after.k (omega arith)) ∙ after.node)))
        | inr ends ↦
            let here : after.k ≡ count = omega (arith, after.before) in
            (went n).1 (inl (
              begins.1 (subst (λ k. IsEncodable (choices_of choices) (take k text)) here after.encodable),
              sym node_alone ∙ subst (λ k. node_of choices.index.tree (drop k (take (count + 1) text)) ≡ Some n) here after.node,
            ))
      ],
    )

  -- ---- once no piece goes on
  -- a piece that began before, and ends later, would go on from a node
  none_across : (count : ℕ) → AreNodes choices text count [] → (k more : ℕ) → k < count → count < more → more ≤ length text → IsEncodable (choices_of choices) (take k text) → IsSome (choices_of choices (drop k (take more text))) → ⊥
  none_across count are k more before later to encodable chosen = by_node (node_of choices.index.tree (drop k (take count text))) refl
    where
      rest_to : (n : ℕ) → k ≤ n → drop k (take n text) ≡ take (n - k) (drop k text)
      rest_to n le = ap (λ m. drop k (take m text)) (omega arith) ∙ drop-take k (n - k) text

      by_node : (node : Option ℕ) → node_of choices.index.tree (drop k (take count text)) ≡ node → ⊥
      by_node (Some n) at = nothing_among (λ m. m ≡ n) ((are n).1 (record { k = k; before = before; encodable = encodable; node = at }))
      by_node None at =
          let less : count + 1 - k - 1 ≡ count - k = omega arith in
          false≢true (subst (λ o. IsSome o)
          (ap (choices_of choices) (rest_to more (omega arith))
          ∙ none_chosen choices (drop k text) (count + 1 - k) (more - k) (omega arith) (omega (arith, length-drop k text))
          (ap (λ n. node_of choices.index.tree (take n (drop k text))) less ∙ ap (node_of choices.index.tree) (sym (rest_to count (omega arith))) ∙ at)) chosen)

  module _ (count longest : ℕ) (are : AreNodes choices text count []) (below : IsLongestBelow (choices_of choices) text (count + 1) longest) (none : IsEncodable (choices_of choices) (take count text) → ⊥) where
    none_longer : (most more : ℕ) → more < most → longest < more → more ≤ length text → IsEncodable (choices_of choices) (take more text) → ⊥
    none_longer zero more lt from to encodable = omega arith
    none_longer (suc most) more lt from to encodable =
        elim (cases_lt more (count + 1)) [
          | inl before ↦ below.longest more from before encodable
          | inr later ↦
              let size : length (take more text) ≡ more = length-take-le more text to in
              let (k, ends) = ends_at (choices_of choices) (take more text) encodable (omega (arith, size)) in
              let prefix : IsEncodable (choices_of choices) (take k text) = subst (IsEncodable (choices_of choices)) (take-take k more text (omega (arith, ends.before, size))) ends.encodable in
              elim (cases_lt k count) [
                | inl across ↦ none_across count are k more across (omega arith) to prefix ends.chosen
                | inr beyond ↦ elim (cases_lt count k) [
                  | inl after ↦ none_longer most k (omega (arith, ends.before, size)) (omega (arith, below.below)) (omega (arith, ends.before, size)) prefix
                  | inr here ↦ let same : k ≡ count = omega arith in none (subst (λ n. IsEncodable (choices_of choices) (take n text)) same prefix)
                ]
              ]
        ]

    pub longest_stuck : count ≤ length text → IsLongestEncodable (choices_of choices) text longest
    longest_stuck within = record {
      within = let lt = below.below in omega arith;
      encodable = below.encodable;
      longest = λ more from to. none_longer (more + 1) more (omega arith) from to;
    }

-- ---- the longest of them
pub nothing_longest : (choices : pieces.Choices) (text : List ℕ) → IsLongestBelow choices text 1 0
nothing_longest choices text = record { below = omega arith; encodable = nothing; longest = λ more from to. absurd (omega arith) }

pub longest_more : (choices : pieces.Choices) (text : List ℕ) (count longest : ℕ) (b : Bool) → IsTrue b ↔ IsEncodable choices (take count text) → IsLongestBelow choices text count longest → IsLongestBelow choices text (count + 1) (if b then count else longest)
longest_more choices text count longest true is was = record { below = omega arith; encodable = is.0 refl; longest = λ more from to. absurd (omega arith) }
longest_more choices text count longest false is was = record {
  below = omega (arith, was.below);
  encodable = was.encodable;
  longest = λ more from to encodable. elim (cases_lt more count) [
    | inl before ↦ was.longest more from before encodable
    | inr last ↦ let at : more ≡ count = omega arith in false≢true (is.1 (subst (λ n. IsEncodable choices (take n text)) at encodable))
  ];
}

pub longest_all : (choices : pieces.Choices) (text : List ℕ) (count longest : ℕ) → count ≡ length text + 1 → IsLongestBelow choices text count longest → IsLongestEncodable choices text longest
longest_all choices text count longest all is = record {
  within = omega (arith, is.below);
  encodable = is.encodable;
  longest = λ more from to. is.longest more from (omega arith);
}

pub longer_below : (count longest : ℕ) (b : Bool) → longest ≤ count → (if b then count + 1 else longest) ≤ count + 1
longer_below count longest true below = omega arith
longer_below count longest false below = omega arith

-- ---- the nodes after a character
-- one more node, from which no text goes on by the character
pub went_none : (choices : Choices) (character : ℕ) (b : Bool) (old new : List ℕ) (node : ℕ) → WentOn choices character b old new → step_of choices.index.tree node character ≡ None → WentOn choices character b (old ++ node ∷ []) new
went_none choices character b old new node was none = λ n.
    let Leads = λ (m : ℕ). step_of choices.index.tree m character ≡ Some n in (
      λ among. elim ((was n).0 among) [ inl begins ↦ inl begins | inr before ↦ inr (any_kept Leads old (node ∷ []) before) ],
      λ after. elim after [
        | inl begins ↦ (was n).1 (inl begins)
        | inr leads ↦ elim (any_split Leads old node leads) [ inl before ↦ (was n).1 (inr before) | inr here ↦ absurd (none-some n (sym none ∙ here)) ]
      ],
    )

-- one more node, with the one to which the character leads
pub went_some : (choices : Choices) (character : ℕ) (b : Bool) (old new : List ℕ) (node there : ℕ) → WentOn choices character b old new → step_of choices.index.tree node character ≡ Some there → WentOn choices character b (old ++ node ∷ []) (new ++ there ∷ [])
went_some choices character b old new node there was leads = λ n.
    let Leads = λ (m : ℕ). step_of choices.index.tree m character ≡ Some n in let Is = λ (m : ℕ). m ≡ n in (
      λ among. elim (any_split Is new there among) [
        | inl before ↦ elim ((was n).0 before) [ inl begins ↦ inl begins | inr among_old ↦ inr (any_kept Leads old (node ∷ []) among_old) ]
        | inr same ↦ inr (Any-push Leads old node (leads ∙ ap Some same))
      ],
      λ after. elim after [
        | inl begins ↦ any_kept Is new (there ∷ []) ((was n).1 (inl begins))
        | inr any ↦ elim (any_split Leads old node any) [
          | inl before ↦ any_kept Is new (there ∷ []) ((was n).1 (inr before))
          | inr here ↦ Any-push Is new there (same_Some there n (sym leads ∙ here))
        ]
      ],
    )
