-- The own codes of texts, by the node of the characters before the last one, and that one.
use Rattle.std.proofs.Common.{◌≡◌, ℕ, ◌+◌, ◌-◌, ◌≤◌, Bool, List, [], ◌∷◌, ◌++◌, get_or, length, take, drop, Option, None, Some, refl, sym, ap, ◌∙◌, subst, inl, inr, arith}
use Rattle.std.specs.Prelude.{option_and_then, option_map}
use Rattle.std.proofs.lemmas.Bool.{cases_lt}
use Rattle.std.proofs.lemmas.List.{drop-append-le, length-take-le, take-append-drop, take-take, take_more}
use Rattle.std.proofs.lemmas.Option.{none-some}
use Rattle.cmap_encode.specs.ChoicesSeen.{choices_of, own_choice, owned, owned_at}
use Rattle.cmap_encode.specs.IndexSeen.{own_after, own_at, own_in}
use Rattle.cmap_encode.specs.Pieces.{Choices}
use Rattle.cmap_encode.specs.Standing.{one, standing}
use Rattle.cmap_encode.specs.TreeSeen.{node_of, step_of}
use Rattle.cmap_encode.specs.declared.choices.Choices as seen
use Rattle.cmap_encode.specs.declared.index.Index.{Index}
use Rattle.cmap_encode.proofs.TextEnds.{prefix_taken, last_got}
use Rattle.cmap_encode.proofs.TreeNodes.{none_beyond, one_further}

pub own_at_end : (index : Index) (prefix : List ℕ) (last : ℕ) → own_in index (prefix ++ last ∷ []) ≡ own_after index prefix last
own_at_end index prefix last =
    ap (option_and_then (own_after index (take (length (prefix ++ last ∷ []) - 1) (prefix ++ last ∷ [])))) (last_got prefix last) ∙ ap (λ f. own_after index f last) (prefix_taken prefix last)

module _ (index : Index) (text : List ℕ) (count d : ℕ) (some : 1 ≤ count) (within : count ≤ length text) where
  -- the first characters of a text, and the last of them
  pub taken_ends : take count text ≡ take (count - 1) text ++ get_or text (count - 1) d ∷ []
  taken_ends = let more : count - 1 + 1 ≡ count = omega arith in subst (λ n. take n text ≡ take (count - 1) text ++ get_or text (count - 1) d ∷ []) more (take_more text (count - 1) d (omega arith))

  pub own_here : own_at index (node_of index.tree (take (count - 1) text)) (get_or text (count - 1) d) ≡ own_in index (take count text)
  own_here = sym (ap (own_in index) taken_ends ∙ own_at_end index (take (count - 1) text) (get_or text (count - 1) d))

  pub node_here : node_of index.tree (take count text) ≡ option_and_then (λ n. step_of index.tree n (get_or text (count - 1) d)) (node_of index.tree (take (count - 1) text))
  node_here = ap (node_of index.tree) taken_ends ∙ one_further (step_of index.tree) (Some 0) (take (count - 1) text) (get_or text (count - 1) d)

  -- by the node of those before the last one, and the last one
  module _ (node : Option ℕ) (last : ℕ) (at : node ≡ node_of index.tree (take (count - 1) text)) (last_is : last ≡ get_or text (count - 1) d) where
    pub own_by : own_at index node last ≡ own_in index (take count text)
    own_by = ap (λ o. own_at index o last) at ∙ ap (own_at index (node_of index.tree (take (count - 1) text))) last_is ∙ own_here

    pub node_further : (next : Option ℕ) → next ≡ option_and_then (λ n. step_of index.tree n last) node → next ≡ node_of index.tree (take (count + 1 - 1) text)
    node_further next is =
        let same : count ≡ count + 1 - 1 = omega arith in
        subst (λ k. next ≡ node_of index.tree (take k text)) same
        (is ∙ ap (λ o. option_and_then (λ n. step_of index.tree n last) o) at ∙ ap (λ c. option_and_then (λ n. step_of index.tree n c) (node_of index.tree (take (count - 1) text))) last_is ∙ sym node_here)

  -- what follows some characters, and the last one
  module _ (k : ℕ) (before : k ≤ count - 1) where
    abbrev rest : List ℕ
    rest = drop k (take (count - 1) text)

    rest_ends : drop k (take count text) ≡ rest ++ get_or text (count - 1) d ∷ []
    rest_ends = ap (drop k) taken_ends ∙ drop-append-le k (take (count - 1) text) (get_or text (count - 1) d ∷ []) (omega (arith, length-take-le (count - 1) text (omega arith)))

    pub own_rest : own_at index (node_of index.tree rest) (get_or text (count - 1) d) ≡ own_in index (drop k (take count text))
    own_rest = sym (ap (own_in index) rest_ends ∙ own_at_end index rest (get_or text (count - 1) d))

    pub node_rest : node_of index.tree (drop k (take count text)) ≡ option_and_then (λ n. step_of index.tree n (get_or text (count - 1) d)) (node_of index.tree rest)
    node_rest = ap (node_of index.tree) rest_ends ∙ one_further (step_of index.tree) (Some 0) rest (get_or text (count - 1) d)

-- no text has a code that goes on from one without a node
pub none_owned_beyond : (index : Index) (text : List ℕ) (count taken : ℕ) → 1 ≤ count → count ≤ taken → taken ≤ length text → node_of index.tree (take (count - 1) text) ≡ None → own_in index (take taken text) ≡ None
none_owned_beyond index text count taken some later within none =
    let prefix_is : take (count - 1) (take (taken - 1) text) ≡ take (count - 1) text = take-take (count - 1) (taken - 1) text (omega arith) in
    let node_is : node_of index.tree (take (taken - 1) text) ≡ None =
    ap (node_of index.tree) (sym (take-append-drop (count - 1) (take (taken - 1) text)))
    ∙ none_beyond (step_of index.tree) (Some 0) (take (count - 1) (take (taken - 1) text)) (drop (count - 1) (take (taken - 1) text)) (ap (node_of index.tree) prefix_is ∙ none) in
    sym (own_here index text taken 0 (omega arith) within) ∙ ap (λ o. own_at index o (get_or text (taken - 1) 0)) node_is

-- ---- what stands for them
-- a text of two characters or more has what stands for it from its own code
pub standing_longer : (own : Choices) (exact : Bool) (text : List ℕ) → 2 ≤ length text → standing own exact text ≡ own text
standing_longer own exact [] long = absurd (omega arith)
standing_longer own exact (character ∷ []) long = absurd (omega arith)
standing_longer own exact (character ∷ next ∷ after) long = refl

first_character : (text : List ℕ) (d : ℕ) → 1 ≤ length text → take 1 text ≡ get_or text 0 d ∷ []
first_character [] d some = absurd (omega arith)
first_character (character ∷ after) d some = refl

module _ (choices : seen.Choices) (text : List ℕ) where
  -- of the first character
  pub one_chosen : (last d : ℕ) → 1 ≤ length text → last ≡ get_or text 0 d → one (owned choices.index) choices.exact last ≡ choices_of choices (take 1 text)
  one_chosen last d some is = ap (one (owned choices.index) choices.exact) is ∙ ap (choices_of choices) (sym (first_character text d some))

  -- of more
  pub longer_chosen : (taken d last : ℕ) (node : Option ℕ) → 2 ≤ taken → taken ≤ length text → node ≡ node_of choices.index.tree (take (taken - 1) text) → last ≡ get_or text (taken - 1) d → owned_at choices.index node last ≡ choices_of choices (take taken text)
  longer_chosen taken d last node some within at last_is =
      ap (option_map own_choice) (own_by choices.index text taken d (omega arith) within node last at last_is)
      ∙ sym (standing_longer (owned choices.index) choices.exact (take taken text) (omega (arith, length-take-le taken text within)))

  -- no text goes on from one without a node
  pub none_chosen : (count taken : ℕ) → count ≤ taken → taken ≤ length text → node_of choices.index.tree (take (count - 1) text) ≡ None → choices_of choices (take taken text) ≡ None
  none_chosen count taken later within none =
      elim (cases_lt 1 count) [
        | inl more ↦
            standing_longer (owned choices.index) choices.exact (take taken text) (omega (arith, length-take-le taken text within))
            ∙ ap (option_map own_choice) (none_owned_beyond choices.index text count taken (omega arith) later within none)
        | inr few ↦
            let zero_is : count - 1 ≡ 0 = omega arith in
            absurd (none-some 0 (sym (subst (λ n. node_of choices.index.tree (take n text) ≡ None) zero_is none)))
      ]
