-- Private aid: the nodes to which texts lead.
use Rattle.std.specs.Prelude.{◌≡◌, ℕ, List, [], ◌∷◌, Option, Some, option_and_then}
use Rattle.std.specs.BTreeMap.{get}
use Rattle.std.specs.Ordering.{nat_cmp, ordering_then}
use Rattle.std.specs.declared.cmp.Ordering.{Ordering}
use Rattle.cmap_encode.specs.declared.tree.Step.{Step}
use Rattle.cmap_encode.specs.declared.tree.Tree.{Tree}

abbrev pub step_cmp : Step → Step → Ordering
step_cmp a b = ordering_then (nat_cmp a.node b.node) (nat_cmp a.character b.character)

-- the node after a node and a character
abbrev pub step_of : Tree → ℕ → ℕ → Option ℕ
step_of tree node character = get step_cmp tree.steps (record { node = node; character = character })

-- the node after a node and characters, one after another
abbrev pub node_after : (ℕ → ℕ → Option ℕ) → Option ℕ → List ℕ → Option ℕ
node_after step node [] = node
node_after step node (c ∷ cs) = node_after step (option_and_then (λ n. step n c) node) cs

-- the node of a text
abbrev pub node_of : Tree → List ℕ → Option ℕ
node_of tree text = node_after (step_of tree) (Some 0) text

-- one step leads to a node, and all other steps lead to the same nodes as before
pub record PutsStep (old : ℕ → ℕ → Option ℕ) (node character next : ℕ) (new : ℕ → ℕ → Option ℕ) : Type 0 where
  pub here : new node character ≡ Some next
  pub others : (n c : ℕ) → ((n ≡ node) × (c ≡ character) → ⊥) → new n c ≡ old n c
