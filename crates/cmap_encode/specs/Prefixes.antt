-- Private aid: which prefixes of a text fall into pieces.
use Rattle.std.specs.Prelude.{◌≡◌, ◌↔◌, ℕ, ◌<◌, ◌⊎◌, Any, Bool, IsSome, IsTrue, List, ◌++◌, Some, drop, take}
use Rattle.cmap_encode.specs.ChoicesSeen.{choices_of, owned, owned_at}
use Rattle.cmap_encode.specs.Encodings.{IsEncodingBy, IsLongestEncodable}
use Rattle.cmap_encode.specs.Pieces as pieces
use Rattle.cmap_encode.specs.Standing.{one}
use Rattle.cmap_encode.specs.TreeSeen.{node_of, step_of}
use Rattle.cmap_encode.specs.declared.choices.Choices.{Choices}

-- it is the node of what follows, up to count characters of the text, a shorter prefix that falls into pieces
pub record IsAfterPieces (choices : Choices) (text : List ℕ) (count n : ℕ) : Type 0 where
  pub k : ℕ
  pub before : k < count
  pub encodable : pieces.IsEncodable (choices_of choices) (take k text)
  pub node : node_of choices.index.tree (drop k (take count text)) ≡ Some n

-- all such nodes
abbrev pub AreNodes : Choices → List ℕ → ℕ → List ℕ → Type 0
AreNodes choices text count nodes = (n : ℕ) → Any (λ m. m ≡ n) nodes ↔ IsAfterPieces choices text count n

-- a character ends a piece that goes on from a node
abbrev pub EndsFrom : Choices → List ℕ → ℕ → Type 0
EndsFrom choices nodes last = Any (λ n. IsSome (owned_at choices.index (Some n) last)) nodes

-- a character ends a piece that goes on from a node, or a piece that begins with the character, if a piece may begin
abbrev pub EndsPiece : Choices → Bool → List ℕ → ℕ → Type 0
EndsPiece choices may_begin nodes last = (IsTrue may_begin × IsSome (one (owned choices.index) choices.exact last)) ⊎ EndsFrom choices nodes last

-- the nodes after one more character, and the node of the character itself if a piece may begin with it
abbrev pub WentOn : Choices → ℕ → Bool → List ℕ → List ℕ → Type 0
WentOn choices character may_begin old new = (n : ℕ) → Any (λ m. m ≡ n) new ↔ ((IsTrue may_begin × (step_of choices.index.tree 0 character ≡ Some n)) ⊎ Any (λ m. step_of choices.index.tree m character ≡ Some n) old)

-- of the prefixes that have fewer characters than a number, the longest that falls into pieces
pub record IsLongestBelow (choices : pieces.Choices) (text : List ℕ) (limit count : ℕ) : Type 0 where
  pub below : count < limit
  pub encodable : pieces.IsEncodable choices (take count text)
  pub longest : (more : ℕ) → count < more → more < limit → pieces.IsEncodable choices (take more text) → ⊥

-- the longest prefix of a text that falls into pieces was encoded at the end of a string; this is left of the text
pub record IsLongestAdded (choices : pieces.Choices) (text left old new : List ℕ) : Type 0 where
  pub count : ℕ
  pub longest : IsLongestEncodable choices text count
  pub rest : left ≡ drop count text
  pub prefix : List ℕ
  pub encoding : IsEncodingBy choices (take count text) prefix
  pub added : new ≡ old ++ prefix
