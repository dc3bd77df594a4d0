-- Private aid: runs of codes by their texts, or by CIDs.
use Rattle.std.specs.Prelude.{◌≡◌, ◌↔◌, ℕ, ◌<◌, ◌≤◌, ◌⊎◌, List, [], ◌∷◌, ◌++◌, All, Any, Option, Some, None, MatchOption, length, option_and_then, slice_get}
use Rattle.std.specs.Global.{Vec}
use Rattle.cmap_tokens.specs.Texts.{Text, one}
use Rattle.cmap_unicode.specs.Characters.{characters_of}
use Rattle.cmap_unicode.specs.CountedTexts.{text_after}
use Rattle.cmap_encode.specs.KeyCodesSeen.{Gives, IsCodeRun}
use Rattle.cmap_encode.specs.Ranks.{Candidate, candidate_of, ranked_after}
use Rattle.cmap_encode.specs.TreeSeen.{node_of, step_of}
use Rattle.cmap_encode.specs.declared.key_codes.CodeRun.{CodeRun}
use Rattle.cmap_encode.specs.declared.rank.Ranked.{Ranked}
use Rattle.cmap_encode.specs.declared.runs_by_prefix.RunsByPrefix.{RunsByPrefix}

-- the index of the runs of a prefix: its node
abbrev pub number_of : RunsByPrefix → List ℕ → Option ℕ
number_of all prefix = node_of all.tree prefix

abbrev pub items_of : Option (Vec CodeRun) → List CodeRun
items_of None = []
items_of (Some runs) = runs.items

-- the runs of a prefix
abbrev pub runs_of : RunsByPrefix → List ℕ → List CodeRun
runs_of all prefix = items_of (option_and_then (slice_get all.lists.items) (number_of all prefix))

-- each prefix has its own index
pub record AreRunsByPrefix (all : RunsByPrefix) : Type 0 where
  pub within : (prefix : List ℕ) (number : ℕ) → number_of all prefix ≡ Some number → number < length all.lists.items
  pub apart : (prefix other : List ℕ) (number : ℕ) → number_of all prefix ≡ Some number → number_of all other ≡ Some number → prefix ≡ other
  pub inside : (node character next : ℕ) → step_of all.tree node character ≡ Some next → node < length all.lists.items
  pub runs : All (λ (list : Vec CodeRun). All IsCodeRun list.items) all.lists.items

-- a prefix has a number, and each prefix keeps its runs
pub record Numbers (old : RunsByPrefix) (prefix : List ℕ) (node : ℕ) (new : RunsByPrefix) : Type 0 where
  pub are : AreRunsByPrefix new
  pub number : number_of new prefix ≡ Some node
  pub runs : (other : List ℕ) → runs_of new other ≡ runs_of old other

abbrev pub HasNoRuns : RunsByPrefix → Type 0
HasNoRuns all = (prefix : List ℕ) → runs_of all prefix ≡ []

-- a run gives the text the code of these bytes, with this rank
pub record GivesText (all : RunsByPrefix) (text : List ℕ) (candidate : Candidate) : Type 0 where
  pub prefix : List ℕ
  pub last : ℕ
  pub is : text ≡ prefix ++ last ∷ []
  pub given : Any (Gives last candidate) (runs_of all prefix)

-- the code that comes count codes after this one, for the text that counts on by as many
pub record IsFurther (its : Text) (first : Ranked) (more : ℕ) (text : List ℕ) (candidate : Candidate) : Type 0 where
  pub count : ℕ
  pub within : count ≤ more
  pub is_text : text ≡ characters_of (text_after its count)
  pub is_code : candidate ≡ candidate_of (ranked_after count first)

-- the codes from this one on for a text and those that count on from it are added
abbrev pub AddsTexts : RunsByPrefix → RunsByPrefix → Text → Ranked → ℕ → Type 0
AddsTexts old new its first more = (text : List ℕ) (candidate : Candidate) → GivesText new text candidate ↔ (GivesText old text candidate ⊎ IsFurther its first more text candidate)

-- the codes from this one on, if there is one, for a character and those after it are added
abbrev pub AddsCharacters : RunsByPrefix → RunsByPrefix → ℕ → Option Ranked → ℕ → Type 0
AddsCharacters old new character first more = (text : List ℕ) (candidate : Candidate) → GivesText new text candidate ↔ (GivesText old text candidate ⊎ MatchOption first ⊥ (λ ranked. IsFurther (one character) ranked more text candidate))
