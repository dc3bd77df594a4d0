-- Private aid: what an index has for each text.
use Rattle.std.specs.Prelude.{◌≡◌, ℕ, ◌-◌, List, [], length, take, Option, MatchOption, option_and_then, slice_get}
use Rattle.std.specs.Global.{Box}
use Rattle.cmap_encode.specs.KeyCodesSeen.{AreFirsts, code_for}
use Rattle.cmap_encode.specs.Maps.{Maps}
use Rattle.cmap_encode.specs.StandsFor.{IsOwn}
use Rattle.cmap_encode.specs.TreeSeen.{node_of}
use Rattle.cmap_encode.specs.declared.key_codes.CodeRun.{CodeRun}
use Rattle.cmap_encode.specs.declared.index.Index.{Index}
use Rattle.cmap_encode.specs.declared.rank.Ranked.{Ranked}

-- for each key the first code that the runs give it, if there are runs
abbrev pub AreFirstsOf : List CodeRun → Option (Box (List CodeRun)) → Type 0
AreFirstsOf runs found = MatchOption found (runs ≡ []) (λ firsts. AreFirsts runs firsts.value)

-- the code of a key
abbrev pub first_in : Option (Box (List CodeRun)) → ℕ → Option Ranked
first_in found key = option_and_then (λ firsts. code_for firsts.value key) found

-- the code that the index has for the text of a node followed by a last character
abbrev pub own_at : Index → Option ℕ → ℕ → Option Ranked
own_at index node last = option_and_then (λ found. first_in found last) (option_and_then (slice_get index.firsts.items) node)

-- and for a last character after the characters before it
abbrev pub own_after : Index → List ℕ → ℕ → Option Ranked
own_after index prefix last = own_at index (node_of index.tree prefix) last

-- and for a text
abbrev pub own_in : Index → List ℕ → Option Ranked
own_in index text = option_and_then (own_after index (take (length text - 1) text)) (slice_get text (length text - 1))

-- the index has, for each text, the first of the codes that stand for the text
abbrev pub IsIndexOf : Maps → Index → Type 0
IsIndexOf maps index = (text : List ℕ) → IsOwn maps text (own_in index text)
