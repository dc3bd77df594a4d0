-- Private aid: how the pieces of the last characters of a text begin.
use Rattle.std.specs.Prelude.{◌≡◌, ℕ, ◌+◌, ◌-◌, ◌<◌, ◌≤◌, IfSome, List, MatchOption, Option, Some, drop, length, slice_get, take, take_while}
use Rattle.cmap_encode.specs.ChoicesSeen.{choice_seen}
use Rattle.cmap_encode.specs.Letters.{is_mark}
use Rattle.cmap_encode.specs.Pieces.{BeginsWith, Choices, IsEncodable, MayBegin}
use Rattle.cmap_encode.specs.declared.ways.Way.{Way}

-- the last characters of a text
abbrev pub last_of : ℕ → List ℕ → List ℕ
last_of left text = drop (length text - left) text

-- the number of marks at the start of a text
abbrev pub marks_of : List ℕ → ℕ
marks_of text = length (take_while is_mark text)

-- it is the first piece of the text
pub record IsWay (choices : Choices) (text : List ℕ) (way : Way) : Type 0 where
  pub begins : BeginsWith choices text way.taken
  pub chosen : choices (take way.taken text) ≡ Some (choice_seen way.choice)

abbrev pub IsWayOf : Choices → List ℕ → Option Way → Type 0
IsWayOf choices text way = MatchOption way (IsEncodable choices text → ⊥) (IsWay choices text)

-- the ways of the last characters of a text: of the last one, of the last two, and so on
pub record AreWays (choices : Choices) (text : List ℕ) (ways : List (Option Way)) : Type 0 where
  pub few : length ways ≤ length text
  pub each : (k : ℕ) → k < length ways → IfSome (slice_get ways k) (IsWayOf choices (last_of (k + 1) text))

-- it may be the first piece of the text
pub record IsTry (choices : Choices) (text : List ℕ) (way : Way) : Type 0 where
  pub may : MayBegin choices text way.taken
  pub chosen : choices (take way.taken text) ≡ Some (choice_seen way.choice)

-- the piece of taken characters, if it may be the first
abbrev pub IsTryOf : Choices → List ℕ → ℕ → Option Way → Type 0
IsTryOf choices text taken way = MatchOption way (MayBegin choices text taken → ⊥) (λ way. (way.taken ≡ taken) × IsTry choices text way)

-- the piece lies within the letter, and longer ones don't
abbrev pub IsSettled : Option Way → ℕ → ℕ → Type 0
IsSettled best taken letter = MatchOption best ⊥ (λ way. (way.taken ≤ letter) × (letter < taken))

-- a way takes a character, and no more than there are
abbrev pub IsInside : Way → ℕ → Type 0
IsInside way most = (1 ≤ way.taken) × (way.taken ≤ most)

abbrev pub AreInside : List (Option Way) → Type 0
AreInside ways = (k : ℕ) → k < length ways → IfSome (slice_get ways k) (λ way. IfSome way (λ w. IsInside w (k + 1)))
