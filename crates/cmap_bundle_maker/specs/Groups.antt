-- Private aid: groups in two queues: groups of one number each, and joined groups.
use Rattle.std.specs.Prelude.{◌≡◌, ◌⊎◌, Bool, true, false, ◌+◌, ◌*◌, ◌≤◌, ◌<◌, ◌^◌, List, [], ◌∷◌, All, Option, Some, None, get_or, length, sum_by}
use Rattle.cmap_bundle_maker.specs.Huffman.{Group, behind}

-- each group occurs at most as often as the later groups
abbrev pub AreRising : List Group → Type 0
AreRising [] = Unit {0}
AreRising (g ∷ groups) = All (λ h. g.times ≤ h.times) groups × AreRising groups

-- the groups of both queues, the rarest first
abbrev pub merged : List Group → List Group → List Group
merged alone [] = alone
merged alone (g ∷ joined) = merged (behind g alone) joined

-- each word has fewer bits than the group has words
abbrev pub IsSized : Group → Type 0
IsSized g = (0 < length g.words) × All (λ w. w.len < length g.words) g.words

-- no joined group occurs more than twice as often as another group
abbrev pub ComesAtMostTwice : Group → List Group → Type 0
ComesAtMostTwice j groups = All (λ g. j.times ≤ 2 * g.times) groups

pub record AreQueues (alone joined : List Group) : Type 0 where
  pub rise_alone : AreRising alone
  pub rise_joined : AreRising joined
  pub twice_alone : All (λ j. ComesAtMostTwice j alone) joined
  pub twice_joined : All (λ j. ComesAtMostTwice j joined) joined
  pub few : sum_by (λ g. g.times) alone + sum_by (λ g. g.times) joined < 2 ^ 64
  pub sized_alone : All IsSized alone
  pub sized_joined : All IsSized joined

-- the rarest group leaves its queue; of equally frequent groups, a group that wasn't joined
abbrev pub TakesRarest : List Group → List Group → Option Group → List Group → List Group → Type 0
TakesRarest alone joined None now left = (alone ≡ []) × (joined ≡ [])
TakesRarest alone joined (Some g) now left =
    ((alone ≡ g ∷ now) × (joined ≡ left) × ((d : Group) → 0 < length joined → g.times ≤ (get_or joined 0 d).times))
    ⊎ ((joined ≡ g ∷ left) × (alone ≡ now) × ((d : Group) → 0 < length alone → g.times < (get_or alone 0 d).times))

-- the next group is the first joined group, or else the first group of one number
abbrev pub IsJoinedNext : List Group → List Group → Bool → Type 0
IsJoinedNext alone joined true = (d : Group) → 0 < length alone → (0 < length joined) × ((get_or joined 0 d).times < (get_or alone 0 d).times)
IsJoinedNext alone joined false = (0 < length alone) × ((d : Group) → 0 < length joined → (get_or alone 0 d).times ≤ (get_or joined 0 d).times)
