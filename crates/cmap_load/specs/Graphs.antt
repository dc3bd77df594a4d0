-- Private aid: files that use each other, by numbers, and what is known of them.
use Rattle.std.specs.Prelude.{◌≡◌, ℕ, zero, suc, ◌-◌, ◌<◌, ◌≤◌, ◌⊎◌, List, [], ◌∷◌, ◌++◌, All, length, sum, take, Option, Some, None, slice_get, slice_index}
use Rattle.cmap_load.specs.Budgets.{IsOver}
use Rattle.cmap_load.specs.BytesSpent.{Leaves}
use Rattle.cmap_load.specs.Loading.{IsCost, IsLeft}
use Rattle.cmap_load.specs.declared.graph.Graph.{Graph}
use Rattle.cmap_load.specs.declared.graph.Node.{Node}
use Rattle.cmap_load.specs.declared.graph.step.FirstUses.{FirstUses}
use Rattle.cmap_load.specs.declared.graph.step.Stuck.{Stuck}
use Rattle.cmap_load.specs.declared.graph.step.Wanted.{Wanted}
use Rattle.cmap_load.specs.declared.graph.step.Passed.{Passed}
use Rattle.cmap_load.specs.declared.graph.step.Passed.TheVariants as passed
use Rattle.cmap_load.specs.declared.graph.step.Look.{Look}
use Rattle.cmap_load.specs.declared.graph.step.Look.TheVariants as look
use Rattle.cmap_load.specs.declared.graph.step.Step.{Step}
use Rattle.cmap_load.specs.declared.graph.step.Step.TheVariants as step
use Rattle.cmap_load.specs.declared.graph.step.Next.{Next}
use Rattle.cmap_load.specs.declared.graph.step.Next.TheVariants as next

module _ (graph : Graph) where
  -- ---- files that are whole
  -- a name has the file at this index
  abbrev pub IsFileOf : ℕ → ℕ → Type 0
  IsFileOf name i = slice_get graph.found.items name ≡ Some (Some i)

  -- names are opened whole, one after another: these are the lengths of the files
  abbrev pub EachWhole : (ℕ → List ℕ → Type 0) → List ℕ → List ℕ → Type 0
  EachWhole whole [] lengths = lengths ≡ []
  EachWhole whole (name ∷ names) lengths = (i : ℕ) × (first rest : List ℕ) × IsFileOf name i × whole i first × EachWhole whole names rest × (lengths ≡ first ++ rest)

  -- a file is opened whole, with all that it uses; at most so many files stand in a chain
  abbrev pub Whole : ℕ → ℕ → List ℕ → Type 0
  Whole zero i lengths = ⊥
  Whole (suc most) i lengths = (node : Node) × (rest : List ℕ) × (slice_get graph.nodes.items i ≡ Some node) × EachWhole (Whole most) node.uses.items rest × (lengths ≡ node.length ∷ rest)

  pub record IsWhole (most i : ℕ) (lengths : List ℕ) : Type 0 where
    pub opened : Whole most i lengths

  pub record AreWhole (room : ℕ) (uses lengths : List ℕ) : Type 0 where
    pub opened : EachWhole (Whole room) uses lengths

  -- a file is whole, and costs this
  pub record Costs (height cost i : ℕ) : Type 0 where
    pub lengths : List ℕ
    pub whole : IsWhole height i lengths
    pub costs : IsCost graph.budget (sum lengths) cost

  -- the first of these uses are whole
  pub record HasFirst (uses : List ℕ) (first : FirstUses) : Type 0 where
    pub within : first.count ≤ length uses
    pub lengths : List ℕ
    pub whole : AreWhole first.highest (take first.count uses) lengths
    pub costs : IsCost graph.budget (sum lengths) first.cost

  -- these names have a number
  abbrev pub AreNamed : List ℕ → Type 0
  AreNamed names = All (λ name. name < length graph.found.items) names

  -- the entries of a graph are right
  pub record IsGraph : Type 0 where
    pub heights : length graph.heights.items ≡ length graph.nodes.items
    pub costs : length graph.costs.items ≡ length graph.nodes.items
    pub firsts : length graph.firsts.items ≡ length graph.nodes.items
    pub named : (i : ℕ) (node : Node) → slice_get graph.nodes.items i ≡ Some node → AreNamed node.uses.items
    pub known : (name i : ℕ) → IsFileOf name i → i < length graph.nodes.items
    pub high : (i : ℕ) → i < length graph.nodes.items → slice_index graph.heights.items i ≤ 16 → Costs (slice_index graph.heights.items i) (slice_index graph.costs.items i) i
    pub begun : (i : ℕ) (node : Node) (first : FirstUses) → slice_get graph.nodes.items i ≡ Some node → slice_get graph.firsts.items i ≡ Some first → HasFirst node.uses.items first

  -- there is a top file, and it isn't known to be whole
  pub record IsBegun : Type 0 where
    pub some : 0 < length graph.nodes.items
    pub high : 16 < slice_index graph.heights.items 0

  -- ---- uses that are passed over
  -- as far as is known, the file at this index makes the chain too long, or exceeds the budget
  abbrev pub HasNoRoom : ℕ → Option ℕ → ℕ → Type 0
  HasNoRoom room left i = (room < slice_index graph.heights.items i) ⊎ IsOver left (slice_index graph.costs.items i)

  abbrev pub IsStuck : ℕ → Option ℕ → Option ℕ → Type 0
  IsStuck room left None = Unit {0}
  IsStuck room left (Some i) = HasNoRoom room left i

  -- a file is whole, and its bytes are spent
  pub record IsSpent (height i : ℕ) (old new : Option ℕ) : Type 0 where
    pub lengths : List ℕ
    pub whole : IsWhole height i lengths
    pub leaves : Leaves old (sum lengths) new

  abbrev pub IsPassedOver : Option ℕ → ℕ → Option ℕ → Option ℕ → Type 0
  IsPassedOver None height old new = ⊥
  IsPassedOver (Some i) height old new = IsSpent height i old new

  -- uses are whole, and their bytes are spent
  pub record ArePassed (room : ℕ) (uses : List ℕ) (old new : Option ℕ) : Type 0 where
    pub lengths : List ℕ
    pub whole : AreWhole room uses lengths
    pub leaves : Leaves old (sum lengths) new

  -- the first of these uses, with at most this many files in their chains, and the rest of the budget after them
  pub record AreFirst (room : ℕ) (uses : List ℕ) (old new : Option ℕ) (first : FirstUses) : Type 0 where
    pub within : first.count ≤ length uses
    pub high : first.highest ≤ room
    pub passed : ArePassed first.highest (take first.count uses) old new

  -- the first of these uses that isn't passed over
  pub record IsStuckAt (room : ℕ) (uses : List ℕ) (old : Option ℕ) (stuck : Stuck) : Type 0 where
    pub before : List ℕ
    pub after : List ℕ
    pub split : uses ≡ before ++ stuck.name ∷ after
    pub count : stuck.before.count ≡ length before
    pub high : stuck.before.highest ≤ room
    pub passed : ArePassed stuck.before.highest before old stuck.left
    pub cost : (count : ℕ) → Leaves old count stuck.left → IsCost old count stuck.before.cost
    pub found : slice_get graph.found.items stuck.name ≡ Some stuck.found
    pub has_none : IsStuck room stuck.left stuck.found

  abbrev pub IsPassed : ℕ → Option ℕ → List ℕ → Passed → Type 0
  IsPassed room left uses (passed.All highest after) = (highest ≤ room) × ArePassed highest uses left after
  IsPassed room left uses (passed.Stuck stuck) = IsStuckAt room uses left stuck

  -- ---- a file
  -- the file at this index uses this name, after other uses that are whole; at most this many files may stand in a chain under the file
  pub record Uses (room i name : ℕ) (lengths : List ℕ) : Type 0 where
    pub node : Node
    pub there : slice_get graph.nodes.items i ≡ Some node
    pub before : List ℕ
    pub after : List ℕ
    pub split : node.uses.items ≡ before ++ name ∷ after
    pub whole : AreWhole room before lengths

  -- the file at this index has a use that isn't passed over
  pub record HasStuck (room i : ℕ) (old : Option ℕ) (stuck : Stuck) : Type 0 where
    pub lengths : List ℕ
    pub uses : Uses room i stuck.name lengths
    pub first : HasFirst uses.node.uses.items stuck.before
    pub leaves : Leaves old (sum (uses.node.length ∷ lengths)) stuck.left
    pub found : slice_get graph.found.items stuck.name ≡ Some stuck.found
    pub has_none : IsStuck room stuck.left stuck.found

  -- the file at this index has more bytes than are left of the budget
  pub record HasTooMany (i : ℕ) (left : Option ℕ) : Type 0 where
    pub node : Node
    pub there : slice_get graph.nodes.items i ≡ Some node
    pub over : IsOver left node.length

  -- the look at a file; at most this many files may stand in its chain, the file itself counted
  abbrev pub IsLook : ℕ → Option ℕ → ℕ → Look → Type 0
  IsLook most left i (look.Whole height after) = (height ≤ most) × IsSpent height i left after
  IsLook most left i look.OverBudget = HasTooMany i left
  IsLook most left i (look.Stuck stuck) = HasStuck (most - 1) i left stuck

  -- ---- the way from the top file
  -- the names lead to a use of this name; the files that are opened before the file of the name leave this rest of the budget
  pub record LeadsToUse (leads : List ℕ → Option ℕ → ℕ → Type 0) (room : ℕ) (names : List ℕ) (left : Option ℕ) (name : ℕ) : Type 0 where
    pub others : List ℕ
    pub old : Option ℕ
    pub at : ℕ
    pub lengths : List ℕ
    pub leading : leads others old at
    pub uses : Uses room at name lengths
    pub leaves : Leaves old (sum (uses.node.length ∷ lengths)) left
    pub names_are : names ≡ others ++ name ∷ []

  -- so many names lead from the top file to the file at this index
  abbrev pub Leads : ℕ → List ℕ → Option ℕ → ℕ → Type 0
  Leads zero names left i = (names ≡ []) × (left ≡ graph.budget) × (i ≡ 0)
  Leads (suc n) names left i = (name : ℕ) × LeadsToUse (Leads n) (15 - n) names left name × IsFileOf name i

  -- the files that are opened for the top file are within the budget
  pub record IsWithin : Type 0 where
    pub lengths : List ℕ
    pub whole : IsWhole 16 0 lengths
    pub within : IsOver graph.budget (sum lengths) → ⊥

  -- the names lead to a use without a file
  pub record IsAwaiting (wanted : Wanted) : Type 0 where
    pub n : ℕ
    pub less : n < 15
    pub leads : LeadsToUse (Leads n) (15 - n) wanted.names.items wanted.left wanted.name
    pub left : IsLeft graph.budget wanted.left
    pub new : slice_get graph.found.items wanted.name ≡ Some None

  -- the names lead to a use that makes the chain too long
  pub record IsTooLong (names : List ℕ) : Type 0 where
    pub left : Option ℕ
    pub name : ℕ
    pub leads : LeadsToUse (Leads 15) 0 names left name

  -- the names lead to the first file that exceeds the budget
  pub record IsOverBudget (names : List ℕ) : Type 0 where
    pub n : ℕ
    pub less : n < 16
    pub left : Option ℕ
    pub i : ℕ
    pub leads : Leads n names left i
    pub many : HasTooMany i left

  abbrev pub IsStep : Step → Type 0
  IsStep (step.Whole i height cost) = (i < length graph.nodes.items) × (height ≤ 16) × (height < slice_index graph.heights.items i) × Costs height cost i × ((i ≡ 0) → IsWithin)
  IsStep (step.Wanted i first wanted) = (i < length graph.nodes.items) × ((node : Node) → slice_get graph.nodes.items i ≡ Some node → HasFirst node.uses.items first) × IsAwaiting wanted
  IsStep (step.TooLong names) = IsTooLong names.items
  IsStep (step.OverBudget names) = IsOverBudget names.items

  abbrev pub IsNext : Next → Type 0
  IsNext next.Whole = IsWithin
  IsNext (next.Wanted wanted) = IsAwaiting wanted
  IsNext (next.TooLong names) = IsTooLong names.items
  IsNext (next.OverBudget names) = IsOverBudget names.items

-- ---- a graph that grows
-- there may be more names without files, and nothing else is new
pub record IsKept (old new : Graph) : Type 0 where
  pub budget : new.budget ≡ old.budget
  pub names : length old.found.items ≤ length new.found.items
  pub found : (name : ℕ) (file : Option ℕ) → slice_get old.found.items name ≡ Some file → slice_get new.found.items name ≡ Some file
  pub back : (name i : ℕ) → IsFileOf new name i → IsFileOf old name i
  pub nodes : new.nodes.items ≡ old.nodes.items
  pub heights : new.heights.items ≡ old.heights.items
  pub costs : new.costs.items ≡ old.costs.items
  pub firsts : new.firsts.items ≡ old.firsts.items
