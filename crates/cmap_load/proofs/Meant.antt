-- What the numbers of a graph mean, if its files are the files of answers.
use Rattle.std.proofs.Common.{◌≡◌, refl, sym, ap, subst, ◌∙◌, arith, ℕ, zero, suc, ◌-◌, ◌<◌, false, List, [], ◌∷◌, ◌++◌, length, map, sum, Option, Some, None, inl, inr}
use Rattle.std.specs.Prelude.{All, slice_get}
use Rattle.std.proofs.lemmas.List.{map-append}
use Rattle.std.proofs.lemmas.List.Elements.{All-append, All-cons, All-contains, All-nil, Contains-append_right}
use Rattle.std.proofs.lemmas.Option.{slice_get_cases, slice_get_within}
use Rattle.cmap_values.specs.Files.{File}
use Rattle.cmap_binary.specs.Bundles.{PrefixTables}
use Rattle.cmap_load.specs.Budgets.{IsOver, OpensEach, OpensUse}
use Rattle.cmap_load.specs.BytesSpent.{Leaves}
use Rattle.cmap_load.specs.Graphs.{AreNamed, EachWhole, IsAwaiting, IsFileOf, IsGraph, IsOverBudget, IsTooLong, IsWithin, Leads, LeadsToUse, Uses, Whole}
use Rattle.cmap_load.specs.Loading as loading
use Rattle.cmap_load.specs.Loading.{Answer, IsAnswered, IsRefusal, IsWanted, LeadsToAnswer, MeansOnly, OfBytes, OpensOnly, bytes_at, first_answer}
use Rattle.cmap_load.specs.Numbers.{text_at}
use Rattle.cmap_load.specs.Tables.{IsTable, Shows, file_of}
use Rattle.cmap_load.specs.declared.graph.Graph.{Graph}
use Rattle.cmap_load.specs.declared.graph.Node.{Node}
use Rattle.cmap_load.specs.declared.graph.step.Wanted.{Wanted}
use Rattle.cmap_load.specs.declared.refusal.Cause.TheVariants.{ChainLength, OverBudget}
use Rattle.cmap_load.specs.declared.table.Table.{Table}
use Rattle.cmap_load.proofs.Growing.{answer_front, bytes_at_front, bytes_at_within}
use Rattle.cmap_load.proofs.Leading.{leads_down, leads_first, leads_to_answer, no_room, over_here, wanted}

-- what holds of bytes that are there
pub of_bytes : (given : Option (List ℕ)) (P : List ℕ → Type 0) → OfBytes given P → (bytes : List ℕ) → given ≡ Some bytes → P bytes
of_bytes given P (other, there, h) bytes is = let e : Some other ≡ Some bytes = sym there ∙ is in let same : other ≡ bytes = cc in subst P same h

-- a node is the file of an answer
abbrev IsMeant : Option PrefixTables → (ℕ → List ℕ) → Node → List ℕ → Type 0
IsMeant tables text node bytes = (length bytes ≡ node.length) × ((file : File) × MeansOnly tables bytes file × (file.uses ≡ map text node.uses.items))

-- the files of a graph are files of these answers
pub record AreMeant (tables : Option PrefixTables) (answers : List Answer) (text : ℕ → List ℕ) (graph : Graph) : Type 0 where
  pub files : (i : ℕ) (node : Node) → slice_get graph.nodes.items i ≡ Some node → OfBytes (bytes_at answers i) (IsMeant tables text node)
  pub found : (name i : ℕ) → IsFileOf graph name i → first_answer answers (text name) ≡ Some (bytes_at answers i)

pub meant : (tables : Option PrefixTables) (answers : List Answer) (texts : List (List ℕ)) (table : Table) → IsTable table → Shows tables answers texts table → AreMeant tables answers (text_at texts) table.graph
meant tables answers texts table is shows = record {
  files = λ i node there. elim (slice_get_cases table.contents.items i).1 [
    | inl (contents, within, got, _) ↦ (let (bytes, at, holds) = shows.files i node contents there got in (bytes, at, (holds.0, (file_of contents (map (text_at texts) node.uses.items), holds.1, refl))))
    | inr (past, _) ↦ (let lt = slice_get_within table.graph.nodes.items i node there in let all = is.contents in absurd (omega (arith, lt, past, all)))
  ];
  found = shows.found;
}

-- by further answers too
pub meant_more : (tables : Option PrefixTables) (answers more : List Answer) (text : ℕ → List ℕ) (graph : Graph) → ((name i : ℕ) → IsFileOf graph name i → i < length answers) → AreMeant tables answers text graph → AreMeant tables (answers ++ more) text graph
meant_more tables answers more text graph known are = record {
  files = λ i node there. let (bytes, at, is) = are.files i node there in (bytes, bytes_at_front answers more i bytes at, is);
  found = λ name i file. answer_front answers more (text name) (bytes_at answers i) (are.found name i file) ∙ ap Some (sym (bytes_at_within answers more i (known name i file)));
}

module _ (tables : Option PrefixTables) (answers : List Answer) (text : ℕ → List ℕ) (graph : Graph) (are : AreMeant tables answers text graph) where
  -- ---- files that are whole
  use_means : (room name i : ℕ) (bytes lengths : List ℕ) → IsFileOf graph name i → bytes_at answers i ≡ Some bytes → OpensOnly tables (IsAnswered answers) room bytes (lengths, false) → OpensUse (IsAnswered answers) (OpensOnly tables (IsAnswered answers) room) room (text name) (lengths, false)
  use_means zero name i bytes lengths file there opened = absurd opened
  use_means (suc room) name i bytes lengths file there opened = inr (bytes, are.found name i file ∙ ap Some there, opened)

  each_means : (room : ℕ) → ((i : ℕ) (lengths bytes : List ℕ) → Whole graph room i lengths → bytes_at answers i ≡ Some bytes → OpensOnly tables (IsAnswered answers) room bytes (lengths, false)) → ((i : ℕ) (lengths : List ℕ) → Whole graph room i lengths → OfBytes (bytes_at answers i) (λ b. Unit {0}))
      → (names lengths : List ℕ) → EachWhole graph (Whole graph room) names lengths → OpensEach (OpensUse (IsAnswered answers) (OpensOnly tables (IsAnswered answers) room) room) (map text names) (lengths, false)
  each_means room opens has [] lengths h = ap (λ (l : List ℕ). (l, false)) h
  each_means room opens has (name ∷ names) lengths (i, first, rest, file, whole, more, same) =
      let (bytes, there, _) = has i first whole in
      inr (first, (rest, false), use_means room name i bytes first file there (opens i first bytes whole there), each_means room opens has names rest more, ap (λ (l : List ℕ). (l, false)) same)

  has_bytes : (most i : ℕ) (lengths : List ℕ) → Whole graph most i lengths → OfBytes (bytes_at answers i) (λ b. Unit {0})
  has_bytes zero i lengths h = absurd h
  has_bytes (suc most) i lengths (node, rest, there, each, same) = let (bytes, at, _) = are.files i node there in (bytes, at, tt)

  pub whole_means : (most i : ℕ) (lengths bytes : List ℕ) → Whole graph most i lengths → bytes_at answers i ≡ Some bytes → OpensOnly tables (IsAnswered answers) most bytes (lengths, false)
  whole_means zero i lengths bytes h there = absurd h
  whole_means (suc most) i lengths bytes (node, rest, has, each, same) there =
      let (long, (file, only, uses)) = of_bytes (bytes_at answers i) (IsMeant tables text node) (are.files i node has) bytes there in
      let opened = each_means most (whole_means most) (has_bytes most) node.uses.items rest each in
      inr (file, (rest, false), only, subst (λ u. OpensEach (OpensUse (IsAnswered answers) (OpensOnly tables (IsAnswered answers) most) most) u (rest, false)) (sym uses) opened, ap (λ (l : List ℕ). (l, false)) (same ∙ ap (λ n. n ∷ rest) (sym long)))

  uses_means : (room i name : ℕ) (lengths bytes : List ℕ) → Uses graph room i name lengths → bytes_at answers i ≡ Some bytes → loading.Uses tables answers room bytes (text name) lengths
  uses_means room i name lengths bytes uses there =
      let (long, (file, only, are_uses)) = of_bytes (bytes_at answers i) (IsMeant tables text uses.node) (are.files i uses.node uses.there) bytes there in
      record {
        file = file;
        only = only;
        before = map text uses.before;
        after = map text uses.after;
        split = are_uses ∙ ap (map text) uses.split ∙ map-append text uses.before (name ∷ uses.after);
        whole = record { opened = each_means room (whole_means room) (has_bytes room) uses.before lengths uses.whole.opened };
      }

  -- ---- the way from the first file
  module _ (budget : Option ℕ) (is_budget : graph.budget ≡ budget) (first : List ℕ) (begin : bytes_at answers 0 ≡ Some first) where
    abbrev leads_there : (most : ℕ) (names : List (List ℕ)) (left : Option ℕ) (bytes : List ℕ) → Type 0
    leads_there most names left bytes = loading.Leads tables answers budget first most names left bytes

    -- a use on the way
    record IsUse (n : ℕ) (names : List ℕ) (left : Option ℕ) (name : ℕ) : Type 0 where
      others : List ℕ
      old : Option ℕ
      bytes : List ℕ
      lengths : List ℕ
      leading : leads_there (16 - n) (map text others) old bytes
      uses : loading.Uses tables answers (16 - n - 1) bytes (text name) lengths
      leaves : Leaves old (sum (length bytes ∷ lengths)) left
      names_are : map text names ≡ map text others ++ text name ∷ []

    use_of : (n : ℕ) → n < 16 → ((names : List ℕ) (left : Option ℕ) (i : ℕ) (bytes : List ℕ) → Leads graph n names left i → bytes_at answers i ≡ Some bytes → leads_there (16 - n) (map text names) left bytes)
        → (names : List ℕ) (left : Option ℕ) (name : ℕ) → LeadsToUse graph (Leads graph n) (15 - n) names left name → IsUse n names left name
    use_of n less means names left name to =
        let (bytes, there, (long, _)) = are.files to.at to.uses.node to.uses.there in
        let room : 15 - n ≡ 16 - n - 1 = omega (arith, less) in
        record {
          others = to.others;
          old = to.old;
          bytes = bytes;
          lengths = to.lengths;
          leading = means to.others to.old to.at bytes to.leading there;
          uses = subst (λ r. loading.Uses tables answers r bytes (text name) to.lengths) room (uses_means (15 - n) to.at name to.lengths bytes to.uses there);
          leaves = subst (λ count. Leaves to.old (sum (count ∷ to.lengths)) left) (sym long) to.leaves;
          names_are = ap (map text) to.names_are ∙ map-append text to.others (name ∷ []);
        }

    leads_means : (n : ℕ) → n < 16 → (names : List ℕ) (left : Option ℕ) (i : ℕ) (bytes : List ℕ) → Leads graph n names left i → bytes_at answers i ≡ Some bytes → leads_there (16 - n) (map text names) left bytes
    leads_means zero less names left i bytes (none, is_left, top) there =
        let at_top : bytes_at answers 0 ≡ Some bytes = ap (bytes_at answers) (sym top) ∙ there in
        let e : Some first ≡ Some bytes = sym begin ∙ at_top in
        let same : first ≡ bytes = cc in
        subst (λ l. leads_there 16 (map text l) left bytes) (sym none)
        (subst (λ l. leads_there 16 [] l bytes) (sym (is_left ∙ is_budget))
        (subst (λ b. leads_there 16 [] budget b) same (leads_first tables answers budget first)))
    leads_means (suc n) less names left i bytes (name, to, file) there =
        let low : n < 16 = omega (arith, less) in
        let used = use_of n low (leads_means n low) names left name to in
        let more : 1 < 16 - n = omega (arith, less) in
        let down : 16 - n - 1 ≡ 16 - suc n = omega (arith, less) in
        subst (λ m. leads_there m (map text names) left bytes) down
        (subst (λ l. leads_there (16 - n - 1) l left bytes) (sym used.names_are)
        (leads_down tables answers budget first (16 - n) (map text used.others) used.old used.bytes used.leading (text name) used.lengths used.uses left used.leaves bytes more (are.found name i file ∙ ap Some there)))

    -- ---- what was found
    pub within_means : IsWithin graph → loading.IsWithin tables answers budget first
    within_means within = record {
      lengths = within.lengths;
      whole = record { opened = whole_means 16 0 within.lengths first within.whole.opened begin };
      within = λ over. within.within (subst (λ b. IsOver b (sum within.lengths)) (sym is_budget) over);
    }

    pub too_long_means : (names : List ℕ) → IsTooLong graph names → IsRefusal tables answers budget first (map text names) ChainLength
    too_long_means names is =
        let low : 15 < 16 = omega arith in
        let used = use_of 15 low (leads_means 15 low) names is.left is.name is.leads in
        subst (λ l. IsRefusal tables answers budget first l ChainLength) (sym used.names_are)
        (no_room tables answers budget first 1 (map text used.others) used.old used.bytes used.leading (text is.name) used.lengths used.uses is.left used.leaves refl)

    pub over_means : (names : List ℕ) → IsOverBudget graph names → IsRefusal tables answers budget first (map text names) OverBudget
    over_means names is =
        let (bytes, there, (long, _)) = are.files is.i is.many.node is.many.there in
        over_here tables answers budget first (16 - is.n) (map text names) is.left bytes (leads_means is.n is.less names is.left is.i bytes is.leads there) (subst (IsOver is.left) (sym long) is.many.over)

    pub awaiting_means : (wanted : Wanted) (answer : Option (List ℕ)) → IsAwaiting graph wanted → IsAnswered answers (text wanted.name) answer → LeadsToAnswer tables answers budget first (map text wanted.names.items) wanted.left answer
    awaiting_means wanted answer is said =
        let n = is.n in let less = is.less in
        let low : n < 16 = omega (arith, less) in
        let used = use_of n low (leads_means n low) wanted.names.items wanted.left wanted.name is.leads in
        let more : 1 < 16 - n = omega (arith, less) in
        subst (λ l. LeadsToAnswer tables answers budget first l wanted.left answer) (sym used.names_are)
        (leads_to_answer tables answers budget first (16 - n) (map text used.others) used.old used.bytes used.leading (text wanted.name) used.lengths used.uses wanted.left used.leaves answer more said)

  -- a file of an answer uses the wanted name
  pub wanted_means : (wanted_file : Wanted) → IsAwaiting graph wanted_file → first_answer answers (text wanted_file.name) ≡ None → length answers ≡ length graph.nodes.items → IsWanted tables answers (text wanted_file.name)
  wanted_means wanted_file is none long =
      let to = is.leads in
      let (bytes, there, _) = are.files to.at to.uses.node to.uses.there in
      let lt = slice_get_within graph.nodes.items to.at to.uses.node to.uses.there in
      wanted tables answers to.at (15 - is.n) bytes (text wanted_file.name) to.lengths (omega (arith, lt, long)) there (uses_means (15 - is.n) to.at wanted_file.name to.lengths bytes to.uses there) none

-- ---- names that lead to a file have numbers
module _ (graph : Graph) (is : IsGraph graph) where
  use_named : (leads : List ℕ → Option ℕ → ℕ → Type 0) → ((names : List ℕ) (left : Option ℕ) (i : ℕ) → leads names left i → AreNamed graph names) → (room : ℕ) (names : List ℕ) (left : Option ℕ) (name : ℕ) → LeadsToUse graph leads room names left name → AreNamed graph names
  use_named leads are room names left name to =
      let used = is.named to.at to.uses.node to.uses.there in
      let here : All (λ n. n < length graph.found.items) (to.uses.before ++ name ∷ to.uses.after) = subst (AreNamed graph) to.uses.split used in
      let within : name < length graph.found.items = All-contains (λ n. n < length graph.found.items) (to.uses.before ++ name ∷ to.uses.after) name here (Contains-append_right to.uses.before (name ∷ to.uses.after) name (0, omega arith, refl)) in
      subst (AreNamed graph) (sym to.names_are) (All-append (λ n. n < length graph.found.items) to.others (name ∷ []) (are to.others to.old to.at to.leading) (All-cons (λ n. n < length graph.found.items) name [] within (All-nil (λ n. n < length graph.found.items))))

  pub leads_named : (n : ℕ) (names : List ℕ) (left : Option ℕ) (i : ℕ) → Leads graph n names left i → AreNamed graph names
  leads_named zero names left i (none, _, _) = subst (AreNamed graph) (sym none) (All-nil (λ n. n < length graph.found.items))
  leads_named (suc n) names left i (name, to, file) = use_named (Leads graph n) (leads_named n) (15 - n) names left name to

  pub to_use_named : (n room : ℕ) (names : List ℕ) (left : Option ℕ) (name : ℕ) → LeadsToUse graph (Leads graph n) room names left name → AreNamed graph names
  to_use_named n room names left name to = use_named (Leads graph n) (leads_named n) room names left name to
