-- An answer that a loader awaits, and what follows it.
use Rattle.std.proofs.Common.{◌≡◌, refl, sym, ap, subst, ◌∙◌, arith, ℕ, ◌-◌, ◌<◌, List, [], ◌∷◌, ◌++◌, length, map, Option, Some, None}
use Rattle.std.specs.Prelude.{option_map, slice_get}
use Rattle.std.proofs.lemmas.Option.{slice_get_within}
use Rattle.cmap_values.specs.FilesSeen.{file_seen}
use Rattle.cmap_values.specs.declared.file.File as parsed
use Rattle.cmap_binary.specs.Bundles.{PrefixTables}
use Rattle.cmap_load.specs.Graphs.{AreNamed, IsAwaiting, IsBegun, IsGraph, IsNext}
use Rattle.cmap_load.specs.Loading as loading
use Rattle.cmap_load.specs.Loading.{Answer, FailsToOpen, IsOpened, IsWanted, MeansOnly, OfBytes, bytes_at, first_answer}
use Rattle.cmap_load.specs.Loads.{Follows, IsReady, IsRefused, LeadsToNext, NextIs, answer_to, wanted_by}
use Rattle.cmap_load.specs.Numbers.{IsMore, text_at}
use Rattle.cmap_load.specs.Tables.{Grows, HasTexts, IsAdded, IsEmpty, IsNew, IsTable, Shows, file_of}
use Rattle.cmap_load.specs.declared.graph.Graph.{Graph}
use Rattle.cmap_load.specs.declared.graph.Node.{Node}
use Rattle.cmap_load.specs.declared.graph.step.Next.{Next}
use Rattle.cmap_load.specs.declared.graph.step.Next.TheVariants as next
use Rattle.cmap_load.specs.declared.graph.step.Wanted.{Wanted}
use Rattle.cmap_load.specs.declared.loader.State.{State}
use Rattle.cmap_load.specs.declared.loader.State.TheVariants as state
use Rattle.cmap_load.specs.declared.refusal.Cause.{Cause}
use Rattle.cmap_load.specs.declared.table.Contents.{Contents}
use Rattle.cmap_load.specs.declared.table.Table.{Table}
use Rattle.cmap_load.proofs.GraphGrowing.{IsAwaiting-kept, IsBegun-kept}
use Rattle.cmap_load.proofs.Growing.{answer_last, bytes_at_front}
use Rattle.cmap_load.proofs.Leading.{leads_first, refusal}
use Rattle.cmap_load.proofs.Meant.{awaiting_means, leads_named, meant, meant_more, over_means, to_use_named, too_long_means, wanted_means}
use Rattle.cmap_load.proofs.Numbered.{text_at-still}
use Rattle.cmap_load.proofs.Shown.{Shows-grows, Shows-pushed}

-- ---- aids
nothing_in : {A : Type 0} (items : List A) → length items ≡ 0 → items ≡ []
nothing_in [] none = refl
nothing_in (item ∷ items) none = absurd (omega (arith, none))

some_node : (nodes : List Node) → 0 < length nodes → (node : Node) × (slice_get nodes 0 ≡ Some node)
some_node [] some = absurd (omega (arith, some))
some_node (node ∷ nodes) some = (node, refl)

nothing_at : {A : Type 0} (items : List A) (i : ℕ) (x : A) → items ≡ [] → slice_get items i ≡ Some x → ⊥
nothing_at [] i x none there = absurd (cc)
nothing_at (y ∷ items) i x none there = absurd (cc)

-- a name without a file stays one, and keeps its text
new_still : (old new : Graph) (name : Option ℕ) → ((name : ℕ) (file : Option ℕ) → slice_get old.found.items name ≡ Some file → slice_get new.found.items name ≡ Some file) → IsNew old name → IsNew new name
new_still old new None kept is = tt
new_still old new (Some name) kept is = kept name None is

name_still : (before after : List (List ℕ)) (old : Graph) (name : Option ℕ) → HasTexts before old → IsMore before after → IsNew old name → option_map (text_at after) name ≡ option_map (text_at before) name
name_still before after old None has more is_new = refl
name_still before after old (Some name) has more is_new =
    let lt = slice_get_within old.found.items name None is_new in let long = has.long in
    ap Some (ap (λ t. text_at t name) more.1 ∙ text_at-still before more.0 name (omega (arith, lt, long)))

-- ---- before the first answer
module _ (budget : Option ℕ) (texts : List (List ℕ)) (none : texts ≡ []) (table : Table) (is : IsEmpty budget table) where
  pub HasTexts-none : HasTexts texts table.graph
  HasTexts-none = record {
    long = ap length is.found ∙ ap length (sym none);
    distinct = λ first second text there also. absurd (nothing_at texts first text none there);
  }

  module _ (tables : Option PrefixTables) where
    Shows-none : Shows tables [] texts table
    Shows-none = record {
      long = ap length (sym is.nodes);
      files = λ i node contents there has. absurd (nothing_at table.graph.nodes.items i node is.nodes there);
      found = λ name i file. absurd (nothing_at table.graph.found.items name (Some i) is.found file);
      none = λ name file. absurd (nothing_at table.graph.found.items name None is.found file);
      known = λ text found said. absurd (cc);
    }

    pub leads_top : (names : List ℕ) (bytes : List ℕ) → names ≡ [] → LeadsToNext tables [] texts table None names budget (Some bytes)
    leads_top names bytes no_path = record {
      shows = Shows-none;
      has = (bytes, refl, tt);
      leads = λ first begin.
          let all : List Answer = record { name = None; bytes = Some bytes } ∷ [] in
          let same : first ≡ bytes = cc in (
            16,
            subst (λ b. loading.Leads tables all table.graph.budget first 16 (map (text_at texts) names) budget b) same
                (subst (λ n. loading.Leads tables all table.graph.budget first 16 (map (text_at texts) n) budget first) (sym no_path)
                (subst (λ l. loading.Leads tables all table.graph.budget first 16 [] l first) is.within (leads_first tables all table.graph.budget first))),
          );
    }

-- ---- an answer to the wanted name
module _ (tables : Option PrefixTables) (answers : List Answer) (texts : List (List ℕ)) (table : Table) (is : IsTable table) (shows : Shows tables answers texts table) (wanted : Wanted) (begun : 0 < length table.graph.nodes.items) (awaits : IsAwaiting table.graph wanted) where
  pub leads_wanted : (bytes : Option (List ℕ)) → LeadsToNext tables answers texts table (Some wanted.name) wanted.names.items wanted.left bytes
  leads_wanted bytes =
      let graph = table.graph in let text = text_at texts in
      let more : List Answer = record { name = Some (text wanted.name); bytes = bytes } ∷ [] in
      let known : (name i : ℕ) → slice_get graph.found.items name ≡ Some (Some i) → i < length answers = λ name i file. (let lt = is.graph.known name i file in let long = shows.long in omega (arith, lt, long)) in
      record {
        shows = shows;
        has = (
            let (node, got) = some_node graph.nodes.items begun in
            let (base, there, _) = (meant tables answers texts table is shows).files 0 node got in
            (base, bytes_at_front answers more 0 base there, tt));
        leads = λ first begin. awaiting_means tables (answers ++ more) text graph (meant_more tables answers more text graph known (meant tables answers texts table is shows)) graph.budget refl first begin wanted bytes awaits
            (answer_last answers (text wanted.name) bytes (shows.none wanted.name awaits.new));
      }

  pub wanted_new : IsWanted tables answers (text_at texts wanted.name)
  wanted_new = wanted_means tables answers (text_at texts) table.graph (meant tables answers texts table is shows) wanted awaits (shows.none wanted.name awaits.new) shows.long

pub wanted_named : (graph : Graph) → IsGraph graph → (wanted : Wanted) → IsAwaiting graph wanted → AreNamed graph wanted.names.items
wanted_named graph is wanted awaits = to_use_named graph is awaits.n (15 - awaits.n) wanted.names.items wanted.left wanted.name awaits.leads

-- ---- once the answer is given
module _ (tables : Option PrefixTables) (answers : List Answer) (before : List (List ℕ)) (old : Table) (name : Option ℕ) (names : List ℕ) (left : Option ℕ) (bytes : Option (List ℕ)) (is : LeadsToNext tables answers before old name names left bytes) where
  abbrev pub all : List Answer
  all = answers ++ answer_to before name bytes ∷ []

  -- the file can't be opened
  pub failed : (cause : Cause) → FailsToOpen tables bytes left cause → IsRefused tables old.graph.budget all (map (text_at before) names) cause
  failed cause fails = record { from = λ first begin. refusal tables all old.graph.budget first (map (text_at before) names) left bytes cause (is.leads first begin) fails }

  -- the file was added
  module _ (after : List (List ℕ)) (new : Table) (is_old : IsTable old) (has : HasTexts before old.graph) (is_new : IsNew old.graph name) (count : ℕ) (file : parsed.File) (opened : IsOpened tables bytes count (file_seen file))
      (added : IsAdded before after old new name count file) where
    shows_mid : Shows tables answers after added.mid
    shows_mid = Shows-grows tables answers before after old added.mid is_old has added.texts added.grows added.more is.shows

    pub shows_added : Shows tables all after new
    shows_added =
        let (b, there, (long, means)) = opened in
        let contents : Contents = record { metadata = file.metadata; lists = file.lists } in
        let meaning : MeansOnly tables b (file_of contents (map (text_at after) added.node.uses.items)) = subst (λ uses. MeansOnly tables b (file_of contents uses)) (sym added.uses) means in
        let shown = Shows-pushed tables answers after added.mid new added.table added.texts shows_mid name added.node contents b (new_still old.graph added.mid.graph name added.grows.graph.found is_new) added.pushed (sym long ∙ sym added.long) meaning in
        let same_name = name_still before after old.graph name has added.more is_new in
        subst (λ given. Shows tables (answers ++ record { name = option_map (text_at before) name; bytes = given } ∷ []) after new) (sym there)
        (subst (λ n. Shows tables (answers ++ record { name = n; bytes = Some b } ∷ []) after new) same_name shown)

module _ (table : Table) (is : IsTable table) where
  pub follows : IsBegun table.graph → (found_next : Next) (found : State) → IsNext table.graph found_next → NextIs found_next found → Follows table.graph found
  follows begun next.Whole found whole same = subst (Follows table.graph) (sym same) whole
  follows begun (next.Wanted wanted) found awaits same = subst (Follows table.graph) (sym same) (begun, awaits)
  follows begun (next.TooLong names) found long same = subst (Follows table.graph) (sym same) (to_use_named table.graph is.graph 15 0 names.items long.left long.name long.leads)
  follows begun (next.OverBudget names) found over same = subst (Follows table.graph) (sym same) (leads_named table.graph is.graph over.n names.items over.left over.i over.leads)

  pub ready : (tables : Option PrefixTables) (answers : List Answer) (texts : List (List ℕ)) → Shows tables answers texts table → (found_next : Next) (found : State) → IsNext table.graph found_next → NextIs found_next found → IsReady tables answers texts table found
  ready tables answers texts shows next.Whole found whole same = subst (IsReady tables answers texts table) (sym same) shows
  ready tables answers texts shows (next.Wanted wanted) found awaits same = subst (IsReady tables answers texts table) (sym same) shows
  ready tables answers texts shows (next.TooLong names) found long same = subst (IsReady tables answers texts table) (sym same)
      (record { from = λ first begin. too_long_means tables answers (text_at texts) table.graph (meant tables answers texts table is shows) table.graph.budget refl first begin names.items long })
  ready tables answers texts shows (next.OverBudget names) found over same = subst (IsReady tables answers texts table) (sym same)
      (record { from = λ first begin. over_means tables answers (text_at texts) table.graph (meant tables answers texts table is shows) table.graph.budget refl first begin names.items over })

-- ---- more names
module _ (before after : List (List ℕ)) (old new : Table) (is : IsTable old) (has : HasTexts before old.graph) (now : HasTexts after new.graph) (grows : Grows old new) (more : IsMore before after) (wanted : Wanted) (begun : IsBegun old.graph) (awaits : IsAwaiting old.graph wanted) where
  pub still_follows : Follows new.graph (state.Wanted wanted)
  still_follows = (IsBegun-kept old.graph new.graph grows.graph begun, IsAwaiting-kept old.graph new.graph grows.graph wanted awaits)

  pub still_wanted : wanted_by after (state.Wanted wanted) ≡ wanted_by before (state.Wanted wanted)
  still_wanted = name_still before after old.graph (Some wanted.name) has more awaits.new

  pub still_shows : (tables : Option PrefixTables) (answers : List Answer) → Shows tables answers before old → Shows tables answers after new
  still_shows tables answers shows = Shows-grows tables answers before after old new is has now grows more shows
