-- The layers of the files of a chain, as their lists are moved into them.
use Rattle.std.proofs.Common.{◌≡◌, refl, sym, ap, subst, ◌∙◌, arith, ℕ, zero, suc, ◌+◌, ◌-◌, ◌<◌, ◌≤◌, List, [], ◌∷◌, ◌++◌, append_assoc, append-nil, length, map, length-append, Option, Some, None, inl, inr}
use Rattle.std.specs.Prelude.{◌⊎◌, All, get_or, slice_get, unwrap_or}
use Rattle.std.specs.List.{AllZip, last_or}
use Rattle.std.proofs.Math.ListN.{length-map, length-set, set}
use Rattle.std.proofs.lemmas.Bool.{cases_eq}
use Rattle.std.proofs.lemmas.List.{map-append}
use Rattle.std.proofs.lemmas.List.Elements.{All-contains, Contains-append_right}
use Rattle.std.proofs.lemmas.Option.{slice_get_cases, slice_get_read, slice_get_within}
use Rattle.cmap_values.specs.Files.{File}
use Rattle.cmap_binary.specs.Bundles.{PrefixTables}
use Rattle.cmap_layers.specs.Layers.{Layer, layer_of}
use Rattle.cmap_layers.specs.LayersSeen.{layer_seen, layers_seen}
use Rattle.cmap_layers.specs.declared.layer.Layer as declared
use Rattle.cmap_load.specs.Graphs.{AreNamed, EachWhole, IsFileOf, IsWhole, Whole}
use Rattle.cmap_load.specs.Layers.{AreLayers, OfAnswer}
use Rattle.cmap_load.specs.Loading.{Answer, AreLoaded, IsAnswered, MeansOnly, bytes_at}
use Rattle.cmap_load.specs.Loading as loading
use Rattle.cmap_load.specs.Numbers.{text_at}
use Rattle.cmap_load.specs.Tables.{IsTable, LayersFrom, LayersUnder, Shows, contents_layer, file_of}
use Rattle.cmap_load.specs.declared.graph.Node.{Node}
use Rattle.cmap_load.specs.declared.table.Contents.{Contents}
use Rattle.cmap_load.specs.declared.table.Table.{Table}
use Rattle.cmap_load.proofs.Agreed.{opened_layers}
use Rattle.cmap_load.proofs.GraphGrowing.{slice_get-set_other}
use Rattle.cmap_load.proofs.Meant.{of_bytes}

-- ---- the last of a list
pub last_cases : {A : Type 0} (xs : List A) → (xs ≡ []) ⊎ ((others : List A) × (last : A) × (xs ≡ others ++ last ∷ []))
last_cases [] = inl refl
last_cases (x ∷ xs) = elim (last_cases xs) [
  | inl none ↦ inr ([], x, ap (λ l. x ∷ l) none)
  | inr (others, last, is) ↦ inr (x ∷ others, last, ap (λ l. x ∷ l) is)
]

no_last : {A : Type 0} (others : List A) (last : A) → others ++ last ∷ [] ≡ [] → ⊥
no_last others last is = let e = ap length is in let long = length-append others (last ∷ []) in absurd (omega (arith, e, long))

same_last : {A : Type 0} (others more : List A) (last end : A) → others ++ last ∷ [] ≡ more ++ end ∷ [] → last ≡ end
same_last [] [] last end is = cc
same_last [] (y ∷ more) last end is = let e : [] ≡ more ++ end ∷ [] = cc in absurd (no_last more end (sym e))
same_last (x ∷ others) [] last end is = let e : others ++ last ∷ [] ≡ [] = cc in absurd (no_last others last e)
same_last (x ∷ others) (y ∷ more) last end is = let e : others ++ last ∷ [] ≡ more ++ end ∷ [] = cc in same_last others more last end e

module _ (table : Table) where
  -- ---- the layers of a file
  last_whole : (R : ℕ → List ℕ → Type 0) (others : List ℕ) (last : ℕ) (lengths : List ℕ) → EachWhole table.graph R (others ++ last ∷ []) lengths → (i : ℕ) × (first : List ℕ) × IsFileOf table.graph last i × R i first
  last_whole R [] last lengths (i, first, rest, file, h, more, same) = (i, first, file, h)
  last_whole R (name ∷ others) last lengths (i, first, rest, file, h, more, same) = last_whole R others last rest more

  -- a file that is whole has layers
  pub whole_layers : (is : IsTable table) (most i : ℕ) (lengths : List ℕ) → Whole table.graph most i lengths → (layers : List Layer) × LayersFrom table most i layers
  whole_layers is zero i lengths h = absurd h
  whole_layers is (suc most) i lengths (node, rest, there, each, same) =
      let lt = slice_get_within table.graph.nodes.items i node there in
      let all = is.contents in
      elim (slice_get_cases table.contents.items i).1 [
        | inr (past, _) ↦ absurd (omega (arith, lt, past, all))
        | inl (contents, within, got, _) ↦ elim (last_cases node.uses.items) [
          | inl none ↦ (contents_layer contents ∷ [], (node, contents, [], there, got, inl (none, refl), refl))
          | inr (others, last, split) ↦ (
              let (j, first, file, whole) = last_whole (Whole table.graph most) others last rest (subst (λ u. EachWhole table.graph (Whole table.graph most) u rest) split each) in
              let (below, from) = whole_layers is most j first whole in
              (contents_layer contents ∷ below, (node, contents, below, there, got, inr (others, last, j, split, file, from), refl)))
        ]
      ]

  under_same : (R S : ℕ → List Layer → Type 0) → ((i : ℕ) (layers found : List Layer) → R i layers → S i found → found ≡ layers) → (uses : List ℕ) (below found : List Layer) → LayersUnder table R uses below → LayersUnder table S uses found → found ≡ below
  under_same R S alike uses below found (inl (none, bare)) (inl (also, nothing)) = nothing ∙ sym bare
  under_same R S alike uses below found (inl (none, bare)) (inr (others, last, i, split, file, from)) = absurd (no_last others last (sym split ∙ none))
  under_same R S alike uses below found (inr (others, last, i, split, file, from)) (inl (also, nothing)) = absurd (no_last others last (sym split ∙ also))
  under_same R S alike uses below found (inr (others, last, i, split, file, from)) (inr (more, end, j, parts, other, leads)) =
      let one : last ≡ end = same_last others more last end (sym split ∙ parts) in
      let e : Some (Some i) ≡ Some (Some j) = sym file ∙ ap (slice_get table.graph.found.items) one ∙ other in
      let at : i ≡ j = cc in
      alike i below found from (subst (λ k. S k found) (sym at) leads)

  -- a file has its layers in one way
  pub layers_same : (most more i : ℕ) (layers found : List Layer) → LayersFrom table most i layers → LayersFrom table more i found → found ≡ layers
  layers_same zero more i layers found h g = absurd h
  layers_same (suc most) zero i layers found h g = absurd g
  layers_same (suc most) (suc more) i layers found (node, contents, below, there, has, under, same) (other, others, base, also, had, leads, is) =
      let e : Some node ≡ Some other = sym there ∙ also in
      let one : node ≡ other = cc in
      let f : Some contents ≡ Some others = sym has ∙ had in
      let content : contents ≡ others = cc in
      let bases : base ≡ below = under_same (LayersFrom table most) (LayersFrom table more) (layers_same most more) node.uses.items below base under (subst (λ (n : Node). LayersUnder table (LayersFrom table more) n.uses.items base) (sym one) leads) in
      is ∙ ap (λ (c : Contents). contents_layer c ∷ base) (sym content) ∙ ap (λ l. contents_layer contents ∷ l) bases ∙ sym same

  pub layers_few : (most i : ℕ) (layers : List Layer) → LayersFrom table most i layers → (0 < length layers) × (length layers ≤ most)
  layers_few zero i layers h = absurd h
  layers_few (suc most) i layers (node, contents, below, there, has, inl (none, bare), same) =
      let e = ap (λ (l : List Layer). length l) same in let b = ap (λ (l : List Layer). length l) bare in
      (omega (arith, e), omega (arith, e, b))
  layers_few (suc most) i layers (node, contents, below, there, has, inr (others, last, j, split, file, from), same) =
      let e = ap (λ (l : List Layer). length l) same in let few = (layers_few most j below from).1 in
      (omega (arith, e), omega (arith, e, few))

  -- ---- moving
  -- these layers are made, and the layers of the file at an index are left
  pub record Left (contents : List Contents) (made : List declared.Layer) (at : ℕ) : Type 0 where
    pub most : ℕ
    pub rest : List Layer
    pub are : LayersFrom table most at rest
    pub whole : LayersFrom table 16 0 (layers_seen made ++ rest)
    pub few : length made + length rest ≤ 16
    pub long : length contents ≡ length table.contents.items
    pub kept : (j more : ℕ) (found : List Layer) → LayersFrom table more j found → length found ≤ length rest → slice_get contents j ≡ slice_get table.contents.items j

  -- the parts of such a file
  record IsOpen (at : ℕ) (rest : List Layer) : Type 0 where
    node : Node
    contents : Contents
    below : List Layer
    under_most : ℕ
    there : slice_get table.graph.nodes.items at ≡ Some node
    has : slice_get table.contents.items at ≡ Some contents
    under : LayersUnder table (LayersFrom table under_most) node.uses.items below
    same : rest ≡ contents_layer contents ∷ below

  opens : (most at : ℕ) (rest : List Layer) → LayersFrom table most at rest → IsOpen at rest
  opens zero at rest h = absurd h
  opens (suc most) at rest (node, contents, below, there, has, under, same) = record { node = node; contents = contents; below = below; under_most = most; there = there; has = has; under = under; same = same }

  pub started : (is : IsTable table) (lengths : List ℕ) → IsWhole table.graph 16 0 lengths → Left table.contents.items [] 0
  started is lengths whole =
      let (layers, from) = whole_layers is 16 0 lengths whole.opened in
      let few = layers_few 16 0 layers from in
      record { most = 16; rest = layers; are = from; whole = from; few = omega (arith, few.1); long = refl; kept = λ j more found h le. refl }

  module _ {contents : List Contents} {made : List declared.Layer} {at : ℕ} (left : Left contents made at) where
    open_here : IsOpen at left.rest
    open_here = opens left.most at left.rest left.are

    pub node_within : at < length table.graph.nodes.items
    node_within = slice_get_within table.graph.nodes.items at open_here.node open_here.there

    pub readable : at < length contents
    readable = let lt = slice_get_within table.contents.items at open_here.contents open_here.has in let long = left.long in omega (arith, lt, long)

    pub node_read : (node : Node) → node ≡ get_or table.graph.nodes.items at node → slice_get table.graph.nodes.items at ≡ Some node
    node_read node is = slice_get_read table.graph.nodes.items _ at node refl node_within is

    module _ (taken : Contents) (got : slice_get contents at ≡ Some taken) (node : Node) (there : slice_get table.graph.nodes.items at ≡ Some node) (pushed : List declared.Layer) (layer : declared.Layer) (is_pushed : pushed ≡ made ++ layer ∷ []) (is_layer : layer_seen layer ≡ contents_layer taken) where
      taken_same : open_here.contents ≡ taken
      taken_same =
          let e : Some open_here.contents ≡ Some taken = sym open_here.has ∙ sym (left.kept at left.most left.rest left.are (omega arith)) ∙ got in
          cc

      node_same : open_here.node ≡ node
      node_same = let e : Some open_here.node ≡ Some node = sym open_here.there ∙ there in cc

      under_node : LayersUnder table (LayersFrom table open_here.under_most) node.uses.items open_here.below
      under_node = subst (λ (n : Node). LayersUnder table (LayersFrom table open_here.under_most) n.uses.items open_here.below) node_same open_here.under

      seen_pushed : layers_seen pushed ≡ layers_seen made ++ layer_seen layer ∷ []
      seen_pushed = ap layers_seen is_pushed ∙ map-append layer_seen made (layer ∷ [])

      all_layers : layers_seen made ++ left.rest ≡ layers_seen pushed ++ open_here.below
      all_layers =
          ap (λ l. layers_seen made ++ l) (open_here.same ∙ ap (λ (c : Contents). contents_layer c ∷ open_here.below) taken_same ∙ ap (λ l. l ∷ open_here.below) (sym is_layer))
          ∙ sym (append_assoc (layers_seen made) (layer_seen layer ∷ []) open_here.below)
          ∙ ap (λ l. l ++ open_here.below) (sym seen_pushed)

      one_longer : length pushed ≡ length made + 1
      one_longer = ap length is_pushed ∙ simp length-append

      rest_long : length left.rest ≡ suc (length open_here.below)
      rest_long = ap (λ (l : List Layer). length l) open_here.same

      pub shorter : 17 - length pushed < 17 - length made
      shorter = let f = left.few in omega (arith, f, one_longer, rest_long)

      pub finished : node.uses.items ≡ [] → LayersFrom table 16 0 (layers_seen pushed)
      finished none = elim under_node [
        | inl (_, bare) ↦ subst (LayersFrom table 16 0) (all_layers ∙ ap (λ b. layers_seen pushed ++ b) bare ∙ append-nil (layers_seen pushed)) left.whole
        | inr (others, last, i, split, file, from) ↦ absurd (no_last others last (sym split ∙ none))
      ]

      module _ (others : List ℕ) (last : ℕ) (uses : node.uses.items ≡ others ++ last ∷ []) where
        pub last_within : IsTable table → last < length table.graph.found.items
        last_within is =
            let are : All (λ name. name < length table.graph.found.items) (others ++ last ∷ []) = subst (AreNamed table.graph) uses (is.graph.named at node there) in
            All-contains (λ name. name < length table.graph.found.items) (others ++ last ∷ []) last are (Contains-append_right others (last ∷ []) last (0, omega arith, refl))

        -- the last use has a file, whose layers follow
        record IsUnder : Type 0 where
          index : ℕ
          file : IsFileOf table.graph last index
          from : LayersFrom table open_here.under_most index open_here.below

        is_under : IsUnder
        is_under = elim under_node [
          | inl (none, _) ↦ absurd (no_last others last (sym uses ∙ none))
          | inr (more, end, i, split, file, from) ↦ (
              let one : end ≡ last = same_last more others end last (sym split ∙ uses) in
              record { index = i; file = subst (λ n. IsFileOf table.graph n i) one file; from = from })
        ]

        pub last_found : slice_get table.graph.found.items last ≡ Some None → ⊥
        last_found none = let e : Some None ≡ Some (Some is_under.index) = sym none ∙ is_under.file in absurd (cc)

        pub goes_down : (after : List Contents) (none : Contents) → after ≡ set contents at none → (i : ℕ) → IsFileOf table.graph last i → Left after pushed i
        goes_down after none is_set i file =
            let e : Some (Some is_under.index) ≡ Some (Some i) = sym is_under.file ∙ file in
            let at_i : is_under.index ≡ i = cc in
            record {
              most = open_here.under_most;
              rest = open_here.below;
              are = subst (λ k. LayersFrom table open_here.under_most k open_here.below) at_i is_under.from;
              whole = subst (LayersFrom table 16 0) all_layers left.whole;
              few = let f = left.few in omega (arith, f, rest_long, one_longer);
              long = ap length is_set ∙ length-set contents at none ∙ left.long;
              kept = λ j more found h le. elim (cases_eq j at) [
                | inl here ↦ (
                    let same = layers_same left.most more at left.rest found left.are (subst (λ k. LayersFrom table more k found) here h) in
                    let long = ap (λ (l : List Layer). length l) same in
                    absurd (omega (arith, long, rest_long, le)))
                | inr elsewhere ↦ ap (λ l. slice_get l j) is_set ∙ slice_get-set_other contents at j none elsewhere ∙ left.kept j more found h (omega (arith, le, rest_long))
              ];
            }

  -- at least one layer is made, and at most 16
  pub made_few : (made : List declared.Layer) → LayersFrom table 16 0 (layers_seen made) → (0 < length made) × (length made ≤ 16)
  made_few made from =
      let few = layers_few 16 0 (layers_seen made) from in
      let same : length (layers_seen made) ≡ length made = simp length-map in
      (omega (arith, few.0, same), omega (arith, few.1, same))

-- ---- the layers by the answers
last_zipped : (R : List ℕ → List Layer → Type 0) (before : List (List ℕ)) (name : List ℕ) (each : List (List Layer)) (first : Option (List Layer)) → AllZip R (before ++ name ∷ []) each → (base : List Layer) × R name base × (last_or first each ≡ Some base)
last_zipped R [] name [] first h = absurd h
last_zipped R [] name (base ∷ []) first h = (base, h.0, refl)
last_zipped R [] name (base ∷ other ∷ each) first h = absurd h.1
last_zipped R (x ∷ before) name [] first h = absurd h
last_zipped R (x ∷ before) name (base ∷ each) first h = last_zipped R before name each (Some base) h.1

none_zipped : (R : List ℕ → List Layer → Type 0) (each : List (List Layer)) → AllZip R [] each → each ≡ []
none_zipped R [] h = refl
none_zipped R (x ∷ each) h = absurd h

module _ (tables : Option PrefixTables) (answers : List Answer) (texts : List (List ℕ)) (table : Table) (shows : Shows tables answers texts table) where
  abbrev Are : ℕ → List ℕ → List Layer → Type 0
  Are most bytes layers = AreLayers (MeansOnly tables) (IsAnswered answers) most bytes layers

  pub layers_mean : (most more i : ℕ) (bytes : List ℕ) (layers found : List Layer) → LayersFrom table most i layers → bytes_at answers i ≡ Some bytes → Are more bytes found → found ≡ layers
  layers_mean zero more i bytes layers found h there g = absurd h
  layers_mean (suc most) zero i bytes layers found h there g = absurd g
  layers_mean (suc most) (suc more) i bytes layers found (node, contents, below, has_node, has, under, same) there (file, base, only, (each, zipped, is_base), is) =
      let uses = map (text_at texts) node.uses.items in
      let (long, means) = of_bytes (bytes_at answers i) (λ b. (length b ≡ node.length) × MeansOnly tables b (file_of contents uses)) (shows.files i node contents has_node has) bytes there in
      let one : file ≡ file_of contents uses = means.alone file only.holds in
      let zipped_here : AllZip (OfAnswer (IsAnswered answers) (Are more)) uses each = subst (λ (f : File). AllZip (OfAnswer (IsAnswered answers) (Are more)) f.uses each) one zipped in
      let bases : base ≡ below = elim under [
        | inl (none, bare) ↦ (
            let no_each : each ≡ [] = none_zipped (OfAnswer (IsAnswered answers) (Are more)) each (subst (λ u. AllZip (OfAnswer (IsAnswered answers) (Are more)) (map (text_at texts) u) each) none zipped_here) in
            is_base ∙ ap (λ e. unwrap_or (last_or None e) []) no_each ∙ sym bare)
        | inr (others, last, j, split, is_file, from) ↦ (
            let parts : uses ≡ map (text_at texts) others ++ text_at texts last ∷ [] = ap (map (text_at texts)) split ∙ map-append (text_at texts) others (last ∷ []) in
            let (other, (b, said, are), ends) = last_zipped (OfAnswer (IsAnswered answers) (Are more)) (map (text_at texts) others) (text_at texts last) each None (subst (λ u. AllZip (OfAnswer (IsAnswered answers) (Are more)) u each) parts zipped_here) in
            let e : Some (Some b) ≡ Some (bytes_at answers j) = sym said ∙ shows.found last j is_file in
            let at_j : bytes_at answers j ≡ Some b = cc in
            is_base ∙ ap (λ o. unwrap_or o []) ends ∙ layers_mean most more j b below other from at_j are)
      ] in
      is ∙ ap (λ (f : File). layer_of f ∷ base) one ∙ ap (λ l. contents_layer contents ∷ l) bases ∙ sym same

  pub loaded : (budget : Option ℕ) (layers : List Layer) → LayersFrom table 16 0 layers → ((bytes : List ℕ) → bytes_at answers 0 ≡ Some bytes → loading.IsWithin tables answers budget bytes) → AreLoaded tables answers layers
  loaded budget layers from within = record {
    from = λ bytes there.
        let fits = within bytes there in
        let (found, are) = opened_layers tables (IsAnswered answers) 16 bytes fits.lengths fits.whole.opened in
        subst (Are 16 bytes) (layers_mean 16 16 0 bytes layers found from there are) are;
  }
