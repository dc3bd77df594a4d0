-- Files that were read past their faults, with more names or one file more.
use Rattle.std.proofs.Common.{◌≡◌, refl, sym, ap, subst, ◌∙◌, arith, ℕ, zero, suc, ◌+◌, ◌<◌, cond, List, [], ◌∷◌, ◌++◌, All, length, length-append, append-nil, Option, Some, None, inl, inr}
use Rattle.std.specs.Prelude.{◌⊎◌, Contains, slice_get}
use Rattle.std.specs.Global.{Vec}
use Rattle.std.proofs.Math.ListN.{set}
use Rattle.std.proofs.lemmas.Bool.{cases_eq}
use Rattle.std.proofs.lemmas.List.Elements.{Contains-append_left, Contains-push}
use Rattle.std.proofs.lemmas.Option.{slice_get_within}
use Rattle.std.specs.BTreeMap.{is_at}
use Rattle.std.specs.Ordering.{is_eq, nat_cmp}
use Rattle.std.specs.declared.cmp.Ordering.{Ordering}
use Rattle.std.specs.declared.cmp.Ordering.TheVariants.{Equal, Greater, Less}
use Rattle.std.proofs.lemmas.Map.Lookups.{exact_unsigned}
use Rattle.cmap_values.specs.FilesSeen.{file_seen}
use Rattle.cmap_values.specs.declared.fault.Stop.{Stop}
use Rattle.cmap_values.specs.declared.file.File as parsed
use Rattle.cmap_binary.specs.Bundles.{PrefixTables}
use Rattle.cmap_load.specs.Graphs.{IsBegun, IsFileOf}
use Rattle.cmap_load.specs.Kept.{AreKept, Files, IsReadAt, file_at, file_with, length_of, uses_in}
use Rattle.cmap_load.specs.Loading.{Answer}
use Rattle.cmap_load.specs.Numbers.{IsMore, text_at}
use Rattle.cmap_load.specs.Salvage.{IsReadPast}
use Rattle.cmap_load.specs.SalvageLoads.{Adds, AddsAnswer, AreOf, IsGiven, IsKeptMore, IsOf, Stays}
use Rattle.cmap_load.specs.Tables.{Grows, IsNew, file_of}
use Rattle.cmap_load.specs.declared.table.Table.{Table}
use Rattle.cmap_load.specs.declared.graph.Node.{Node}
use Rattle.cmap_load.specs.declared.table.Contents.{Contents}
use Rattle.cmap_load.proofs.GraphGrowing.{IsBegun-kept, slice_get-set_other, slice_get-set_same, slice_get_last, slice_get_left}
use Rattle.cmap_load.proofs.KeptFiles.{there}
use Rattle.cmap_load.proofs.Numbered.{text_at-got, text_at-there, texts_still}

slice_get_front : {A : Type 0} (xs ys : List A) (i : ℕ) → i < length xs → slice_get (xs ++ ys) i ≡ slice_get xs i
slice_get_front [] ys i lt = absurd (omega (arith, lt))
slice_get_front (x ∷ xs) ys zero lt = refl
slice_get_front (x ∷ xs) ys (suc i) lt = slice_get_front xs ys i (omega (arith, lt))

-- all that stands at an index stays there
pub record StaysAt (old new : Files) : Type 0 where
  pub texts : IsMore old.texts new.texts
  pub nodes : (more : List Node) × (new.table.graph.nodes.items ≡ old.table.graph.nodes.items ++ more)
  pub contents : (more : List Contents) × (new.table.contents.items ≡ old.table.contents.items ++ more)
  pub stops : (more : List (Option (Vec Stop))) × (new.stops ≡ old.stops ++ more)

uses_still : (texts more : List (List ℕ)) (found : Option Node) → ((node : Node) → found ≡ Some node → All (λ name. name < length texts) node.uses.items) → uses_in (texts ++ more) found ≡ uses_in texts found
uses_still texts more None named = refl
uses_still texts more (Some node) named = texts_still texts more node.uses.items (named node refl)

module _ (old new : Files) (kept : AreKept old) (stays : StaysAt old new) where
  -- ---- at an index
  module _ (i : ℕ) (lt : i < length old.table.graph.nodes.items) where
    node_still : slice_get new.table.graph.nodes.items i ≡ slice_get old.table.graph.nodes.items i
    node_still = ap (λ l. slice_get l i) stays.nodes.1 ∙ slice_get_front old.table.graph.nodes.items stays.nodes.0 i lt

    contents_still : slice_get new.table.contents.items i ≡ slice_get old.table.contents.items i
    contents_still = let long = kept.table.contents in ap (λ l. slice_get l i) stays.contents.1 ∙ slice_get_front old.table.contents.items stays.contents.0 i (omega (arith, long, lt))

    stops_still : slice_get new.stops i ≡ slice_get old.stops i
    stops_still = let long = kept.stops in ap (λ l. slice_get l i) stays.stops.1 ∙ slice_get_front old.stops stays.stops.0 i (omega (arith, long, lt))

    file_still : file_at new (Some i) ≡ file_at old (Some i)
    file_still =
        let named : (node : Node) → slice_get old.table.graph.nodes.items i ≡ Some node → All (λ name. name < length old.texts) node.uses.items = λ node is. subst (λ n. All (λ name. name < n) node.uses.items) kept.texts_are.long (kept.table.graph.named i node is) in
        let uses : uses_in new.texts (slice_get new.table.graph.nodes.items i) ≡ uses_in old.texts (slice_get old.table.graph.nodes.items i) =
        ap (uses_in new.texts) node_still ∙ ap (λ t. uses_in t (slice_get old.table.graph.nodes.items i)) stays.texts.1 ∙ uses_still old.texts stays.texts.0 (slice_get old.table.graph.nodes.items i) named in
        ap (λ c. file_with c (uses_in new.texts (slice_get new.table.graph.nodes.items i))) contents_still ∙ ap (file_with (slice_get old.table.contents.items i)) uses

    IsOf-still : (tables : Option PrefixTables) (bytes : List ℕ) → IsOf tables old i bytes → IsOf tables new i bytes
    IsOf-still tables bytes is = record {
      long = ap length_of node_still ∙ is.long;
      past = λ stops there. subst (λ file. IsReadPast tables bytes file stops.items) (sym file_still) (is.past stops (sym stops_still ∙ there));
    }

  text_before : (number : ℕ) (file : Option ℕ) (text : List ℕ) → slice_get old.table.graph.found.items number ≡ Some file → slice_get new.texts number ≡ Some text → slice_get old.texts number ≡ Some text
  text_before number file text found there =
      let lt = slice_get_within old.table.graph.found.items number file found in let long = kept.texts_are.long in
      sym (ap (λ t. slice_get t number) stays.texts.1 ∙ slice_get_front old.texts stays.texts.0 number (omega (arith, lt, long))) ∙ there

  pub top_still : IsReadAt old 0 → IsReadAt new 0
  top_still (stops, is) = (stops, stops_still 0 (there old 0 kept (stops, is)) ∙ is)

  -- ---- all files
  -- a name that has a file had it before, or its file is what the answers give
  module _ (tables : Option PrefixTables) (answers all : List Answer) (less : (answer : Answer) → Contains answers answer → Contains all answer) where
    pub record IsFresh (number i : ℕ) (text : List ℕ) : Type 0 where
      pub read : IsReadAt new i → (bytes : List ℕ) × IsGiven all text (Some bytes) × IsOf tables new i bytes
      pub none : slice_get new.stops i ≡ Some None → IsGiven all text None

    abbrev pub IsGivenLong : ℕ → ℕ → Type 0
    IsGivenLong number count = (text bytes : List ℕ) × (slice_get new.texts number ≡ Some text) × IsGiven all text (Some bytes) × (count ≡ length bytes)

    pub AreOf-on : ((number i : ℕ) (text : List ℕ) → IsFileOf new.table.graph number i → slice_get new.texts number ≡ Some text → IsFileOf old.table.graph number i ⊎ IsFresh number i text)
        → ((number count : ℕ) → new.long_at number ≡ Some count → (old.long_at number ≡ Some count) ⊎ IsGivenLong number count) → (top : List ℕ) → AreOf tables answers top old → AreOf tables all top new
    AreOf-on cases longs top are = record {
      first = IsOf-still 0 are.some tables top are.first;
      some = let more = ap length stays.nodes.1 ∙ length-append old.table.graph.nodes.items stays.nodes.0 in let some = are.some in omega (arith, more, some);
      read = λ number i text said file read. elim (cases number i text file said) [
        | inl was ↦ (
            let lt = kept.table.graph.known number i was in
            let (bytes, given, is) = are.read number i text (text_before number (Some i) text was said) was (read.0, sym (stops_still i lt) ∙ read.1) in
            (bytes, less _ given, IsOf-still i lt tables bytes is))
        | inr fresh ↦ fresh.read read
      ];
      none = λ number i text said file none. elim (cases number i text file said) [
        | inl was ↦ less _ (are.none number i text (text_before number (Some i) text was said) was (sym (stops_still i (kept.table.graph.known number i was)) ∙ none))
        | inr fresh ↦ fresh.none none
      ];
      long = λ number count long. elim (longs number count long) [
        | inl was ↦ (
            let (text, bytes, said, given, is) = are.long number count was in
            (text, bytes, ap (λ t. slice_get t number) stays.texts.1 ∙ slice_get_left old.texts stays.texts.0 number text said, less _ given, is))
        | inr given ↦ given
      ];
    }

-- ---- more names
module _ (old new : Files) (kept : AreKept old) (more : IsMore old.texts new.texts) (grows : Grows old.table new.table) (stops : new.stops ≡ old.stops) (long : (number : ℕ) → new.long_at number ≡ old.long_at number) where
  stays_grown : StaysAt old new
  stays_grown = record {
    texts = more;
    nodes = ([], grows.graph.nodes ∙ sym (append-nil old.table.graph.nodes.items));
    contents = ([], grows.contents ∙ sym (append-nil old.table.contents.items));
    stops = ([], stops ∙ sym (append-nil old.stops));
  }

  pub Stays-grown : Stays old new
  Stays-grown = record {
    budget = grows.graph.budget;
    more = stays_grown.texts;
    found = grows.graph.found;
    begun = IsBegun-kept old.table.graph new.table.graph grows.graph;
    top = top_still old new kept stays_grown;
    reads = λ tables answers top. AreOf-on old new kept stays_grown tables answers answers (λ answer given. given) (λ number i text file said. inl (grows.graph.back number i file)) (λ number count is. inl (sym (long number) ∙ is)) top;
  }

-- ---- a file more
module _ (old new : Files) (kept : AreKept old) (name : Option ℕ) (count : ℕ) (file : parsed.File) (listed : Option (Vec Stop)) (more : IsKeptMore old new name count file listed) where
  abbrev index : ℕ
  index = length old.table.graph.nodes.items

  abbrev contents : Contents
  contents = record { metadata = file.metadata; lists = file.lists }

  pub nodes_more : new.table.graph.nodes.items ≡ old.table.graph.nodes.items ++ more.added.node ∷ []
  nodes_more = more.added.pushed.nodes ∙ ap (λ l. l ++ more.added.node ∷ []) more.added.grows.graph.nodes

  contents_more : new.table.contents.items ≡ old.table.contents.items ++ contents ∷ []
  contents_more = more.added.pushed.contents_are ∙ ap (λ l. l ++ contents ∷ []) more.added.grows.contents

  pub stays_added : StaysAt old new
  stays_added = record { texts = more.added.more; nodes = (more.added.node ∷ [], nodes_more); contents = (contents ∷ [], contents_more); stops = (listed ∷ [], more.stops) }

  node_last : slice_get new.table.graph.nodes.items index ≡ Some more.added.node
  node_last = ap (λ l. slice_get l index) nodes_more ∙ slice_get_last old.table.graph.nodes.items more.added.node

  contents_last : slice_get new.table.contents.items index ≡ Some contents
  contents_last = ap (λ l. slice_get l index) contents_more ∙ ap (slice_get (old.table.contents.items ++ contents ∷ [])) (sym kept.table.contents) ∙ slice_get_last old.table.contents.items contents

  pub stops_last : slice_get new.stops index ≡ Some listed
  stops_last = ap (λ l. slice_get l index) more.stops ∙ ap (slice_get (old.stops ++ listed ∷ [])) (sym kept.stops) ∙ slice_get_last old.stops listed

  file_last : file_at new (Some index) ≡ file_seen file
  file_last =
      ap (λ c. file_with c (uses_in new.texts (slice_get new.table.graph.nodes.items index))) contents_last
      ∙ ap (λ n. file_with (Some contents) (uses_in new.texts n)) node_last
      ∙ ap (file_of contents) more.added.uses

  pub IsOf-last : (tables : Option PrefixTables) (bytes : List ℕ) → count ≡ length bytes → ((stops : Vec Stop) → listed ≡ Some stops → IsReadPast tables bytes (file_seen file) stops.items) → IsOf tables new index bytes
  IsOf-last tables bytes long past = record {
    long = ap length_of node_last ∙ more.added.long ∙ long;
    past = λ stops there. let both : Some listed ≡ Some (Some stops) = sym stops_last ∙ there in let is : listed ≡ Some stops = cc in subst (λ f. IsReadPast tables bytes f stops.items) (sym file_last) (past stops is);
  }

  budget_same : new.table.graph.budget ≡ old.table.graph.budget
  budget_same = more.added.pushed.budget ∙ more.added.grows.graph.budget

  one_more : length new.table.graph.nodes.items ≡ index + 1
  one_more = ap length nodes_more ∙ length-append old.table.graph.nodes.items (more.added.node ∷ [])

  long_still : (number : ℕ) → new.long_at number ≡ old.long_at number
  long_still number = ap (λ m. m number) more.long

-- the top file, where there was no file
pub AreOf-top : (tables : Option PrefixTables) (old new : Files) (kept : AreKept old) (count : ℕ) (file : parsed.File) (stops : Vec Stop) (more : IsKeptMore old new None count file (Some stops)) (bytes : List ℕ) → count ≡ length bytes
    → IsReadPast tables bytes (file_seen file) stops.items → old.table.graph.nodes.items ≡ [] → ((number : ℕ) → old.long_at number ≡ None) → AreOf tables (record { name = None; bytes = Some bytes } ∷ []) bytes new
AreOf-top tables old new kept count file stops more bytes long past none no_long =
    let zero_long : length old.table.graph.nodes.items ≡ 0 = ap length none in
    let no_file : (number i : ℕ) → IsFileOf new.table.graph number i → ⊥ = λ number i there.
    (let was = more.added.grows.graph.back number i (ap (λ v. slice_get v.items number) (sym more.added.pushed.found) ∙ there) in
    let lt = kept.table.graph.known number i was in omega (arith, lt, zero_long)) in
    record {
      first = subst (λ i. IsOf tables new i bytes) zero_long (IsOf-last old new kept None count file (Some stops) more tables bytes long (λ listed is. subst (λ (v : Vec Stop). IsReadPast tables bytes (file_seen file) v.items) (let e : stops ≡ listed = cc in e) past));
      some = let longer = one_more old new kept None count file (Some stops) more in omega (arith, longer, zero_long);
      read = λ number i text said there read. absurd (no_file number i there);
      none = λ number i text said there read. absurd (no_file number i there);
      long = λ number count is. let same : None ≡ Some count = sym (no_long number) ∙ sym (long_still old new kept None _ file (Some stops) more number) ∙ is in absurd (cc);
    }

-- the file of a name
module _ (old new : Files) (kept : AreKept old) (number count : ℕ) (file : parsed.File) (listed : Option (Vec Stop)) (more : IsKeptMore old new (Some number) count file listed) (is_new : IsNew old.table.graph (Some number)) (tables : Option PrefixTables) (given : Option (List ℕ)) where
  abbrev answer : Answer
  answer = record { name = Some (text_at old.texts number); bytes = given }

  abbrev Tells : Type 0
  Tells = (answers : List Answer) (other : ℕ) (text : List ℕ) → other ≡ number → slice_get new.texts other ≡ Some text → IsFresh old new kept (stays_added old new kept (Some number) count file listed more) tables answers (answers ++ answer ∷ []) (λ a is. Contains-append_left answers (answer ∷ []) a is) other (length old.table.graph.nodes.items) text

  pub AddsAnswer-added : Tells → AddsAnswer tables old new number given
  AddsAnswer-added tells = record {
    budget = budget_same old new kept (Some number) count file listed more;
    files = one_more old new kept (Some number) count file listed more;
    reads = λ answers top. AreOf-on old new kept (stays_added old new kept (Some number) count file listed more) tables answers (answers ++ answer ∷ []) (λ a is. Contains-append_left answers (answer ∷ []) a is)
        (λ other i text there said. elim (cases_eq other number) [
          | inl here ↦ (
              let graph = old.table.graph in
              let mid = more.added.mid.graph in
              let at_name : slice_get (set mid.found.items number (Some (length mid.nodes.items))) number ≡ Some (Some i) = ap (λ l. slice_get l number) (sym more.added.pushed.found) ∙ ap (slice_get new.table.graph.found.items) (sym here) ∙ there in
              let e : Some i ≡ Some (length mid.nodes.items) = slice_get-set_same mid.found.items number (Some (length mid.nodes.items)) (Some i) at_name in
              let last : i ≡ length mid.nodes.items = cc in
              inr (subst (λ k. IsFresh old new kept (stays_added old new kept (Some number) count file listed more) tables answers (answers ++ answer ∷ []) (λ a is. Contains-append_left answers (answer ∷ []) a is) other k text) (sym (last ∙ ap length more.added.grows.graph.nodes)) (tells answers other text here said)))
          | inr differs ↦ inl (more.added.grows.graph.back other i (sym (slice_get-set_other more.added.mid.graph.found.items number other (Some (length more.added.mid.graph.nodes.items)) differs) ∙ ap (λ l. slice_get l other) (sym more.added.pushed.found) ∙ there))
        ])
        (λ other count is. inl (sym (long_still old new kept (Some number) _ file listed more other) ∙ is)) top;
  }

  pub text_is : (other : ℕ) (text : List ℕ) → other ≡ number → slice_get new.texts other ≡ Some text → text ≡ text_at old.texts number
  text_is other text same said =
      let said_before = text_before old new kept (stays_added old new kept (Some number) count file listed more) number None text is_new (ap (slice_get new.texts) (sym same) ∙ said) in
      sym (text_at-got old.texts number text said_before)

-- a file that was read
pub AddsAnswer-read : (old new : Files) (kept : AreKept old) (number count : ℕ) (file : parsed.File) (stops : Vec Stop) (more : IsKeptMore old new (Some number) count file (Some stops)) (is_new : IsNew old.table.graph (Some number)) (tables : Option PrefixTables) (bytes : List ℕ) → count ≡ length bytes
    → IsReadPast tables bytes (file_seen file) stops.items → AddsAnswer tables old new number (Some bytes)
AddsAnswer-read old new kept number count file stops more is_new tables bytes long past = AddsAnswer-added old new kept number count file (Some stops) more is_new tables (Some bytes) (λ answers other text same said.
    let is = text_is old new kept number count file (Some stops) more is_new tables (Some bytes) other text same said in
    record {
      read = λ read. (bytes, subst (λ t. IsGiven (answers ++ record { name = Some (text_at old.texts number); bytes = Some bytes } ∷ []) t (Some bytes)) (sym is) (Contains-push answers _), IsOf-last old new kept (Some number) count file (Some stops) more tables bytes long (λ listed e. subst (λ (v : Vec Stop). IsReadPast tables bytes (file_seen file) v.items) (let f : stops ≡ listed = cc in f) past));
      none = λ none. let both : Some (Some stops) ≡ Some None = sym (stops_last old new kept (Some number) count file (Some stops) more) ∙ none in absurd (cc);
    })

-- no file
pub AddsAnswer-nothing : (old new : Files) (kept : AreKept old) (number count : ℕ) (file : parsed.File) (more : IsKeptMore old new (Some number) count file None) (is_new : IsNew old.table.graph (Some number)) (tables : Option PrefixTables) → AddsAnswer tables old new number None
AddsAnswer-nothing old new kept number count file more is_new tables = AddsAnswer-added old new kept number count file None more is_new tables None (λ answers other text same said.
    let is = text_is old new kept number count file None more is_new tables None other text same said in
    record {
      read = λ read. let both : Some None ≡ Some (Some read.0) = sym (stops_last old new kept (Some number) count file None more) ∙ read.1 in absurd (cc);
      none = λ none. subst (λ t. IsGiven (answers ++ record { name = Some (text_at old.texts number); bytes = None } ∷ []) t None) (sym is) (Contains-push answers _);
    })

-- the top file, or the file of a name, that was read
pub read_adds : (old new : Files) (kept : AreKept old) (name : Option ℕ) (count : ℕ) (file : parsed.File) (stops : Vec Stop) (more : IsKeptMore old new name count file (Some stops)) (is_new : IsNew old.table.graph name) (tables : Option PrefixTables) (bytes : List ℕ) → count ≡ length bytes
    → IsReadPast tables bytes (file_seen file) stops.items → Adds tables old new name (Some bytes)
read_adds old new kept None count file stops more is_new tables bytes long past = (budget_same old new kept None count file (Some stops) more, λ none no_long. AreOf-top tables old new kept count file stops more bytes long past none no_long)
read_adds old new kept (Some number) count file stops more is_new tables bytes long past = AddsAnswer-read old new kept number count file stops more is_new tables bytes long past

-- a file without a name
module _ (old mid new : Files) (kept : AreKept old) (count : ℕ) (file : parsed.File) (more : IsKeptMore old mid None count file None) (texts : new.texts ≡ mid.texts) (table : new.table ≡ mid.table) (stops : new.stops ≡ mid.stops) where
  stays_unnamed : StaysAt old new
  stays_unnamed =
      let is = stays_added old mid kept None count file None more in
      record {
        texts = subst (IsMore old.texts) (sym texts) is.texts;
        nodes = (is.nodes.0, ap (λ (t : Table). t.graph.nodes.items) table ∙ is.nodes.1);
        contents = (is.contents.0, ap (λ (t : Table). t.contents.items) table ∙ is.contents.1);
        stops = (is.stops.0, stops ∙ is.stops.1);
      }

  back_unnamed : (other i : ℕ) → IsFileOf new.table.graph other i → IsFileOf old.table.graph other i
  back_unnamed other i there = more.added.grows.graph.back other i (ap (λ v. slice_get v.items other) (sym more.added.pushed.found) ∙ ap (λ (t : Table). slice_get t.graph.found.items other) (sym table) ∙ there)

  pub Stays-unnamed : IsBegun mid.table.graph → ((number : ℕ) → new.long_at number ≡ old.long_at number) → Stays old new
  Stays-unnamed begun long = record {
    budget = ap (λ (t : Table). t.graph.budget) table ∙ budget_same old mid kept None count file None more;
    more = stays_unnamed.texts;
    found = λ other file there. ap (λ (t : Table). slice_get t.graph.found.items other) table ∙ ap (λ v. slice_get v.items other) more.added.pushed.found ∙ more.added.grows.graph.found other file there;
    begun = λ was. subst (λ (t : Table). IsBegun t.graph) (sym table) begun;
    top = top_still old new kept stays_unnamed;
    reads = λ tables answers top. AreOf-on old new kept stays_unnamed tables answers answers (λ answer given. given) (λ number i text there said. inl (back_unnamed number i there)) (λ number count is. inl (sym (long number) ∙ is)) top;
  }

  -- a file that exceeds the budget
  pub AddsAnswer-too_long : (number : ℕ) (bytes : List ℕ) → IsNew old.table.graph (Some number)
      → ((other : ℕ) (found : ℕ) → new.long_at other ≡ Some found → (old.long_at other ≡ Some found) ⊎ ((other ≡ number) × (found ≡ length bytes))) → (tables : Option PrefixTables) → AddsAnswer tables old new number (Some bytes)
  AddsAnswer-too_long number bytes is_new longs tables = record {
    budget = ap (λ (t : Table). t.graph.budget) table ∙ budget_same old mid kept None count file None more;
    files = ap (λ (t : Table). length t.graph.nodes.items) table ∙ one_more old mid kept None count file None more;
    reads = λ answers top.
        let text = text_at old.texts number in
        let answer : Answer = record { name = Some text; bytes = Some bytes } in
        AreOf-on old new kept stays_unnamed tables answers (answers ++ answer ∷ []) (λ a is. Contains-append_left answers (answer ∷ []) a is) (λ other i said there file. inl (back_unnamed other i there))
        (λ other found is. elim (longs other found is) [
          | inl was ↦ inl was
          | inr last ↦ (
              let within = slice_get_within old.table.graph.found.items number None is_new in let all = kept.texts_are.long in
              let said = text_at-there old.texts number (omega (arith, within, all)) in
              inr (text, bytes, ap (λ t. slice_get t other) stays_unnamed.texts.1 ∙ slice_get_left old.texts stays_unnamed.texts.0 other text (ap (slice_get old.texts) last.0 ∙ said), Contains-push answers answer, last.1))
        ]) top;
  }

-- what a map finds after one more
pub longs_more : (old new : ℕ → Option ℕ) (number count : ℕ) → ((q : ℕ) → new q ≡ cond (is_at (nat_cmp number) q) (Some count) (old q)) → (other found : ℕ) → new other ≡ Some found
    → (old other ≡ Some found) ⊎ ((other ≡ number) × (found ≡ count))
longs_more old new number count updates other found is = at (nat_cmp number other) refl (sym (updates other) ∙ is)
  where
    at : (order : Ordering) → nat_cmp number other ≡ order → cond (is_eq order) (Some count) (old other) ≡ Some found → (old other ≡ Some found) ⊎ ((other ≡ number) × (found ≡ count))
    at Less e there = inl there
    at Greater e there = inl there
    at Equal e there = let same : Some count ≡ Some found = there in let f : found ≡ count = cc in inr (sym (exact_unsigned number other e), f)
