-- Files of answers in a table that grows.
use Rattle.std.proofs.Common.{◌≡◌, ◌≢◌, refl, sym, ap, subst, ◌∙◌, arith, ℕ, ◌<◌, ◌≤◌, List, [], ◌∷◌, ◌++◌, length, map, length-append, Option, Some, None, inl, inr}
use Rattle.std.specs.Prelude.{option_map, slice_get}
use Rattle.std.proofs.Math.ListN.{set}
use Rattle.std.proofs.lemmas.Bool.{cases_eq, cases_lt}
use Rattle.std.proofs.lemmas.Option.{slice_get-get_or, slice_get_within}
use Rattle.std.proofs.lemmas.Slice.Eq.{bytes_eq-Decides}
use Rattle.cmap_binary.specs.Bundles.{PrefixTables}
use Rattle.cmap_load.specs.Graphs.{IsFileOf}
use Rattle.cmap_load.specs.Loading.{Answer, MeansOnly, OfBytes, bytes_at, first_answer}
use Rattle.cmap_load.specs.Numbers.{IsMore, text_at}
use Rattle.cmap_load.specs.Tables.{Grows, HasTexts, IsNew, IsPushed, IsTable, Shows, file_of}
use Rattle.cmap_load.specs.declared.graph.Node.{Node}
use Rattle.cmap_load.specs.declared.table.Contents.{Contents}
use Rattle.cmap_load.specs.declared.table.Table.{Table}
use Rattle.cmap_load.proofs.GraphGrowing.{slice_get-set_other, slice_get-set_same, slice_get_left, slice_get_pushed}
use Rattle.cmap_load.proofs.Growing.{answer_front, answer_last, bytes_at_front, bytes_at_last, bytes_at_within, first_answer_pushed, still_none}
use Rattle.cmap_load.proofs.Numbered.{bytes_eq-other, text_at-still, text_at-there}
use Rattle.cmap_load.proofs.TableGrowing.{map_still}

module _ (tables : Option PrefixTables) (answers : List Answer) where
  -- ---- more names
  module _ (before after : List (List ℕ)) (old new : Table) (is : IsTable old) (has : HasTexts before old.graph) (now : HasTexts after new.graph) (grows : Grows old new) (more : IsMore before after) (shows : Shows tables answers before old) where
    text_still : (name : ℕ) → name < length old.graph.found.items → text_at after name ≡ text_at before name
    text_still name lt = let long = has.long in ap (λ t. text_at t name) more.1 ∙ text_at-still before more.0 name (omega (arith, long, lt))

    -- a new name has no answer
    fresh : (name : ℕ) → length old.graph.found.items ≤ name → name < length new.graph.found.items → (answer : Option (Option (List ℕ))) → first_answer answers (text_at after name) ≡ answer → first_answer answers (text_at after name) ≡ None
    fresh name past lt None is_none = is_none
    fresh name past lt (Some bytes) said =
        let (known, there) = shows.known (text_at after name) bytes said in
        let long = now.long in let was = has.long in
        let here = text_at-there after name (omega (arith, long, lt)) in
        let also = ap (λ t. slice_get t known) more.1 ∙ slice_get_left before more.0 known (text_at after name) there in
        let one = now.distinct known name (text_at after name) also here in
        let within = slice_get_within before known (text_at after name) there in
        absurd (omega (arith, one, within, was, past))

    pub Shows-grows : Shows tables answers after new
    Shows-grows = record {
      long = shows.long ∙ ap length (sym grows.graph.nodes);
      files = λ i node contents there got.
          let was : slice_get old.graph.nodes.items i ≡ Some node = ap (λ l. slice_get l i) (sym grows.graph.nodes) ∙ there in
          let had : slice_get old.contents.items i ≡ Some contents = ap (λ l. slice_get l i) (sym grows.contents) ∙ got in
          subst (λ uses. OfBytes (bytes_at answers i) (λ bytes. (length bytes ≡ node.length) × MeansOnly tables bytes (file_of contents uses))) (sym (map_still before after old.graph new.graph has more node.uses.items (is.graph.named i node was))) (shows.files i node contents was had);
      found = λ name i file.
          let was = grows.graph.back name i file in
          let lt = slice_get_within old.graph.found.items name (Some i) was in
          ap (first_answer answers) (text_still name lt) ∙ shows.found name i was;
      none = λ name none. elim (cases_lt name (length old.graph.found.items)) [
        | inl lt ↦ (
            let file = slice_get-get_or old.graph.found.items name None lt in
            let same = grows.graph.found name _ file in
            let e : Some None ≡ Some _ = sym none ∙ same in
            let was : slice_get old.graph.found.items name ≡ Some None = file ∙ sym e in
            ap (first_answer answers) (text_still name lt) ∙ shows.none name was)
        | inr past ↦ fresh name past (slice_get_within new.graph.found.items name None none) (first_answer answers (text_at after name)) refl
      ];
      known = λ text bytes said. let (name, there) = shows.known text bytes said in (name, ap (λ t. slice_get t name) more.1 ∙ slice_get_left before more.0 name text there);
    }

  -- ---- a file more
  module _ (texts : List (List ℕ)) (old new : Table) (is : IsTable old) (has : HasTexts texts old.graph) (shows : Shows tables answers texts old) (name : Option ℕ) (node : Node) (contents : Contents) (bytes : List ℕ) (is_new : IsNew old.graph name)
      (pushed : IsPushed old new name node contents) (long : length bytes ≡ node.length) (means : MeansOnly tables bytes (file_of contents (map (text_at texts) node.uses.items))) where
    abbrev answer : Answer
    answer = record { name = option_map (text_at texts) name; bytes = Some bytes }

    abbrev more : List Answer
    more = answer ∷ []

    files_now : (i : ℕ) (other : Node) (has : Contents) → slice_get new.graph.nodes.items i ≡ Some other → slice_get new.contents.items i ≡ Some has
        → OfBytes (bytes_at (answers ++ more) i) (λ b. (length b ≡ other.length) × MeansOnly tables b (file_of has (map (text_at texts) other.uses.items)))
    files_now i other has there also = elim (slice_get_pushed old.graph.nodes.items node i other (ap (λ l. slice_get l i) (sym pushed.nodes) ∙ there)) [
      | inl was ↦ elim (slice_get_pushed old.contents.items contents i has (ap (λ l. slice_get l i) (sym pushed.contents_are) ∙ also)) [
        | inl had ↦ (let (b, at, holds) = shows.files i other has was had in (b, bytes_at_front answers more i b at, holds))
        | inr last ↦ (let within = slice_get_within old.graph.nodes.items i other was in absurd (omega (arith, within, last.0, is.contents)))
      ]
      | inr last ↦ elim (slice_get_pushed old.contents.items contents i has (ap (λ l. slice_get l i) (sym pushed.contents_are) ∙ also)) [
        | inl had ↦ (let within = slice_get_within old.contents.items i has had in absurd (omega (arith, within, last.0, is.contents)))
        | inr end ↦ (
            let index : i ≡ length answers = last.0 ∙ sym shows.long in (
              bytes,
              ap (bytes_at (answers ++ more)) index ∙ bytes_at_last answers answer,
              (
                long ∙ ap (λ (n : Node). n.length) (sym last.1),
                subst (λ (n : Node). MeansOnly tables bytes (file_of has (map (text_at texts) n.uses.items))) (sym last.1) (subst (λ (c : Contents). MeansOnly tables bytes (file_of c (map (text_at texts) node.uses.items))) (sym end.1) means),
              ),
            ))
      ]
    ]

    -- an answer that was given before
    found_before : (other i : ℕ) → IsFileOf old.graph other i → first_answer (answers ++ more) (text_at texts other) ≡ Some (bytes_at (answers ++ more) i)
    found_before other i was =
        let lt = is.graph.known other i was in
        let all = shows.long in
        answer_front answers more (text_at texts other) (bytes_at answers i) (shows.found other i was) ∙ ap Some (sym (bytes_at_within answers more i (omega (arith, lt, all))))

    all_long : length (answers ++ more) ≡ length new.graph.nodes.items
    all_long =
        let a = length-append answers more in let b = ap length pushed.nodes in let c = length-append old.graph.nodes.items (node ∷ []) in
        let d = shows.long in
        omega (arith, a, b, c, d)

    text_there : (other : ℕ) (file : Option ℕ) → slice_get old.graph.found.items other ≡ Some file → slice_get texts other ≡ Some (text_at texts other)
    text_there other file there =
        let lt = slice_get_within old.graph.found.items other file there in let all = has.long in
        text_at-there texts other (omega (arith, lt, all))

  -- the top file, or the file of a name
  pub Shows-pushed : (texts : List (List ℕ)) (old new : Table) (is : IsTable old) (has : HasTexts texts old.graph) (shows : Shows tables answers texts old) (name : Option ℕ) (node : Node) (contents : Contents) (bytes : List ℕ) → IsNew old.graph name
      → IsPushed old new name node contents → length bytes ≡ node.length → MeansOnly tables bytes (file_of contents (map (text_at texts) node.uses.items))
      → Shows tables (answers ++ record { name = option_map (text_at texts) name; bytes = Some bytes } ∷ []) texts new
  Shows-pushed texts old new is has shows None node contents bytes is_new pushed long means =
      let top : Answer = record { name = None; bytes = Some bytes } in
      let all : List Answer = answers ++ top ∷ [] in
      record {
        long = all_long texts old new is has shows None node contents bytes is_new pushed long means;
        files = files_now texts old new is has shows None node contents bytes is_new pushed long means;
        found = λ other i there. (found_before texts old new is has shows None node contents bytes is_new pushed long means other i (ap (λ v. slice_get v.items other) (sym pushed.found) ∙ there));
        none = λ other none. (still_none answers top (text_at texts other) (shows.none other (ap (λ v. slice_get v.items other) (sym pushed.found) ∙ none)) refl);
        known = λ said_text b said. elim (first_answer_pushed answers top said_text b said) [
          | inl before ↦ shows.known said_text b before
          | inr (named, _) ↦ absurd (cc)
        ];
      }
  Shows-pushed texts old new is has shows (Some number) node contents bytes is_new pushed long means =
      let text = text_at texts number in
      let answer : Answer = record { name = Some text; bytes = Some bytes } in
      let all : List Answer = answers ++ answer ∷ [] in
      let index = length old.graph.nodes.items in
      let there = text_there texts old new is has shows (Some number) node contents bytes is_new pushed long means in
      record {
        long = all_long texts old new is has shows (Some number) node contents bytes is_new pushed long means;
        files = files_now texts old new is has shows (Some number) node contents bytes is_new pushed long means;
        found = λ other i file. elim (cases_eq other number) [
          | inl here ↦ (
              let at_name : slice_get (set old.graph.found.items number (Some index)) number ≡ Some (Some i) = ap (λ l. slice_get l number) (sym pushed.found) ∙ ap (slice_get new.graph.found.items) (sym here) ∙ file in
              let e : Some i ≡ Some index = slice_get-set_same old.graph.found.items number (Some index) (Some i) at_name in
              let last : i ≡ length answers = (let f : i ≡ index = cc in f ∙ sym shows.long) in
              subst (λ n. first_answer all (text_at texts n) ≡ Some (bytes_at all i)) (sym here)
              (answer_last answers text (Some bytes) (shows.none number is_new) ∙ ap Some (sym (ap (bytes_at all) last ∙ bytes_at_last answers answer))))
          | inr differs ↦ found_before texts old new is has shows (Some number) node contents bytes is_new pushed long means other i (sym (slice_get-set_other old.graph.found.items number other (Some index) differs) ∙ ap (λ l. slice_get l other) (sym pushed.found) ∙ file)
        ];
        none = λ other none. elim (cases_eq other number) [
          | inl here ↦ (
              let at_name : slice_get (set old.graph.found.items number (Some index)) number ≡ Some None = ap (λ l. slice_get l number) (sym pushed.found) ∙ ap (slice_get new.graph.found.items) (sym here) ∙ none in
              let e : None ≡ Some index = slice_get-set_same old.graph.found.items number (Some index) None at_name in
              absurd (cc))
          | inr differs ↦ (
              let was : slice_get old.graph.found.items other ≡ Some None = sym (slice_get-set_other old.graph.found.items number other (Some index) differs) ∙ ap (λ l. slice_get l other) (sym pushed.found) ∙ none in
              let not_same : text ≢ text_at texts other = λ one. differs (sym (has.distinct number other text (there number None is_new) (subst (λ t. slice_get texts other ≡ Some t) (sym one) (there other None was)))) in
              still_none answers answer (text_at texts other) (shows.none other was) (bytes_eq-other text (text_at texts other) not_same))
        ];
        known = λ said_text b said. elim (first_answer_pushed answers answer said_text b said) [
          | inl before ↦ shows.known said_text b before
          | inr (named, _) ↦ (number, there number None is_new ∙ ap Some ((bytes_eq-Decides text said_text).0 named))
        ];
      }
