-- A table with more names.
use Rattle.std.proofs.Common.{◌≡◌, refl, sym, ap, subst, ◌∙◌, arith, ℕ, ◌+◌, ◌<◌, List, [], ◌∷◌, ◌++◌, append-nil, append_assoc, length, map, take, length-append, Some, None, inl, inr}
use Rattle.std.specs.Prelude.{All, get_or, slice_get}
use Rattle.std.specs.Borrow.{Bor}
use Rattle.std.proofs.Math.ListN.{length-map}
use Rattle.std.proofs.lemmas.List.{get_or-map, map-append, take_more}
use Rattle.std.proofs.lemmas.List.Elements.{All-push}
use Rattle.std.proofs.lemmas.Option.{slice_get_within}
use Rattle.cmap_values.specs.NamesSeen.{names_seen}
use Rattle.cmap_load.specs.Graphs.{AreNamed}
use Rattle.cmap_load.specs.Numbers.{AreDistinct, IsMore, IsNumbered, text_at}
use Rattle.cmap_load.specs.Tables.{Grows, HasTexts, IsTable}
use Rattle.cmap_load.specs.declared.graph.Graph.{Graph}
use Rattle.cmap_load.specs.declared.table.Table.{Table}
use Rattle.cmap_load.proofs.GraphGrowing.{IsGraph-kept, IsKept-more, IsKept-none, named_on}
use Rattle.cmap_load.proofs.Numbered.{text_at-got, texts_still}

pub Grows-none : (table : Table) → Grows table table
Grows-none table = record { graph = IsKept-none table.graph; contents = refl }

pub Grows-more : (a b c : Table) → Grows a b → Grows b c → Grows a c
Grows-more a b c first second = record { graph = IsKept-more a.graph b.graph c.graph first.graph second.graph; contents = second.contents ∙ first.contents }

pub IsTable-kept : (old new : Table) → Grows old new → IsTable old → IsTable new
IsTable-kept old new grows is = record {
  graph = IsGraph-kept old.graph new.graph grows.graph is.graph;
  contents = ap length grows.contents ∙ is.contents ∙ sym (ap length grows.graph.nodes);
}

pub HasTexts-same : (texts : List (List ℕ)) (old new : Graph) → new.found.items ≡ old.found.items → HasTexts texts old → HasTexts texts new
HasTexts-same texts old new same has = record { long = ap length same ∙ has.long; distinct = has.distinct }

pub IsMore-none : (texts : List (List ℕ)) → IsMore texts texts
IsMore-none texts = ([], sym (append-nil texts))

pub IsMore-more : (a b c : List (List ℕ)) → IsMore a b → IsMore b c → IsMore a c
IsMore-more a b c (first, one) (second, other) = (first ++ second, other ∙ ap (λ l. l ++ second) one ∙ append_assoc a first second)

-- ---- names in tables that grow
module _ (before after : List (List ℕ)) (old new : Graph) (has : HasTexts before old) (more : IsMore before after) where
  pub named_still : HasTexts after new → (names : List ℕ) → AreNamed old names → AreNamed new names
  named_still now names are =
      let long : length after ≡ length before + length more.0 = ap length more.1 ∙ length-append before more.0 in
      let was = has.long in let is = now.long in
      named_on (length old.found.items) (length new.found.items) names (omega (arith, was, is, long)) are

  pub map_still : (names : List ℕ) → AreNamed old names → map (text_at after) names ≡ map (text_at before) names
  map_still names are = ap (λ t. map (text_at t) names) more.1 ∙ texts_still before more.0 names (subst (λ n. All (λ name. name < n) names) has.long are)

-- the numbers of uses, and of one use more
module _ (before after : List (List ℕ)) (mid new : Graph) (has : HasTexts before mid) (more : IsMore before after) (now : HasTexts after new) (uses : List (Bor (List ℕ))) (i : ℕ) (d : Bor (List ℕ)) (lt : i < length uses) (numbers pushed : List ℕ) (number : ℕ)
    (same : pushed ≡ numbers ++ number ∷ []) (there : slice_get after number ≡ Some (get_or uses i d).now) where
  pub numbers_named : AreNamed mid numbers → AreNamed new pushed
  numbers_named are =
      let within = slice_get_within after number _ there in let long = now.long in
      subst (AreNamed new) (sym same) (All-push (λ name. name < length new.found.items) numbers number (named_still before after mid new has more now numbers are) (omega (arith, within, long)))

  pub numbers_more : AreNamed mid numbers → map (text_at before) numbers ≡ take i (names_seen uses) → map (text_at after) pushed ≡ take (i + 1) (names_seen uses)
  numbers_more are so_far =
      let seen : i < length (names_seen uses) = simp length-map lt in
      let name : get_or (names_seen uses) i [] ≡ (get_or uses i d).now = get_or-map (λ x. x.now) uses i d [] lt in
      let last : text_at after number ≡ get_or (names_seen uses) i [] = text_at-got after number (get_or uses i d).now there ∙ sym name in
      ap (map (text_at after)) same ∙ map-append (text_at after) numbers (number ∷ [])
      ∙ ap (λ l. l ++ text_at after number ∷ []) (map_still before after mid new has more numbers are ∙ so_far)
      ∙ ap (λ t. take i (names_seen uses) ++ t ∷ []) last
      ∙ sym (take_more (names_seen uses) i [] seen)

-- ---- one name
-- a graph with one name more, if the list of names is longer than before
module _ (before after : List (List ℕ)) (name : List ℕ) (number : ℕ) (is : IsNumbered before after name number) where
  pub texts_longer : (old new : Graph) → HasTexts before old → AreDistinct after → number ≡ length old.found.items → new.found.items ≡ old.found.items ++ None ∷ [] → HasTexts after new
  texts_longer old new has apart at_end found = record {
    long = elim is [
      | inl (there, same) ↦ (let within = slice_get_within before number name there in let long = has.long in absurd (omega (arith, within, long, at_end)))
      | inr (last, more) ↦ (
          let a : length new.found.items ≡ length old.found.items + 1 = ap length found ∙ length-append old.found.items (None ∷ []) in
          let b : length after ≡ length before + 1 = ap length more ∙ length-append before (name ∷ []) in
          let long = has.long in omega (arith, a, b, long))
    ];
    distinct = apart;
  }

  pub texts_same : (old : Graph) → HasTexts before old → AreDistinct after → (number ≡ length old.found.items → ⊥) → HasTexts after old
  texts_same old has apart other = record {
    long = elim is [
      | inl (there, same) ↦ has.long ∙ ap length (sym same)
      | inr (last, more) ↦ absurd (other (last ∙ sym has.long))
    ];
    distinct = apart;
  }
