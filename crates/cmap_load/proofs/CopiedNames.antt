-- Names that are copied, in an ordered map.
use Rattle.std.proofs.Common.{◌≡◌, sym, ap, subst, ◌∙◌, ℕ, Bool, true, false, List, [], ◌∷◌, ◌++◌, map, Option, inl, inr}
use Rattle.std.specs.Prelude.{bytes_eq, if◌then◌else◌}
use Rattle.std.specs.BTreeMap as tree
use Rattle.std.specs.Cmp.Lexicographic.{slice_cmp}
use Rattle.std.specs.Ordering.{nat_cmp}
use Rattle.std.specs.Cmp.{eq_by_cmp_equiv}
use Rattle.std.specs.Cmp.Lexicographic.{nat_list_cmp_total, nat_list_eq_equiv}
use Rattle.std.specs.Ordering.{is_eq}
use Rattle.std.specs.declared.vec.Vec.{Vec}
use Rattle.std.specs.BTreeMap.{BTreeMap}
use Rattle.std.specs.Map.{AreApart, IsKeyTest, KeepsOthers, lookup}
use Rattle.std.proofs.lemmas.Bool.{cases_Bool, cond-true, cond-false}
use Rattle.std.proofs.lemmas.List.{map-append}
use Rattle.std.proofs.lemmas.Slice.Eq.{bytes_eq-Decides}
use Rattle.std.proofs.lemmas.Map.Text.{is_eq-slice_cmp}

apart : (name other key : List ℕ) → bytes_eq name other ≡ false → is_eq (slice_cmp nat_cmp name key) ≡ true → is_eq (slice_cmp nat_cmp other key) ≡ false
apart name other key differs same =
    is_eq-slice_cmp other key ∙ nat_list_eq_equiv.symm other key ∙ sym (nat_list_eq_equiv.congr name key other (sym (is_eq-slice_cmp name key) ∙ same)) ∙ differs

module _ {K X : Type 0} (eq : K → K → Bool) (test : K → Bool) where
  others : (old new : List (K × X)) → KeepsOthers eq test old new → (other : K → Bool) → IsKeyTest eq other → AreApart test other → lookup other new ≡ lookup other old
  unfolding KeepsOthers
  others old new keeps = keeps

-- the texts of the copies, and of one copy more
pub copies_pushed : {Y : Type 0} (items pushed : List (Vec ℕ Y)) (copy : Vec ℕ Y) (name : List ℕ) → pushed ≡ items ++ copy ∷ [] → copy.items ≡ name → map (λ t. t.items) pushed ≡ map (λ t. t.items) items ++ name ∷ []
copies_pushed items pushed copy name is same = ap (map (λ t. t.items)) is ∙ map-append (λ t. t.items) items (copy ∷ []) ∙ ap (λ n. map (λ t. t.items) items ++ n ∷ []) same

-- one entry of a map from copies is set
pub copies_updated : {Y X : Type 0} (name : List ℕ) (old new : BTreeMap (Vec ℕ Y) X) (value : Option X) → tree.UpdatesBy (λ x y. slice_cmp nat_cmp x.items y.items) (λ key. slice_cmp nat_cmp name key.items) old new value
    → (other : List ℕ) → tree.get_by (λ key. slice_cmp nat_cmp other key.items) new ≡ (if bytes_eq name other then value else tree.get_by (λ key. slice_cmp nat_cmp other key.items) old)
copies_updated name old new value updates other = elim (cases_Bool (bytes_eq name other)) [
  | inl same ↦ subst (λ key. tree.get_by (λ k. slice_cmp nat_cmp key k.items) new ≡ value) ((bytes_eq-Decides name other).0 same) updates.1 ∙ sym (cond-true (bytes_eq name other) value _ same)
  | inr differs ↦ others _ _ _ _ updates.3 _ (λ x y. (eq_by_cmp_equiv nat_list_cmp_total).congr other x.items y.items) (λ key. apart name other key.items differs) ∙ sym (cond-false (bytes_eq name other) value _ differs)
]
