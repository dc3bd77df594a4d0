-- Numbers of names that are equal, and their texts.
use Rattle.std.proofs.Common.{◌≡◌, ◌∙◌, refl, sym, ap, ℕ, Bool, true, false, cond, List, inl, inr, arith, length, Some, ◌<◌}
use Rattle.std.specs.Prelude.{◌==◌, bytes_eq, nat_lt, slice_get}
use Rattle.std.specs.BTreeMap.{is_at}
use Rattle.std.specs.Ordering.{is_eq, nat_cmp}
use Rattle.std.specs.declared.cmp.Ordering.{Ordering}
use Rattle.std.specs.declared.cmp.Ordering.TheVariants.{Equal, Greater, Less}
use Rattle.std.proofs.lemmas.Bool.{cases_eq, eq-eqb, ltb-true, ne_eqb}
use Rattle.std.proofs.lemmas.Map.Lookups.{exact_unsigned}
use Rattle.cmap_load.specs.Numbers.{AreDistinct, text_at}
use Rattle.cmap_load.proofs.Numbered.{bytes_eq-other, bytes_eq-same, text_at-got, text_at-there}

pub equal-is : (number other : ℕ) → number ≡ other → (number == other) ≡ true
equal-is number other same = eq-eqb number other same

pub equal-not : (number other : ℕ) → (number ≡ other → ⊥) → (number == other) ≡ false
equal-not number other differs = ne_eqb number other differs

not_less : (x : ℕ) (b : Bool) → nat_lt x x ≡ b → nat_lt x x ≡ false
not_less x true is = absurd (let less = ltb-true x x is in omega (arith, less))
not_less x false is = is

with_itself : (x : ℕ) → nat_cmp x x ≡ Equal
with_itself x = ap (λ b. cond b Less (cond (x == x) Equal Greater)) (not_less x (nat_lt x x) refl) ∙ ap (λ b. cond b Equal Greater) (equal-is x x refl)

-- where a map of numbers has a key
pub at_number : (number other : ℕ) → is_at (nat_cmp number) other ≡ (number == other)
at_number number other = elim (cases_eq number other) [
  | inl same ↦ ap (λ n. is_eq (nat_cmp number n)) (sym same) ∙ ap is_eq (with_itself number) ∙ sym (equal-is number other same)
  | inr differs ↦ by (nat_cmp number other) refl differs
]
  where
    by : (order : Ordering) → nat_cmp number other ≡ order → (number ≡ other → ⊥) → is_eq (nat_cmp number other) ≡ (number == other)
    by Less is differs = ap is_eq is ∙ sym (equal-not number other differs)
    by Greater is differs = ap is_eq is ∙ sym (equal-not number other differs)
    by Equal is differs = absurd (differs (exact_unsigned number other is))

-- a name has the text of the name of a number exactly if it has this number
pub same_text : (texts : List (List ℕ)) (number other : ℕ) (name : List ℕ) → AreDistinct texts → other < length texts → slice_get texts number ≡ Some name → bytes_eq (text_at texts other) name ≡ (other == number)
same_text texts number other name distinct within said = elim (cases_eq other number) [
  | inl same ↦ ap (λ n. bytes_eq (text_at texts n) name) same ∙ ap (λ t. bytes_eq t name) (text_at-got texts number name said) ∙ bytes_eq-same name ∙ sym (equal-is other number same)
  | inr differs ↦ bytes_eq-other (text_at texts other) name (λ same. differs (distinct other number name (text_at-there texts other within ∙ ap Some same) said)) ∙ sym (equal-not other number differs)
]
