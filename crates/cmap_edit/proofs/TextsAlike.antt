-- Texts of units are the same just where their units are, or where neither is there.
use Rattle.std.proofs.Common.{◌≡◌, ℕ, Bool, ◌+◌, ◌-◌, ◌<◌, ◌^◌, true, false, true≢false, List, [], ◌∷◌, ◌++◌, length, take, get_or, Option, Some, None, option_map, refl, ap, sym, ◌∙◌, arith}
use Rattle.std.specs.Prelude.{if◌then◌else◌, ◌||◌, is_some, option_and_then, nat_lt, slice_index}
use Rattle.std.proofs.lemmas.Bool.{ltb-true}
use Rattle.std.proofs.lemmas.List.{same_from_push}
use Rattle.std.proofs.lemmas.List.Elements.{All-push, All-take}
use Rattle.std.proofs.lemmas.Option.{cond_some, none-some, option_and_then_some, slice_get-get_or}
use Rattle.cmap_tokens.specs.Texts.{characters, shifted, text_at}
use Rattle.cmap_layers.specs.CodeStretches.{counted_on}
use Rattle.cmap_layers.proofs.UnitsOfTexts.{AreUnits, are_units, units_spelled}
use Rattle.cmap_edit.specs.Differences.{DiffersIf}
use Rattle.cmap_edit.specs.UnitsAlike.{AreAlike}

-- where the texts count on, they are there or not
some_mapped : {A B : Type 0} (f : A → B) (o : Option A) → is_some (option_map f o) ≡ is_some o
some_mapped f None = refl
some_mapped f (Some x) = refl

pub in_row : (units : List ℕ) (offset k : ℕ) → text_at units (offset + k) ≡ option_map (λ cs. counted_on cs k) (text_at units offset) → is_some (text_at units (offset + k)) ≡ is_some (text_at units offset)
in_row units offset k counts = ap is_some counts ∙ some_mapped (λ cs. counted_on cs k) (text_at units offset)

-- units with another last one, if that is a unit
abbrev units_with : List ℕ → ℕ → Option (List ℕ)
units_with front value = if nat_lt value (2 ^ 16) then Some (front ++ value ∷ []) else None

shifted_at : (units : List ℕ) (offset : ℕ) → 0 < length units → shifted units offset ≡ units_with (take (length units - 1) units) (slice_index units (length units - 1) + offset)
shifted_at units offset some =
    let before : length units - 1 < length units = omega arith in
    ap (λ o. option_and_then (λ last. if nat_lt (last + offset) (2 ^ 16) then Some (take (length units - 1) units ++ (last + offset) ∷ []) else None) o) (slice_get-get_or units (length units - 1) 0 before)

abbrev front_of : List ℕ → List ℕ
front_of units = take (length units - 1) units

abbrev last_of : List ℕ → ℕ
last_of units = slice_index units (length units - 1)

-- the same units give the same text
pub alike_texts : (us vs : List ℕ) (o p : ℕ) → AreAlike us o vs p → text_at us o ≡ text_at vs p
alike_texts us vs o p alike =
    ap (option_and_then characters)
    (shifted_at us o alike.some ∙ ap (λ front. units_with front (last_of us + o)) alike.fronts ∙ ap (units_with (front_of vs)) alike.lasts ∙ sym (shifted_at vs p alike.some_too))

-- and so they do further on, and before
pub moved : (us vs : List ℕ) (o p o' p' : ℕ) → o + p' ≡ o' + p → AreAlike us o vs p → AreAlike us o' vs p'
moved us vs o p o' p' move alike = record {
  some = alike.some;
  some_too = alike.some_too;
  fronts = alike.fronts;
  lasts = omega (arith, alike.lasts);
}

-- units that spell a text are there, and are units
some_units : (us text : List ℕ) (o : ℕ) → text_at us o ≡ Some text → 0 < length us
some_units [] text o is = absurd (none-some text is)
some_units (u ∷ us) text o is = omega arith

spelled_units : (us text : List ℕ) (o : ℕ) → AreUnits us → text_at us o ≡ Some text → (last_of us + o < 2 ^ 16) × (characters (front_of us ++ (last_of us + o) ∷ []) ≡ Some text)
spelled_units us text o fit is =
    option_and_then_some characters (shifted us o) text is (λ units found spells.
    let (test, same) = cond_some (nat_lt (last_of us + o) (2 ^ 16)) (front_of us ++ (last_of us + o) ∷ []) units (sym (shifted_at us o (some_units us text o is)) ∙ found) in
    (ltb-true (last_of us + o) (2 ^ 16) test, ap characters same ∙ spells))

fitting : (us : List ℕ) (o : ℕ) → AreUnits us → last_of us + o < 2 ^ 16 → AreUnits (front_of us ++ (last_of us + o) ∷ [])
fitting us o fit small = All-push (λ u. u < 0x1_0000) (front_of us) (last_of us + o) (All-take (λ u. u < 0x1_0000) (length us - 1) us fit) small

-- so are those of the same text the same
pub alike_units : (us vs text : List ℕ) (o p : ℕ) → AreUnits us → AreUnits vs → text_at us o ≡ Some text → text_at vs p ≡ Some text → AreAlike us o vs p
alike_units us vs text o p fit fit_too is is_too =
    let (small, spells) = spelled_units us text o fit is in
    let (small_too, spells_too) = spelled_units vs text p fit_too is_too in
    let same = units_spelled (front_of us ++ (last_of us + o) ∷ []) text (fitting us o fit small) spells ∙ sym (units_spelled (front_of vs ++ (last_of vs + p) ∷ []) text (fitting vs p fit_too small_too) spells_too) in
    let (fronts, lasts) = same_from_push (front_of us) (front_of vs) (last_of us + o) (last_of vs + p) same in
    record { some = some_units us text o is; some_too = some_units vs text p is_too; fronts = fronts; lasts = lasts }

-- ---- texts of units that are not the same
same_none : (t s : Option (List ℕ)) → is_some t ≡ false → is_some s ≡ false → t ≡ s
same_none None None none none_too = refl
same_none (Some x) s none none_too = absurd (true≢false none)
same_none None (Some y) none none_too = absurd (true≢false none_too)

-- they are the same only where neither is there
one_none : (t s : Option (List ℕ)) → t ≡ s → ((text : List ℕ) → t ≡ Some text → s ≡ Some text → ⊥) → (is_some t ≡ false) × (is_some s ≡ false)
one_none None s same apart = (refl, sym (ap (λ (o : Option (List ℕ)). is_some o) same))
one_none (Some text) s same apart = absurd (apart text refl (sym same))

by_presence : (here there : Bool) (t s : Option (List ℕ)) → is_some t ≡ here → is_some s ≡ there → ((text : List ℕ) → t ≡ Some text → s ≡ Some text → ⊥) → DiffersIf (here || there) t s
by_presence true there t s is is_too apart = λ same. true≢false (sym is ∙ (one_none t s same apart).0)
by_presence false true t s is is_too apart = λ same. true≢false (sym is_too ∙ (one_none t s same apart).1)
by_presence false false t s is is_too apart = same_none t s is is_too

pub unlike_texts : (us vs : List ℕ) (o p k : ℕ) (here there : Bool) → ((i : ℕ) → get_or us i 0 < 0x1_0000) → ((i : ℕ) → get_or vs i 0 < 0x1_0000) → (AreAlike us o vs p → ⊥)
    → is_some (text_at us (o + k)) ≡ here → is_some (text_at vs (p + k)) ≡ there → DiffersIf (here || there) (text_at us (o + k)) (text_at vs (p + k))
unlike_texts us vs o p k here there fit fit_too unlike is is_too =
    by_presence here there (text_at us (o + k)) (text_at vs (p + k)) is is_too
    (λ text one other. unlike (moved us vs (o + k) (p + k) o p (omega arith) (alike_units us vs text (o + k) (p + k) (are_units us fit) (are_units vs fit_too) one other)))
