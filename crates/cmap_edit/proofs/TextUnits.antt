-- Units whose last one counts on.
use Rattle.std.proofs.Common.{◌≡◌, ℕ, ◌+◌, ◌-◌, ◌<◌, ◌^◌, true, false, List, [], ◌∷◌, ◌++◌, Option, Some, None, length, get_or, set, take, refl, sym, ap, ◌∙◌, arith}
use Rattle.std.specs.Prelude.{nat_lt, option_and_then, slice_get, if◌then◌else◌}
use Rattle.std.proofs.lemmas.Bool.Decides.{nat_tests}
use Rattle.std.proofs.lemmas.Bool.{cond-false, cond-true}
use Rattle.std.proofs.lemmas.List.{get_or_push, length_push, same_from_push, set_at, take_at}
use Rattle.std.proofs.lemmas.Option.{slice_get-get_or, same_Some}
use Rattle.cmap_tokens.specs.Texts.{shifted}
use Rattle.cmap_edit.specs.Tidy.{last_unit}
use Rattle.cmap_edit.proofs.ListsEnd.{last_split}

front_of : (front : List ℕ) (last : ℕ) → take (length (front ++ last ∷ []) - 1) (front ++ last ∷ []) ≡ front
front_of front last = let count = length_push front last in take_at front (last ∷ []) (length (front ++ last ∷ []) - 1) (omega arith)

pub last_of_push : (front : List ℕ) (last : ℕ) → last_unit (front ++ last ∷ []) ≡ last
last_of_push front last = let count = length_push front last in get_or_push front last 0 (length (front ++ last ∷ []) - 1) (omega arith)

got_end : (front : List ℕ) (last : ℕ) → slice_get (front ++ last ∷ []) (length (front ++ last ∷ []) - 1) ≡ Some last
got_end front last =
    let count = length_push front last in
    slice_get-get_or (front ++ last ∷ []) (length (front ++ last ∷ []) - 1) 0 (omega arith) ∙ ap (λ x. Some x) (last_of_push front last)

-- the units with another last one, where it is a unit
abbrev pub ended : List ℕ → ℕ → Option (List ℕ)
ended front last = if nat_lt last (2 ^ 16) then Some (front ++ last ∷ []) else None

pub shifted-push : (front : List ℕ) (last offset : ℕ) → shifted (front ++ last ∷ []) offset ≡ ended front (last + offset)
shifted-push front last offset =
    ap (option_and_then (λ u. ended (take (length (front ++ last ∷ []) - 1) (front ++ last ∷ [])) (u + offset))) (got_end front last)
    ∙ ap (λ f. ended f (last + offset)) (front_of front last)

pub ended_some : (front : List ℕ) (last : ℕ) → last < 2 ^ 16 → ended front last ≡ Some (front ++ last ∷ [])
ended_some front last small = cond-true (nat_lt last (2 ^ 16)) _ _ (grind (arith, nat_tests))

ended_is_by : (b : _) (units later : List ℕ) → (if b then Some units else None) ≡ Some later → (b ≡ true) × (units ≡ later)
ended_is_by true units later is = (refl, same_Some _ _ is)
ended_is_by false units later is = absurd cc

pub ended_is : (front later : List ℕ) (last : ℕ) → ended front last ≡ Some later → (last < 2 ^ 16) × (front ++ last ∷ [] ≡ later)
ended_is front later last is = let (small, same) = ended_is_by (nat_lt last (2 ^ 16)) (front ++ last ∷ []) later is in (grind (arith, nat_tests), same)

-- units, if there are some, with their last one
pub parted : (units : List ℕ) → 0 < length units → (front : List ℕ) × (units ≡ front ++ last_unit units ∷ [])
parted units some = let split = last_split units (last_unit units) (slice_get-get_or units (length units - 1) 0 (omega arith)) in (split.0, split.1)

pub shifted-none : (offset : ℕ) (units : List ℕ) → shifted [] offset ≡ Some units → ⊥
shifted-none offset units is = absurd cc

pub some_shifted : (units later : List ℕ) (offset : ℕ) → shifted units offset ≡ Some later → 0 < length units
some_shifted [] later offset is = absurd (shifted-none offset later is)
some_shifted (u ∷ us) later offset is = omega arith

-- the later units, and their last one
pub shifted_is : (units later : List ℕ) (offset : ℕ) → shifted units offset ≡ Some later
    → (front : List ℕ) × (units ≡ front ++ last_unit units ∷ []) × (last_unit units + offset < 2 ^ 16) × (front ++ (last_unit units + offset) ∷ [] ≡ later) × (last_unit later ≡ last_unit units + offset)
shifted_is units later offset is =
    let (front, same) = parted units (some_shifted units later offset is) in
    let (small, made) = ended_is front later (last_unit units + offset) (sym (shifted-push front (last_unit units) offset) ∙ ap (λ us. shifted us offset) (sym same) ∙ is) in
    (front, same, small, made, ap last_unit (sym made) ∙ last_of_push front (last_unit units + offset))

-- one offset after another
pub shifted_twice : (units later : List ℕ) (offset more : ℕ) → shifted units offset ≡ Some later → shifted units (offset + more) ≡ shifted later more
shifted_twice units later offset more is =
    let (front, same, small, made, last) = shifted_is units later offset is in
    ap (λ us. shifted us (offset + more)) same ∙ shifted-push front (last_unit units) (offset + more)
    ∙ ap (ended front) (let sum : last_unit units + (offset + more) ≡ last_unit units + offset + more = omega arith in sum)
    ∙ sym (ap (λ us. shifted us more) (sym made) ∙ shifted-push front (last_unit units + offset) more)

pub shifted_set : (units : List ℕ) (offset last i : ℕ) → 0 < length units → i ≡ length units - 1 → last ≡ last_unit units → last + offset < 2 ^ 16 → shifted units offset ≡ Some (set units i (last + offset))
shifted_set units offset last i some at is small =
    let (front, same) = parted units some in
    let count : length front ≡ i = let more = length_push front (last_unit units) in omega (arith, ap length same) in
    ap (λ us. shifted us offset) same ∙ shifted-push front (last_unit units) offset ∙ ap (λ u. ended front (u + offset)) (sym is) ∙ ended_some front (last + offset) small
    ∙ ap (λ us. Some us) (sym (ap (λ us. set us i (last + offset)) same ∙ set_at front (last_unit units) [] (last + offset) i count))

-- what shows that these become those, of units with their last ones
pub shifted_from : (units later front later_front : List ℕ) (unit later_unit offset : ℕ) → units ≡ front ++ unit ∷ [] → later ≡ later_front ++ later_unit ∷ []
    → unit + offset ≡ later_unit → later_unit < 2 ^ 16 → front ≡ later_front → shifted units offset ≡ Some later
shifted_from units later front later_front unit later_unit offset is later_is sum small fronts =
    ap (λ us. shifted us offset) is ∙ shifted-push front unit offset ∙ ap (ended front) sum ∙ ended_some front later_unit small
    ∙ ap (λ us. Some us) (ap (λ f. f ++ later_unit ∷ []) fronts ∙ sym later_is)

pub from_shifted : (units later front later_front : List ℕ) (unit later_unit offset : ℕ) → units ≡ front ++ unit ∷ [] → later ≡ later_front ++ later_unit ∷ []
    → shifted units offset ≡ Some later → (unit + offset ≡ later_unit) × (front ≡ later_front)
from_shifted units later front later_front unit later_unit offset is later_is shifts =
    let (small, made) = ended_is front later (unit + offset) (sym (shifted-push front unit offset) ∙ ap (λ us. shifted us offset) (sym is) ∙ shifts) in
    let same = same_from_push front later_front (unit + offset) later_unit (made ∙ later_is) in (same.1, same.0)

pub last_of : (units front : List ℕ) (unit : ℕ) → units ≡ front ++ unit ∷ [] → last_unit units ≡ unit
last_of units front unit is = ap last_unit is ∙ last_of_push front unit

pub last_is : (xs units : List ℕ) (i last : ℕ) → xs ≡ units → i ≡ length units - 1 → 0 < length units → last ≡ get_or xs i last → last ≡ last_unit units
last_is xs units i last same at some is =
    let here : last ≡ get_or units (length units - 1) last = is ∙ ap (λ us. get_or us i last) same ∙ ap (λ k. get_or units k last) at in
    same_Some last (last_unit units)
    (ap (λ u. Some u) here ∙ sym (slice_get-get_or units (length units - 1) last (omega arith)) ∙ slice_get-get_or units (length units - 1) 0 (omega arith))

pub later_some : (units later : List ℕ) (offset : ℕ) → shifted units offset ≡ Some later → 0 < length later
later_some units later offset is =
    let (front, same, small, made, last) = shifted_is units later offset is in
    let count = length_push front (last_unit units + offset) in omega (arith, ap length made)

-- where there are no units, or the last one passes 16 bits
pub shifted_past : (units : List ℕ) (offset : ℕ) → (0 < length units → last_unit units + offset < 2 ^ 16 → ⊥) → shifted units offset ≡ None
shifted_past [] offset past = refl
shifted_past (u ∷ us) offset past =
    let (front, same) = parted (u ∷ us) (omega arith) in
    ap (λ these. shifted these offset) same ∙ shifted-push front (last_unit (u ∷ us)) offset
    ∙ cond-false (nat_lt (last_unit (u ∷ us) + offset) (2 ^ 16)) _ _ (let past = past (omega arith) in grind (arith, nat_tests))

pub shifted_zero : (units : List ℕ) → 0 < length units → last_unit units < 2 ^ 16 → shifted units 0 ≡ Some units
shifted_zero units some small =
    let (front, same) = parted units some in
    let zero : last_unit units + 0 ≡ last_unit units = omega arith in
    ap (λ us. shifted us 0) same ∙ shifted-push front (last_unit units) 0 ∙ ap (ended front) zero ∙ ended_some front (last_unit units) small ∙ ap (λ us. Some us) (sym same)
