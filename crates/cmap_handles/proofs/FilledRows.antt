-- A room that is filled from its head, one item after another.
use Rattle.std.proofs.Common.{◌≡◌, ℕ, ◌+◌, ◌-◌, ◌<◌, ◌≤◌, List, [], ◌∷◌, ◌++◌, Some, length, take, drop, get_or, ◌∙◌, ap, arith, refl, append_assoc, add-one, drop-cons, min, sym}
use Rattle.std.specs.Prelude.{map, slice_get}
use Rattle.std.proofs.Math.ListN.{length-map, set}
use Rattle.std.proofs.lemmas.List.{append-nil, drop_all, drop_min, length-take-le, set-append_right, take_all, take_min, take_more}
use Rattle.std.proofs.lemmas.Option.{get_or_from_slice_get, slice_get-get_or, slice_get-map, slice_get_within}

pub fill_more : {A : Type 0} (items old : List A) (i : ℕ) (x : A) → slice_get items i ≡ Some x → length items ≤ length old
    → set (take i items ++ drop i old) i x ≡ take (i + 1) items ++ drop (i + 1) old
fill_more items old i x at room =
    let within : i < length items = slice_get_within items i x at in
    let inside : i < length old = omega arith in
    let len : length (take i items) ≡ i = length-take-le i items (omega arith) in
    let more : take (i + 1) items ≡ take i items ++ x ∷ [] = take_more items i x within ∙ ap (λ y. take i items ++ y ∷ []) (get_or_from_slice_get items i x x at) in
    let front : set (take i items ++ drop i old) i x ≡ take i items ++ set (drop i old) (i - i) x = set-append_right (take i items) (drop i old) i i x len (omega arith) in
    let none : i - i ≡ 0 = omega arith in
    let left : drop i old ≡ get_or old i x ∷ drop (i + 1) old = rw add-one (drop-cons old i x inside) in
    front ∙ rw (none, left, more, append_assoc) refl

pub fill_all : {A : Type 0} (items old new : List A) (i count : ℕ) → count ≡ length items → count ≤ i → i ≤ count → new ≡ take i items ++ drop i old → new ≡ items ++ drop (length items) old
fill_all items old new i count is past within filled =
    let same : i ≡ length items = omega arith in
    filled ∙ ap (λ n. take n items ++ drop n old) same ∙ ap (λ head. head ++ drop (length items) old) (take_all (length items) items (omega arith))

-- as many items as have room
module _ {A : Type 0} (items room : List A) (count : ℕ) (is : count ≡ min (length items) (length room)) where
  pub head_lengths : length (take count room) ≡ length (take count items)
  head_lengths = length-take-le count room (omega arith) ∙ sym (length-take-le count items (omega arith))

pub head_put : {A : Type 0} (items room new : List A) (count : ℕ) → count ≡ min (length items) (length room) → new ≡ take count items → new ++ drop count room ≡ take (length room) items ++ drop (length items) room
head_put items room new count is copied =
    let turned : count ≡ min (length room) (length items) = omega arith in
    let front : new ≡ take (length room) items = copied ∙ ap (λ n. take n items) turned ∙ take_min (length room) items in
    let rest : drop count room ≡ drop (length items) room = ap (λ n. drop n room) is ∙ drop_min (length items) room in
    λ i. front i ++ rest i

-- the item of a list that is mapped twice
pub mapped_at : {A B C : Type 0} (f : A → B) (g : B → C) (xs : List A) (i : ℕ) (x : A) → slice_get xs i ≡ Some x → slice_get (map g (map f xs)) i ≡ Some (g (f x))
mapped_at f g xs i x at = simp slice_get-map (rw at refl)

pub mapped_index : {A B C : Type 0} (f : A → B) (g : B → C) (xs : List A) (i : ℕ) (d : A) → i < length (map g (map f xs)) → slice_get (map g (map f xs)) i ≡ Some (g (f (get_or xs i d)))
mapped_index f g xs i d within = mapped_at f g xs i (get_or xs i d) (slice_get-get_or xs i d (simp length-map at within))

pub mapped_within : {A B C : Type 0} (f : A → B) (g : B → C) (xs : List A) (i : ℕ) → i < length (map g (map f xs)) → i < length xs
mapped_within f g xs i within = simp length-map at within

-- what is made of a list from one end to the other
pub all_left : {A B : Type 0} (shown : List A → List B) (xs : List A) (i : ℕ) (made all : List B) → length xs ≤ i → shown [] ≡ [] → made ++ shown (drop i xs) ≡ all → made ≡ all
all_left shown xs i made all past none is = sym (append-nil made) ∙ sym (ap (λ left. made ++ left) (ap shown (drop_all i xs past) ∙ none)) ∙ is
