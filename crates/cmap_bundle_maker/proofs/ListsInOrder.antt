-- A list in order is known by its elements.
use Rattle.std.proofs.Common.{◌≡◌, ℕ, zero, suc, ◌+◌, ◌<◌, Bool, true, false, inl, inr, List, [], ◌∷◌, get_or, length, map, refl, ap, ◌∙◌, sym, subst, arith}
use Rattle.std.specs.Prelude.{◌⊎◌}
use Rattle.std.specs.List.{All, Contains}
use Rattle.std.proofs.lemmas.Bool.{cases_Bool}
use Rattle.std.proofs.lemmas.List.{get_or-map, length-map}
use Rattle.std.proofs.lemmas.List.Elements.{All-cons, All-contains, All-head, All-nil, All-tail, All-weaker, Contains-append_cases, Contains-append_right}
use Rattle.cmap_bundle_maker.specs.InOrder.{AreInOrder, in_order, placed}

-- ---- elements of a list
only_one : {X : Type 0} (y x : X) → Contains (y ∷ []) x → y ≡ x
only_one y x (zero, within, is) = is
only_one y x (suc k, within, is) = absurd (omega (arith, within))

pub is_first : {X : Type 0} (x : X) (xs : List X) → Contains (x ∷ xs) x
is_first x xs = (0, omega arith, refl)

pub is_later : {X : Type 0} (y x : X) (xs : List X) → Contains xs x → Contains (y ∷ xs) x
is_later y x xs h = Contains-append_right (y ∷ []) xs x h

pub first_or_later : {X : Type 0} (y x : X) (xs : List X) → Contains (y ∷ xs) x → (y ≡ x) ⊎ Contains xs x
first_or_later y x xs h = elim (Contains-append_cases (y ∷ []) xs x h) [ inl first ↦ inl (only_one y x first) | inr later ↦ inr later ]

-- ---- order
-- a test that orders: of two different elements one comes before the other
pub record IsOrder {X : Type 0} (before : X → X → Bool) : Type 0 where
  pub apart : (x y : X) → before x y ≡ true → before y x ≡ true → ⊥
  pub through : (x y z : X) → before x y ≡ true → before y z ≡ true → before x z ≡ true
  pub same : (x y : X) → before x y ≡ false → before y x ≡ false → x ≡ y

module _ {X : Type 0} (before : X → X → Bool) (o : IsOrder before) where
  placed_all : (P : X → Type 0) (x : X) (ys : List X) → P x → All P ys → All P (placed before x ys)
  placed_all P x [] p all = All-cons P x [] p (All-nil P)
  placed_all P x (y ∷ ys) p all = elim (cases_Bool (before x y)) [
    | inl here ↦ rw here (All-cons P x (y ∷ ys) p all)
    | inr later ↦ elim (cases_Bool (before y x)) [
      | inl behind ↦ rw (later, behind) (All-cons P y (placed before x ys) (All-head P y ys all) (placed_all P x ys p (All-tail P y ys all)))
      | inr same ↦ rw (later, same) all
    ]
  ]

  placed_here : (x : X) (ys : List X) → Contains (placed before x ys) x
  placed_here x [] = is_first x []
  placed_here x (y ∷ ys) = elim (cases_Bool (before x y)) [
    | inl here ↦ rw here (is_first x (y ∷ ys))
    | inr later ↦ elim (cases_Bool (before y x)) [
      | inl behind ↦ rw (later, behind) (is_later y x (placed before x ys) (placed_here x ys))
      | inr same ↦ rw (later, same) (subst (Contains (y ∷ ys)) (o.same y x same later) (is_first y ys))
    ]
  ]

  placed_kept : (x z : X) (ys : List X) → Contains ys z → Contains (placed before x ys) z
  placed_kept x z [] h = is_later x z [] h
  placed_kept x z (y ∷ ys) h = elim (cases_Bool (before x y)) [
    | inl here ↦ rw here (is_later x z (y ∷ ys) h)
    | inr later ↦ elim (cases_Bool (before y x)) [
      | inl behind ↦ elim (first_or_later y z ys h) [
        | inl first ↦ rw (later, behind) (subst (Contains (y ∷ placed before x ys)) first (is_first y (placed before x ys)))
        | inr more ↦ rw (later, behind) (is_later y z (placed before x ys) (placed_kept x z ys more))
      ]
      | inr same ↦ rw (later, same) h
    ]
  ]

  placed_order : (x : X) (ys : List X) → AreInOrder before ys → AreInOrder before (placed before x ys)
  placed_order x [] ordered = (All-nil (λ y. before x y ≡ true), tt)
  placed_order x (y ∷ ys) (first, ordered) = elim (cases_Bool (before x y)) [
    | inl here ↦ rw here (All-cons (λ z. before x z ≡ true) y ys here (All-weaker (λ z. before y z ≡ true) (λ z. before x z ≡ true) (λ z h. o.through x y z here h) ys first), (first, ordered))
    | inr later ↦ elim (cases_Bool (before y x)) [
      | inl behind ↦ rw (later, behind) (placed_all (λ z. before y z ≡ true) x ys behind first, placed_order x ys ordered)
      | inr same ↦ rw (later, same) (first, ordered)
    ]
  ]

  -- ---- the different elements of a list
  pub order_made : (xs : List X) → AreInOrder before (in_order before xs)
  order_made [] = tt
  order_made (x ∷ xs) = placed_order x (in_order before xs) (order_made xs)

  pub none_added : (P : X → Type 0) (xs : List X) → All P xs → All P (in_order before xs)
  none_added P [] all = All-nil P
  none_added P (x ∷ xs) all = placed_all P x (in_order before xs) (All-head P x xs all) (none_added P xs (All-tail P x xs all))

  pub all_kept : (xs : List X) → All (Contains (in_order before xs)) xs
  all_kept [] = All-nil (Contains [])
  all_kept (x ∷ xs) = All-cons (Contains (placed before x (in_order before xs))) x xs (placed_here x (in_order before xs)) (All-weaker (Contains (in_order before xs)) (Contains (placed before x (in_order before xs))) (λ z h. placed_kept x z (in_order before xs) h) xs (all_kept xs))

  -- ---- two lists in order with the same elements
  later_only : (x : X) (xs ys : List X) → All (λ z. before x z ≡ true) xs → All (Contains (x ∷ ys)) xs → All (Contains ys) xs
  later_only x xs ys first within = λ k d inside. elim (first_or_later x (get_or xs k d) ys (within k d inside)) [
    | inl same ↦ absurd (o.apart x x (subst (λ z. before x z ≡ true) (sym same) (first k d inside)) (subst (λ z. before x z ≡ true) (sym same) (first k d inside)))
    | inr later ↦ later
  ]

  pub known_by_elements : (xs ys : List X) → AreInOrder before xs → AreInOrder before ys → All (Contains ys) xs → All (Contains xs) ys → xs ≡ ys
  known_by_elements [] [] a b kept found = refl
  known_by_elements [] (y ∷ ys) a b kept (found) = let (k, within, is) = All-head (Contains []) y ys found in absurd (omega (arith, within))
  known_by_elements (x ∷ xs) [] a b kept found = let (k, within, is) = All-head (Contains []) x xs kept in absurd (omega (arith, within))
  known_by_elements (x ∷ xs) (y ∷ ys) (first, a) (second, b) kept found =
      let same : y ≡ x = elim (first_or_later y x ys (All-head (Contains (y ∷ ys)) x xs kept)) [
        | inl is ↦ is
        | inr behind ↦ elim (first_or_later x y xs (All-head (Contains (x ∷ xs)) y ys found)) [
          | inl is ↦ sym is
          | inr other ↦ absurd (o.apart x y (All-contains (λ z. before x z ≡ true) xs y first other) (All-contains (λ z. before y z ≡ true) ys x second behind))
        ]
      ] in
      let kept_later : All (Contains (x ∷ ys)) xs = subst (λ z. All (Contains (z ∷ ys)) xs) same (All-tail (Contains (y ∷ ys)) x xs kept) in
      let second_here : All (λ z. before x z ≡ true) ys = subst (λ w. All (λ z. before w z ≡ true) ys) same second in
      ap (λ zs. x ∷ zs) (known_by_elements xs ys a b (later_only x xs ys first kept_later) (later_only x ys xs second_here (All-tail (Contains (x ∷ xs)) y ys found))) ∙ ap (λ z. z ∷ ys) (sym same)

  -- a list in order that has the elements of another one
  pub in_order_is : (xs ys : List X) → AreInOrder before ys → All (Contains ys) xs → All (Contains xs) ys → ys ≡ in_order before xs
  in_order_is xs ys ordered kept found = known_by_elements ys (in_order before xs) ordered (order_made xs) (All-weaker (Contains xs) (Contains (in_order before xs)) (λ z h. All-contains (Contains (in_order before xs)) xs z (all_kept xs) h) ys found) (none_added (Contains ys) xs kept)

-- each comes before the next one
pub ordered_by_next : {X Y : Type 0} (before : Y → Y → Bool) → IsOrder before → (f : X → Y) (xs : List X) → ((k : ℕ) (d : X) → k + 1 < length xs → before (f (get_or xs k d)) (f (get_or xs (k + 1) d)) ≡ true) → AreInOrder before (map f xs)
ordered_by_next before o f [] next = tt
ordered_by_next before o f (x ∷ []) next = (All-nil (λ y. before (f x) y ≡ true), tt)
ordered_by_next before o f (x ∷ y ∷ ys) next =
    let here : before (f x) (f y) ≡ true = next 0 x (omega arith) in
    let later : AreInOrder before (map f (y ∷ ys)) = ordered_by_next before o f (y ∷ ys) (λ k d within.
    let e : suc k + 1 ≡ suc (k + 1) = omega arith in
    subst (λ n. before (f (get_or (y ∷ ys) k d)) (f (get_or (x ∷ y ∷ ys) n d)) ≡ true) e (next (suc k) d (omega (arith, within)))) in
    (All-cons (λ z. before (f x) z ≡ true) (f y) (map f ys) here (All-weaker (λ z. before (f y) z ≡ true) (λ z. before (f x) z ≡ true) (λ z h. o.through (f x) (f y) z here h) (map f ys) later.0), later)

pub contains_map : {X Y : Type 0} (f : X → Y) (xs : List X) (x : X) → Contains xs x → Contains (map f xs) (f x)
contains_map f xs x (k, within, is) = (k, omega (arith, within, length-map xs f), get_or-map f xs k x (f x) within ∙ ap f is)
