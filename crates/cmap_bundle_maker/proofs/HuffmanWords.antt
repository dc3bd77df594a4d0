-- The code words of Huffman's method: each number has one, and there is room for all.
use Rattle.std.proofs.Common.{◌≡◌, ℕ, zero, suc, ◌+◌, ◌-◌, ◌^◌, ◌<◌, ◌≤◌, Bool, true, false, inl, inr, List, [], ◌∷◌, ◌++◌, get_or, length, map, refl, ap, ◌∙◌, sym, subst, arith}
use Rattle.std.specs.Prelude.{◌⊎◌, ◌==◌, ◌&&◌, ◌||◌, nat_le, nat_lt}
use Rattle.std.specs.List.{All, flat_map, sum_by}
use Rattle.std.proofs.lemmas.Bool.{and_from, and_parts, cases_Bool, cases_order, eq-eqb, eqb-true, lt-ltb, ltb-true, or_cases, or_left, or_right}
use Rattle.std.proofs.lemmas.List.{get_or-map, length-map}
use Rattle.std.proofs.lemmas.List.Elements.{All-append, All-cons, All-head, All-map, All-nil, All-tail, All-weaker}
use Rattle.std.proofs.lemmas.List.Sums.{sum_by-append, sum_by-cons}
use Rattle.std.proofs.Math.Nat.{pow-suc}
use Rattle.cmap_binary.specs.PrefixWords.{CodeWord}
use Rattle.cmap_binary_writer.proofs.Told.{All-back, All-front}
use Rattle.cmap_bundle_maker.specs.Huffman.{Frequency, Group, alone, behind, both, is_rarer, join, joined, longer, words_joined}
use Rattle.cmap_bundle_maker.specs.Tables.{is_shorter}
use Rattle.cmap_bundle_maker.proofs.ListsInOrder.{IsOrder}

-- ---- order by two numbers
abbrev pub by_two : {X : Type 0} → (X → ℕ) → (X → ℕ) → X → X → Bool
by_two f g x y = nat_lt (f x) (f y) || ((f x == f y) && nat_lt (g x) (g y))

module _ {X : Type 0} (f g : X → ℕ) where
  abbrev pub IsBefore : X → X → Type 0
  IsBefore x y = (f x < f y) ⊎ ((f x ≡ f y) × (g x < g y))

  pub is_before : (x y : X) → by_two f g x y ≡ true → IsBefore x y
  is_before x y e = elim (or_cases (nat_lt (f x) (f y)) ((f x == f y) && nat_lt (g x) (g y)) e) [
    | inl less ↦ inl (ltb-true (f x) (f y) less)
    | inr tie ↦ let (same, less) = and_parts (f x == f y) (nat_lt (g x) (g y)) tie in inr (eqb-true (f x) (f y) same, ltb-true (g x) (g y) less)
  ]

  pub from_before : (x y : X) → IsBefore x y → by_two f g x y ≡ true
  from_before x y (inl less) = or_left (nat_lt (f x) (f y)) ((f x == f y) && nat_lt (g x) (g y)) (lt-ltb (f x) (f y) less)
  from_before x y (inr (same, less)) = or_right (nat_lt (f x) (f y)) ((f x == f y) && nat_lt (g x) (g y)) (and_from (f x == f y) (nat_lt (g x) (g y)) (eq-eqb (f x) (f y) same) (lt-ltb (g x) (g y) less))

  apart : (x y : X) → IsBefore x y → IsBefore y x → ⊥
  apart x y (inl less) (inl more) = omega (arith, less, more)
  apart x y (inl less) (inr (same, more)) = omega (arith, less, same)
  apart x y (inr (same, less)) (inl more) = omega (arith, same, more)
  apart x y (inr (same, less)) (inr (tie, more)) = omega (arith, less, more)

  through : (x y z : X) → IsBefore x y → IsBefore y z → IsBefore x z
  through x y z (inl less) (inl more) = inl (omega (arith, less, more))
  through x y z (inl less) (inr (same, more)) = inl (omega (arith, less, same))
  through x y z (inr (same, less)) (inl more) = inl (omega (arith, same, more))
  through x y z (inr (same, less)) (inr (tie, more)) = inr (same ∙ tie, omega (arith, less, more))

  not_before : (x y : X) → by_two f g x y ≡ false → IsBefore x y → ⊥
  not_before x y e h = let clash : true ≡ false = sym (from_before x y h) ∙ e in cc

  pub order_by_two : ((x y : X) → f x ≡ f y → g x ≡ g y → x ≡ y) → IsOrder (by_two f g)
  order_by_two known = record {
    apart = λ x y h k. apart x y (is_before x y h) (is_before y x k);
    through = λ x y z h k. from_before x z (through x y z (is_before x y h) (is_before y z k));
    same = λ x y h k. elim (cases_order (f x) (f y)) [
      | inl same ↦ elim (cases_order (g x) (g y)) [
        | inl tie ↦ known x y same tie
        | inr (inl less) ↦ absurd (not_before x y h (inr (same, less)))
        | inr (inr more) ↦ absurd (not_before y x k (inr (sym same, more)))
      ]
      | inr (inl less) ↦ absurd (not_before x y h (inl less))
      | inr (inr more) ↦ absurd (not_before y x k (inl more))
    ];
  }

pub order_shorter : IsOrder is_shorter
order_shorter = order_by_two (λ (w : CodeWord). w.len) (λ (w : CodeWord). w.symbol) (λ x y len symbol. ap (λ n. record { len = n; symbol = x.symbol }) len ∙ ap (λ s. record { len = y.len; symbol = s }) symbol)

pub order_rarer : IsOrder is_rarer
order_rarer = order_by_two (λ (f : Frequency). f.times) (λ (f : Frequency). f.number) (λ x y times number. ap (λ n. record { number = n; times = x.times }) number ∙ ap (λ t. record { number = y.number; times = t }) times)

pub order_lower : IsOrder nat_lt
order_lower = record {
  apart = λ x y h k. omega (arith, ltb-true x y h, ltb-true y x k);
  through = λ x y z h k. lt-ltb x z (omega (arith, ltb-true x y h, ltb-true y z k));
  same = λ x y h k. elim (cases_order x y) [
    | inl same ↦ same
    | inr (inl less) ↦ let clash : true ≡ false = sym (lt-ltb x y less) ∙ h in cc
    | inr (inr more) ↦ let clash : true ≡ false = sym (lt-ltb y x more) ∙ k in cc
  ];
}

-- ---- sums
pub sum_map : {X Y : Type 0} (f : Y → ℕ) (g : X → Y) (xs : List X) → sum_by f (map g xs) ≡ sum_by (λ x. f (g x)) xs
sum_map f g [] = refl
sum_map f g (x ∷ xs) = sum_by-cons f (g x) (map g xs) ∙ ap (λ n. f (g x) + n) (sum_map f g xs) ∙ sym (sum_by-cons (λ x. f (g x)) x xs)

pub sum_same : {X : Type 0} (f g : X → ℕ) → ((x : X) → f x ≡ g x) → (xs : List X) → sum_by f xs ≡ sum_by g xs
sum_same f g same [] = refl
sum_same f g same (x ∷ xs) = sum_by-cons f x xs ∙ ap (λ n. n + sum_by f xs) (same x) ∙ ap (λ n. g x + n) (sum_same f g same xs) ∙ sym (sum_by-cons g x xs)

pub all_of_map : {X Y : Type 0} (P : Y → Type 0) (f : X → Y) (xs : List X) → All P (map f xs) → All (λ x. P (f x)) xs
all_of_map P f xs all = λ k d within. subst P (get_or-map f xs k d (f d) within) (all k (f d) (omega (arith, within, length-map xs f)))

-- ---- groups that are joined
behind_length : (g : Group) (groups : List Group) → length (behind g groups) ≡ 1 + length groups
behind_length g [] = refl
behind_length g (h ∷ groups) = elim (cases_Bool (nat_le h.times g.times)) [
  | inl first ↦ rw first (omega (arith, behind_length g groups))
  | inr later ↦ rw later (omega arith)
]

behind_sum : (f : Group → ℕ) (g : Group) (groups : List Group) → sum_by f (behind g groups) ≡ f g + sum_by f groups
behind_sum f g [] = sum_by-cons f g []
behind_sum f g (h ∷ groups) = elim (cases_Bool (nat_le h.times g.times)) [
  | inl first ↦ rw first (omega (arith, behind_sum f g groups, sum_by-cons f h (behind g groups), sum_by-cons f h groups))
  | inr later ↦ rw later (sum_by-cons f g (h ∷ groups))
]

behind_all : (P : Group → Type 0) (g : Group) (groups : List Group) → P g → All P groups → All P (behind g groups)
behind_all P g [] p all = All-cons P g [] p all
behind_all P g (h ∷ groups) p all = elim (cases_Bool (nat_le h.times g.times)) [
  | inl first ↦ rw first (All-cons P h (behind g groups) (All-head P h groups all) (behind_all P g groups p (All-tail P h groups all)))
  | inr later ↦ rw later (All-cons P g (h ∷ groups) p all)
]

one_left : (steps : ℕ) (groups : List Group) → length groups ≤ steps + 1 → length (joined steps groups) ≤ 1
one_left zero groups few = omega (arith, few)
one_left (suc steps) [] few = one_left steps [] (omega arith)
one_left (suc steps) (a ∷ []) few = one_left steps (a ∷ []) (omega arith)
one_left (suc steps) (a ∷ b ∷ groups) few = one_left steps (behind (both a b) groups) (omega (arith, few, behind_length (both a b) groups))

joined_all : (P : Group → Type 0) → ((a b : Group) → P a → P b → P (both a b)) → (steps : ℕ) (groups : List Group) → All P groups → All P (joined steps groups)
joined_all P more zero groups all = all
joined_all P more (suc steps) [] all = joined_all P more steps [] all
joined_all P more (suc steps) (a ∷ []) all = joined_all P more steps (a ∷ []) all
joined_all P more (suc steps) (a ∷ b ∷ groups) all =
    let later = All-tail P a (b ∷ groups) all in
    joined_all P more steps (behind (both a b) groups) (behind_all P (both a b) groups (more a b (All-head P a (b ∷ groups) all) (All-head P b groups later)) (All-tail P b groups later))

-- ---- the numbers in groups
module _ (h : ℕ → ℕ) where
  abbrev in_words : List CodeWord → ℕ
  in_words words = sum_by (λ w. h w.symbol) words

  abbrev in_group : Group → ℕ
  in_group g = in_words g.words

  both_sum : (a b : Group) → in_group (both a b) ≡ in_group a + in_group b
  both_sum a b = sum_map (λ (w : CodeWord). h w.symbol) longer (a.words ++ b.words) ∙ sum_by-append (λ (w : CodeWord). h w.symbol) a.words b.words

  joined_sum : (steps : ℕ) (groups : List Group) → sum_by in_group (joined steps groups) ≡ sum_by in_group groups
  joined_sum zero groups = refl
  joined_sum (suc steps) [] = joined_sum steps []
  joined_sum (suc steps) (a ∷ []) = joined_sum steps (a ∷ [])
  joined_sum (suc steps) (a ∷ b ∷ groups) = omega (arith, joined_sum steps (behind (both a b) groups), behind_sum in_group (both a b) groups, both_sum a b, sum_by-cons in_group a (b ∷ groups), sum_by-cons in_group b groups)

  flat_sum : (groups : List Group) → in_words (flat_map (λ g. g.words) groups) ≡ sum_by in_group groups
  flat_sum [] = refl
  flat_sum (g ∷ groups) = sum_by-append (λ (w : CodeWord). h w.symbol) g.words (flat_map (λ g. g.words) groups) ∙ ap (λ n. in_words g.words + n) (flat_sum groups) ∙ sym (sum_by-cons in_group g groups)

  alone_sum : (fs : List Frequency) → sum_by in_group (map alone fs) ≡ sum_by (λ f. h f.number) fs
  alone_sum [] = refl
  alone_sum (f ∷ fs) = sum_by-cons in_group (alone f) (map alone fs) ∙ omega (arith, sum_by-cons (λ (w : CodeWord). h w.symbol) (record { len = 0; symbol = f.number }) [], alone_sum fs, sum_by-cons (λ (f : Frequency). h f.number) f fs)

  pub words_sum : (fs : List Frequency) → in_words (words_joined (map alone fs)) ≡ sum_by (λ f. h f.number) fs
  words_sum fs = flat_sum (joined (length (map alone fs)) (map alone fs)) ∙ joined_sum (length (map alone fs)) (map alone fs) ∙ alone_sum fs

-- ---- room for the words of a group
abbrev IsFull : Group → Type 0
IsFull g = (most : ℕ) → All (λ w. w.len ≤ most) g.words → sum_by (λ w. 2 ^ (most - w.len)) g.words ≡ 2 ^ most

full_alone : (f : Frequency) → IsFull (alone f)
full_alone f most all =
    let none : most - 0 ≡ most = omega arith in
    omega (arith, sum_by-cons (λ (w : CodeWord). 2 ^ (most - w.len)) (record { len = 0; symbol = f.number }) [], ap (λ m. 2 ^ m) none)

some_in : (words : List CodeWord) → (All (λ w. w.len ≤ 0) words → sum_by (λ w. 2 ^ (0 - w.len)) words ≡ 1) → 0 < length words
some_in [] full = let none = full (All-nil (λ w. w.len ≤ 0)) in absurd (omega (arith, none))
some_in (w ∷ words) full = omega arith

some_words : (g : Group) → IsFull g → 0 < length g.words
some_words g full = some_in g.words (full 0)

both_full : (a b : Group) → IsFull a → IsFull b → IsFull (both a b)
both_full a b first second zero all =
    let words = a.words ++ b.words in
    let none : CodeWord = record { len = 0; symbol = 0 } in
    let within = all_of_map (λ w. w.len ≤ 0) longer words all in
    let here = All-front (λ w. w.len + 1 ≤ 0) a.words b.words within in
    absurd (omega (arith, here 0 none (some_words a first)))
both_full a b first second (suc most) all =
    let words = a.words ++ b.words in
    let within = All-weaker (λ (w : CodeWord). w.len + 1 ≤ suc most) (λ w. w.len ≤ most) (λ w h. omega (arith, h)) words (all_of_map (λ w. w.len ≤ suc most) longer words all) in
    let less : (w : CodeWord) → 2 ^ (suc most - (w.len + 1)) ≡ 2 ^ (most - w.len) = λ w. let e : suc most - (w.len + 1) ≡ most - w.len = omega arith in ap (λ n. 2 ^ n) e in
    let parts = sum_map (λ (w : CodeWord). 2 ^ (suc most - w.len)) longer words ∙ sum_same (λ w. 2 ^ (suc most - (w.len + 1))) (λ w. 2 ^ (most - w.len)) less words ∙ sum_by-append (λ (w : CodeWord). 2 ^ (most - w.len)) a.words b.words in
    omega (arith, parts, first most (All-front (λ w. w.len ≤ most) a.words b.words within), second most (All-back (λ w. w.len ≤ most) a.words b.words within), pow-suc 2 most)

at_most_one : (groups : List Group) → length groups ≤ 1 → All IsFull groups → (most : ℕ) → All (λ w. w.len ≤ most) (flat_map (λ g. g.words) groups) → sum_by (λ w. 2 ^ (most - w.len)) (flat_map (λ g. g.words) groups) ≤ 2 ^ most
at_most_one [] few full most all = omega arith
at_most_one (g ∷ []) few full most all =
    let one : sum_by (λ w. 2 ^ (most - w.len)) g.words ≡ 2 ^ most = All-head IsFull g [] full most (All-front (λ w. w.len ≤ most) g.words [] all) in
    omega (arith, one, sum_by-append (λ (w : CodeWord). 2 ^ (most - w.len)) g.words [])
at_most_one (g ∷ h ∷ groups) few full most all = absurd (omega (arith, few))

all_alone : (fs : List Frequency) → All IsFull (map alone fs)
all_alone fs = All-map IsFull alone fs (λ k d within. full_alone (get_or fs k d))

pub room_for_words : (fs : List Frequency) (most : ℕ) → All (λ w. w.len ≤ most) (words_joined (map alone fs)) → sum_by (λ w. 2 ^ (most - w.len)) (words_joined (map alone fs)) ≤ 2 ^ most
room_for_words fs most all =
    let groups = map alone fs in
    at_most_one (joined (length groups) groups) (one_left (length groups) groups (omega arith)) (joined_all IsFull both_full (length groups) groups (all_alone fs)) most all

-- ---- the last steps
pub step_kept : (groups : List Group) → 2 ≤ length groups → words_joined (join groups) ≡ words_joined groups
step_kept [] two = absurd (omega (arith, two))
step_kept (a ∷ []) two = absurd (omega (arith, two))
step_kept (a ∷ b ∷ groups) two = let size : length (behind (both a b) groups) ≡ suc (length groups) = omega (arith, behind_length (both a b) groups) in ap (λ n. flat_map (λ (g : Group). g.words) (joined n (behind (both a b) groups))) size

pub step_length : (groups : List Group) → 2 ≤ length groups → length (join groups) + 1 ≡ length groups
step_length [] two = absurd (omega (arith, two))
step_length (a ∷ []) two = absurd (omega (arith, two))
step_length (a ∷ b ∷ groups) two = omega (arith, behind_length (both a b) groups)

-- ---- what holds of all numbers holds of all words
flat_all : (P : CodeWord → Type 0) (groups : List Group) → All (λ g. All P g.words) groups → All P (flat_map (λ g. g.words) groups)
flat_all P [] all = All-nil P
flat_all P (g ∷ groups) all = All-append P g.words (flat_map (λ g. g.words) groups) (All-head (λ g. All P g.words) g groups all) (flat_all P groups (All-tail (λ g. All P g.words) g groups all))

pub all_in_words : (P : ℕ → Type 0) (fs : List Frequency) → All (λ f. P f.number) fs → All (λ w. P w.symbol) (words_joined (map alone fs))
all_in_words P fs all =
    let groups = map alone fs in
    flat_all (λ w. P w.symbol) (joined (length groups) groups) (joined_all (λ g. All (λ w. P w.symbol) g.words) (λ a b first second. All-map (λ w. P w.symbol) longer (a.words ++ b.words) (All-append (λ w. P w.symbol) a.words b.words first second)) (length groups) groups
    (All-map (λ g. All (λ w. P w.symbol) g.words) alone fs (λ k d within. All-cons (λ w. P w.symbol) (record { len = 0; symbol = (get_or fs k d).number }) [] (all k d within) (All-nil (λ w. P w.symbol)))))
