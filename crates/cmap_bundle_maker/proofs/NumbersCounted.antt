-- How often numbers come: counted in rising order, then sorted by how often.
use Rattle.std.proofs.Common.{◌≡◌, ℕ, zero, suc, ◌+◌, ◌-◌, ◌<◌, ◌≤◌, Bool, true, false, inl, inr, List, [], ◌∷◌, ◌++◌, get_or, length, map, set, take, refl, ap, ◌∙◌, sym, subst, arith}
use Rattle.std.specs.Prelude.{◌==◌, cond, nat_lt}
use Rattle.std.specs.List.{All, Contains, count_by, sum_by}
use Rattle.std.specs.List.Sorted.{IsNonDecreasing, IsPermutation, IsSortedByKey, IsStableByKey}
use Rattle.std.specs.Ordering.{is_lt, nat_cmp}
use Rattle.std.proofs.lemmas.Bool.{cases_Bool, cases_order, eq-eqb, eqb-true, le-ltb, lt-ltb, ltb-true, ne_eqb}
use Rattle.std.proofs.lemmas.List.{get_or-map, get_or_default, get_or-take, length-append, length-map, length-take-le, map-append, take_more}
use Rattle.std.proofs.lemmas.List.Elements.{All-contains, All-cons, All-head, All-map, All-nil, All-push, All-tail, All-weaker, Contains-append_left, Contains-get_or, Contains-push}
use Rattle.std.proofs.lemmas.List.Sorted.{All-permutation, Contains-permutation, IsNonDecreasingBy-from_sort, IsPermutation-map, IsPermutation-sym, length_permutation, sum_by-IsPermutation, ties_still_rise}
use Rattle.std.proofs.lemmas.List.Sums.{sum_by-cons, sum_by-take-le, sum_by_more, sum_by_push}
use Rattle.cmap_binary_writer.proofs.Told.{All-back, All-front}
use Rattle.cmap_bundle_maker.specs.Counted.{AreDistinct, AreFrequencies, CountsNumber, numbers_of}
use Rattle.cmap_bundle_maker.specs.Huffman.{Frequency, frequencies_in, is_rarer, times_in}
use Rattle.cmap_bundle_maker.specs.InOrder.{AreInOrder}
use Rattle.cmap_bundle_maker.proofs.HuffmanWords.{from_before, order_rarer, sum_map}
use Rattle.cmap_bundle_maker.proofs.ListsInOrder.{contains_map, in_order_is, ordered_by_next}

-- ---- one number more
times_more : (numbers : List ℕ) (n m : ℕ) → times_in (numbers ++ n ∷ []) m ≡ times_in numbers m + cond (n == m) 1 0
times_more numbers n m = sum_by_push (λ k. cond (k == m) 1 0) numbers n

same_times : (numbers : List ℕ) (n m : ℕ) → (n ≡ m → ⊥) → times_in (numbers ++ n ∷ []) m ≡ times_in numbers m
same_times numbers n m other = let no = ne_eqb n m other in omega (arith, times_more numbers n m, ap {B = ℕ} (λ b. cond b 1 0) no)

once_more : (numbers : List ℕ) (n : ℕ) → times_in (numbers ++ n ∷ []) n ≡ times_in numbers n + 1
once_more numbers n = let yes = eq-eqb n n refl in omega (arith, times_more numbers n n, ap {B = ℕ} (λ b. cond b 1 0) yes)

never : (numbers : List ℕ) (n : ℕ) → All (λ m. m < n) numbers → times_in numbers n ≡ 0
never [] n all = refl
never (m ∷ numbers) n all =
    let less = All-head (λ m. m < n) m numbers all in
    let no = ne_eqb m n (λ e. omega (arith, less, e)) in
    omega (arith, sum_by-cons (λ k. cond (k == n) 1 0) m numbers, ap {B = ℕ} (λ b. cond b 1 0) no, never numbers n (All-tail (λ m. m < n) m numbers all))

order_push : (ns : List ℕ) (n : ℕ) → AreInOrder nat_lt ns → All (λ m. m < n) ns → AreInOrder nat_lt (ns ++ n ∷ [])
order_push [] n order less = (All-nil (λ m. nat_lt n m ≡ true), tt)
order_push (m ∷ ns) n (first, order) less = (All-push (λ k. nat_lt m k ≡ true) ns n first (lt-ltb m n (All-head (λ m. m < n) m ns less)), order_push ns n order (All-tail (λ m. m < n) m ns less))

order_front : (ns : List ℕ) (n : ℕ) → AreInOrder nat_lt (ns ++ n ∷ []) → All (λ m. m < n) ns
order_front [] n order = All-nil (λ m. m < n)
order_front (m ∷ ns) n (first, order) = All-cons (λ m. m < n) m ns (ltb-true m n (All-contains (λ k. nat_lt m k ≡ true) (ns ++ n ∷ []) n first (Contains-push ns n))) (order_front ns n order)

-- numbers up to one that isn't the last of them are below it
all_lower : (fs : List Frequency) (n : ℕ) → AreInOrder nat_lt (numbers_of fs) → All (λ m. m ≤ n) (numbers_of fs) → ((d : Frequency) → 0 < length fs → (get_or fs (length fs - 1) d).number ≡ n → ⊥) → All (λ m. m < n) (numbers_of fs)
all_lower [] n order most other = All-nil (λ m. m < n)
all_lower (f ∷ []) n order most other =
    let le = All-head (λ m. m ≤ n) f.number [] most in
    elim (cases_order f.number n) [
      | inl same ↦ absurd (other f (omega arith) same)
      | inr (inl less) ↦ All-cons (λ m. m < n) f.number [] less (All-nil (λ m. m < n))
      | inr (inr more) ↦ absurd (omega (arith, le, more))
    ]
all_lower (f ∷ g ∷ fs) n (first, order) most other =
    let last : length (f ∷ g ∷ fs) - 1 ≡ suc (length (g ∷ fs) - 1) = omega arith in
    let later = all_lower (g ∷ fs) n order (All-tail (λ m. m ≤ n) f.number (numbers_of (g ∷ fs)) most) (λ d some is. other d (omega arith) (ap (λ k. (get_or (f ∷ g ∷ fs) k d).number) last ∙ is)) in
    let next = ltb-true f.number g.number (All-head (λ k. nat_lt f.number k ≡ true) g.number (numbers_of fs) first) in
    All-cons (λ m. m < n) f.number (numbers_of (g ∷ fs)) (omega (arith, next, All-head (λ m. m < n) g.number (numbers_of fs) later)) later

number_at : (fs : List Frequency) (k : ℕ) (d : Frequency) → k < length fs → Contains (numbers_of fs) (get_or fs k d).number
number_at fs k d within = subst (Contains (numbers_of fs)) (get_or-map (λ (f : Frequency). f.number) fs k d 0 within) (Contains-get_or (numbers_of fs) k 0 (omega (arith, within, length-map fs (λ (f : Frequency). f.number))))

module _ (numbers : List ℕ) (fs : List Frequency) (n : ℕ) (h : AreFrequencies numbers fs) where
  counted_again : (front : List Frequency) (times : ℕ) → fs ≡ front ++ record { number = n; times = times } ∷ [] → AreFrequencies (numbers ++ n ∷ []) (front ++ record { number = n; times = times + 1 } ∷ [])
  counted_again front times is =
      let old : Frequency = record { number = n; times = times } in
      let new : Frequency = record { number = n; times = times + 1 } in
      let these = map-append (λ (f : Frequency). f.number) front (new ∷ []) in
      let same : numbers_of fs ≡ numbers_of (front ++ new ∷ []) = ap numbers_of is ∙ map-append (λ (f : Frequency). f.number) front (old ∷ []) ∙ sym these in
      let order = subst (AreInOrder nat_lt) same h.order in
      let lower = order_front (numbers_of front) n (subst (AreInOrder nat_lt) these order) in
      let before = subst (All (λ f. f.times ≡ times_in numbers f.number)) is h.times in
      record {
        order = order;
        kept = All-push (Contains (numbers_of (front ++ new ∷ []))) numbers n (subst (λ ns. All (Contains ns) numbers) same h.kept) (subst (λ ns. Contains ns n) (sym these) (Contains-push (numbers_of front) n));
        found = subst (All (Contains (numbers ++ n ∷ []))) same (All-weaker (Contains numbers) (Contains (numbers ++ n ∷ [])) (λ m c. Contains-append_left numbers (n ∷ []) m c) (numbers_of fs) h.found);
        times = All-push (λ f. f.times ≡ times_in (numbers ++ n ∷ []) f.number) front new (λ k d within.
            let f = get_or front k d in
            let less : f.number < n = All-contains (λ m. m < n) (numbers_of front) f.number lower (number_at front k d within) in
            All-front (λ f. f.times ≡ times_in numbers f.number) front (old ∷ []) before k d within ∙ sym (same_times numbers n f.number (λ e. omega (arith, less, e)))) (omega (arith, once_more numbers n, All-head (λ f. f.times ≡ times_in numbers f.number) old [] (All-back (λ f. f.times ≡ times_in numbers f.number) front (old ∷ []) before)));
        total = omega (arith, h.total, ap (sum_by (λ f. f.times)) is, sum_by_push (λ (f : Frequency). f.times) front old, sum_by_push (λ (f : Frequency). f.times) front new, length-append numbers (n ∷ []));
      }

  counted_new : All (λ m. m ≤ n) numbers → ((d : Frequency) → 0 < length fs → (get_or fs (length fs - 1) d).number ≡ n → ⊥) → AreFrequencies (numbers ++ n ∷ []) (fs ++ record { number = n; times = 1 } ∷ [])
  counted_new most other =
      let new : Frequency = record { number = n; times = 1 } in
      let these : numbers_of (fs ++ new ∷ []) ≡ numbers_of fs ++ n ∷ [] = map-append (λ (f : Frequency). f.number) fs (new ∷ []) in
      let up = All-weaker (Contains numbers) (λ m. m ≤ n) (λ m c. All-contains (λ m. m ≤ n) numbers m most c) (numbers_of fs) h.found in
      let lower = all_lower fs n h.order up other in
      let fewer = All-weaker (Contains (numbers_of fs)) (λ m. m < n) (λ m c. All-contains (λ m. m < n) (numbers_of fs) m lower c) numbers h.kept in
      record {
        order = subst (AreInOrder nat_lt) (sym these) (order_push (numbers_of fs) n h.order lower);
        kept = subst (λ ns. All (Contains ns) (numbers ++ n ∷ [])) (sym these) (All-push (Contains (numbers_of fs ++ n ∷ [])) numbers n (All-weaker (Contains (numbers_of fs)) (Contains (numbers_of fs ++ n ∷ [])) (λ m c. Contains-append_left (numbers_of fs) (n ∷ []) m c) numbers h.kept) (Contains-push (numbers_of fs) n));
        found = subst (All (Contains (numbers ++ n ∷ []))) (sym these) (All-push (Contains (numbers ++ n ∷ [])) (numbers_of fs) n (All-weaker (Contains numbers) (Contains (numbers ++ n ∷ [])) (λ m c. Contains-append_left numbers (n ∷ []) m c) (numbers_of fs) h.found) (Contains-push numbers n));
        times = All-push (λ f. f.times ≡ times_in (numbers ++ n ∷ []) f.number) fs new (λ k d within.
            let f = get_or fs k d in
            let less : f.number < n = All-contains (λ m. m < n) (numbers_of fs) f.number lower (number_at fs k d within) in
            h.times k d within ∙ sym (same_times numbers n f.number (λ e. omega (arith, less, e)))) (omega (arith, once_more numbers n, never numbers n fewer));
        total = omega (arith, h.total, sum_by_push (λ (f : Frequency). f.times) fs new, length-append numbers (n ∷ []));
      }

  pub counted : All (λ m. m ≤ n) numbers → (after : List Frequency) → CountsNumber fs n after → AreFrequencies (numbers ++ n ∷ []) after
  counted most after counts = elim counts [
    | inl (front, times, is, then) ↦ subst (AreFrequencies (numbers ++ n ∷ [])) (sym then) (counted_again front times is)
    | inr (then, other) ↦ subst (AreFrequencies (numbers ++ n ∷ [])) (sym then) (counted_new most other)
  ]

pub none_counted : AreFrequencies [] []
none_counted = record { order = tt; kept = All-nil (Contains []); found = All-nil (Contains []); times = All-nil (λ f. f.times ≡ times_in [] f.number); total = refl }

-- all that came before are at most this one
pub earlier : (xs : List ℕ) (i : ℕ) → i < length xs → IsNonDecreasing xs → All (λ m. m ≤ get_or xs i 0) (take i xs)
earlier xs i within order = λ k d below.
    let before : k < i = omega (arith, below, length-take-le i xs (omega (arith, within))) in
    let at : get_or (take i xs) k d ≡ get_or xs k 0 = get_or-take i xs k d before ∙ get_or_default xs k d 0 (omega (arith, before, within)) in
    omega (arith, at, order k i 0 (omega (arith, before)) within)

pub counted_more : (xs : List ℕ) (i : ℕ) (fs after : List Frequency) → i < length xs → IsNonDecreasing xs → AreFrequencies (take i xs) fs → CountsNumber fs (get_or xs i 0) after → AreFrequencies (take (i + 1) xs) after
counted_more xs i fs after within order h counts = subst (λ ns. AreFrequencies ns after) (sym (take_more xs i 0 within)) (counted (take i xs) fs (get_or xs i 0) h (earlier xs i within order) after counts)

-- ---- the numbers in another order
pub frequencies_permuted : (xs ys : List ℕ) (fs : List Frequency) → IsPermutation xs ys → AreFrequencies ys fs → AreFrequencies xs fs
frequencies_permuted xs ys fs p h = record {
  order = h.order;
  kept = λ k d within. All-contains (Contains (numbers_of fs)) ys (get_or xs k d) h.kept (Contains-permutation xs ys (get_or xs k d) p (Contains-get_or xs k d within));
  found = All-weaker (Contains ys) (Contains xs) (λ m c. Contains-permutation ys xs m (IsPermutation-sym xs ys p) c) (numbers_of fs) h.found;
  times = All-weaker (λ f. f.times ≡ times_in ys f.number) (λ f. f.times ≡ times_in xs f.number) (λ f e. e ∙ sum_by-IsPermutation (λ m. cond (m == f.number) 1 0) xs ys p) fs h.times;
  total = omega (arith, h.total, length_permutation xs ys p);
}

-- ---- each number once
none_above : (ns : List ℕ) (n : ℕ) → All (λ k. n < k) ns → times_in ns n ≡ 0
none_above [] n all = refl
none_above (m ∷ ns) n all =
    let less = All-head (λ k. n < k) m ns all in
    let no = ne_eqb m n (λ e. omega (arith, less, e)) in
    omega (arith, sum_by-cons (λ k. cond (k == n) 1 0) m ns, ap {B = ℕ} (λ b. cond b 1 0) no, none_above ns n (All-tail (λ k. n < k) m ns all))

none_after : (m : ℕ) (ns : List ℕ) (n : ℕ) → (m == n) ≡ true → All (λ k. nat_lt m k ≡ true) ns → times_in ns n ≡ 0
none_after m ns n same first = none_above ns n (All-weaker (λ k. nat_lt m k ≡ true) (λ k. n < k) (λ k less. omega (arith, ltb-true m k less, eqb-true m n same)) ns first)

once_in_order : (ns : List ℕ) (n : ℕ) → AreInOrder nat_lt ns → times_in ns n ≤ 1
once_in_order [] n order = omega arith
once_in_order (m ∷ ns) n (first, order) = elim (cases_Bool (m == n)) [
  | inl same ↦ omega (arith, sum_by-cons (λ k. cond (k == n) 1 0) m ns, ap {B = ℕ} (λ b. cond b 1 0) same, none_after m ns n same first)
  | inr other ↦ omega (arith, sum_by-cons (λ k. cond (k == n) 1 0) m ns, ap {B = ℕ} (λ b. cond b 1 0) other, once_in_order ns n order)
]

pub twice_at : {X : Type 0} (p : X → Bool) (xs : List X) (k : ℕ) (d : X) → k + 1 < length xs → p (get_or xs k d) ≡ true → p (get_or xs (k + 1) d) ≡ true → 2 ≤ count_by p xs
twice_at {X} p xs k d within first second =
    let f : X → ℕ = λ x. cond (p x) 1 0 in
    omega (arith, sum_by_more f xs k d (omega (arith, within)), sum_by_more f xs (k + 1) d within, sum_by-take-le f xs (k + 1 + 1), ap {B = ℕ} (λ b. cond b 1 0) first, ap {B = ℕ} (λ b. cond b 1 0) second)

-- ---- sorted by how often they come
not_less : (a b : ℕ) → a < b → is_lt (nat_cmp b a) ≡ false
not_less a b less = let no = le-ltb b a (omega (arith, less)) in let other = ne_eqb b a (λ e. omega (arith, less, e)) in rw (no, other) refl

abbrev pub seen_by : {X : Type 0} → (X → ℕ) → (X → ℕ) → X → Frequency
seen_by number times x = record { number = number x; times = times x }

module _ {X : Type 0} (number times : X → ℕ) (numbers : List ℕ) (xs ys : List X) where
  abbrev seen : X → Frequency
  seen = seen_by number times

  next_number : (us : List X) (k : ℕ) (d : X) → AreInOrder nat_lt (numbers_of (map seen us)) → k + 1 < length us → number (get_or us k d) < number (get_or us (k + 1) d)
  next_number [] k d order within = absurd (omega (arith, within))
  next_number (x ∷ []) k d order within = absurd (omega (arith, within))
  next_number (x ∷ y ∷ us) zero d (first, order) within = ltb-true (number x) (number y) (All-head (λ m. nat_lt (number x) m ≡ true) (number y) (numbers_of (map seen us)) first)
  next_number (x ∷ y ∷ us) (suc k) d (first, order) within =
      let e : suc k + 1 ≡ suc (k + 1) = omega arith in
      subst (λ n. number (get_or (y ∷ us) k d) < number (get_or (x ∷ y ∷ us) n d)) (sym e) (next_number (y ∷ us) k d order (omega (arith, within)))

  module _ (h : AreFrequencies numbers (map seen xs)) (p : IsPermutation xs ys) (sorted : IsSortedByKey times nat_cmp ys) (stable : IsStableByKey times nat_cmp xs ys) where
    moved : IsPermutation (map seen xs) (map seen ys)
    moved = IsPermutation-map seen xs ys p

    pub distinct_after : AreDistinct (map seen ys)
    distinct_after n =
        let f : Frequency → ℕ = λ f. cond (f.number == n) 1 0 in
        omega (arith, sum_by-IsPermutation f (map seen xs) (map seen ys) moved, sum_map (λ m. cond (m == n) 1 0) (λ (f : Frequency). f.number) (map seen xs), once_in_order (numbers_of (map seen xs)) n h.order)

    pub total_after : sum_by times ys ≡ length numbers
    total_after = omega (arith, h.total, sum_map (λ (f : Frequency). f.times) seen xs, sum_by-IsPermutation times xs ys p)

    rising_numbers : IsSortedByKey number nat_cmp xs
    rising_numbers k d from within = not_less (number (get_or xs k d)) (number (get_or xs (k + 1) d)) (next_number xs k d h.order within)

    two_numbers : (k : ℕ) (d : X) → k + 1 < length ys → number (get_or ys k d) ≡ number (get_or ys (k + 1) d) → ⊥
    two_numbers k d within same =
        let n = number (get_or ys k d) in
        let twice = twice_at (λ x. number x == n) ys k d within (eq-eqb n n refl) (eq-eqb (number (get_or ys (k + 1) d)) n (sym same)) in
        omega (arith, twice, distinct_after n, sum_map (λ (f : Frequency). cond (f.number == n) 1 0) seen ys)

    rarer_next : (k : ℕ) (d : X) → k + 1 < length ys → is_rarer (seen (get_or ys k d)) (seen (get_or ys (k + 1) d)) ≡ true
    rarer_next k d within =
        let x = get_or ys k d in
        let y = get_or ys (k + 1) d in
        let fewer : times x ≤ times y = IsNonDecreasingBy-from_sort times ys sorted k (k + 1) d (omega arith) within in
        from_before (λ (f : Frequency). f.times) (λ (f : Frequency). f.number) (seen x) (seen y) (elim (cases_order (times x) (times y)) [
          | inl tie ↦
              let up = ties_still_rise number times xs ys rising_numbers stable k d within tie in
              elim (cases_order (number x) (number y)) [
                | inl same ↦ absurd (two_numbers k d within same)
                | inr (inl less) ↦ inr (tie, less)
                | inr (inr more) ↦ absurd (omega (arith, up, more))
              ]
          | inr (inl less) ↦ inl less
          | inr (inr more) ↦ absurd (omega (arith, fewer, more))
        ])

    pub order_after : AreInOrder is_rarer (map seen ys)
    order_after = ordered_by_next is_rarer order_rarer seen ys rarer_next

    abbrev frequency : ℕ → Frequency
    frequency n = record { number = n; times = times_in numbers n }

    known_by_number : (f : Frequency) (n : ℕ) → f.number ≡ n → f.times ≡ times_in numbers f.number → f ≡ frequency n
    known_by_number f n number_is times_are = ap (λ m. record { number = m; times = f.times }) number_is ∙ ap (λ t. record { number = n; times = t }) (times_are ∙ ap (times_in numbers) number_is)

    has_each : (n : ℕ) → Contains (numbers_of (map seen xs)) n → Contains (map seen ys) (frequency n)
    has_each n (j, inside, is) =
        let fs = map seen xs in
        let within : j < length fs = omega (arith, inside, length-map fs (λ (f : Frequency). f.number)) in
        let f = get_or fs j (frequency n) in
        let number_is : f.number ≡ n = sym (get_or-map (λ (f : Frequency). f.number) fs j (frequency n) n within) ∙ is in
        subst (Contains (map seen ys)) (known_by_number f n number_is (h.times j (frequency n) within)) (Contains-permutation fs (map seen ys) f moved (Contains-get_or fs j (frequency n) within))

    is_of_number : (k : ℕ) (d : Frequency) → k < length (map seen xs) → Contains (map frequency numbers) (get_or (map seen xs) k d)
    is_of_number k d within =
        let f = get_or (map seen xs) k d in
        let among : Contains numbers f.number = All-contains (Contains numbers) (numbers_of (map seen xs)) f.number h.found (number_at (map seen xs) k d within) in
        subst (Contains (map frequency numbers)) (sym (known_by_number f f.number refl (h.times k d within))) (contains_map frequency numbers f.number among)

    pub frequencies_are : map seen ys ≡ frequencies_in numbers
    frequencies_are = in_order_is is_rarer order_rarer (map frequency numbers) (map seen ys) order_after
        (All-map (Contains (map seen ys)) frequency numbers (λ k d within. has_each (get_or numbers k d) (h.kept k d within)))
        (All-permutation (Contains (map frequency numbers)) (map seen xs) (map seen ys) moved is_of_number)

-- ---- one more of a list
module _ {X : Type 0} (number times : X → ℕ) where
  last_set : (xs : List X) (i : ℕ) (x y : X) → i + 1 ≡ length xs → x ≡ get_or xs i x → (xs ≡ take i xs ++ x ∷ []) × (set xs i y ≡ take i xs ++ y ∷ [])
  last_set [] i x y end is = absurd (omega (arith, end))
  last_set (z ∷ []) zero x y end is = (ap (λ w. w ∷ []) (sym is), refl)
  last_set (z ∷ w ∷ xs) zero x y end is = absurd (omega (arith, end))
  last_set (z ∷ xs) (suc i) x y end is = let (old, new) = last_set xs i x y (omega (arith, end)) is in (ap (λ ws. z ∷ ws) old, ap (λ ws. z ∷ ws) new)

  pub counts_last : (xs : List X) (i n : ℕ) (x y : X) → i + 1 ≡ length xs → x ≡ get_or xs i x → number x ≡ n → number y ≡ n → times y ≡ times x + 1 → CountsNumber (map (seen_by number times) xs) n (map (seen_by number times) (set xs i y))
  counts_last xs i n x y end is old_is new_is more =
      let seen = seen_by number times in
      let (old, new) = last_set xs i x y end is in
      let before : seen x ≡ record { number = n; times = times x } = ap (λ m. record { number = m; times = times x }) old_is in
      let after : seen y ≡ record { number = n; times = times x + 1 } = ap (λ m. record { number = m; times = times y }) new_is ∙ ap (λ t. record { number = n; times = t }) more in
      inl (
        map seen (take i xs),
        times x,
        ap (map seen) old ∙ map-append seen (take i xs) (x ∷ []) ∙ ap (λ f. map seen (take i xs) ++ f ∷ []) before,
        ap (map seen) new ∙ map-append seen (take i xs) (y ∷ []) ∙ ap (λ f. map seen (take i xs) ++ f ∷ []) after,
      )

  last_other : (xs : List X) (n : ℕ) → ((d : X) → 0 < length xs → number (get_or xs (length xs - 1) d) ≡ n → ⊥) → (d : Frequency) → 0 < length (map (seen_by number times) xs) → (get_or (map (seen_by number times) xs) (length (map (seen_by number times) xs) - 1) d).number ≡ n → ⊥
  last_other [] n other d some is = omega (arith, some)
  last_other (x ∷ xs) n other d some is =
      let all = x ∷ xs in
      let seen = seen_by number times in
      let end : length (map seen all) - 1 ≡ length all - 1 = omega (arith, length-map all seen) in
      other x (omega arith) (ap (λ (f : Frequency). f.number) (sym (get_or-map seen all (length all - 1) x d (omega arith))) ∙ ap (λ k. (get_or (map seen all) k d).number) (sym end) ∙ is)

  pub counts_new : (xs now : List X) (n : ℕ) (y : X) → map (seen_by number times) now ≡ map (seen_by number times) xs → number y ≡ n → times y ≡ 1 → ((d : X) → 0 < length xs → number (get_or xs (length xs - 1) d) ≡ n → ⊥) → CountsNumber (map (seen_by number times) xs) n (map (seen_by number times) (now ++ y ∷ []))
  counts_new xs now n y same new_is one other =
      let seen = seen_by number times in
      let after : seen y ≡ record { number = n; times = 1 } = ap (λ m. record { number = m; times = times y }) new_is ∙ ap (λ t. record { number = n; times = t }) one in
      inr (map-append seen now (y ∷ []) ∙ ap (λ fs. fs ++ seen y ∷ []) same ∙ ap (λ f. map seen xs ++ f ∷ []) after, last_other xs n other)
