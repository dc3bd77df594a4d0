-- There is one list of ranges of some codes.
use Rattle.std.proofs.Common.{◌≡◌, ℕ, zero, suc, ◌+◌, ◌<◌, ◌≤◌, ◌⊎◌, List, [], ◌∷◌, refl, sym, ap, subst, inl, inr, arith}
use Rattle.std.specs.Prelude.{◌↔◌, All, AllPairs, Any}
use Rattle.std.proofs.lemmas.Bool.{cases_lt}
use Rattle.std.proofs.lemmas.List.Elements.{All-head, All-tail}
use Rattle.cmap_values.specs.declared.range.Range.{Range}
use Rattle.cmap_layers.specs.CodeRanges.{AreRangesOf, IsIn}

-- the first of them, and the rest
after_first : (first : Range) (rest : List Range) → AllPairs (λ range later. range.end + 1 < later.start) (first ∷ rest) → All (λ later. first.end + 1 < later.start) rest
after_first first rest apart = λ k d lt. apart 0 (suc k) d (omega arith) (omega arith)

rest_apart : (first : Range) (rest : List Range) → AllPairs (λ range later. range.end + 1 < later.start) (first ∷ rest) → AllPairs (λ range later. range.end + 1 < later.start) rest
rest_apart first rest apart = λ i j d lt within. apart (suc i) (suc j) d (omega arith) (omega arith)

first_or_rest : (code : ℕ) (first : Range) (rest : List Range) → Any (IsIn code) (first ∷ rest) → IsIn code first ⊎ Any (IsIn code) rest
first_or_rest code first rest (zero, range, lt, same, is) = inl (subst (IsIn code) (sym same) is)
first_or_rest code first rest (suc k, range, lt, same, is) = inr (k, range, omega arith, same, is)

in_rest : (code : ℕ) (first : Range) (rest : List Range) → Any (IsIn code) rest → Any (IsIn code) (first ∷ rest)
in_rest code first rest (k, range, lt, same, is) = (suc k, range, omega arith, same, is)

in_first : (code : ℕ) (first : Range) (rest : List Range) → IsIn code first → Any (IsIn code) (first ∷ rest)
in_first code first rest is = (0, first, omega arith, refl, is)

abbrev Order : Range → List Range → Type 0
Order first rest = (first.start ≤ first.end) × All (λ later. first.end + 1 < later.start) rest

-- a code of the rest comes later
later_code : (code : ℕ) (first : Range) (rest : List Range) → All (λ later. first.end + 1 < later.start) rest → Any (IsIn code) rest → first.end + 1 < code
later_code code first rest later (k, range, lt, same, is) =
    let after : first.end + 1 < range.start = subst (λ (r : Range). first.end + 1 < r.start) same (later k range lt) in
    omega (arith, is.0)

-- of two lists with the same codes from a code on
module _ (limit : ℕ) where
  abbrev AreSame : ℕ → List Range → List Range → Type 0
  AreSame low xs ys = (code : ℕ) → low ≤ code → code < limit → (Any (IsIn code) xs ↔ Any (IsIn code) ys)

  abbrev AreOrdered : ℕ → List Range → Type 0
  AreOrdered low xs = All (λ range. (low ≤ range.start) × (range.start ≤ range.end) × (range.end < limit)) xs × AllPairs (λ range later. range.end + 1 < later.start) xs

  starts_before : (low : ℕ) (x y : Range) (xs ys : List Range) → AreOrdered low (x ∷ xs) → AreOrdered low (y ∷ ys) → AreSame low (x ∷ xs) (y ∷ ys) → y.start ≤ x.start
  starts_before low x y xs ys (each, apart) (each_too, apart_too) same =
      let (from, filled, below) = All-head (λ (r : Range). (low ≤ r.start) × (r.start ≤ r.end) × (r.end < limit)) x xs each in
      let (from_too, filled_too, below_too) = All-head (λ (r : Range). (low ≤ r.start) × (r.start ≤ r.end) × (r.end < limit)) y ys each_too in
      elim (first_or_rest x.start y ys ((same x.start from (omega arith)).0 (in_first x.start x xs (omega arith, filled)))) [
        | inl here ↦ here.0
        | inr later ↦ omega (arith, later_code x.start y ys (after_first y ys apart_too) later)
      ]

  ends_before : (low : ℕ) (x y : Range) (xs ys : List Range) → AreOrdered low (x ∷ xs) → AreOrdered low (y ∷ ys) → AreSame low (x ∷ xs) (y ∷ ys) → x.start ≡ y.start → y.end ≤ x.end
  ends_before low x y xs ys (each, apart) (each_too, apart_too) same starts =
      let (from, filled, below) = All-head (λ (r : Range). (low ≤ r.start) × (r.start ≤ r.end) × (r.end < limit)) x xs each in
      let (from_too, filled_too, below_too) = All-head (λ (r : Range). (low ≤ r.start) × (r.start ≤ r.end) × (r.end < limit)) y ys each_too in
      elim (cases_lt x.end y.end) [
        | inl longer ↦
            elim (first_or_rest (x.end + 1) x xs ((same (x.end + 1) (omega arith) (omega arith)).1 (in_first (x.end + 1) y ys (omega arith, omega arith)))) [
              | inl here ↦ absurd (let most = here.1 in omega arith)
              | inr later ↦ absurd (omega (arith, later_code (x.end + 1) x xs (after_first x xs apart) later))
            ]
        | inr not_longer ↦ not_longer
      ]

  rest_ordered : (low : ℕ) (x : Range) (xs : List Range) → AreOrdered low (x ∷ xs) → AreOrdered (x.end + 1) xs
  rest_ordered low x xs (each, apart) =
      let rest = All-tail (λ (r : Range). (low ≤ r.start) × (r.start ≤ r.end) × (r.end < limit)) x xs each in
      (λ k d lt. (let later = after_first x xs apart k d lt in omega arith, (rest k d lt).1, (rest k d lt).2), rest_apart x xs apart)

  rest_same : (low : ℕ) (x y : Range) (xs ys : List Range) → low ≤ x.start → x.start ≤ x.end → AreSame low (x ∷ xs) (y ∷ ys) → x ≡ y → AreSame (x.end + 1) xs ys
  rest_same low x y xs ys from filled same is code after below =
      let both = same code (omega arith) below in (
        λ found. elim (first_or_rest code y ys (both.0 (in_rest code x xs found))) [ inl here ↦ absurd (omega (arith, here.1, ap (λ (r : Range). r.end) is)) | inr later ↦ later ],
        λ found. elim (first_or_rest code x xs (both.1 (in_rest code y ys found))) [ inl here ↦ absurd (omega (arith, here.1)) | inr later ↦ later ],
      )

  same_lists : (low : ℕ) (xs ys : List Range) → AreOrdered low xs → AreOrdered low ys → AreSame low xs ys → xs ≡ ys
  same_lists low [] [] ordered ordered_too same = refl
  same_lists low [] (y ∷ ys) ordered (each, apart) same =
      let (from, filled, below) = All-head (λ (r : Range). (low ≤ r.start) × (r.start ≤ r.end) × (r.end < limit)) y ys each in
      let found = (same y.start from (omega arith)).1 (in_first y.start y ys (omega arith, filled)) in absurd (let lt = found.2 in omega arith)
  same_lists low (x ∷ xs) [] (each, apart) ordered same =
      let (from, filled, below) = All-head (λ (r : Range). (low ≤ r.start) × (r.start ≤ r.end) × (r.end < limit)) x xs each in
      let found = (same x.start from (omega arith)).0 (in_first x.start x xs (omega arith, filled)) in absurd (let lt = found.2 in omega arith)
  same_lists low (x ∷ xs) (y ∷ ys) ordered ordered_too same =
      let back : AreSame low (y ∷ ys) (x ∷ xs) = λ code from below. ((same code from below).1, (same code from below).0) in
      let (from, filled, below) = All-head (λ (r : Range). (low ≤ r.start) × (r.start ≤ r.end) × (r.end < limit)) x xs ordered.0 in
      let starts : x.start ≡ y.start = omega (arith, starts_before low x y xs ys ordered ordered_too same, starts_before low y x ys xs ordered_too ordered back) in
      let ends : x.end ≡ y.end = omega (arith, ends_before low x y xs ys ordered ordered_too same starts, ends_before low y x ys xs ordered_too ordered back (sym starts)) in
      let is : x ≡ y = λ i. record { start = starts i; end = ends i } in
      let tails : xs ≡ ys = same_lists (x.end + 1) xs ys (rest_ordered low x xs ordered) (subst (λ (r : Range). AreOrdered (r.end + 1) ys) (sym is) (rest_ordered low y ys ordered_too)) (rest_same low x y xs ys from filled same is) in
      λ i. is i ∷ tails i

-- only one list of ranges has just these codes
pub one_list : (Holds : ℕ → Type 0) (limit : ℕ) (xs ys : List Range) → AreRangesOf Holds limit xs → AreRangesOf Holds limit ys → xs ≡ ys
one_list Holds limit xs ys are were =
    same_lists limit 0 xs ys (λ k d lt. (omega arith, (are.within k d lt).0, (are.within k d lt).1), are.apart) (λ k d lt. (omega arith, (were.within k d lt).0, (were.within k d lt).1), were.apart)
    (λ code from below. (λ found. (were.codes code below).0 ((are.codes code below).1 found), λ found. (are.codes code below).0 ((were.codes code below).1 found)))
