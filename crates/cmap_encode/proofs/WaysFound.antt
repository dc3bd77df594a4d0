-- The ways of the last characters of a text, one after another.
use Rattle.std.proofs.Common.{◌≡◌, ℕ, suc, ◌+◌, ◌-◌, ◌<◌, ◌≤◌, ◌⊎◌, Bool, true, false, cond, get_or, List, [], ◌∷◌, ◌++◌, length, take, drop, Option, Some, None, refl, sym, ap, ◌∙◌, subst, inl, inr, arith, length-drop}
use Rattle.std.specs.Prelude.{◌↔◌, IfSome, IsSome, IsTrue, MatchOption, if◌then◌else◌, is_some, slice_get, take_while}
use Rattle.std.specs.Option.{option_or}
use Rattle.std.proofs.lemmas.Bool.{cases_lt, false≢true}
use Rattle.std.proofs.Math.Seq.{drop-cons}
use Rattle.std.proofs.lemmas.List.{drop-drop, drop_all, length_push}
use Rattle.std.proofs.lemmas.List.Sums.{take_while-cons}
use Rattle.cmap_encode.specs.ChoicesSeen.{choice_seen}
use Rattle.cmap_encode.specs.Letters.{is_mark}
use Rattle.cmap_encode.specs.Pieces.{Choices, IsEncodable, IsSooner, MayBegin, letter_of, nothing}
use Rattle.cmap_encode.specs.Ways.{AreInside, AreWays, IsInside, IsSettled, IsTry, IsTryOf, IsWayOf, last_of, marks_of}
use Rattle.cmap_encode.specs.declared.ways.Way.{Way}
use Rattle.cmap_encode.proofs.ListElements.{push_get, push_last}
use Rattle.cmap_encode.proofs.PiecesParted.{begins_somehow, may_encodable}

module _ (choices : Choices) (text : List ℕ) where
  -- ---- the best of some ways
  -- of the pieces that have fewer characters than a number, it is tried first of those that may begin the text
  abbrev pub IsBestBelow : ℕ → Option Way → Type 0
  IsBestBelow limit best = MatchOption best ((taken : ℕ) → taken < limit → MayBegin choices text taken → ⊥)
      (λ way. IsTry choices text way × (way.taken < limit) × ((taken : ℕ) → taken < limit → IsSooner (letter_of text) taken way.taken → MayBegin choices text taken → ⊥))

  pub none_below : IsBestBelow 1 None
  none_below = λ taken few may. omega (arith, may.some)

  at_limit : (limit taken : ℕ) → taken < limit + 1 → (taken < limit) ⊎ (taken ≡ limit)
  at_limit limit taken few = elim (cases_lt taken limit) [ inl less ↦ inl less | inr more ↦ inr (omega arith) ]

  missed : (limit : ℕ) (best : Option Way) → IsBestBelow limit best → (MayBegin choices text limit → ⊥) → IsBestBelow (limit + 1) best
  missed limit None is none = λ taken few may.
      elim (at_limit limit taken few) [ inl fewer ↦ is taken fewer may | inr same ↦ none (subst (MayBegin choices text) same may) ]
  missed limit (Some best) (try, fewer, first) none = (
    try,
    omega arith,
    λ taken few sooner may. elim (at_limit limit taken few) [ inl below ↦ first taken below sooner may | inr same ↦ none (subst (MayBegin choices text) same may) ],
  )

  -- a piece within the letter may begin the text, and the best one so far doesn't lie there
  none_within : (limit taken : ℕ) (best : Option Way) → IsBestBelow limit best → (IsSettled best limit (letter_of text) → ⊥) → letter_of text < limit → taken ≤ letter_of text → MayBegin choices text taken → ⊥
  none_within limit taken None is unsettled beyond within may = is taken (omega arith) may
  none_within limit taken (Some best) (try, fewer, first) unsettled beyond within may =
      elim (cases_lt (letter_of text) best.taken) [
        | inl after ↦ first taken (omega arith) (inl (within, inl after)) may
        | inr before ↦ unsettled (before, beyond)
      ]

  found : (limit : ℕ) (best : Option Way) (way : Way) → IsBestBelow limit best → (IsSettled best limit (letter_of text) → ⊥) → way.taken ≡ limit → IsTry choices text way → IsBestBelow (limit + 1) (Some way)
  found limit best way is unsettled at try = (
    try,
    omega (arith, at),
    λ taken few sooner may. elim sooner [
      | inl (within, inl beyond) ↦ none_within limit taken best is unsettled (omega (arith, at, beyond)) within may
      | inl (within, inr longer) ↦ omega (arith, at, few, longer)
      | inr (after, beyond, longer) ↦ omega (arith, at, few, longer)
    ],
  )

  pub best_more : (limit : ℕ) (best way : Option Way) → IsBestBelow limit best → (IsSettled best limit (letter_of text) → ⊥) → IsTryOf choices text limit way → IsBestBelow (limit + 1) (option_or way best)
  best_more limit best None is unsettled none = missed limit best is none
  best_more limit best (Some way) is unsettled (at, try) = found limit best way is unsettled at try

  -- no longer piece may begin the text
  pub way_found : (limit : ℕ) (best : Option Way) → 0 < length text → IsBestBelow limit best → ((taken : ℕ) → limit ≤ taken → MayBegin choices text taken → ⊥) → IsWayOf choices text best
  way_found limit None some is none = λ encodable.
      let (len, may) = begins_somehow choices text encodable some in
      elim (cases_lt len limit) [ inl before ↦ is len before may | inr later ↦ none len later may ]
  way_found limit (Some way) some (try, fewer, first) none = record {
    begins = record {
      may = try.may;
      first = λ other sooner may. elim (cases_lt other limit) [ inl before ↦ first other before sooner may | inr later ↦ none other later may ];
    };
    chosen = try.chosen;
  }

  -- the best one lies within the letter
  pub way_settled : (limit : ℕ) (best : Option Way) → IsBestBelow limit best → IsSettled best limit (letter_of text) → IsWayOf choices text best
  way_settled limit None is settled = absurd settled
  way_settled limit (Some way) (try, fewer, first) (within, beyond) = record {
    begins = record {
      may = try.may;
      first = λ other sooner may. elim (cases_lt other limit) [
        | inl before ↦ first other before sooner may
        | inr later ↦ elim sooner [
          | inl (inside, _) ↦ omega (arith, inside, beyond, later)
          | inr (after, out, _) ↦ omega (arith, out, within)
        ]
      ];
    };
    chosen = try.chosen;
  }

-- ---- the last characters
last_of_last : (text : List ℕ) (k left : ℕ) → k ≤ left → left ≤ length text → last_of k (last_of left text) ≡ last_of k text
last_of_last text k left fewer within =
    let skipped = length text - left in
    let count : length (drop skipped text) - k ≡ left - k = omega (arith, length-drop skipped text) in
    let all : skipped + (left - k) ≡ length text - k = omega arith in
    ap (λ n. drop n (drop skipped text)) count ∙ drop-drop (left - k) skipped text ∙ ap (λ n. drop n text) all

if_some_map : {A : Type 0} (o : Option A) (P Q : A → Type 0) → ((x : A) → P x → Q x) → IfSome o P → IfSome o Q
if_some_map None P Q f h = tt
if_some_map (Some x) P Q f h = f x h

-- the ways of a text are those of its last characters
pub ways_of_last : (choices : Choices) (text : List ℕ) (ways : List (Option Way)) (left : ℕ) → length ways ≤ left → left ≤ length text → AreWays choices text ways → AreWays choices (last_of left text) ways
ways_of_last choices text ways left few within are =
    let count : length (last_of left text) ≡ left = omega (arith, length-drop (length text - left) text) in
    record {
      few = omega arith;
      each = λ k lt. if_some_map (slice_get ways k) (IsWayOf choices (last_of (k + 1) text)) (IsWayOf choices (last_of (k + 1) (last_of left text))) (λ way. subst (λ t. IsWayOf choices t way) (sym (last_of_last text (k + 1) left (omega arith) within))) (are.each k lt);
    }

pub no_ways : (choices : Choices) (text : List ℕ) → AreWays choices text []
no_ways choices text = record { few = omega arith; each = λ k lt. absurd (omega arith) }

-- one more
pub more_ways : (choices : Choices) (text : List ℕ) (ways : List (Option Way)) (way : Option Way) (left : ℕ) → left ≡ length ways + 1 → left ≤ length text → AreWays choices text ways → IsWayOf choices (last_of left text) way → AreWays choices text (ways ++ way ∷ [])
more_ways choices text ways way left at within are is = record {
  few = omega (arith, length_push ways way);
  each = λ k lt.
      elim (cases_lt k (length ways)) [
        | inl old ↦ subst (λ o. IfSome o (IsWayOf choices (last_of (k + 1) text))) (sym (push_get ways way k old)) (are.each k old)
        | inr new ↦
            let here : k ≡ length ways = omega (arith, length_push ways way) in
            let count : left ≡ k + 1 = omega arith in
            subst (λ o. IfSome o (IsWayOf choices (last_of (k + 1) text))) (sym (push_last ways way k here)) (subst (λ n. IsWayOf choices (last_of n text) way) count is)
      ];
}

-- ---- marks
marks_by : (b : Bool) (character : ℕ) (marks : List ℕ) → length (cond b (character ∷ marks) []) ≡ (if b then 1 + length marks else 0)
marks_by true character marks = omega arith
marks_by false character marks = refl

module _ (text : List ℕ) (left d : ℕ) (some : 1 ≤ left) (within : left ≤ length text) where
  -- the last characters are one and those after it
  one_and_rest : last_of left text ≡ get_or text (length text - left) d ∷ last_of (left - 1) text
  one_and_rest =
      let after : suc (length text - left) ≡ length text - (left - 1) = omega arith in
      drop-cons text (length text - left) d (omega arith) ∙ ap (λ n. get_or text (length text - left) d ∷ drop n text) after

  first_last : get_or (last_of left text) 0 d ≡ get_or text (length text - left) d
  first_last = ap (λ t. get_or t 0 d) one_and_rest

  pub letter_counted : (marks : ℕ) → marks ≡ marks_of (last_of (left - 1) text) → 1 + marks ≡ letter_of (last_of left text)
  letter_counted marks is = ap (λ n. 1 + n) is ∙ sym (ap letter_of one_and_rest)

  pub marks_counted : (character marks counted : ℕ) → character ≡ get_or (last_of left text) 0 d → marks ≡ marks_of (last_of (left - 1) text) → counted ≡ (if is_mark character then 1 + marks else 0) → counted ≡ marks_of (last_of left text)
  marks_counted character marks counted at is count =
      let here = at ∙ first_last in
      count ∙ ap (λ c. if is_mark c then 1 + marks else 0) here ∙ ap (λ n. if is_mark (get_or text (length text - left) d) then 1 + n else 0) is
      ∙ sym (marks_by (is_mark (get_or text (length text - left) d)) (get_or text (length text - left) d) (take_while is_mark (last_of (left - 1) text)))
      ∙ sym (ap (λ (l : List ℕ). length l) (take_while-cons is_mark (get_or text (length text - left) d) (last_of (left - 1) text))) ∙ sym (ap marks_of one_and_rest)

pub marks_few : (b : Bool) (marks counted left : ℕ) → counted ≡ (if b then 1 + marks else 0) → marks < left → counted < left + 1
marks_few true marks counted left is few = omega (arith, is)
marks_few false marks counted left is few = omega (arith, is)

-- ---- one way
-- what is left after some characters
pub last_dropped : (text : List ℕ) (taken : ℕ) → taken ≤ length text → last_of (length text - taken) text ≡ drop taken text
last_dropped text taken within = let same : length text - (length text - taken) ≡ taken = omega arith in ap (λ n. drop n text) same

-- whether the last characters fall into pieces
pub ends_nothing : (choices : Choices) (text : List ℕ) (left : ℕ) → left ≡ 0 → IsEncodable choices (last_of left text)
ends_nothing choices text left empty = subst (IsEncodable choices) (sym (drop_all (length text - left) text (omega arith))) nothing

pub ends_way : (choices : Choices) (text : List ℕ) (way : Option Way) → IsWayOf choices text way → IsTrue (is_some way) ↔ IsEncodable choices text
ends_way choices text None none = (λ some. absurd (false≢true some), λ encodable. absurd (none encodable))
ends_way choices text (Some way) is = (λ _. may_encodable choices text way.taken is.begins.may, λ _. refl)

-- a piece that something stands for, before what falls into pieces
module _ (choices : Choices) (text : List ℕ) (taken : ℕ) (some : 1 ≤ taken) (within : taken ≤ length text) where
  pub try_unfound : choices (take taken text) ≡ None → IsTryOf choices text taken None
  try_unfound missing = λ may. false≢true (subst (λ o. IsTrue (is_some o)) missing may.chosen)

  pub try_found : (way : Way) → way.taken ≡ taken → choices (take taken text) ≡ Some (choice_seen way.choice) → IsEncodable choices (drop taken text) → IsTryOf choices text taken (Some way)
  try_found way at chosen rest = (
    at,
    record {
      may = record {
        some = omega (arith, at);
        within = omega (arith, at);
        chosen = subst (λ n. IsSome (choices (take n text))) (sym at) (ap is_some chosen);
        rest = subst (λ n. IsEncodable choices (drop n text)) (sym at) rest;
      };
      chosen = subst (λ n. choices (take n text) ≡ Some (choice_seen way.choice)) (sym at) chosen;
    },
  )

-- ---- how many characters ways take
pub inside_more : (limit : ℕ) (best way : Option Way) → 1 ≤ limit → IfSome best (λ w. (1 ≤ w.taken) × (w.taken < limit)) → IfSome way (λ w. w.taken ≡ limit) → IfSome (option_or way best) (λ w. (1 ≤ w.taken) × (w.taken < limit + 1))
inside_more limit best None some is none = if_some_map best (λ w. (1 ≤ w.taken) × (w.taken < limit)) (λ w. (1 ≤ w.taken) × (w.taken < limit + 1)) (λ w was. (was.0, omega (arith, was.1))) is
inside_more limit best (Some way) some is at = (omega (arith, at), omega (arith, at))

pub none_inside : AreInside []
none_inside = λ k lt. absurd (omega arith)

pub more_inside : (ways : List (Option Way)) (way : Option Way) (left : ℕ) → length ways + 1 ≡ left → AreInside ways → IfSome way (λ w. IsInside w left) → AreInside (ways ++ way ∷ [])
more_inside ways way left count are is = λ k lt.
    elim (cases_lt k (length ways)) [
      | inl old ↦ subst (λ o. IfSome o (λ w. IfSome w (λ v. IsInside v (k + 1)))) (sym (push_get ways way k old)) (are k old)
      | inr new ↦
          let here : k ≡ length ways = omega (arith, length_push ways way) in
          let same : left ≡ k + 1 = omega arith in
          subst (λ o. IfSome o (λ w. IfSome w (λ v. IsInside v (k + 1)))) (sym (push_last ways way k here)) (subst (λ n. IfSome way (λ w. IsInside w n)) same is)
    ]

pub inside_of : (best : Option Way) (limit most : ℕ) → limit ≤ most + 1 → IfSome best (λ w. (1 ≤ w.taken) × (w.taken < limit)) → IfSome best (λ w. IsInside w most)
inside_of best limit most le is = if_some_map best (λ w. (1 ≤ w.taken) × (w.taken < limit)) (λ w. IsInside w most) (λ w was. (was.0, omega (arith, was.1))) is
