-- Two queues of groups, the rarest of which become one.
use Rattle.std.proofs.Common.{◌≡◌, ℕ, ◌+◌, ◌*◌, ◌^◌, ◌<◌, ◌≤◌, true, false, inl, inr, None, Some, List, [], ◌∷◌, ◌++◌, get_or, length, map, refl, ap, ◌∙◌, sym, subst, arith}
use Rattle.std.specs.Prelude.{IsSome, Option, option_map}
use Rattle.std.specs.List.{All, sum_by}
use Rattle.std.specs.Option.{option_to_list}
use Rattle.std.proofs.lemmas.Bool.{le-leb, lt-leb}
use Rattle.std.proofs.lemmas.List.{append-nil, length-append, length-map}
use Rattle.std.proofs.lemmas.List.Elements.{All-append, All-cons, All-head, All-map, All-nil, All-push, All-tail, All-weaker}
use Rattle.std.proofs.lemmas.List.Sums.{sum_by-cons, sum_by_push}
use Rattle.cmap_binary.specs.PrefixWords.{CodeWord}
use Rattle.cmap_bundle_maker.specs.Groups.{AreQueues, AreRising, ComesAtMostTwice, IsJoinedNext, IsSized, TakesRarest, merged}
use Rattle.cmap_bundle_maker.specs.Huffman.{Frequency, Group, alone, behind, both, is_rarer, join, longer, words_joined}
use Rattle.cmap_bundle_maker.specs.InOrder.{AreInOrder}
use Rattle.cmap_bundle_maker.proofs.HuffmanWords.{is_before, sum_map}

-- ---- the order of both queues
merged_push : (alone joined : List Group) (g : Group) → merged alone (joined ++ g ∷ []) ≡ behind g (merged alone joined)
merged_push alone [] g = refl
merged_push alone (j ∷ joined) g = merged_push (behind j alone) joined g

merged_alone : (g : Group) (alone joined : List Group) → All (λ j. g.times ≤ j.times) joined → merged (g ∷ alone) joined ≡ g ∷ merged alone joined
merged_alone g alone [] least = refl
merged_alone g alone (j ∷ joined) least =
    let first = le-leb g.times j.times (All-head (λ j. g.times ≤ j.times) j joined least) in
    rw first (merged_alone g (behind j alone) joined (All-tail (λ j. g.times ≤ j.times) j joined least))

behind_none : (g : Group) (groups : List Group) → All (λ h. g.times < h.times) groups → behind g groups ≡ g ∷ groups
behind_none g [] least = refl
behind_none g (h ∷ groups) least = let first = lt-leb h.times g.times (All-head (λ h. g.times < h.times) h groups least) in rw first refl

merged_joined : (g : Group) (alone joined : List Group) → All (λ h. g.times < h.times) alone → All (λ j. g.times ≤ j.times) joined → merged alone (g ∷ joined) ≡ g ∷ merged alone joined
merged_joined g alone joined under least = ap (λ groups. merged groups joined) (behind_none g alone under) ∙ merged_alone g alone joined least

-- ---- rising groups
all_under : (n : ℕ) (groups : List Group) → AreRising groups → ((d : Group) → 0 < length groups → n < (get_or groups 0 d).times) → All (λ h. n < h.times) groups
all_under n [] rise first = All-nil (λ h. n < h.times)
all_under n (g ∷ groups) (least, rise) first =
    let here = first g (omega arith) in
    All-cons (λ h. n < h.times) g groups here (All-weaker (λ h. g.times ≤ h.times) (λ h. n < h.times) (λ h le. omega (arith, here, le)) groups least)

all_least : (n : ℕ) (groups : List Group) → AreRising groups → ((d : Group) → 0 < length groups → n ≤ (get_or groups 0 d).times) → All (λ h. n ≤ h.times) groups
all_least n [] rise first = All-nil (λ h. n ≤ h.times)
all_least n (g ∷ groups) (least, rise) first =
    let here = first g (omega arith) in
    All-cons (λ h. n ≤ h.times) g groups here (All-weaker (λ h. g.times ≤ h.times) (λ h. n ≤ h.times) (λ h le. omega (arith, here, le)) groups least)

rising_push : (groups : List Group) (g : Group) → AreRising groups → All (λ h. h.times ≤ g.times) groups → AreRising (groups ++ g ∷ [])
rising_push [] g rise under = (All-nil (λ h. g.times ≤ h.times), tt)
rising_push (h ∷ groups) g (least, rise) under = (All-push (λ k. h.times ≤ k.times) groups g least (All-head (λ h. h.times ≤ g.times) h groups under), rising_push groups g rise (All-tail (λ h. h.times ≤ g.times) h groups under))

-- ---- the rarest group
pub record IsTaken (alone joined : List Group) (g : Group) (now left : List Group) : Type 1 where
  pub order : merged alone joined ≡ g ∷ merged now left
  pub queues : AreQueues now left
  pub least_alone : All (λ h. g.times ≤ h.times) now
  pub least_joined : All (λ h. g.times ≤ h.times) left
  pub twice : All (λ j. j.times ≤ 2 * g.times) left
  pub sized : IsSized g
  pub total : g.times + (sum_by (λ h. h.times) now + sum_by (λ h. h.times) left) ≡ sum_by (λ h. h.times) alone + sum_by (λ h. h.times) joined
  pub one_of : (P : Group → Type 0) → All P alone → All P joined → P g
  pub now_of : (P : Group → Type 0) → All P alone → All P now
  pub left_of : (P : Group → Type 0) → All P joined → All P left

weaker_to : (g h : Group) → g.times < h.times → g.times ≤ h.times
weaker_to g h less = omega (arith, less)

taken_alone : (g : Group) (now left : List Group) → AreQueues (g ∷ now) left → ((d : Group) → 0 < length left → g.times ≤ (get_or left 0 d).times) → IsTaken (g ∷ now) left g now left
taken_alone g now left q first =
    let least = all_least g.times left q.rise_joined first in
    let size = sum_by-cons (λ (h : Group). h.times) g now in
    record {
      order = merged_alone g now left least;
      queues = record {
        rise_alone = q.rise_alone.1;
        rise_joined = q.rise_joined;
        twice_alone = All-weaker (λ j. ComesAtMostTwice j (g ∷ now)) (λ j. ComesAtMostTwice j now) (λ j h. All-tail (λ k. j.times ≤ 2 * k.times) g now h) left q.twice_alone;
        twice_joined = q.twice_joined;
        few = omega (arith, q.few, size);
        sized_alone = All-tail IsSized g now q.sized_alone;
        sized_joined = q.sized_joined;
      };
      least_alone = q.rise_alone.0;
      least_joined = least;
      twice = All-weaker (λ j. ComesAtMostTwice j (g ∷ now)) (λ j. j.times ≤ 2 * g.times) (λ j h. All-head (λ k. j.times ≤ 2 * k.times) g now h) left q.twice_alone;
      sized = All-head IsSized g now q.sized_alone;
      total = omega (arith, size);
      one_of = λ P all other. All-head P g now all;
      now_of = λ P all. All-tail P g now all;
      left_of = λ P all. all;
    }

taken_joined : (g : Group) (now left : List Group) → AreQueues now (g ∷ left) → ((d : Group) → 0 < length now → g.times < (get_or now 0 d).times) → IsTaken now (g ∷ left) g now left
taken_joined g now left q first =
    let under = all_under g.times now q.rise_alone first in
    let size = sum_by-cons (λ (h : Group). h.times) g left in
    let twice = All-tail (λ j. ComesAtMostTwice j (g ∷ left)) g left q.twice_joined in
    record {
      order = merged_joined g now left under q.rise_joined.0;
      queues = record {
        rise_alone = q.rise_alone;
        rise_joined = q.rise_joined.1;
        twice_alone = All-tail (λ j. ComesAtMostTwice j now) g left q.twice_alone;
        twice_joined = All-weaker (λ j. ComesAtMostTwice j (g ∷ left)) (λ j. ComesAtMostTwice j left) (λ j h. All-tail (λ k. j.times ≤ 2 * k.times) g left h) left twice;
        few = omega (arith, q.few, size);
        sized_alone = q.sized_alone;
        sized_joined = All-tail IsSized g left q.sized_joined;
      };
      least_alone = All-weaker (λ h. g.times < h.times) (λ h. g.times ≤ h.times) (λ h less. weaker_to g h less) now under;
      least_joined = q.rise_joined.0;
      twice = All-weaker (λ j. ComesAtMostTwice j (g ∷ left)) (λ j. j.times ≤ 2 * g.times) (λ j h. All-head (λ k. j.times ≤ 2 * k.times) g left h) left twice;
      sized = All-head IsSized g left q.sized_joined;
      total = omega (arith, size);
      one_of = λ P all other. All-head P g left other;
      now_of = λ P all. all;
      left_of = λ P all. All-tail P g left all;
    }

pub taken : (alone joined : List Group) (g : Group) (now left : List Group) → AreQueues alone joined → TakesRarest alone joined (Some g) now left → IsTaken alone joined g now left
taken alone joined g now left q takes = elim takes [
  | inl (first, second, least) ↦
      let queues = subst (λ js. AreQueues (g ∷ now) js) second (subst (λ groups. AreQueues groups joined) first q) in
      let least_left = subst (λ (groups : List Group). (d : Group) → 0 < length groups → g.times ≤ (get_or groups 0 d).times) second least in
      subst (λ groups. IsTaken groups joined g now left) (sym first) (subst (λ js. IsTaken (g ∷ now) js g now left) (sym second) (taken_alone g now left queues least_left))
  | inr (second, first, least) ↦
      let queues = subst (λ groups. AreQueues groups (g ∷ left)) first (subst (λ js. AreQueues alone js) second q) in
      let least_now = subst (λ (groups : List Group). (d : Group) → 0 < length groups → g.times < (get_or groups 0 d).times) first least in
      subst (λ groups. IsTaken groups joined g now left) (sym first) (subst (λ js. IsTaken now js g now left) (sym second) (taken_joined g now left queues least_now))
]

-- ---- two groups as one
both_size : (x y : Group) → length ((both x y).words) ≡ length x.words + length y.words
both_size x y = length-map (x.words ++ y.words) longer ∙ length-append x.words y.words

pub both_sized : (x y : Group) → IsSized x → IsSized y → IsSized (both x y)
both_sized x y (some, few) (some_too, few_too) =
    let size = both_size x y in (
      omega (arith, some, size),
      All-map (λ w. w.len < length ((both x y).words)) longer (x.words ++ y.words) (All-append (λ w. w.len + 1 < length ((both x y).words)) x.words y.words
          (All-weaker (λ w. w.len < length x.words) (λ w. w.len + 1 < length ((both x y).words)) (λ w less. omega (arith, less, some_too, size)) x.words few)
          (All-weaker (λ w. w.len < length y.words) (λ w. w.len + 1 < length ((both x y).words)) (λ w less. omega (arith, less, some, size)) y.words few_too)),
    )

pub record AreJoined (alone joined : List Group) (x y : Group) (now left : List Group) : Type 0 where
  pub order : join (merged alone joined) ≡ merged now (left ++ both x y ∷ [])
  pub queues : AreQueues now (left ++ both x y ∷ [])
  pub few : x.times + y.times < 2 ^ 64
  pub sized : IsSized x
  pub sized_too : IsSized y

joined_groups : (alone joined alone' joined' now left : List Group) (x y : Group) → IsTaken alone joined x alone' joined' → IsTaken alone' joined' y now left → AreQueues alone joined → AreJoined alone joined x y now left
joined_groups alone joined alone' joined' now left x y first second q =
    let n = both x y in
    let x_y : x.times ≤ y.times = second.one_of (λ h. x.times ≤ h.times) first.least_alone first.least_joined in
    let twice : All (λ j. j.times ≤ 2 * x.times) left = second.left_of (λ j. j.times ≤ 2 * x.times) first.twice in
    let size = sum_by_push (λ (h : Group). h.times) left n in
    record {
      order = ap join (first.order ∙ ap (λ groups. x ∷ groups) second.order) ∙ sym (merged_push now left n);
      queues = record {
        rise_alone = second.queues.rise_alone;
        rise_joined = rising_push left n second.queues.rise_joined (All-weaker (λ j. j.times ≤ 2 * x.times) (λ j. j.times ≤ n.times) (λ j h. omega (arith, h, x_y)) left twice);
        twice_alone = All-push (λ j. ComesAtMostTwice j now) left n second.queues.twice_alone (All-weaker (λ h. y.times ≤ h.times) (λ h. n.times ≤ 2 * h.times) (λ h le. omega (arith, le, x_y)) now second.least_alone);
        twice_joined = All-push (λ j. ComesAtMostTwice j (left ++ n ∷ [])) left n (λ k d within.
            All-push (λ h. (get_or left k d).times ≤ 2 * h.times) left n (second.queues.twice_joined k d within) (omega (arith, twice k d within))) (All-push (λ h. n.times ≤ 2 * h.times) left n (All-weaker (λ h. y.times ≤ h.times) (λ h. n.times ≤ 2 * h.times) (λ h le. omega (arith, le, x_y)) left second.least_joined) (omega arith));
        few = omega (arith, q.few, first.total, second.total, size);
        sized_alone = second.queues.sized_alone;
        sized_joined = All-push IsSized left n second.queues.sized_joined (both_sized x y first.sized second.sized);
      };
      few = omega (arith, q.few, first.total, second.total);
      sized = first.sized;
      sized_too = second.sized;
    }

pub two_joined : (alone joined alone' joined' now left : List Group) (x y : Group) → AreQueues alone joined → TakesRarest alone joined (Some x) alone' joined' → TakesRarest alone' joined' (Some y) now left → AreJoined alone joined x y now left
two_joined alone joined alone' joined' now left x y q takes takes_too =
    let first = taken alone joined x alone' joined' q takes in
    joined_groups alone joined alone' joined' now left x y first (taken alone' joined' y now left first.queues takes_too) q

-- queues of which the second is empty
pub queued : (alone : List Group) → AreRising alone → sum_by (λ g. g.times) alone < 2 ^ 64 → All IsSized alone → AreQueues alone []
queued alone rise few sized = record {
  rise_alone = rise;
  rise_joined = tt;
  twice_alone = All-nil (λ j. ComesAtMostTwice j alone);
  twice_joined = All-nil (λ j. ComesAtMostTwice j []);
  few = omega (arith, few);
  sized_alone = sized;
  sized_joined = All-nil IsSized;
}

-- ---- which queue the next group is in
no_some : false ≡ true → ⊥
no_some e = cc

no_groups : {X : Type 0} (f : X → Group) (xs : List X) → ((d : Group) → 0 < length (map f xs) → ⊥) → map f xs ≡ []
no_groups f [] none = refl
no_groups f (x ∷ xs) none = absurd (none (f x) (omega arith))

module _ {X : Type 0} (f : X → Group) (alone joined : List X) where
  pub takes_joined : (left : List X) (o : Option X) → IsJoinedNext (map f alone) (map f joined) true → joined ≡ option_to_list o ++ left → (0 < length joined → IsSome o) → TakesRarest (map f alone) (map f joined) (option_map f o) (map f alone) (map f left)
  takes_joined left None next is some = (no_groups f alone (λ d here. no_some (some (omega (arith, (next d here).0, length-map joined f)))), no_groups f joined (λ d here. no_some (some (omega (arith, here, length-map joined f)))))
  takes_joined left (Some g) next is some =
      let first = ap (map f) is in
      inr (first, refl, λ d here. omega (arith, (next d here).1, ap (λ gs. (get_or gs 0 d).times) first))

  pub takes_alone : (now : List X) (o : Option X) → IsJoinedNext (map f alone) (map f joined) false → alone ≡ option_to_list o ++ now → (0 < length alone → IsSome o) → TakesRarest (map f alone) (map f joined) (option_map f o) (map f now) (map f joined)
  takes_alone now None (here, next) is some = absurd (no_some (some (omega (arith, here, length-map alone f))))
  takes_alone now (Some g) (here, next) is some =
      let first = ap (map f) is in
      inl (first, refl, λ d there. omega (arith, next d there, ap (λ gs. (get_or gs 0 d).times) first))

-- ---- the last group
pub last_words : (groups rest : List Group) (g : Group) → groups ≡ g ∷ rest → length groups ≤ 1 → words_joined groups ≡ g.words
last_words groups [] g is few = ap words_joined is ∙ append-nil g.words
last_words groups (h ∷ rest) g is few = absurd (omega (arith, ap length is, few))

-- ---- each number alone
times_rise : (e f : Frequency) → is_rarer e f ≡ true → e.times ≤ f.times
times_rise e f before = elim (is_before (λ (f : Frequency). f.times) (λ (f : Frequency). f.number) e f before) [
  | inl less ↦ omega (arith, less)
  | inr tie ↦ omega (arith, tie.0)
]

pub alone_queued : (fs : List Frequency) → AreRising (map alone fs) → sum_by (λ f. f.times) fs < 2 ^ 64 → AreQueues (map alone fs) []
alone_queued fs rise few = queued (map alone fs) rise (omega (arith, few, sum_map (λ (g : Group). g.times) alone fs)) (All-map IsSized alone fs (λ k d within. (omega arith, All-cons (λ w. w.len < 1) (record { len = 0; symbol = (get_or fs k d).number }) [] (omega arith) (All-nil (λ (w : CodeWord). w.len < 1)))))

pub alone_rising : (fs : List Frequency) → AreInOrder is_rarer fs → AreRising (map alone fs)
alone_rising [] order = tt
alone_rising (f ∷ fs) (first, order) = (All-map (λ g. f.times ≤ g.times) alone fs (All-weaker (λ e. is_rarer f e ≡ true) (λ e. f.times ≤ e.times) (λ e before. times_rise f e before) fs first), alone_rising fs order)
