-- Entries in the order of their types and codes.
use Rattle.std.proofs.Common.{◌≡◌, ℕ, zero, suc, false, ◌+◌, ◌^◌, ◌<◌, ◌≤◌, inl, inr, List, [], ◌∷◌, ◌++◌, length, get_or, map, refl, ap, ◌∙◌, sym, subst, arith}
use native.Mathlib.Numerals.{add-one}
use Rattle.std.specs.List.{All, AllPairs, filter}
use Rattle.std.specs.List.Sorted.{IsSortedByKey, IsStableByKey, ties}
use Rattle.std.specs.Ordering.{is_lt, nat_cmp}
use Rattle.std.specs.declared.cmp.Ordering.TheVariants.{Equal, Greater, Less}
use Rattle.std.specs.Prelude.{Bool, true, cond, not, ◌&&◌, ◌==◌}
use Rattle.std.proofs.lemmas.Bool.{cases_lt, le-ltb}
use Rattle.std.proofs.lemmas.List.{get_or-map, length-map}
use Rattle.std.proofs.lemmas.List.Elements.{All-cons, All-head, All-nil, All-tail, All-weaker}
use Rattle.std.proofs.lemmas.List.Sorted.{IsNonDecreasingBy-from_sort}
use Rattle.std.proofs.lemmas.List.Kept.{AllPairs-cons, AllPairs-filter}
use Rattle.cmap_runs.specs.Ranges.{AreRuns, IsRun, Run, Span, last_index}
use Rattle.cmap_values.specs.Files.{CidEntry, Declaration}
use Rattle.cmap_layers.specs.Lookups.{cid_span}
use Rattle.cmap_binary_writer.specs.Arranged.{AreCut, AreOrdered, AreWhole, IsBefore, IsCut, segment_type}
use Rattle.cmap_binary_writer.specs.Held.{AreInOrder}
use Rattle.cmap_binary_writer.specs.Pieces.{CanBeSplit}
use Rattle.cmap_binary_writer.specs.Segments.{declared_span}
use Rattle.cmap_binary_writer.specs.Weights.{run_span}

-- ---- ranges and pieces come one after another
whole_in_order : (base : ℕ) (e : CidEntry) (es : List CidEntry) → base ≤ e.start → AreWhole (e ∷ es) → All CanBeSplit (e ∷ es) → AreInOrder base (map cid_span (e ∷ es))
whole_in_order base e [] low whole can = let here = All-head CanBeSplit e [] can in (low, here.0, here.1, tt)
whole_in_order base e (f ∷ es) low (after, apart, whole) can = let here = All-head CanBeSplit e (f ∷ es) can in (low, here.0, here.1, whole_in_order (e.end + 1) f es (omega (arith, after)) whole (All-tail CanBeSplit e (f ∷ es) can))

pub wholes_in_order : (es : List CidEntry) → AreWhole es → All CanBeSplit es → AreInOrder 0 (map cid_span es)
wholes_in_order [] whole can = tt
wholes_in_order (e ∷ es) whole can = whole_in_order 0 e es (omega arith) whole can

runs_from : (spans : List Span) (base : ℕ) (run : Run) (runs : List Run) → base ≤ run.low → All (IsRun (last_index spans) (2 ^ 32)) (run ∷ runs) → AllPairs (λ run later. run.high < later.low) (run ∷ runs) → AreInOrder base (map run_span (run ∷ runs))
runs_from spans base run [] low each ordered = let here = All-head (IsRun (last_index spans) (2 ^ 32)) run [] each in (low, here.filled, here.below, tt)
runs_from spans base run (next ∷ runs) low each ordered =
    let here = All-head (IsRun (last_index spans) (2 ^ 32)) run (next ∷ runs) each in
    (low, here.filled, here.below, runs_from spans (run.high + 1) next runs (omega (arith, ordered 0 1 run (omega arith) (omega arith))) (All-tail (IsRun (last_index spans) (2 ^ 32)) run (next ∷ runs) each) (λ i j d less within. ordered (suc i) (suc j) d (omega (arith, less)) (omega (arith, within))))

pub runs_in_order : (spans : List Span) (runs : List Run) → AreRuns spans runs → AreInOrder 0 (map run_span runs)
runs_in_order spans [] are = tt
runs_in_order spans (run ∷ runs) are = runs_from spans 0 run runs (omega arith) are.each are.ordered

cut_in_order : (base : ℕ) (s : Span) (pieces more : List Span) → base ≤ s.start → s.start ≤ s.end → s.end < 2 ^ 32 → IsCut s pieces → AreInOrder (s.end + 1) more → AreInOrder base (pieces ++ more)
cut_in_order base s [] more low filled small none later = absurd none
cut_in_order base s (p ∷ []) more low filled small (is, short) later =
    (omega (arith, low, ap (λ (x : Span). x.start) is), omega (arith, filled, ap (λ (x : Span). x.start) is, ap (λ (x : Span). x.end) is), omega (arith, small, ap (λ (x : Span). x.end) is), subst (λ n. AreInOrder n more) (ap (λ (x : Span). x.end + 1) (sym is)) later)
cut_in_order base s (p ∷ q ∷ pieces) more low filled small (long, is, cut) later =
    let first = ap (λ (x : Span). x.start) is in
    let last = ap (λ (x : Span). x.end) is in
    (omega (arith, low, first), omega (arith, first, last), omega (arith, last, long, small), cut_in_order (p.end + 1) (record { start = s.start + 256; end = s.end }) (q ∷ pieces) more (omega (arith, last)) (omega (arith, long)) small cut later)

pub cuts_in_order : (base : ℕ) (spans pieces : List Span) → AreInOrder base spans → AreCut spans pieces → AreInOrder base pieces
cuts_in_order base [] pieces order none = subst (AreInOrder base) (sym none) tt
cuts_in_order base (s ∷ spans) pieces (low, filled, small, order) (here, later, is, cut, cuts) = subst (AreInOrder base) (sym is) (cut_in_order base s here later low filled small cut (cuts_in_order (s.end + 1) spans later order cuts))

-- ---- a stable sort by types
not_less : (b : Bool) → is_lt (cond b Equal Greater) ≡ false
not_less true = refl
not_less false = refl

never_less : (a b : ℕ) → b ≤ a → is_lt (nat_cmp a b) ≡ false
never_less a b most = ap (λ t. is_lt (cond t Less (cond (a == b) Equal Greater))) (le-ltb a b most) ∙ not_less (a == b)

module _ {X : Type 0} (say : X → Declaration) where
  abbrev span_of : X → Span
  span_of x = declared_span (say x)

  abbrev type_of : X → ℕ
  type_of x = segment_type (say x)

  abbrev Below : X → X → Type 0
  Below x y = (span_of x).end < (span_of y).start

  later_all : (base : ℕ) (xs : List X) → AreInOrder base (map span_of xs) → All (λ x. base ≤ (span_of x).start) xs
  later_all base [] order = All-nil (λ x. base ≤ (span_of x).start)
  later_all base (x ∷ xs) (low, filled, small, later) = All-cons (λ x. base ≤ (span_of x).start) x xs low (All-weaker (λ y. (span_of x).end + 1 ≤ (span_of y).start) (λ y. base ≤ (span_of y).start) (λ y h. omega (arith, low, filled, h)) xs (later_all ((span_of x).end + 1) xs later))

  pairs_below : (base : ℕ) (xs : List X) → AreInOrder base (map span_of xs) → AllPairs Below xs
  pairs_below base [] order = λ i j d less within. absurd (omega (arith, within))
  pairs_below base (x ∷ xs) (low, filled, small, later) = AllPairs-cons Below x xs (All-weaker (λ y. (span_of x).end + 1 ≤ (span_of y).start) (Below x) (λ y h. omega (arith, h)) xs (later_all ((span_of x).end + 1) xs later)) (pairs_below ((span_of x).end + 1) xs later)

  rest_below : (kept : Bool) (x : X) (xs : List X) → AllPairs Below (cond kept (x ∷ xs) xs) → AllPairs Below xs
  rest_below true x xs h = λ i j d less within. h (suc i) (suc j) d (omega (arith, less)) (omega (arith, within))
  rest_below false x xs h = h

  -- neighbours that pass a test are neighbours of what passes it
  kept_below : (t : X → Bool) (ys : List X) (k : ℕ) (d : X) → suc k < length ys → t (get_or ys k d) ≡ true → t (get_or ys (suc k) d) ≡ true → AllPairs Below (filter t ys) → Below (get_or ys k d) (get_or ys (suc k) d)
  kept_below t [] k d w p q h = absurd (omega (arith, w))
  kept_below t (a ∷ []) k d w p q h = absurd (omega (arith, w))
  kept_below t (a ∷ b ∷ r) zero d w p q h =
      let both : AllPairs Below (a ∷ b ∷ filter t r) = subst (AllPairs Below) (λ i. cond (p i) (a ∷ cond (q i) (b ∷ filter t r) (filter t r)) (cond (q i) (b ∷ filter t r) (filter t r))) h in
      both 0 1 a (omega arith) (omega arith)
  kept_below t (a ∷ b ∷ r) (suc k) d w p q h = kept_below t (b ∷ r) k d (omega (arith, w)) p q (rest_below (t a) a (filter t (b ∷ r)) h)

  abbrev lower : X → X → Bool
  lower x y = is_lt (nat_cmp (type_of x) (type_of y))

  tied : (x y : X) → type_of x ≡ type_of y → ties lower x y ≡ true
  tied x y same = λ i. not (never_less (type_of x) (type_of y) (omega (arith, same)) i) && not (never_less (type_of y) (type_of x) (omega (arith, same)) i)

  tied_below : (old new : List X) → AllPairs Below old → IsStableByKey type_of nat_cmp old new → (k : ℕ) (d : X) → suc k < length new → type_of (get_or new k d) ≡ type_of (get_or new (suc k) d) → Below (get_or new k d) (get_or new (suc k) d)
  tied_below old new pairs stable k d within same =
      let x = get_or new k d in
      kept_below (ties lower x) new k d within (tied x x refl) (tied x (get_or new (suc k) d) same) (subst (AllPairs Below) (sym (stable x)) (AllPairs-filter Below (ties lower x) old pairs))

  before_next : (d e : Declaration) → segment_type d ≤ segment_type e → (segment_type d ≡ segment_type e → (declared_span d).end < (declared_span e).start) → IsBefore d e
  before_next d e up rise = elim (cases_lt (segment_type d) (segment_type e)) [
    | inl less ↦ inl less
    | inr most ↦ let same : segment_type d ≡ segment_type e = omega (arith, up, most) in inr (same, rise same)
  ]

  pub sorted_ordered : (old new : List X) → AreInOrder 0 (map (λ x. declared_span (say x)) old) → IsSortedByKey (λ x. segment_type (say x)) nat_cmp new → IsStableByKey (λ x. segment_type (say x)) nat_cmp old new → AreOrdered (map say new)
  sorted_ordered old [] order sorted stable k d within = absurd (omega (arith, within))
  sorted_ordered old (x ∷ rest) order sorted stable k d within =
      let xs : List X = x ∷ rest in
      let inside : k + 1 < length xs = omega (arith, within, length-map xs say) in
      let up = IsNonDecreasingBy-from_sort type_of xs sorted k (k + 1) x (omega arith) inside in
      let rise = subst (λ n. n < length xs → type_of (get_or xs k x) ≡ type_of (get_or xs n x) → Below (get_or xs k x) (get_or xs n x)) (sym (add-one k)) (λ w. tied_below old xs (pairs_below 0 old order) stable k x w) inside in
      let first = get_or-map say xs k x d (omega (arith, inside)) in
      let second = get_or-map say xs (k + 1) x d inside in
      subst (λ a. IsBefore a (get_or (map say xs) (k + 1) d)) (sym first) (subst (IsBefore (say (get_or xs k x))) (sym second) (before_next (say (get_or xs k x)) (say (get_or xs (k + 1) x)) up rise))
