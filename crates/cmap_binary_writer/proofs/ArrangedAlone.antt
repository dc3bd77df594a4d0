-- No other segments are arranged so.
use Rattle.std.proofs.Common.{◌≡◌, ℕ, zero, suc, ◌+◌, ◌-◌, ◌^◌, ◌<◌, inl, inr, List, [], ◌∷◌, ◌++◌, length, drop, get_or, length-append, map, refl, ap, ◌∙◌, sym, subst, arith}
use Rattle.std.specs.List.{flat_map}
use Rattle.std.proofs.lemmas.Bool.{cases_lt}
use Rattle.std.proofs.lemmas.List.{get_or-append-add, get_or_append_left, map-append}
use Rattle.std.proofs.lemmas.List.Elements.{All-head}
use Rattle.cmap_runs.specs.Ranges.{Span}
use Rattle.cmap_values.specs.Files.{Declaration}
use Rattle.cmap_binary_writer.specs.Arranged.{AreCut, AreEnded, AreFull, AreInOne, CanFollow, HoldsEntries, HoldEach, IsCut, StandIn, StandInTurn, segment_seen, segment_type, shape_of}
use Rattle.cmap_binary_writer.specs.EncodersSeen.{shape_seen}
use Rattle.cmap_binary_writer.specs.Segments.{declared_span}
use Rattle.cmap_binary_writer.specs.declared.segments.Segment.{Segment}

-- ---- parts
next_follows : (ds : List Declaration) (k : ℕ) (d : Declaration) → AreInOne ds → suc k < length ds → CanFollow (get_or ds k d) (get_or ds (suc k) d)
next_follows [] k d one within = absurd one
next_follows (a ∷ []) k d one within = absurd (omega (arith, within))
next_follows (a ∷ b ∷ ds) zero d (here, later) within = here
next_follows (a ∷ b ∷ ds) (suc k) d (here, later) within = next_follows (b ∷ ds) k d later (omega (arith, within))

one_filled : (ds : List Declaration) → AreInOne ds → 0 < length ds
one_filled [] one = absurd one
one_filled (d ∷ ds) one = omega arith

-- a part can't end before another one of the same entries does
not_shorter : (p q r s : List Declaration) → p ++ r ≡ q ++ s → AreInOne p → AreEnded p r → AreInOne q → length q < 2 ^ 16 → length p < length q → ⊥
not_shorter [] q r s same one ended other few less = absurd one
not_shorter (d ∷ p) q r s same one ended other few less =
    let all = d ∷ p in
    let k = length p in
    let left : 0 < length r = omega (arith, less, ap length same, length-append all r, length-append q s) in
    let follows : CanFollow (get_or q k d) (get_or q (suc k) d) = next_follows q k d other (omega (arith, less)) in
    let end : k ≡ length all - 1 = omega arith in
    let last : get_or q k d ≡ get_or all (length all - 1) d =
    sym (get_or_append_left q s d k (omega (arith, less))) ∙ ap (λ ds. get_or ds k d) (sym same) ∙ get_or_append_left all r d k (omega arith) ∙ ap (λ n. get_or all n d) end in
    let seam : suc k ≡ length all + 0 = omega arith in
    let next : get_or q (suc k) d ≡ get_or r 0 d =
    sym (get_or_append_left q s d (suc k) (omega (arith, less))) ∙ ap (λ ds. get_or ds (suc k) d) (sym same) ∙ ap (λ n. get_or (all ++ r) n d) seam ∙ get_or-append-add all r 0 d in
    ended d (omega (arith, less, few)) left (subst (λ x. CanFollow x (get_or r 0 d)) last (subst (CanFollow (get_or q k d)) next follows))

-- lists that are equally long in front
pub front_same : {X : Type 0} (p q r s : List X) → length p ≡ length q → p ++ r ≡ q ++ s → (p ≡ q) × (r ≡ s)
front_same [] [] r s size same = (refl, same)
front_same [] (y ∷ q) r s size same = absurd (omega (arith, size))
front_same (x ∷ p) [] r s size same = absurd (omega (arith, size))
front_same (x ∷ p) (y ∷ q) r s size same =
    let (fronts, backs) = front_same p q r s (omega (arith, size)) (ap (drop 1) same) in
    (ap (λ z. z ∷ p) (ap (λ zs. get_or zs 0 x) same) ∙ ap (λ zs. y ∷ zs) fronts, backs)

pub parts_alone : (ps qs : List (List Declaration)) → flat_map (λ p. p) ps ≡ flat_map (λ p. p) qs → AreFull ps → AreFull qs → ps ≡ qs
parts_alone [] [] same full other = refl
parts_alone [] (q ∷ qs) same full (one, few, ended, more) = absurd (omega (arith, ap length same, length-append q (flat_map (λ p. p) qs), one_filled q one))
parts_alone (p ∷ ps) [] same (one, few, ended, more) other = absurd (omega (arith, ap length same, length-append p (flat_map (λ p. p) ps), one_filled p one))
parts_alone (p ∷ ps) (q ∷ qs) same (one, few, ended, full) (two, less, stops, other) =
    let r = flat_map (λ p. p) ps in
    let s = flat_map (λ p. p) qs in
    elim (cases_lt (length p) (length q)) [
      | inl shorter ↦ absurd (not_shorter p q r s same one ended two less shorter)
      | inr most ↦ elim (cases_lt (length q) (length p)) [
        | inl longer ↦ absurd (not_shorter q p s r (sym same) two stops one few longer)
        | inr least ↦
            let (here, later) = front_same p q r s (omega (arith, most, least)) same in
            ap (λ x. x ∷ ps) here ∙ ap (λ xs. q ∷ xs) (parts_alone ps qs later full other)
      ]
    ]

-- ---- what segments hold
type_alone : (a b : Segment) (ds : List Declaration) → AreInOne ds → HoldsEntries a ds → HoldsEntries b ds → a.number ≡ b.number
type_alone a b [] one first second = absurd one
type_alone a b (d ∷ ds) one first second = sym (All-head (λ d. segment_type d ≡ a.number) d ds first.type) ∙ All-head (λ d. segment_type d ≡ b.number) d ds second.type

shape_alone : (a b : Segment) (ds : List Declaration) → AreInOne ds → HoldsEntries a ds → HoldsEntries b ds → shape_seen a.shape ≡ shape_seen b.shape
shape_alone a b [] one first second = absurd one
shape_alone a b (d ∷ ds) one first second = sym (All-head (λ d. shape_of (declared_span d).start (declared_span d).end ≡ shape_seen a.shape) d ds first.shape) ∙ All-head (λ d. shape_of (declared_span d).start (declared_span d).end ≡ shape_seen b.shape) d ds second.shape

seen_alone : (a b : Segment) (ds : List Declaration) → AreInOne ds → HoldsEntries a ds → HoldsEntries b ds → segment_seen a ≡ segment_seen b
seen_alone a b ds one first second =
    ap (λ n. record { type = n; shape = shape_seen a.shape; deltas = a.deltas.items; counts = a.counts.items; values = a.values.items }) (type_alone a b ds one first second)
    ∙ ap (λ s. record { type = b.number; shape = s; deltas = a.deltas.items; counts = a.counts.items; values = a.values.items }) (shape_alone a b ds one first second)
    ∙ ap (λ ns. record { type = b.number; shape = shape_seen b.shape; deltas = ns; counts = a.counts.items; values = a.values.items }) (first.deltas ∙ sym second.deltas)
    ∙ ap (λ ns. record { type = b.number; shape = shape_seen b.shape; deltas = b.deltas.items; counts = ns; values = a.values.items }) (first.counts ∙ sym second.counts)
    ∙ ap (λ bs. record { type = b.number; shape = shape_seen b.shape; deltas = b.deltas.items; counts = b.counts.items; values = bs }) (first.values ∙ sym second.values)

each_alone : (a b : List Segment) (parts : List (List Declaration)) → AreFull parts → HoldEach a parts → HoldEach b parts → map segment_seen a ≡ map segment_seen b
each_alone [] [] [] full first second = refl
each_alone [] [] (p ∷ parts) full first second = absurd first
each_alone [] (y ∷ b) [] full first second = absurd second
each_alone [] (y ∷ b) (p ∷ parts) full first second = absurd first
each_alone (x ∷ a) b [] full first second = absurd first
each_alone (x ∷ a) [] (p ∷ parts) full first second = absurd second
each_alone (x ∷ a) (y ∷ b) (p ∷ parts) (one, few, ended, full) (here, first) (there, second) = ap (λ n. n ∷ map segment_seen a) (seen_alone x y p one here there) ∙ ap (λ ns. segment_seen y ∷ ns) (each_alone a b parts full first second)

stand_alone : (a b : List Segment) (ds : List Declaration) → StandIn a ds → StandIn b ds → map segment_seen a ≡ map segment_seen b
stand_alone a b ds first second =
    let same = parts_alone second.parts first.parts (second.all ∙ sym first.all) second.full first.full in
    each_alone a b first.parts first.full first.held (subst (HoldEach b) same second.held)

pub turns_alone : (a b : List Segment) (lists : List (List Declaration)) → StandInTurn a lists → StandInTurn b lists → map segment_seen a ≡ map segment_seen b
turns_alone a b [] none empty = ap (map segment_seen) (none ∙ sym empty)
turns_alone a b (ds ∷ lists) (here, later, is, stand, more) (there, rest, are, stand_too, more_too) =
    ap (map segment_seen) is ∙ map-append segment_seen here later ∙ ap (λ ns. ns ++ map segment_seen later) (stand_alone here there ds stand stand_too) ∙ ap (λ ns. map segment_seen there ++ ns) (turns_alone later rest lists more more_too) ∙ sym (map-append segment_seen there rest) ∙ ap (map segment_seen) (sym are)

-- ---- pieces
cut_alone : (s : Span) (ps qs : List Span) → IsCut s ps → IsCut s qs → ps ≡ qs
cut_alone s [] qs none cut = absurd none
cut_alone s (p ∷ ps) [] cut none = absurd none
cut_alone s (p ∷ []) (q ∷ []) (is, short) (are, few) = ap (λ x. x ∷ []) (is ∙ sym are)
cut_alone s (p ∷ []) (q ∷ r ∷ qs) (is, short) (long, are, cut) = absurd (omega (arith, short, long))
cut_alone s (p ∷ r ∷ ps) (q ∷ []) (long, are, cut) (is, short) = absurd (omega (arith, short, long))
cut_alone s (p ∷ r ∷ ps) (q ∷ t ∷ qs) (long, is, cut) (more, are, other) = ap (λ x. x ∷ r ∷ ps) (is ∙ sym are) ∙ ap (λ xs. q ∷ xs) (cut_alone (record { start = s.start + 256; end = s.end }) (r ∷ ps) (t ∷ qs) cut other)

pub cuts_alone : (spans ps qs : List Span) → AreCut spans ps → AreCut spans qs → ps ≡ qs
cuts_alone [] ps qs none empty = none ∙ sym empty
cuts_alone (s ∷ spans) ps qs (here, later, is, cut, cuts) (there, rest, are, other, others) = is ∙ ap (λ xs. xs ++ later) (cut_alone s here there cut other) ∙ ap (λ xs. there ++ xs) (cuts_alone spans later rest cuts others) ∙ sym are
