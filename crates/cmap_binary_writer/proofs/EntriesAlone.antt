-- No other entries are those of a list.
use Rattle.std.proofs.Common.{◌≡◌, ◌⊎◌, ℕ, zero, suc, ◌+◌, ◌-◌, ◌^◌, ◌<◌, ◌≤◌, inl, inr, List, [], ◌∷◌, ◌++◌, Some, None, length, get_or, map, take, refl, ap, ◌∙◌, sym, subst, arith}
use Rattle.std.specs.Prelude.{IsSome, if◌then◌else◌}
use Rattle.std.specs.List.{All, Contains}
use Rattle.std.specs.List.Sorted.{IsPermutation}
use Rattle.std.proofs.lemmas.Bool.{cases_lt, lt-ltb}
use Rattle.std.proofs.lemmas.List.Elements.{All-head, All-map, All-tail, All-weaker}
use Rattle.std.proofs.lemmas.List.Sorted.{All-permutation, Contains-permutation, IsPermutation-map, IsPermutation-sym}
use Rattle.std.proofs.lemmas.Option.{same_Some}
use Rattle.cmap_runs.specs.Ranges.{Span}
use Rattle.cmap_values.specs.Files.{BfEntry, CidEntry, Declaration, File}
use Rattle.cmap_layers.specs.Lookups.{bf_span, cid_at, cid_span}
use Rattle.cmap_binary_writer.specs.Arranged.{AreCidEntries, AreCut, AreOrdered, AreTextEntries, AreWhole, IsArranged, IsBefore, StandInTurn, lists_by_length, segment_seen}
use Rattle.cmap_binary_writer.specs.Held.{AreInOrder}
use Rattle.cmap_binary_writer.specs.Pieces.{AllSayAs, CanBeSplit, Cover, IsShort, IsShortText, SaysAs, told}
use Rattle.cmap_binary_writer.specs.Segments.{declared_span}
use Rattle.cmap_binary_writer.specs.TextParts.{units_at, units_from}
use Rattle.cmap_binary_writer.specs.declared.prepared.Prepared.{Prepared}
use Rattle.cmap_binary_writer.proofs.ArrangedAlone.{cuts_alone, front_same, turns_alone}
use Rattle.cmap_binary_writer.proofs.CidParts.{has_from, has_within, last_split}
use Rattle.cmap_binary_writer.proofs.EntriesOrdered.{wholes_in_order}
use Rattle.cmap_binary_writer.proofs.TextParts.{text_has, units_split, units_with}

-- ---- the order of entries
abbrev IsFilled : Declaration → Type 0
IsFilled d = (declared_span d).start ≤ (declared_span d).end

before_both : (d e f : Declaration) → IsFilled e → IsBefore d e → IsBefore e f → IsBefore d f
before_both d e f filled (inl less) (inl more) = inl (omega (arith, less, more))
before_both d e f filled (inl less) (inr (same, after)) = inl (omega (arith, less, same))
before_both d e f filled (inr (same, after)) (inl more) = inl (omega (arith, more, same))
before_both d e f filled (inr (same, after)) (inr (alike, later)) = inr (same ∙ alike, omega (arith, filled, after, later))

never_before : (d : Declaration) → IsFilled d → IsBefore d d → ⊥
never_before d filled (inl less) = omega (arith, less)
never_before d filled (inr (same, after)) = omega (arith, filled, after)

ordered_later : (x : Declaration) (xs : List Declaration) → AreOrdered (x ∷ xs) → AreOrdered xs
ordered_later x xs order k d within =
    let next : suc k + 1 ≡ suc (k + 1) = omega arith in
    subst (λ n. IsBefore (get_or xs k d) (get_or (x ∷ xs) n d)) next (order (suc k) d (omega (arith, within)))

before_all : (x : Declaration) (xs : List Declaration) (d : Declaration) → AreOrdered (x ∷ xs) → All IsFilled xs → Contains xs d → IsBefore x d
before_all x [] d order filled (k, within, is) = absurd (omega (arith, within))
before_all x (y ∷ xs) d order filled (zero, within, is) = subst (IsBefore x) is (order 0 x (omega arith))
before_all x (y ∷ xs) d order filled (suc k, within, is) = before_both x y d (All-head IsFilled y xs filled) (order 0 x (omega arith)) (before_all y xs d (ordered_later x (y ∷ xs) order) (All-tail IsFilled y xs filled) (k, omega (arith, within), is))

contains_cases : (x : Declaration) (xs : List Declaration) (d : Declaration) → Contains (x ∷ xs) d → (x ≡ d) ⊎ Contains xs d
contains_cases x xs d (zero, within, is) = inl is
contains_cases x xs d (suc k, within, is) = inr (k, omega (arith, within), is)

contains_later : (x : Declaration) (xs : List Declaration) (d : Declaration) → Contains xs d → Contains (x ∷ xs) d
contains_later x xs d (k, within, is) = (suc k, omega (arith, within), is)

-- the same elements in order are the same list
pub ordered_alone : (a b : List Declaration) → AreOrdered a → AreOrdered b → All IsFilled a → All IsFilled b → ((d : Declaration) → Contains a d → Contains b d) → ((d : Declaration) → Contains b d → Contains a d) → a ≡ b
ordered_alone [] [] order other filled full to from = refl
ordered_alone [] (y ∷ b) order other filled full to from = let (k, within, is) = from y (0, omega arith, refl) in absurd (omega (arith, within))
ordered_alone (x ∷ a) [] order other filled full to from = let (k, within, is) = to x (0, omega arith, refl) in absurd (omega (arith, within))
ordered_alone (x ∷ a) (y ∷ b) order other filled full to from =
    let same : x ≡ y = elim (contains_cases y b x (to x (0, omega arith, refl))) [
      | inl is ↦ sym is
      | inr there ↦ elim (contains_cases x a y (from y (0, omega arith, refl))) [
        | inl is ↦ is
        | inr here ↦ absurd (never_before x (All-head IsFilled x a filled) (before_both x y x (All-head IsFilled y b full) (before_all x a y order (All-tail IsFilled x a filled) here) (before_all y b x other (All-tail IsFilled y b full) there)))
      ]
    ] in
    let later : (d : Declaration) → Contains a d → Contains b d = λ d here. elim (contains_cases y b d (to d (contains_later x a d here))) [
      | inl is ↦ absurd (never_before x (All-head IsFilled x a filled) (subst (IsBefore x) (sym is ∙ sym same) (before_all x a d order (All-tail IsFilled x a filled) here)))
      | inr there ↦ there
    ] in
    let back : (d : Declaration) → Contains b d → Contains a d = λ d there. elim (contains_cases x a d (from d (contains_later y b d there))) [
      | inl is ↦ absurd (never_before y (All-head IsFilled y b full) (subst (IsBefore y) (sym is ∙ same) (before_all y b d other (All-tail IsFilled y b full) there)))
      | inr here ↦ here
    ] in
    ap (λ z. z ∷ a) same ∙ ap (λ zs. y ∷ zs) (ordered_alone a b (ordered_later x a order) (ordered_later y b other) (All-tail IsFilled x a filled) (All-tail IsFilled y b full) later back)

module _ {E : Type 0} (say : E → Declaration) where
  moved_alone : (pieces others a b : List E) → pieces ≡ others → IsPermutation pieces a → IsPermutation others b → All (λ e. IsFilled (say e)) pieces → AreOrdered (map say a) → AreOrdered (map say b) → map say a ≡ map say b
  moved_alone pieces others a b same first second filled order other =
      let one = IsPermutation-map say pieces a first in
      let two = IsPermutation-map say pieces b (subst (λ ps. IsPermutation ps b) (sym same) second) in
      let all = All-map IsFilled say pieces filled in
      ordered_alone (map say a) (map say b) order other (All-permutation IsFilled (map say pieces) (map say a) one all) (All-permutation IsFilled (map say pieces) (map say b) two all)
      (λ d here. Contains-permutation (map say pieces) (map say b) d two (Contains-permutation (map say a) (map say pieces) d (IsPermutation-sym (map say pieces) (map say a) one) here))
      (λ d there. Contains-permutation (map say pieces) (map say a) d one (Contains-permutation (map say b) (map say pieces) d (IsPermutation-sym (map say pieces) (map say b) two) there))

-- ---- texts
units_zero : (units : List ℕ) → All (λ u. u < 2 ^ 16) units → units_from units 0 ≡ units
units_zero [] small = refl
units_zero (u ∷ us) small =
    let units = u ∷ us in
    let last = get_or units (length units - 1) u in
    let front = take (length units - 1) units in
    let parted : units ≡ front ++ last ∷ [] = last_split units u (omega arith) in
    let below : last < 2 ^ 16 = small (length units - 1) u (omega arith) in
    let none : last + 0 ≡ last = omega arith in
    ap (λ xs. units_from xs 0) parted ∙ units_split front last 0 ∙ ap (units_with front) none ∙ ap (λ b. if b then front ++ last ∷ [] else []) (lt-ltb last (2 ^ 16) below) ∙ sym parted

units_here : (e : BfEntry) → All (λ u. u < 2 ^ 16) e.units → units_at e e.start ≡ e.units
units_here e small = let none : e.start - e.start ≡ 0 = omega arith in ap (units_from e.units) none ∙ units_zero e.units small

text_alone : (es : List BfEntry) (p q : BfEntry) → bf_span p ≡ bf_span q → SaysAs bf_span units_at es p → SaysAs bf_span units_at es q → IsShortText p → IsShortText q → p ≡ q
text_alone es p q same first second short few =
    let starts = ap (λ (s : Span). s.start) same in
    let ends = ap (λ (s : Span). s.end) same in
    let here = first p.start (text_has p p.start (omega arith) short.0.0) in
    let there = second q.start (text_has q q.start (omega arith) few.0.0) in
    let units = sym (units_here p short.0.3) ∙ same_Some (units_at p p.start) (units_at q q.start) (sym here ∙ ap (told bf_span units_at es) starts ∙ there) ∙ units_here q few.0.3 in
    ap (λ n. record { start = n; end = p.end; units = p.units }) starts ∙ ap (λ n. record { start = q.start; end = n; units = p.units }) ends ∙ ap (λ us. record { start = q.start; end = q.end; units = us }) units

texts_alone : (es ps qs : List BfEntry) → map bf_span ps ≡ map bf_span qs → AllSayAs bf_span units_at es ps → AllSayAs bf_span units_at es qs → All IsShortText ps → All IsShortText qs → ps ≡ qs
texts_alone es [] [] same first second short few = refl
texts_alone es [] (q ∷ qs) same first second short few = absurd (omega (arith, ap length same))
texts_alone es (p ∷ ps) [] same first second short few = absurd (omega (arith, ap length same))
texts_alone es (p ∷ ps) (q ∷ qs) same first second short few =
    let says = SaysAs bf_span units_at es in
    let (fronts, backs) = front_same (bf_span p ∷ []) (bf_span q ∷ []) (map bf_span ps) (map bf_span qs) refl same in
    let here = text_alone es p q (ap (λ ss. get_or ss 0 (bf_span p)) fronts) (All-head says p ps first) (All-head says q qs second) (All-head IsShortText p ps short) (All-head IsShortText q qs few) in
    ap (λ x. x ∷ ps) here ∙ ap (λ xs. q ∷ xs) (texts_alone es ps qs backs (All-tail says p ps first) (All-tail says q qs second) (All-tail IsShortText p ps short) (All-tail IsShortText q qs few))

pub text_entries_alone : (es a b : List BfEntry) → AreTextEntries es a → AreTextEntries es b → map Declaration.bf a ≡ map Declaration.bf b
text_entries_alone es a b first second =
    let pieces = texts_alone es first.pieces second.pieces (cuts_alone _ (map bf_span first.pieces) (map bf_span second.pieces) first.cut second.cut) first.units second.units first.short second.short in
    moved_alone Declaration.bf first.pieces second.pieces a b pieces first.moved second.moved (All-weaker IsShortText (λ e. e.start ≤ e.end) (λ e s. s.0.0) first.pieces first.short) first.ordered second.ordered

-- ---- CIDs
cid_there : (e : CidEntry) (code : ℕ) → e.cid + (code - e.start) < 2 ^ 32 → cid_at e code ≡ Some (e.cid + (code - e.start))
cid_there e code small = ap (λ b. if b then Some (e.cid + (code - e.start)) else None) (lt-ltb (e.cid + (code - e.start)) (2 ^ 32) small)

-- what two entries say of a code
cid_same : (es : List CidEntry) (p q : CidEntry) (code : ℕ) → SaysAs cid_span cid_at es p → SaysAs cid_span cid_at es q → p.start ≤ code → code ≤ p.end → q.start ≤ code → code ≤ q.end → p.cid + (code - p.start) < 2 ^ 32 → q.cid + (code - q.start) < 2 ^ 32 → p.cid + (code - p.start) ≡ q.cid + (code - q.start)
cid_same es p q code first second low high under over small little =
    let here = first code (has_from p code low high) ∙ ap Some (cid_there p code small) in
    let there = second code (has_from q code under over) ∙ ap Some (cid_there q code little) in
    same_Some (p.cid + (code - p.start)) (q.cid + (code - q.start)) (same_Some (Some (p.cid + (code - p.start))) (Some (q.cid + (code - q.start))) (sym here ∙ there))

same_entry : (p q : CidEntry) → p.start ≡ q.start → p.end ≡ q.end → p.cid ≡ q.cid → p ≡ q
same_entry p q starts ends cids = ap (λ n. record { start = n; end = p.end; cid = p.cid }) starts ∙ ap (λ n. record { start = q.start; end = n; cid = p.cid }) ends ∙ ap (λ n. record { start = q.start; end = q.end; cid = n }) cids

cids_alone : (es ps qs : List CidEntry) → map cid_span ps ≡ map cid_span qs → AllSayAs cid_span cid_at es ps → AllSayAs cid_span cid_at es qs → All IsShort ps → All IsShort qs → ps ≡ qs
cids_alone es [] [] same first second short few = refl
cids_alone es [] (q ∷ qs) same first second short few = absurd (omega (arith, ap length same))
cids_alone es (p ∷ ps) [] same first second short few = absurd (omega (arith, ap length same))
cids_alone es (p ∷ ps) (q ∷ qs) same first second short few =
    let says = SaysAs cid_span cid_at es in
    let (fronts, backs) = front_same (cid_span p ∷ []) (cid_span q ∷ []) (map cid_span ps) (map cid_span qs) refl same in
    let span : cid_span p ≡ cid_span q = ap (λ ss. get_or ss 0 (cid_span p)) fronts in
    let starts : p.start ≡ q.start = ap (λ (s : Span). s.start) span in
    let ends : p.end ≡ q.end = ap (λ (s : Span). s.end) span in
    let here = All-head IsShort p ps short in
    let there = All-head IsShort q qs few in
    let cids = cid_same es p q p.start (All-head says p ps first) (All-head says q qs second) (omega arith) here.0 (omega (arith, starts)) (omega (arith, here.0, ends)) (omega (arith, here.3)) (omega (arith, there.3, starts)) in
    ap (λ x. x ∷ ps) (same_entry p q starts ends (omega (arith, cids, starts))) ∙ ap (λ xs. q ∷ xs) (cids_alone es ps qs backs (All-tail says p ps first) (All-tail says q qs second) (All-tail IsShort p ps short) (All-tail IsShort q qs few))

-- ---- ranges as large as can be
cover_from : (base : ℕ) (rs : List CidEntry) (code : ℕ) → AreInOrder base (map cid_span rs) → Cover cid_span rs code → base ≤ code
cover_from base [] code order (k, x, within, is, has) = absurd (omega (arith, within))
cover_from base (r ∷ rs) code (low, filled, small, later) (zero, x, within, is, has) = omega (arith, low, (has_within x code has).0, ap (λ (e : CidEntry). e.start) is)
cover_from base (r ∷ rs) code (low, filled, small, later) (suc k, x, within, is, has) = let past = cover_from (r.end + 1) rs code later (k, x, omega (arith, within), is, has) in omega (arith, low, filled, past)

-- these ranges have the codes from base on of which the list says something
record AreFrom (es : List CidEntry) (base : ℕ) (rs : List CidEntry) : Type 0 where
  pub says : AllSayAs cid_span cid_at es rs
  pub covers : (code : ℕ) → base ≤ code → IsSome (told cid_span cid_at es code) → Cover cid_span rs code
  pub order : AreInOrder base (map cid_span rs)
  pub whole : AreWhole rs
  pub small : All CanBeSplit rs

whole_later : (r : CidEntry) (rs : List CidEntry) → AreWhole (r ∷ rs) → AreWhole rs
whole_later r [] whole = tt
whole_later r (n ∷ rs) (after, apart, whole) = whole

from_later : (es : List CidEntry) (base : ℕ) (r : CidEntry) (rs : List CidEntry) → AreFrom es base (r ∷ rs) → AreFrom es (r.end + 1) rs
from_later es base r rs h = record {
  says = All-tail (SaysAs cid_span cid_at es) r rs h.says;
  covers = λ code past some. passed code past (h.covers code (omega (arith, past, h.order.0, h.order.1)) some);
  order = h.order.3;
  whole = whole_later r rs h.whole;
  small = All-tail CanBeSplit r rs h.small;
}
  where
    passed : (code : ℕ) → r.end + 1 ≤ code → Cover cid_span (r ∷ rs) code → Cover cid_span rs code
    passed code past (zero, x, within, is, has) = absurd (omega (arith, past, (has_within x code has).1, ap (λ (e : CidEntry). e.end) is))
    passed code past (suc k, x, within, is, has) = (k, x, omega (arith, within), is, has)

told_some : (es : List CidEntry) (r : CidEntry) (code : ℕ) → SaysAs cid_span cid_at es r → r.start ≤ code → code ≤ r.end → IsSome (told cid_span cid_at es code)
told_some es r code says low high = subst (λ o. IsSome o) (sym (says code (has_from r code low high))) refl

-- the first range begins no earlier than that of another such list
not_earlier : (es : List CidEntry) (base : ℕ) (p q : CidEntry) (ps qs : List CidEntry) → AreFrom es base (p ∷ ps) → AreFrom es base (q ∷ qs) → q.start ≤ p.start
not_earlier es base p q ps qs first second =
    let some = told_some es p p.start (All-head (SaysAs cid_span cid_at es) p ps first.says) (omega arith) first.order.1 in
    cover_from q.start (q ∷ qs) p.start (omega arith, second.order.1, second.order.2, second.order.3) (second.covers p.start first.order.0 some)

-- and doesn't end earlier
next_is : (base : ℕ) (n : CidEntry) (ns : List CidEntry) (code : ℕ) → AreInOrder code (map cid_span (n ∷ ns)) → Cover cid_span (n ∷ ns) code → n.start ≡ code
next_is base n ns code (low, filled, small, later) (zero, x, within, is, has) = omega (arith, low, (has_within x code has).0, ap (λ (e : CidEntry). e.start) is)
next_is base n ns code (low, filled, small, later) (suc k, x, within, is, has) = let past = cover_from (n.end + 1) ns code later (k, x, omega (arith, within), is, has) in absurd (omega (arith, low, filled, past))

not_sooner : (es : List CidEntry) (base : ℕ) (p q : CidEntry) (ps qs : List CidEntry) → AreFrom es base (p ∷ ps) → AreFrom es base (q ∷ qs) → p.start ≡ q.start → p.cid ≡ q.cid → p.end < q.end → ⊥
not_sooner es base p q ps qs first second starts cids less =
    let code = p.end + 1 in
    let says_q = All-head (SaysAs cid_span cid_at es) q qs second.says in
    let can_q = All-head CanBeSplit q qs second.small in
    let after = from_later es base p ps first in
    let filled : p.start ≤ p.end = first.order.1 in
    let some = told_some es q code says_q (omega (arith, filled, starts)) (omega (arith, less)) in
    joins ps first after (after.covers code (omega arith) some) (omega (arith, filled, starts)) (omega (arith, less)) says_q (omega (arith, can_q.2, less, starts, filled))
  where
    joins : (ps : List CidEntry) → AreFrom es base (p ∷ ps) → AreFrom es (p.end + 1) ps → Cover cid_span ps (p.end + 1) → q.start ≤ p.end + 1 → p.end + 1 ≤ q.end → SaysAs cid_span cid_at es q → q.cid + (p.end + 1 - q.start) < 2 ^ 16 → ⊥
    joins [] whole after (k, x, within, is, has) low high says_q small = omega (arith, within)
    joins (n ∷ ns) whole after cover low high says_q small =
        let at : n.start ≡ p.end + 1 = next_is base n ns (p.end + 1) after.order cover in
        let can = All-head CanBeSplit n ns after.small in
        let same = cid_same es n q n.start (All-head (SaysAs cid_span cid_at es) n ns after.says) says_q (omega arith) after.order.1 (omega (arith, at, low)) (omega (arith, at, high)) (omega (arith, can.2)) (omega (arith, at, small)) in
        whole.whole.1 (record { after = at; cids = omega (arith, same, at, starts, cids, first.order.1) })

ranges_from : (es : List CidEntry) (base : ℕ) (ps qs : List CidEntry) → AreFrom es base ps → AreFrom es base qs → ps ≡ qs
ranges_from es base [] [] first second = refl
ranges_from es base [] (q ∷ qs) first second =
    let some = told_some es q q.start (All-head (SaysAs cid_span cid_at es) q qs second.says) (omega arith) second.order.1 in
    let (k, x, within, is, has) = first.covers q.start second.order.0 some in
    absurd (omega (arith, within))
ranges_from es base (p ∷ ps) [] first second =
    let some = told_some es p p.start (All-head (SaysAs cid_span cid_at es) p ps first.says) (omega arith) first.order.1 in
    let (k, x, within, is, has) = second.covers p.start first.order.0 some in
    absurd (omega (arith, within))
ranges_from es base (p ∷ ps) (q ∷ qs) first second =
    let starts : p.start ≡ q.start = omega (arith, not_earlier es base p q ps qs first second, not_earlier es base q p qs ps second first) in
    let can = All-head CanBeSplit p ps first.small in
    let can_q = All-head CanBeSplit q qs second.small in
    let says = SaysAs cid_span cid_at es in
    let sum = cid_same es p q p.start (All-head says p ps first.says) (All-head says q qs second.says) (omega arith) can.0 (omega (arith, starts)) (omega (arith, starts, can_q.0)) (omega (arith, can.2)) (omega (arith, can_q.2, starts)) in
    let cids : p.cid ≡ q.cid = omega (arith, sum, starts) in
    let ends : p.end ≡ q.end = elim (cases_lt p.end q.end) [
      | inl sooner ↦ absurd (not_sooner es base p q ps qs first second starts cids sooner)
      | inr most ↦ elim (cases_lt q.end p.end) [
        | inl later ↦ absurd (not_sooner es base q p qs ps second first (sym starts) (sym cids) later)
        | inr least ↦ omega (arith, most, least)
      ]
    ] in
    let here = same_entry p q starts ends cids in
    ap (λ x. x ∷ ps) here ∙ ap (λ xs. q ∷ xs) (ranges_from es (p.end + 1) ps qs (from_later es base p ps first) (subst (λ n. AreFrom es (n + 1) qs) (sym ends) (from_later es base q qs second)))

pub cid_entries_alone : (len : ℕ) (es a b : List CidEntry) → AreCidEntries len es a → AreCidEntries len es b → map (Declaration.cid len) a ≡ map (Declaration.cid len) b
cid_entries_alone len es a b first second =
    let from : (rs : List CidEntry) → AllSayAs cid_span cid_at es rs → ((code : ℕ) → IsSome (told cid_span cid_at es code) → Cover cid_span rs code) → AreWhole rs → All CanBeSplit rs → AreFrom es 0 rs = λ rs says covers whole small. record { says = says; covers = λ code low some. covers code some; order = wholes_in_order rs whole small; whole = whole; small = small } in
    let ranges : first.ranges ≡ second.ranges = ranges_from es 0 first.ranges second.ranges (from first.ranges first.said.0 first.said.1 first.whole first.small) (from second.ranges second.said.0 second.said.1 second.whole second.small) in
    let spans = cuts_alone (map cid_span second.ranges) (map cid_span first.pieces) (map cid_span second.pieces) (subst (λ rs. AreCut (map cid_span rs) (map cid_span first.pieces)) ranges first.cut) second.cut in
    let pieces = cids_alone es first.pieces second.pieces spans first.same.0 second.same.0 first.short second.short in
    moved_alone (Declaration.cid len) first.pieces second.pieces a b pieces first.moved second.moved (All-weaker IsShort (λ e. e.start ≤ e.end) (λ e s. s.0) first.pieces first.short) first.ordered second.ordered

-- ---- a file
-- two that are arranged for one file have the same segments
pub arranged_alone : (file : File) (a b : Prepared) → IsArranged file a → IsArranged file b → map segment_seen a.segments.items ≡ map segment_seen b.segments.items
arranged_alone file a b first second =
    let one = cid_entries_alone 1 file.lists.cids.one second.cids.one first.cids.one second.cid_entries.one first.cid_entries.one in
    let two = cid_entries_alone 2 file.lists.cids.two second.cids.two first.cids.two second.cid_entries.two first.cid_entries.two in
    let three = cid_entries_alone 3 file.lists.cids.three second.cids.three first.cids.three second.cid_entries.three first.cid_entries.three in
    let four = cid_entries_alone 4 file.lists.cids.four second.cids.four first.cids.four second.cid_entries.four first.cid_entries.four in
    let texts = text_entries_alone file.lists.bfs second.texts first.texts second.text_entries first.text_entries in
    let said : List Declaration → List Declaration → List Declaration → List Declaration → List Declaration → List (List Declaration) = λ v w x y z. v ∷ w ∷ x ∷ y ∷ z ∷ [] in
    let cids = second.cids in
    let all = ap (λ v. said v (map (Declaration.cid 2) cids.two) (map (Declaration.cid 3) cids.three) (map (Declaration.cid 4) cids.four) (map Declaration.bf second.texts)) one
    ∙ ap (λ w. said (map (Declaration.cid 1) first.cids.one) w (map (Declaration.cid 3) cids.three) (map (Declaration.cid 4) cids.four) (map Declaration.bf second.texts)) two
    ∙ ap (λ x. said (map (Declaration.cid 1) first.cids.one) (map (Declaration.cid 2) first.cids.two) x (map (Declaration.cid 4) cids.four) (map Declaration.bf second.texts)) three
    ∙ ap (λ y. said (map (Declaration.cid 1) first.cids.one) (map (Declaration.cid 2) first.cids.two) (map (Declaration.cid 3) first.cids.three) y (map Declaration.bf second.texts)) four
    ∙ ap (λ z. said (map (Declaration.cid 1) first.cids.one) (map (Declaration.cid 2) first.cids.two) (map (Declaration.cid 3) first.cids.three) (map (Declaration.cid 4) first.cids.four) z) texts in
    turns_alone a.segments.items b.segments.items (lists_by_length first.cids ++ map Declaration.bf first.texts ∷ []) first.segments (subst (StandInTurn b.segments.items) all second.segments)
