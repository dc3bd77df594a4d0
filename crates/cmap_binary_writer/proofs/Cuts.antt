-- Ranges as large as can be, their pieces, and the order of these.
use Rattle.std.proofs.Common.{◌≡◌, ℕ, ◌+◌, ◌-◌, ◌<◌, ◌≤◌, List, [], ◌∷◌, ◌++◌, Some, length, get_or, map, take, refl, ap, ◌∙◌, sym, subst, arith}
use Rattle.std.specs.List.{AllPairs, slice_get}
use Rattle.std.proofs.lemmas.List.{append_assoc, append-nil, map-append, take_all, take_more}
use Rattle.std.proofs.lemmas.Option.{get_or_from_slice_get, slice_get_within}
use Rattle.std.proofs.lemmas.List.Elements.{All-cons, All-head, All-nil, All-push, All-weaker}
use Rattle.cmap_runs.specs.Ranges.{Run, Span}
use Rattle.cmap_values.specs.Files.{CidEntry}
use Rattle.cmap_binary_writer.specs.Arranged.{AreCut, AreWhole, CanJoin, EndBefore, IsCut, KeepsWhole, PushesCut}
use Rattle.cmap_binary_writer.specs.Weights.{run_span}
use Rattle.cmap_binary_writer.proofs.Told.{All-back, All-front}

-- ---- the pieces of a range
abbrev span : ℕ → ℕ → Span
span start end = record { start = start; end = end }

-- some pieces of a range are there, and these codes are left
pub record CutTo (whole left : Span) (old now : List Span) : Type 0 where
  pub pieces : List Span
  pub now_is : now ≡ old ++ pieces
  pub more : (others : List Span) → IsCut left others → IsCut whole (pieces ++ others)

pub cut_start : (s : Span) (old : List Span) → CutTo s s old old
cut_start s old = record { pieces = []; now_is = sym (append-nil old); more = λ others h. h }

cut_first : (start end : ℕ) (others : List Span) → start + 256 < end → IsCut (record { start = start + 256; end = end }) others → IsCut (record { start = start; end = end }) (record { start = start; end = start + 255 } ∷ others)
cut_first start end [] long none = absurd none
cut_first start end (p ∷ ps) long later = (long, refl, later)

pub cut_more : (whole : Span) (start end : ℕ) (old now new : List Span) → CutTo whole (record { start = start; end = end }) old now → start + 256 < end → new ≡ now ++ record { start = start; end = start + 255 } ∷ [] → CutTo whole (record { start = start + 256; end = end }) old new
cut_more whole start end old now new h long is =
    let first = span start (start + 255) in
    record {
      pieces = h.pieces ++ first ∷ [];
      now_is = is ∙ ap (λ ps. ps ++ first ∷ []) h.now_is ∙ append_assoc old h.pieces (first ∷ []);
      more = λ others later. subst (IsCut whole) (sym (append_assoc h.pieces (first ∷ []) others)) (h.more (first ∷ others) (cut_first start end others long later));
    }

pub cut_end : (whole left : Span) (old now new : List Span) → CutTo whole left old now → left.end - left.start ≤ 256 → new ≡ now ++ left ∷ [] → PushesCut whole old new
cut_end whole left old now new h short is = (h.pieces ++ left ∷ [], is ∙ ap (λ ps. ps ++ left ∷ []) h.now_is ∙ append_assoc old h.pieces (left ∷ []), h.more (left ∷ []) (refl, short))

-- ---- the pieces of one range more
cut_both : (spans : List Span) (s : Span) (pieces here : List Span) → AreCut spans pieces → IsCut s here → AreCut (spans ++ s ∷ []) (pieces ++ here)
cut_both [] s pieces here none is = (here, [], ap (λ ps. ps ++ here) none ∙ sym (append-nil here), is, refl)
cut_both (t ∷ spans) s pieces here (first, later, parts, first_is, all) is = (first, later ++ here, ap (λ ps. ps ++ here) parts ∙ append_assoc first later here, first_is, cut_both spans s later here all is)

pub cuts_more : {X : Type 0} (span_of : X → Span) (xs : List X) (i : ℕ) (d : X) (old new : List Span) → i < length xs → AreCut (map span_of (take i xs)) old → PushesCut (span_of (get_or xs i d)) old new → AreCut (map span_of (take (i + 1) xs)) new
cuts_more span_of xs i d old new within before (here, is, cut) =
    let parted : map span_of (take (i + 1) xs) ≡ map span_of (take i xs) ++ span_of (get_or xs i d) ∷ [] = ap (map span_of) (take_more xs i d within) ∙ map-append span_of (take i xs) (get_or xs i d ∷ []) in
    subst (λ ss. AreCut ss new) (sym parted) (subst (AreCut (map span_of (take i xs) ++ span_of (get_or xs i d) ∷ [])) (sym is) (cut_both (map span_of (take i xs)) (span_of (get_or xs i d)) old here before cut))

pub cuts_all : {X : Type 0} (span_of : X → Span) (xs : List X) (i : ℕ) (pieces : List Span) → length xs ≤ i → AreCut (map span_of (take i xs)) pieces → AreCut (map span_of xs) pieces
cuts_all span_of xs i pieces all h = subst (λ ys. AreCut (map span_of ys) pieces) (take_all i xs all) h

-- ---- ranges that are whole, and one more
whole_push : (front : List CidEntry) (last e : CidEntry) → AreWhole (front ++ last ∷ []) → last.end < e.start → (CanJoin last e → ⊥) → AreWhole (front ++ last ∷ e ∷ [])
whole_push [] last e whole after apart = (after, apart, tt)
whole_push (a ∷ []) last e (first, parted, more) after apart = (first, parted, (after, apart, tt))
whole_push (a ∷ b ∷ front) last e (first, parted, more) after apart = (first, parted, whole_push (b ∷ front) last e more after apart)

-- the last one is longer
whole_longer : (front : List CidEntry) (last : CidEntry) (end : ℕ) → AreWhole (front ++ last ∷ []) → AreWhole (front ++ record { start = last.start; end = end; cid = last.cid } ∷ [])
whole_longer [] last end whole = tt
whole_longer (a ∷ []) last end (first, parted, more) = (first, (λ can. parted (record { after = can.after; cids = can.cids })), tt)
whole_longer (a ∷ b ∷ front) last end (first, parted, more) = (first, parted, whole_longer (b ∷ front) last end more)

end_later : (code later : ℕ) (es : List CidEntry) → code ≤ later → EndBefore code es → EndBefore later es
end_later code later es after before = All-weaker (λ e. e.end < code) (λ e. e.end < later) (λ e h. omega (arith, after, h)) es before

-- a range that can't join the last one is pushed
pub whole_pushed : (front : List CidEntry) (last e : CidEntry) (old new : List CidEntry) → old ≡ front ++ last ∷ [] → new ≡ old ++ e ∷ [] → e.start ≤ e.end → (CanJoin last e → ⊥) → KeepsWhole old new e
whole_pushed front last e old new old_is new_is filled apart whole before =
    let parts = subst (EndBefore e.start) old_is before in
    let after : last.end < e.start = All-head (λ x. x.end < e.start) last [] (All-back (λ x. x.end < e.start) front (last ∷ []) parts) in
    let is : new ≡ front ++ last ∷ e ∷ [] = new_is ∙ ap (λ es. es ++ e ∷ []) old_is ∙ append_assoc front (last ∷ []) (e ∷ []) in (
      subst AreWhole (sym is) (whole_push front last e (subst AreWhole old_is whole) after apart),
      subst (EndBefore (e.end + 1)) (sym new_is) (All-push (λ x. x.end < e.end + 1) old e (end_later e.start (e.end + 1) old (omega (arith, filled)) before) (omega arith)),
    )

pub whole_first : (e : CidEntry) (old new : List CidEntry) → old ≡ [] → new ≡ old ++ e ∷ [] → KeepsWhole old new e
whole_first e old new none is whole before =
    let one : new ≡ e ∷ [] = is ∙ ap (λ es. es ++ e ∷ []) none in
    (subst AreWhole (sym one) tt, subst (EndBefore (e.end + 1)) (sym one) (All-cons (λ x. x.end < e.end + 1) e [] (omega arith) (All-nil (λ x. x.end < e.end + 1))))

-- the last one goes on to the end of a range
pub whole_joined : (front : List CidEntry) (last e : CidEntry) (old new : List CidEntry) → old ≡ front ++ last ∷ [] → new ≡ front ++ record { start = last.start; end = e.end; cid = last.cid } ∷ [] → e.start ≤ e.end → KeepsWhole old new e
whole_joined front last e old new old_is new_is filled whole before =
    let parts = subst (EndBefore e.start) old_is before in
    let longer : CidEntry = record { start = last.start; end = e.end; cid = last.cid } in (
      subst AreWhole (sym new_is) (whole_longer front last e.end (subst AreWhole old_is whole)),
      subst (EndBefore (e.end + 1)) (sym new_is) (All-push (λ x. x.end < e.end + 1) front longer (end_later e.start (e.end + 1) front (omega (arith, filled)) (All-front (λ x. x.end < e.start) front (last ∷ []) parts)) (omega arith)),
    )

-- ranges that end in a run end before the next run
pub next_before : (runs : List Run) (i : ℕ) (run next : Run) (es : List CidEntry) → AllPairs (λ run later. run.high < later.low) runs → slice_get runs i ≡ Some run → slice_get runs (i + 1) ≡ Some next → EndBefore (run.high + 1) es → EndBefore next.low es
next_before runs i run next es ordered at there before =
    let within = slice_get_within runs (i + 1) next there in
    let apart : run.high < next.low = subst (λ (r : Run). r.high < next.low) (get_or_from_slice_get runs i run run at) (subst (λ (r : Run). (get_or runs i run).high < r.low) (get_or_from_slice_get runs (i + 1) next run there) (ordered i (i + 1) run (omega arith) within)) in
    end_later (run.high + 1) next.low es (omega (arith, apart)) before

-- one more run
pub run_pushed : (runs : List Run) (i : ℕ) (run : Run) (spans : List Span) → i < length runs → slice_get runs i ≡ Some run → spans ≡ map run_span (take i runs) → spans ++ run_span run ∷ [] ≡ map run_span (take (i + 1) runs)
run_pushed runs i run spans within at is = ap (λ ss. ss ++ run_span run ∷ []) is ∙ sym (ap (map run_span) (take_more runs i run within ∙ ap (λ r. take i runs ++ r ∷ []) (get_or_from_slice_get runs i run run at)) ∙ map-append run_span (take i runs) (run ∷ []))
