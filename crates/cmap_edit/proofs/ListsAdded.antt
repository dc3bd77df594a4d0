-- What two lists declare for a code, after one more declaration.
use Rattle.std.proofs.Common.{◌≡◌, ℕ, ◌+◌, ◌-◌, ◌<◌, ◌≤◌, List, Option, Some, None, Ok, Err, inl, inr, refl, sym, ap, ◌∙◌, arith}
use Rattle.std.specs.Prelude.{All, OnOk, Result, IsSome, unwrap_or}
use Rattle.std.proofs.lemmas.Bool.{cases_lt, cond-false, cond-true}
use Rattle.std.proofs.lemmas.List.Elements.{All-weaker}
use Rattle.cmap_runs.specs.Ranges.{Span}
use Rattle.cmap_values.specs.declared.range.Range.{Range}
use Rattle.cmap_values.specs.Files.{CidEntry}
use Rattle.cmap_layers.specs.Lookups.{cid_at, cid_span}
use Rattle.cmap_edit.specs.Tidy.{AreTidyCids, AreTidyNotdefs, cid_said, notdef_at, notdef_said, said, said_with}
use Rattle.cmap_edit.proofs.ListsSaid.{is_after, is_before, is_in}
use Rattle.cmap_edit.proofs.SaidSoFar.{said_none}
use Rattle.cmap_unicode.specs.Given.{Given, as_cid, as_notdef}
use Rattle.cmap_edit.specs.Subsets.{cid_listed}
use Rattle.cmap_edit.specs.Parts.{IsAdded, IsRoom, parts}

pub none_of : {A : Type 0} (o : Option A) → (IsSome o → ⊥) → o ≡ None
none_of None none = refl
none_of (Some x) none = absurd (none refl)

-- past the ends of all declarations nothing is said
pub past_ends : {E X : Type 0} (span : E → Span) (at : E → ℕ → X) (entries : List E) (limit code : ℕ) → All (λ e. (span e).end < limit) entries → limit ≤ code → said span at entries code ≡ None
past_ends span at entries limit code ends past = said_none span at entries code (All-weaker (λ e. (span e).end < limit) (λ e. (span e).end < code) (λ e lt. omega arith) entries ends)

-- ---- what is said of a range and of other codes
module _ {X : Type 0} (range : Range) (here : ℕ → X) (before : ℕ → Option X) (code : ℕ) where
  abbrev span : Span
  span = record { start = range.start; end = range.end }

  pub with_here : range.start ≤ code → code ≤ range.end → said_with range here before code ≡ Some (here code)
  with_here le within = cond-true _ (Some (here code)) (before code) (is_in span code le within)

  pub with_before : code < range.start → said_with range here before code ≡ before code
  with_before lt = cond-false _ (Some (here code)) (before code) (is_before span code lt)

  pub with_after : range.end < code → said_with range here before code ≡ before code
  with_after gt = cond-false _ (Some (here code)) (before code) (is_after span code gt)

abbrev pub both : Option ℕ → Option ℕ → Option ℕ × Option ℕ
both cid notdef = (cid, notdef)

-- three facts of a success
pub on_ok_all : {T E P Q R S : Type 0} (r : Result T E) → (P → Q → R → S) → OnOk r P → OnOk r Q → OnOk r R → OnOk r S
on_ok_all (Ok x) so one other third = so one other third
on_ok_all (Err e) so one other third = tt

-- ---- one more declaration
module _ (cids notdefs : List CidEntry) (range : Range) (room : IsRoom cids notdefs range.start) (filled : range.start ≤ range.end) where
  not_yet : (entries : List CidEntry) → All (λ e. e.end < range.start) entries → All (λ e. e.end < range.end + 1) entries
  not_yet entries ends = All-weaker (λ e. e.end < range.start) (λ e. e.end < range.end + 1) (λ e before. omega arith) entries ends

  to_end : (entries : List CidEntry) → All (λ e. e.end ≤ range.end) entries → All (λ e. e.end < range.end + 1) entries
  to_end entries ends = All-weaker (λ e. e.end ≤ range.end) (λ e. e.end < range.end + 1) (λ e before. omega arith) entries ends

  no_cid : (code : ℕ) → range.start ≤ code → cid_said cids code ≡ None
  no_cid code le = past_ends cid_span cid_at cids range.start code room.cids_end le

  no_notdef : (code : ℕ) → range.start ≤ code → notdef_said notdefs code ≡ None
  no_notdef code le = past_ends cid_span notdef_at notdefs range.start code room.notdefs_end le

  pub none_added : IsAdded cids notdefs range.start (range.end + 1) (λ code. None) cids notdefs
  none_added = record {
    room = record { tidy_cids = room.tidy_cids; tidy_notdefs = room.tidy_notdefs; cids_end = not_yet cids room.cids_end; notdefs_end = not_yet notdefs room.notdefs_end };
    here = λ code le within. ap (λ c. both (unwrap_or c None) (notdef_said notdefs code)) (no_cid code le) ∙ ap (both None) (no_notdef code le);
    below = λ code lt. refl;
  }

  pub cids_added : (cid : ℕ) (new : List CidEntry) → AreTidyCids new → ((code : ℕ) → cid_said new code ≡ said_with range (λ code. Some (cid + (code - range.start))) (cid_said cids) code)
      → All (λ e. e.end ≤ range.end) new → IsAdded cids notdefs range.start (range.end + 1) (λ code. Some (as_cid (cid + (code - range.start)))) new notdefs
  cids_added cid new tidy now ends = record {
    room = record { tidy_cids = tidy; tidy_notdefs = room.tidy_notdefs; cids_end = to_end new ends; notdefs_end = not_yet notdefs room.notdefs_end };
    here = λ code le within.
        ap (λ c. both (unwrap_or c None) (notdef_said notdefs code)) (now code ∙ with_here range (λ code. Some (cid + (code - range.start))) (cid_said cids) code le (omega arith))
        ∙ ap (both (Some (cid + (code - range.start)))) (no_notdef code le);
    below = λ code lt. ap (λ c. both (unwrap_or c None) (notdef_said notdefs code)) (now code ∙ with_before range (λ code. Some (cid + (code - range.start))) (cid_said cids) code lt);
  }

  pub notdefs_added : (cid : ℕ) (new : List CidEntry) → AreTidyNotdefs new → ((code : ℕ) → notdef_said new code ≡ said_with range (λ code. cid) (notdef_said notdefs) code)
      → All (λ e. e.end ≤ range.end) new → IsAdded cids notdefs range.start (range.end + 1) (λ code. Some (as_notdef cid)) cids new
  notdefs_added cid new tidy now ends = record {
    room = record { tidy_cids = room.tidy_cids; tidy_notdefs = tidy; cids_end = not_yet cids room.cids_end; notdefs_end = to_end new ends };
    here = λ code le within. ap (λ c. both (unwrap_or c None) (notdef_said new code)) (no_cid code le) ∙ ap (both None) (now code ∙ with_here range (λ code. cid) (notdef_said notdefs) code le (omega arith));
    below = λ code lt. ap (both (cid_listed cids code)) (now code ∙ with_before range (λ code. cid) (notdef_said notdefs) code lt);
  }

-- ---- part after part
-- the codes up to the next one were added, and then more
pub AreAdded-more : (cids notdefs : List CidEntry) (first next limit : ℕ) (declared part : ℕ → Option Given) (mid_cids mid_notdefs new_cids new_notdefs : List CidEntry) → first ≤ next → IsAdded cids notdefs first next declared mid_cids mid_notdefs
    → IsAdded mid_cids mid_notdefs next limit part new_cids new_notdefs → ((code : ℕ) → next ≤ code → code < limit → declared code ≡ part code) → IsAdded cids notdefs first limit declared new_cids new_notdefs
AreAdded-more cids notdefs first next limit declared part mid_cids mid_notdefs new_cids new_notdefs le before now same = record {
  room = now.room;
  here = λ code from lt.
      elim (cases_lt code next) [
        | inl old ↦ now.below code old ∙ before.here code from old
        | inr new ↦ now.here code new lt ∙ ap parts (sym (same code new lt))
      ];
  below = λ code lt. now.below code (omega arith) ∙ before.below code lt;
}
