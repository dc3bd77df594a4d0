-- Units with an offset added, the part of a declaration of texts for the codes of a run, and ranges taken one after another.
use Rattle.std.proofs.Common.{◌≡◌, ℕ, zero, suc, ◌+◌, ◌-◌, ◌^◌, ◌<◌, ◌≤◌, List, [], ◌∷◌, ◌++◌, length, get_or, map, take, drop, Ok, Err, Some, refl, ap, ◌∙◌, sym, subst, arith}
use Rattle.std.specs.Prelude.{Result}
use Rattle.std.specs.List.{All, Any, slice_get}
use Rattle.std.specs.Result.{IfOk}
use Rattle.std.proofs.lemmas.List.{get_or-map, length-map, map-append, take_all, take_more}
use Rattle.std.proofs.lemmas.List.Elements.{All-cons, All-head, All-nil, All-tail}
use Rattle.cmap_runs.specs.Ranges.{AreRuns, Run}
use Rattle.cmap_values.specs.declared.range.Range.{Range}
use Rattle.cmap_values.specs.DeclarationsSeen.{bf_entry_seen, bf_range_span}
use Rattle.cmap_values.specs.Files.{BfEntry}
use Rattle.cmap_values.specs.UnitsSeen.{units_seen}
use Rattle.cmap_values.specs.declared.declarations.BfRange.{BfRange}
use Rattle.cmap_values.specs.declared.units.Units.{Units}
use Rattle.cmap_layers.specs.Lookups.{bf_at, bf_span}
use Rattle.cmap_binary_writer.specs.Pieces.{AllSayAs, ArePieces, CanBeSplitText, Has, IsShortText, PushesPieces, SaysAs}
use Rattle.cmap_binary_writer.specs.TextParts.{GivesUnits, IsDecidedText, IsShifted, ShiftsTo, units_at, units_from}
use Rattle.cmap_binary_writer.specs.Weights.{run_span}
use Rattle.cmap_binary_writer.proofs.CidParts.{last_split}
use Rattle.cmap_binary_writer.proofs.RunParts.{index_within, run_contained, run_is, run_of, run_told}
use Rattle.cmap_binary_writer.proofs.TextParts.{lost, raised, same_text, same_units, text_has, text_within}
use Rattle.cmap_binary_writer.proofs.Told.{All-back, All-front, pieces_more}

-- ---- units with an offset added to the last one
module _ (units : List ℕ) (last offset : ℕ) (some : 0 < length units) (last_is : last ≡ get_or units (length units - 1) 0) where
  parted : units ≡ take (length units - 1) units ++ last ∷ []
  parted = last_split units 0 some ∙ ap (λ u. take (length units - 1) units ++ u ∷ []) (sym last_is)

  pub raised_units : {E : Type 0} (r : Result Units E) → IfOk r (λ made. units_seen made ≡ take (length units - 1) units ++ (last + offset) ∷ []) → IfOk r (λ made. All (λ u. u < 2 ^ 16) (units_seen made)) → IfOk r (λ made. IsShifted units offset (units_seen made))
  raised_units (Ok made) is small =
      let front = take (length units - 1) units in
      subst (λ us. IsShifted us offset (units_seen made)) (sym parted) (subst (IsShifted (front ++ last ∷ []) offset) (sym is) (raised front last offset (subst (All (λ u. u < 2 ^ 16)) is small)))
  raised_units (Err e) is small = tt

  pub lost_units : 2 ^ 16 ≤ last + offset → IsShifted units offset []
  lost_units past = subst (λ us. IsShifted us offset []) (sym parted) (lost (take (length units - 1) units) last offset past)

-- ---- the declaration that decides a run
module _ (list : List BfRange) (runs : List Run) (are : AreRuns (map bf_range_span list) runs) (i low high index : ℕ) (at : slice_get runs i ≡ Some (run_of low high index)) where
  pub declaration_within : index < length list
  declaration_within = index_within bf_range_span bf_entry_seen bf_span bf_at (λ x. refl) list runs are i low high index at

  pub run_filled : low ≤ high
  run_filled = (run_is bf_range_span bf_entry_seen bf_span bf_at (λ x. refl) list runs are i low high index at).filled

  module _ (e : BfRange) (there : slice_get list index ≡ Some e) where
    pub run_within : (e.range.start ≤ low) × (low ≤ high) × (high ≤ e.range.end) × (high < 2 ^ 32)
    run_within = run_contained bf_range_span bf_entry_seen bf_span bf_at (λ x. refl) list runs are i low high index e at there

    module _ (part : BfRange) (range : Range) (low_is : range.start ≡ low) (high_is : range.end ≡ high) (range_is : part.range ≡ range) (shifted : IsShifted (units_seen e.units) (range.start - e.range.start) (units_seen part.units)) where
      start_is : part.range.start ≡ low
      start_is = ap (λ r. r.start) range_is ∙ low_is

      end_is : part.range.end ≡ high
      end_is = ap (λ r. r.end) range_is ∙ high_is

      texts : ShiftsTo (units_seen e.units) (part.range.start - e.range.start) (units_seen part.units)
      texts = subst (λ r. ShiftsTo (units_seen e.units) (r.start - e.range.start) (units_seen part.units)) (sym range_is) shifted.texts

      pub part_right : SaysAs bf_span bf_at (map bf_entry_seen list) (bf_entry_seen part)
      part_right code here =
          let within = text_within (bf_entry_seen part) code here in
          run_told bf_range_span bf_entry_seen bf_span bf_at (λ x. refl) list runs are i low high index code e at there (omega (arith, within.0, start_is)) (omega (arith, within.1, end_is))
          ∙ ap Some (same_text (bf_entry_seen e) (bf_entry_seen part) code (omega (arith, start_is, run_within.0)) within.0 texts)

      pub part_units : SaysAs bf_span units_at (map bf_entry_seen list) (bf_entry_seen part)
      part_units code here =
          let within = text_within (bf_entry_seen part) code here in
          let units = subst (λ r. (more : ℕ) → units_from (units_seen part.units) more ≡ units_from (units_seen e.units) (r.start - e.range.start + more)) (sym range_is) shifted.exact in
          run_told bf_range_span bf_entry_seen bf_span units_at (λ x. refl) list runs are i low high index code e at there (omega (arith, within.0, start_is)) (omega (arith, within.1, end_is))
          ∙ ap Some (same_units (bf_entry_seen e) (bf_entry_seen part) code (omega (arith, start_is, run_within.0)) within.0 units)

      pub part_has : (code : ℕ) → low ≤ code → code ≤ high → Has bf_span (bf_entry_seen part) code
      part_has code after before = text_has (bf_entry_seen part) code (omega (arith, after, start_is)) (omega (arith, before, end_is))

      pub part_decided : high - low < 2 ^ 16 → IsDecidedText (bf_entry_seen part)
      part_decided few = (omega (arith, run_within.1, start_is, end_is), omega (arith, run_within.3, end_is), omega (arith, few, start_is, end_is), shifted.small)

-- ---- ranges taken one after another
pub one_can : (xs : List BfRange) (i : ℕ) (d : BfRange) → i < length xs → All CanBeSplitText (map bf_entry_seen xs) → CanBeSplitText (bf_entry_seen (get_or xs i d))
one_can xs i d within all = subst CanBeSplitText (get_or-map bf_entry_seen xs i d (bf_entry_seen d) within) (all i (bf_entry_seen d) (omega (arith, within, length-map xs bf_entry_seen)))

pub texts_more : (xs : List BfRange) (i : ℕ) (d : BfRange) (old new : List BfEntry) → i < length xs → ArePieces bf_span bf_at IsShortText (map bf_entry_seen (take i xs)) old → PushesPieces bf_span bf_at IsShortText (bf_entry_seen (get_or xs i d)) old new → ArePieces bf_span bf_at IsShortText (map bf_entry_seen (take (i + 1) xs)) new
texts_more xs i d old new within h here =
    let parted : map bf_entry_seen (take (i + 1) xs) ≡ map bf_entry_seen (take i xs) ++ bf_entry_seen (get_or xs i d) ∷ [] = ap (map bf_entry_seen) (take_more xs i d within) ∙ map-append bf_entry_seen (take i xs) (get_or xs i d ∷ []) in
    subst (λ es. ArePieces bf_span bf_at IsShortText es new) (sym parted) (pieces_more bf_span bf_at IsShortText (map bf_entry_seen (take i xs)) old new (bf_entry_seen (get_or xs i d)) h here)

pub texts_all : (xs : List BfRange) (i : ℕ) (pieces : List BfEntry) → length xs ≤ i → ArePieces bf_span bf_at IsShortText (map bf_entry_seen (take i xs)) pieces → ArePieces bf_span bf_at IsShortText (map bf_entry_seen xs) pieces
texts_all xs i pieces all h = subst (λ ys. ArePieces bf_span bf_at IsShortText (map bf_entry_seen ys) pieces) (take_all i xs all) h

-- a range is one of the runs
pub run_of_range : (ranges : List BfRange) (runs : List Run) → map bf_range_span ranges ≡ map run_span runs → (k : ℕ) (e : BfRange) → k < length ranges → get_or ranges k e ≡ e → Any (λ run. (run.low ≡ e.range.start) × (run.high ≡ e.range.end)) runs
run_of_range [] runs is k e within at = absurd (omega (arith, within))
run_of_range (x ∷ ranges) [] is k e within at = absurd (omega (arith, ap length is))
run_of_range (x ∷ ranges) (run ∷ runs) is zero e within at =
    let low = ap (λ ss. (get_or ss 0 (run_span run)).start) is in
    let high = ap (λ ss. (get_or ss 0 (run_span run)).end) is in
    (0, run, omega arith, refl, (sym low ∙ ap (λ r. r.range.start) at, sym high ∙ ap (λ r. r.range.end) at))
run_of_range (x ∷ ranges) (run ∷ runs) is (suc k) e within at =
    let (j, found, there, same, ends) = run_of_range ranges runs (ap (drop 1) is) k e (omega (arith, within)) at in
    (suc j, found, omega (arith, there), same, ends)

-- runs that are ranges of at most 2^16 codes
pub runs_few : (ranges : List BfRange) (runs : List Run) → map bf_range_span ranges ≡ map run_span runs → All IsDecidedText (map bf_entry_seen ranges) → All (λ run. run.high - run.low < 2 ^ 16) runs
runs_few [] [] is small = All-nil (λ run. run.high - run.low < 2 ^ 16)
runs_few [] (run ∷ runs) is small = absurd (omega (arith, ap length is))
runs_few (x ∷ ranges) [] is small = absurd (omega (arith, ap length is))
runs_few (x ∷ ranges) (run ∷ runs) is small =
    let first = All-head IsDecidedText (bf_entry_seen x) (map bf_entry_seen ranges) small in
    let low = ap (λ ss. (get_or ss 0 (run_span run)).start) is in
    let high = ap (λ ss. (get_or ss 0 (run_span run)).end) is in
    All-cons (λ run. run.high - run.low < 2 ^ 16) run runs (omega (arith, first.2, low, high)) (runs_few ranges runs (ap (drop 1) is) (All-tail IsDecidedText (bf_entry_seen x) (map bf_entry_seen ranges) small))

-- the units of one range more
pub units_more : (xs : List BfRange) (i : ℕ) (d : BfRange) (old new : List BfEntry) → i < length xs → ((es : List BfEntry) → AllSayAs bf_span units_at es (map bf_entry_seen (take i xs)) → AllSayAs bf_span units_at es old) → GivesUnits (bf_entry_seen (get_or xs i d)) old new → (es : List BfEntry) → AllSayAs bf_span units_at es (map bf_entry_seen (take (i + 1) xs)) → AllSayAs bf_span units_at es new
units_more xs i d old new within h gives es all =
    let parted : map bf_entry_seen (take (i + 1) xs) ≡ map bf_entry_seen (take i xs) ++ bf_entry_seen (get_or xs i d) ∷ [] = ap (map bf_entry_seen) (take_more xs i d within) ∙ map-append bf_entry_seen (take i xs) (get_or xs i d ∷ []) in
    let parts = subst (AllSayAs bf_span units_at es) parted all in
    gives es (h es (All-front (SaysAs bf_span units_at es) (map bf_entry_seen (take i xs)) (bf_entry_seen (get_or xs i d) ∷ []) parts)) (All-head (SaysAs bf_span units_at es) (bf_entry_seen (get_or xs i d)) [] (All-back (SaysAs bf_span units_at es) (map bf_entry_seen (take i xs)) (bf_entry_seen (get_or xs i d) ∷ []) parts))
