-- The part of a declaration for the codes of a run.
use Rattle.std.proofs.Common.{◌≡◌, ℕ, ◌+◌, ◌-◌, ◌^◌, ◌<◌, ◌≤◌, List, length, map, Some, refl, ap, ◌∙◌, sym, subst, arith}
use Rattle.std.specs.Prelude.{Bool, true, false, IsSomeAnd, None, if◌then◌else◌, nat_lt}
use Rattle.std.specs.List.{slice_get}
use Rattle.cmap_runs.specs.Ranges.{AreRuns, Run}
use Rattle.cmap_values.specs.declared.range.Range.{Range}
use Rattle.cmap_values.specs.DeclarationsSeen.{cid_entry_seen, cid_range_span, entries_seen}
use Rattle.cmap_values.specs.declared.declarations.CidRange.{CidRange}
use Rattle.cmap_layers.specs.Lookups.{cid_at, cid_span}
use Rattle.cmap_binary_writer.specs.Obstacles.{IsLargeCid}
use Rattle.cmap_binary_writer.specs.Pieces.{CanBeSplit, Has, SaysAs, cid_told}
use Rattle.cmap_binary_writer.proofs.CidParts.{has_from, has_within, same_cid}
use Rattle.cmap_binary_writer.proofs.RunParts.{index_within, run_contained, run_of, run_told}

large_cid : (cid : ℕ) (fits : Bool) → 2 ^ 16 ≤ cid → IsLargeCid (if fits then Some cid else None)
large_cid cid true past = past
large_cid cid false past = tt

module _ (list : List CidRange) (runs : List Run) (are : AreRuns (map cid_range_span list) runs) (i low high index : ℕ) (at : slice_get runs i ≡ Some (run_of low high index)) where
  pub declaration_within : index < length list
  declaration_within = index_within cid_range_span cid_entry_seen cid_span cid_at (λ x. refl) list runs are i low high index at

  module _ (e : CidRange) (there : slice_get list index ≡ Some e) where
    pub run_within : (e.range.start ≤ low) × (low ≤ high) × (high ≤ e.range.end) × (high < 2 ^ 32)
    run_within = run_contained cid_range_span cid_entry_seen cid_span cid_at (λ x. refl) list runs are i low high index e at there

    -- where the CID of its last code is large
    pub large_given : 2 ^ 16 ≤ e.cid + (high - e.range.start) → IsSomeAnd (cid_told (entries_seen list) high) IsLargeCid
    large_given past = subst (λ o. IsSomeAnd o IsLargeCid) (sym (run_told cid_range_span cid_entry_seen cid_span cid_at (λ x. refl) list runs are i low high index high e at there run_within.1 (omega arith))) (large_cid (e.cid + (high - e.range.start)) (nat_lt (e.cid + (high - e.range.start)) (2 ^ 32)) past)

    module _ (part : CidRange) (range : Range) (low_is : range.start ≡ low) (high_is : range.end ≡ high) (range_is : part.range ≡ range) (cid_is : part.cid ≡ e.cid + (range.start - e.range.start)) where
      start_is : part.range.start ≡ low
      start_is = ap (λ r. r.start) range_is ∙ low_is

      end_is : part.range.end ≡ high
      end_is = ap (λ r. r.end) range_is ∙ high_is

      pub part_right : SaysAs cid_span cid_at (entries_seen list) (cid_entry_seen part)
      part_right code here =
          let within = has_within (cid_entry_seen part) code here in
          run_told cid_range_span cid_entry_seen cid_span cid_at (λ x. refl) list runs are i low high index code e at there (omega (arith, within.0, start_is)) (omega (arith, within.1, end_is))
          ∙ ap Some (same_cid (cid_entry_seen e) (cid_entry_seen part) code (omega (arith, within.0, cid_is, start_is, low_is, run_within.0)))

      pub part_has : (code : ℕ) → low ≤ code → code ≤ high → Has cid_span (cid_entry_seen part) code
      part_has code after before = has_from (cid_entry_seen part) code (omega (arith, after, start_is)) (omega (arith, before, end_is))

      pub part_can : part.cid + (range.end - range.start) < 2 ^ 16 → CanBeSplit (cid_entry_seen part)
      part_can small = (omega (arith, run_within.1, start_is, end_is), omega (arith, run_within.3, end_is), omega (arith, small, start_is, end_is, low_is, high_is))
