use Rattle.std.proofs.Common.{nat_le, nat_lt, ◌∙◌, ap, arith, ltb-false, ltb-true, rules, sym, zero-le, le_refl}
use Rattle.std.proofs.lemmas.List.Sorted.{IsPartitionPoint-from_clause, IsPartitionedBy-ltb}
use Rattle.ucd_table.specs.Rows.{Range}
use Rattle.cmap_io.proofs.Ranges.{ends_in_order, in_found, in_no_range}
use Rattle.cmap_io.proofs.hidden.is_in.Goals as goal

pub returns-in-Some : goal.returns-in-Some
returns-in-Some c =
    let ranges = c.args.ranges.now in
    let code = c.args.code_point in
    let at = c.in-Some.ensures.lookup.3 in
    let parted = IsPartitionPoint-from_clause (λ (r : Range). nat_lt r.1 code) ranges _ c.partition_point-before.ensures.partitioned (IsPartitionedBy-ltb (λ (r : Range). r.1) ranges code (ends_in_order 0 ranges c.requires)) (λ a r q k. search rules) in
    let found = in_found 0 ranges code _ c.in-Some.range.now c.requires at.0 (λ i below. ltb-true _ _ (parted.0 i c.in-Some.range.now zero-le below)) (ltb-false _ _ (parted.1 _ c.in-Some.range.now (le_refl _) at.0)) in
    sym (found ∙ ap (λ (r : Range). nat_le r.0 code) (sym (at.1 c.in-Some.range.now)))

pub returns-in-None : goal.returns-in-None
returns-in-None c =
    let ranges = c.args.ranges.now in
    let code = c.args.code_point in
    let past = c.in-None.ensures.lookup.3 in
    let parted = IsPartitionPoint-from_clause (λ (r : Range). nat_lt r.1 code) ranges _ c.partition_point-before.ensures.partitioned (IsPartitionedBy-ltb (λ (r : Range). r.1) ranges code (ends_in_order 0 ranges c.requires)) (λ a r q k. search rules) in
    sym (in_no_range ranges code (0, 0) (λ i below. ltb-true _ _ (parted.0 i (0, 0) zero-le (omega (arith, past, below)))))
