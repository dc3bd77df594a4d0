use Rattle.std.proofs.Common.{arith}
use Rattle.cmap_runs.specs.Parts.{all_parts}
use Rattle.cmap_runs.specs.declared.runs.indices.Part.{Part}
use Rattle.cmap_runs.proofs.PartsLeft.{each_with_one, left_with_one}
use Rattle.cmap_runs.proofs.runs.indices.ascending_parts.Goals as goal

pub loop-next-preserved : goal.loop-next-preserved
loop-next-preserved g c =
    let old = c.loop-next.invariant in let before = all_parts c.loop-next.parts in let after = all_parts c.add.new.self in
    let part : Part = record { next = c.loop-next.next; end = c.part_end-end.result; start = c.start_before-start.result } in
    let moved = c.in_ok-add.ensures in
    record {
      within = omega arith;
      each = each_with_one before after c.args.count part old.each (omega arith) (omega arith) moved;
      few = omega (arith, left_with_one before after part moved, old.few);
    }
