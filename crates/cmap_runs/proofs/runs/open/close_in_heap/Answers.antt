use Rattle.std.proofs.Common.{nat_cmp, refl, sym, arith}
use Rattle.std.specs.BinaryHeap.{heap_items}
use Rattle.std.proofs.lemmas.List.Sorted.{first_le_from_greatest}
use Rattle.cmap_runs.specs.OpenRanges.{IsTop}
use Rattle.cmap_runs.proofs.OpenEnds.{taken_top}
use Rattle.cmap_runs.proofs.runs.open.close_in_heap.Goals as goal
use Rattle.cmap_runs.proofs.runs.open.close_in_heap.Goals.{In_ok-range}

top : (c : In_ok-range) → IsTop (heap_items c.args.heap.now) c.in_ok-range.field-0.now
top c = record {
  is = (0, omega (arith, c.args.heap.now.data.ok.0, c.in_ok-range.ensures.variant.0 refl), sym c.in_ok-range.ensures.lookup);
  greatest = first_le_from_greatest nat_cmp c.in_ok-range.field-0.now (heap_items c.args.heap.now) (c.in_ok-range.ensures.greatest c.requires);
}

pub returns-then-from-to-clause-closes : goal.returns-then-from-to-clause-closes
returns-then-from-to-clause-closes c =
    let range = c.in_ok-range.field-0.now in let heap = heap_items c.args.heap.now in let left = heap_items c.pop.new.self in
    let some = c.in_ok-range.ensures.variant.0 refl in
    record {
      top = top (goal.at.returns-then-from-to-clause-closes c).In_ok-range;
      stays = λ le. absurd (omega (arith, le, c.if-from-to.true, c.from.ensures));
      closed = λ _. taken_top heap left range c.pop.result (omega (arith, c.args.heap.now.data.ok.0, some)) c.in_ok-range.ensures.lookup (c.pop.ensures.variant.1 some) c.pop.ensures.top c.pop.ensures.permutation;
    }

pub returns-else-from-to-clause-closes : goal.returns-else-from-to-clause-closes
returns-else-from-to-clause-closes c =
    record {
      top = top (goal.at.returns-else-from-to-clause-closes c).In_ok-range;
      stays = λ _. refl;
      closed = λ less. absurd (omega (arith, less, c.if-from-to.false, c.from.ensures));
    }
