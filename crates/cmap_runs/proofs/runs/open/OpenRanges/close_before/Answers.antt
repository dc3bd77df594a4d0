use Rattle.std.specs.BinaryHeap.{heap_items}
use Rattle.cmap_runs.proofs.OpenEnds.{ClosesTop-heap, ClosesTop-stack}
use Rattle.cmap_runs.proofs.runs.open.OpenRanges.close_before.Goals as goal

pub returns-then-is_in_heap : goal.returns-then-is_in_heap
returns-then-is_in_heap c =
    let stack = c.self.inside.stack.items in let heap = heap_items c.self.inside.heap in
    rw (← c.self.view_is, ← c.as_slice.ensures.value)
    (ClosesTop-heap c.as_slice.result.now heap (heap_items c.close_in_heap.new.heap) c.args.to c.close_in_heap.result c.close_in_heap.ensures.closes
    (c.is_in_heap.ensures.some c.if-is_in_heap.true) (c.is_in_heap.ensures.heap c.if-is_in_heap.true))

pub returns : goal.returns
returns c =
    let heap = heap_items c.self.inside.heap in
    rw (← c.self.view_is)
    (ClosesTop-stack c.self.inside.stack.items c.close_on_stack.new.stack.items heap c.args.to c.close_on_stack.result c.close_on_stack.ensures.closes
    (rw c.as_slice.ensures.value at c.is_in_heap.ensures.none c.if-is_in_heap.false)
    (rw c.as_slice.ensures.value at c.is_in_heap.ensures.stack c.if-is_in_heap.false))
