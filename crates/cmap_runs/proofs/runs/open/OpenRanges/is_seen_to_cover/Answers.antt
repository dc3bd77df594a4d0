use Rattle.std.proofs.Common.{refl, sym, subst, arith}
use Rattle.std.specs.BinaryHeap.{heap_items}
use Rattle.std.specs.List.{Contains}
use Rattle.std.proofs.lemmas.List.Elements.{Contains-append_left, Contains-append_right}
use Rattle.cmap_runs.specs.OpenRanges.{Ascend}
use Rattle.cmap_runs.proofs.OpenEnds.{Ascend-top}
use Rattle.cmap_runs.proofs.runs.open.OpenRanges.is_seen_to_cover.Goals as goal

pub returns-then-is_covered_by : goal.returns-then-is_covered_by
returns-then-is_covered_by c = λ _.
    let top = c.in-Some.top.now in let covered = c.is_covered_by.ensures c.if-is_covered_by.true in
    let last = Ascend-top c.deref.result.now top (subst Ascend (sym c.deref.ensures.value) c.self.invariant.0) (sym c.in-Some.ensures.value) in
    let on_stack = subst (λ ends. Contains ends top) c.deref.ensures.value last.is in
    (top.0, top.1, subst (λ ends. Contains ends top) c.self.view_is (Contains-append_left c.self.inside.stack.items (heap_items c.self.inside.heap) top on_stack), covered.0, covered.1)

pub returns-in-Some-peek : goal.returns-in-Some-peek
returns-in-Some-peek c = λ yes.
    let top = c.in-Some-peek.top.now in let heap = heap_items c.self.inside.heap in let covered = c.is_covered_by-in-Some-peek.ensures yes in
    let in_heap : Contains heap top = (0, omega (arith, c.self.inside.heap.data.ok.0, c.in-Some-peek.ensures.variant.0 refl), sym c.in-Some-peek.ensures.lookup) in
    (top.0, top.1, subst (λ ends. Contains ends top) c.self.view_is (Contains-append_right c.self.inside.stack.items heap top in_heap), covered.0, covered.1)
