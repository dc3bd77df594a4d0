use Rattle.std.proofs.Common.{ℕ, ◌+◌, ◌-◌, ◌<◌, ◌≤◌, List, get_or, length, ◌++◌, inr, refl, sym, ap, subst, arith, length-append}
use Rattle.std.specs.BinaryHeap.{heap_items}
use Rattle.std.proofs.lemmas.Result.{IfOk-from_err}
use Rattle.cmap_runs.specs.OpenRanges.{Ascend, HasGreatestOnTop, Opens}
use Rattle.cmap_runs.specs.Ranges.{Run}
use Rattle.cmap_runs.proofs.OpenDecide.{Opens-push}
use Rattle.cmap_runs.proofs.OpenEnds.{Ascend-push, one_more_in_heap, one_more_on_stack}
use Rattle.cmap_runs.proofs.runs.open.OpenRanges.open.Goals as goal

pub invariant_of-self : goal.invariant_of-self
invariant_of-self c =
    let stack = c.self.inside.stack.items in let range : ℕ × ℕ = (c.range.inside.index, c.range.inside.high) in
    let more = Ascend-push stack range c.self.invariant.0 (subst (λ (xs : List (ℕ × ℕ)). (d : ℕ × ℕ) → 0 < length xs → (get_or xs (length xs - 1) d).0 ≤ range.0) c.as_slice.ensures.value (c.comes_last.ensures c.if-comes_last.true)) in
    (subst Ascend (sym c.in_ok-push.ensures.items) more, c.self.invariant.1)

pub returns-in_ok-push-clause-opens : goal.returns-in_ok-push-clause-opens
returns-in_ok-push-clause-opens c =
    let stack = c.self.inside.stack.items in let heap = heap_items c.self.inside.heap in
    let range : Run = record { low = c.range.inside.low; high = c.range.inside.high; index = c.range.inside.index } in
    subst (λ before. Opens before (c.push.new.self.items ++ heap) c.args.range.now) c.self.view_is
    (subst (Opens (stack ++ heap) (c.push.new.self.items ++ heap)) c.range.view_is
    (Opens-push (stack ++ heap) (c.push.new.self.items ++ heap) range
    (rw c.in_ok-push.ensures.items (one_more_on_stack stack heap (range.index, range.high)))))

pub returns-in_ok-push-2-clause-opens : goal.returns-in_ok-push-2-clause-opens
returns-in_ok-push-2-clause-opens c =
    let stack = c.self.inside.stack.items in let heap = heap_items c.self.inside.heap in let after = heap_items c.push-else-comes_last.new.self in
    let range : Run = record { low = c.range.inside.low; high = c.range.inside.high; index = c.range.inside.index } in
    subst (λ before. Opens before (stack ++ after) c.args.range.now) c.self.view_is
    (subst (Opens (stack ++ heap) (stack ++ after)) c.range.view_is
    (Opens-push (stack ++ heap) (stack ++ after) range
    (one_more_in_heap stack heap after (range.index, range.high) c.in_ok-push-2.ensures.permutation)))

pub returns-in_ok-push-clause-few : goal.returns-in_ok-push-clause-few
returns-in_ok-push-clause-few c =
    let few : length (c.push.new.self.items ++ heap_items c.self.inside.heap) ≤ length c.args.self.now + 1 = omega (arith, ap length c.in_ok-push.ensures.items, ap length c.self.view_is, length-append {A = ℕ × ℕ}) in
    few

pub returns-in_ok-push-2-clause-few : goal.returns-in_ok-push-2-clause-few
returns-in_ok-push-2-clause-few c =
    let before = c.self.inside.heap in let after = c.push-else-comes_last.new.self in
    let few : length (c.self.inside.stack.items ++ heap_items after) ≤ length c.args.self.now + 1 = omega (arith, c.in_ok-push-2.ensures.len, before.data.ok.0, after.data.ok.0, ap length c.self.view_is, length-append {A = ℕ × ℕ}) in
    few

pub returns-in_err-push : goal.returns-in_err-push
returns-in_err-push c = record { opens = IfOk-from_err _ _ c.from_residual.ensures.0; few = IfOk-from_err _ _ c.from_residual.ensures.0 }

pub returns-in_err-push-2 : goal.returns-in_err-push-2
returns-in_err-push-2 c = record { opens = IfOk-from_err _ _ c.from_residual-in_err-push-2.ensures.0; few = IfOk-from_err _ _ c.from_residual-in_err-push-2.ensures.0 }

pub returns-then-is_seen_to_cover : goal.returns-then-is_seen_to_cover
returns-then-is_seen_to_cover c = record { opens = record { covered = c.if-is_seen_to_cover.ensures refl; kept = λ index last has. has; no_more = λ index last has. inr has }; few = omega arith }

pub invariant_of-self-in_err-push : goal.invariant_of-self-in_err-push
invariant_of-self-in_err-push c = (subst Ascend (sym c.in_err-push.ensures.items) c.self.invariant.0, c.self.invariant.1)

pub invariant_of-self-in_err-push-2 : goal.invariant_of-self-in_err-push-2
invariant_of-self-in_err-push-2 c = (c.self.invariant.0, subst HasGreatestOnTop (sym c.in_err-push-2.ensures.unchanged.0) c.self.invariant.1)
