use Rattle.std.proofs.Common.{◌≡◌, ℕ, ◌+◌, ◌-◌, ◌<◌, ◌≤◌, length, drop, take, List, ◌∙◌, ap, subst, sym, arith}
use Rattle.std.proofs.Math.ListN.{set}
use Rattle.std.proofs.lemmas.List.{take_rest}
use Rattle.cmap_c.proofs.StringsCut.{IsCutting, begins, cut_all, cut_full, cuts, none_left, not_none, some_left}
use Rattle.cmap_c.proofs.decode.decode.Goals as goal
use Rattle.cmap_c.proofs.decode.decode.Goals.{else-loop-count-test, then-loop-count-test+in_default}

pub loop-count-preserved : goal.loop-count-preserved
loop-count-preserved c =
    let within : c.in-Some.next.byte_len ≤ length c.loop-count.left.now = c.in-Some.ensures.length.1 in
    let room : c.loop-count.count < length c.args.codes.now = omega (arith, c.loop-count-test.true, c.loop-count.auto.codes) in
    let more : IsCutting c.args.layers.now c.args.text.now (drop c.in-Some.next.byte_len c.loop-count.left.now) c.args.codes.now (set c.loop-count.codes c.loop-count.count c.with_cid.result) (c.loop-count.count + 1) =
    rw c.with_cid.ensures (cuts c.args.layers.now c.args.text.now c.loop-count.left.now c.args.codes.now c.loop-count.codes c.loop-count.count c.in-Some.next c.loop-count.invariant c.in-Some.ensures.code within room) in
    let rest : take (length c.loop-count.left.now - c.from.result) (drop c.from.result c.loop-count.left.now) ≡ drop c.in-Some.next.byte_len c.loop-count.left.now =
    take_rest c.loop-count.left.now c.from.result ∙ ap (λ (n : ℕ). drop n c.loop-count.left.now) c.from.ensures in
    let P : List ℕ → Type 0 = λ left. IsCutting c.args.layers.now c.args.text.now left c.args.codes.now (set c.loop-count.codes c.loop-count.count c.with_cid.result) (c.loop-count.count + 1) in
    subst P (sym rest) more

pub returns-then-is_empty : goal.returns-then-is_empty
returns-then-is_empty c = cut_all c.args.layers.now c.args.text.now c.loop-count.left.now c.args.codes.now c.loop-count.codes c.loop-count.count c.number.result c.loop-count.invariant
    (none_left c.loop-count.left.now c.if-is_empty.ensures) c.number.ensures

pub returns-else-is_empty : goal.returns-else-is_empty
returns-else-is_empty c =
    let some = some_left c.loop-count.left.now c.if-is_empty.ensures in
    let full : c.loop-count.count ≡ length c.args.codes.now = elim c.loop-count-test.branch [
      | else-loop-count-test w ↦ omega (arith, w.loop-count-test.false, c.loop-count.invariant.room, c.loop-count.auto.codes)
      | then-loop-count-test+in_default w ↦ absurd (not_none c.loop-count.left.now some w.in_default.ensures.code)
    ] in
    cut_full c.args.layers.now c.args.text.now c.loop-count.left.now c.args.codes.now c.loop-count.codes c.loop-count.count c.number-else-is_empty.result c.loop-count.invariant some c.number-else-is_empty.ensures full

pub loop-count-init : goal.loop-count-init
loop-count-init c = begins c.args.layers.now c.args.text.now c.args.codes.now

pub overflow_sub-taken : goal.overflow_sub-taken
overflow_sub-taken c = c.loop-count.invariant.fewer
