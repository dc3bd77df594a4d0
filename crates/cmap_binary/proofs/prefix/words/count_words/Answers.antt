use Rattle.std.proofs.Common.{◌≡◌, ℕ, ◌+◌, ◌-◌, ◌*◌, ◌%◌, ◌^◌, ◌<◌, ◌≤◌, get_or, arith}
use Rattle.std.proofs.lemmas.Nat.{pow_pos}
use Rattle.std.proofs.Math.Nat.{pow-le-pow_right, mul-le-mul_left, mod-eq_of_lt}
use Rattle.cmap_binary.proofs.Lengths.{IsCounted-all, IsCounted-more, IsCounted-none, no_room, too_long}
use Rattle.cmap_binary.proofs.prefix.words.count_words.Goals as goal

no_bit_lost : (count k : ℕ) → count < 2 ^ 32 → k ≤ 32 → count * 2 ^ k % 2 ^ 64 ≡ count * 2 ^ k
no_bit_lost count k small most =
    let least : 2 ^ k ≤ 2 ^ 32 = pow-le-pow_right {n = 2} (omega arith) {i = k} {j = 32} most in
    mod-eq_of_lt (omega (arith, mul-le-mul_left count least))

pub loop-i-init : goal.loop-i-init
loop-i-init c = IsCounted-none c.args.counts.now

pub returns-then-i-ge-LONGEST : goal.returns-then-i-ge-LONGEST
returns-then-i-ge-LONGEST c = too_long c.loop-i.invariant c.loop-i-test.true (omega arith) (omega arith)

pub returns-in_err-room : goal.returns-in_err-room
returns-in_err-room c =
    let i = c.loop-i.i in
    let whole = no_bit_lost (get_or c.args.counts.now i 0) (32 - (i + 1)) (omega (arith, c.type_inv.counts i)) (omega arith) in
    rw c.from_residual.ensures (no_room c.loop-i.invariant (omega arith) (omega (arith, whole, rw (c.from.ensures, c.saturating_sub.ensures) at c.in_err-room.ensures)))

pub loop-i-preserved : goal.loop-i-preserved
loop-i-preserved c =
    let i = c.loop-i.i in
    let whole = no_bit_lost (get_or c.args.counts.now i 0) (32 - (i + 1)) (omega (arith, c.type_inv.counts i)) (omega arith) in
    let left = rw (c.from.ensures, c.saturating_sub.ensures) at c.in_ok-room.ensures in
    IsCounted-more c.loop-i.invariant c.loop-i-test.true c.in_ok-room.room (λ some. grind arith) (omega (arith, left, whole)) (omega (arith, mul-le-mul_left (get_or c.args.counts.now i 0) (pow_pos (32 - (i + 1)))))

pub returns : goal.returns
returns c = IsCounted-all c.loop-i.invariant c.loop-i-test.false
