use Rattle.std.proofs.Common.{◌++◌, ◌-◌, ◌/◌, ◌^◌, ◌≡◌, ap, ◌∙◌, refl, sym, arith}
use Rattle.std.proofs.lemmas.List.{append_assoc, append-nil}
use Rattle.std.proofs.lemmas.Nat.{and_mask}
use Rattle.std.proofs.lemmas.Result.{IfOk-from_err}
use Rattle.cmap_binary.specs.PrefixWords.{bits_of}
use Rattle.cmap_binary_writer.proofs.BitsWritten.{bits_of-bit}
use Rattle.cmap_binary_writer.proofs.bits.BitWriter.push.Goals as goal

pub loop-left-init : goal.loop-left-init
loop-left-init c = (omega arith, refl)

pub push_bit-requires : goal.push_bit-requires
push_bit-requires c = omega (arith, and_mask (c.args.value / 2 ^ (c.loop-left.left - 1)) 1)

pub loop-left-preserved : goal.loop-left-preserved
loop-left-preserved c =
    let more = bits_of-bit c.loop-left.left c.args.value _ c.loop-left-test.true refl in (
      omega (arith, c.loop-left.invariant.0),
      ap (λ bs. bs ++ bits_of (c.loop-left.left - 1) c.args.value) c.in_ok-push_bit.ensures ∙ append_assoc c.loop-left.self _ _ ∙ ap (λ bs. c.loop-left.self ++ bs) more ∙ c.loop-left.invariant.1,
    )

pub returns-in_err-push_bit : goal.returns-in_err-push_bit
returns-in_err-push_bit c = IfOk-from_err _ _ c.from_residual.ensures.0

pub returns : goal.returns
returns c =
    let none : c.loop-left.left ≡ 0 = omega arith in
    sym (append-nil c.loop-left.self) ∙ ap (λ k. c.loop-left.self ++ bits_of k c.args.value) (sym none) ∙ c.loop-left.invariant.1
