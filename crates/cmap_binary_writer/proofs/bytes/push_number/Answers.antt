use Rattle.std.proofs.Common.{◌++◌, ◌-◌, ap, ◌∙◌, refl, arith}
use Rattle.std.proofs.lemmas.List.{append_assoc}
use Rattle.std.proofs.lemmas.Result.{IfOk-from_err}
use Rattle.cmap_binary_writer.specs.Written.{bytes_of}
use Rattle.cmap_binary_writer.proofs.BytesWritten.{bytes_of-byte}
use Rattle.cmap_binary_writer.proofs.bytes.push_number.Goals as goal

pub loop-left-preserved : goal.loop-left-preserved
loop-left-preserved c =
    let more = bytes_of-byte c.loop-left.left c.args.number _ (omega arith) refl in (
      omega (arith, c.loop-left.invariant.0),
      ap (λ bs. bs ++ bytes_of (c.loop-left.left - 1) c.args.number) c.in_ok-push.ensures.items ∙ append_assoc c.loop-left.out.items _ _ ∙ ap (λ bs. c.loop-left.out.items ++ bs) more ∙ c.loop-left.invariant.1,
    )

pub returns-in_err-push : goal.returns-in_err-push
returns-in_err-push c = IfOk-from_err _ _ c.from_residual.ensures.0
