use Rattle.std.proofs.Common.{◌∙◌, ap, ◌++◌, ◌∷◌, [], sym, arith}
use Rattle.std.proofs.lemmas.Result.{IfOk-from_err}
use Rattle.cmap_binary.specs.PrefixWords.{bits, bits_of}
use Rattle.cmap_binary_writer.proofs.BitsWritten.{bit_fits, few_bits, filled, pushed}
use Rattle.cmap_binary_writer.proofs.bits.BitWriter.push_bit.Goals as goal

pub returns-else-self-eq7 : goal.returns-else-self-eq7
returns-else-self-eq7 c = pushed c.self.inside.bytes.items c.self.inside.count c.self.inside.pending c.args.bit c.requires ∙ ap (λ v. v ++ c.args.bit ∷ []) c.self.view_is

pub overflow_mul-pending : goal.overflow_mul-pending
overflow_mul-pending c = omega (arith, few_bits c.self.inside.count c.self.inside.pending c.self.invariant.0 c.self.invariant.1)

pub overflow_add-pending : goal.overflow_add-pending
overflow_add-pending c = omega (arith, few_bits c.self.inside.count c.self.inside.pending c.self.invariant.0 c.self.invariant.1)

pub invariant_of-self-else-self-eq7 : goal.invariant_of-self-else-self-eq7
invariant_of-self-else-self-eq7 c = (omega (arith, c.self.invariant.0, c.if-self-eq7.false), bit_fits c.self.inside.count c.self.inside.pending c.args.bit c.self.invariant.1 c.requires)

pub returns-in_ok-push : goal.returns-in_ok-push
returns-in_ok-push c = filled c.self.inside.bytes.items c.push.new.self.items c.self.inside.pending c.args.bit c.requires c.in_ok-push.ensures.items ∙ ap (λ v. v ++ c.args.bit ∷ []) (ap (λ k. bits c.self.inside.bytes.items ++ bits_of k c.self.inside.pending) (sym c.if-self-eq7.true) ∙ c.self.view_is)

pub returns-in_err-push : goal.returns-in_err-push
returns-in_err-push c = IfOk-from_err _ _ c.from_residual.ensures.0
