use Rattle.std.proofs.Common.{◌+◌, ◌*◌, arith}
use Rattle.cmap_binary.proofs.BitsOfBytes.{left-within}
use Rattle.cmap_binary.proofs.bits.Reader.skip_bits.Goals as goal

pub invariant_of-self : goal.invariant_of-self
invariant_of-self c =
    let r = c.self.inside in
    let within = left-within r.bytes.now (8 * r.byte + r.bit) c.args.count c.self.invariant.1 (rw (← c.self.view_is) at c.requires.within) in
    (omega arith, omega arith)
