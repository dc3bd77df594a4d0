use Rattle.std.proofs.Common.{◌≤◌, length, subst, sym, arith}
use Rattle.cmap_binary.specs.Reader.{IsAtByte, bytes_left}
use Rattle.cmap_binary.proofs.BytesTaken.{moved_within}
use Rattle.cmap_binary.proofs.bits.Reader.skip_bytes.Goals as goal

pub overflow_add-self : goal.overflow_add-self
overflow_add-self c =
    let r = c.self.inside in let seen = sym c.self.view_is in
    let moved = moved_within r.bytes.now r.byte r.bit c.self.invariant.0 c.args.n (subst IsAtByte seen c.requires.at_byte) c.self.invariant.1 (subst (λ at. c.args.n ≤ length (bytes_left at)) seen c.requires.within) in
    record { fits = omega (arith, moved, c.self.told.0) }

pub invariant_of-self : goal.invariant_of-self
invariant_of-self c =
    let r = c.self.inside in let seen = sym c.self.view_is in (
      c.self.invariant.0,
      moved_within r.bytes.now r.byte r.bit c.self.invariant.0 c.args.n (subst IsAtByte seen c.requires.at_byte) c.self.invariant.1 (subst (λ at. c.args.n ≤ length (bytes_left at)) seen c.requires.within),
    )
