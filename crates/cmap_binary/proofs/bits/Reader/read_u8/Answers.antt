use Rattle.std.proofs.Common.{◌≡◌, Some, None, subst, ◌∙◌}
use Rattle.std.specs.List.{slice_get}
use Rattle.cmap_binary.specs.Reader.{bytes_left}
use Rattle.cmap_binary.proofs.BytesTaken.{byte_at, next_byte, no_byte}
use Rattle.cmap_binary.proofs.bits.Reader.read_u8.Goals as goal

pub returns-in_err-byte-clause-value : goal.returns-in_err-byte-clause-value
returns-in_err-byte-clause-value c =
    let r = c.self.inside in
    c.from_residual.ensures ∙ subst (λ at. None ≡ slice_get (bytes_left at) 0) c.self.view_is (no_byte r.bytes.now r.byte r.bit c.self.invariant.0 (byte_at r.bytes.now r.byte c.get.result c.get.ensures.lookup.3 None c.in_err-byte.ensures))

pub returns-clause-value : goal.returns-clause-value
returns-clause-value c =
    let r = c.self.inside in let (within, is) = byte_at r.bytes.now r.byte c.get.result c.get.ensures.lookup.3 (Some c.in_ok-byte.byte) c.in_ok-byte.ensures in
    subst (λ at. Some c.in_ok-byte.byte ≡ slice_get (bytes_left at) 0) c.self.view_is (next_byte r.bytes.now r.byte r.bit c.self.invariant.0 c.in_ok-byte.byte within is)
