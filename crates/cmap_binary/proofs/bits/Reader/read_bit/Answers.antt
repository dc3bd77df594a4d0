use Rattle.std.proofs.Common.{◌≡◌, ◌<◌, ◌≤◌, ◌+◌, ◌*◌, ◌/◌, ◌-◌, ◌^◌, length, get_or, Some, None, ap, ◌∙◌, sym, arith}
use Rattle.std.proofs.lemmas.Nat.{and_mask}
use Rattle.std.proofs.lemmas.Option.{slice_get_past}
use Rattle.cmap_binary.specs.PrefixWords.{bits}
use Rattle.cmap_binary.proofs.BitsOfBytes.{length-bits, slice_get-bits}
use Rattle.cmap_binary.proofs.BytesTaken.{byte_at}
use Rattle.cmap_binary.proofs.bits.Reader.read_bit.Goals as goal

pub returns-in_err-byte-clause-value : goal.returns-in_err-byte-clause-value
returns-in_err-byte-clause-value c =
    let r = c.self.inside in
    let after = byte_at r.bytes.now r.byte c.get.result c.get.ensures.lookup.3 None c.in_err-byte.ensures in
    let past : length (bits r.bytes.now) ≤ 8 * r.byte + r.bit = grind (arith, after, length-bits r.bytes.now) in
    rw (c.from_residual.ensures, ← c.self.view_is) (sym (slice_get_past (bits r.bytes.now) (8 * r.byte + r.bit) past))

pub returns-clause-value : goal.returns-clause-value
returns-clause-value c =
    let r = c.self.inside in
    let x = c.in_ok-byte.byte in
    let there : (r.byte < length r.bytes.now) × (x ≡ get_or r.bytes.now r.byte 0) = byte_at r.bytes.now r.byte c.get.result c.get.ensures.lookup.3 (Some x) c.in_ok-byte.ensures in
    rw (← c.self.view_is) (ap Some (and_mask (x / 2 ^ (7 - r.bit)) 1) ∙ sym (rw (← there.1) at (slice_get-bits r.bytes.now r.byte r.bit there.0 c.self.invariant.0)))
