use Rattle.std.proofs.Common.{◌≡◌, ◌++◌, ℕ, ◌+◌, ◌*◌, ◌≤◌, drop}
use Rattle.cmap_binary.specs.PrefixWords.{bits, bits_of}
use Rattle.cmap_binary.proofs.bit_queue.with_bytes.Given as goal

abbrev pub invariant-loop-byte : goal.invariant-loop-byte
invariant-loop-byte l = (held : ℕ) → held ≤ 32 → bits_of (held + 8 * l.byte-index) l.longer ++ bits (drop l.byte-index l.bytes) ≡ bits_of held l.fn.number ++ bits l.bytes
