use Rattle.std.proofs.Common.{◌≡◌, ◌++◌, ◌+◌, ◌*◌, ap, sym, ◌∙◌, length, arith}
use Rattle.std.proofs.lemmas.List.{append-nil, drop_all}
use Rattle.cmap_binary.specs.PrefixWords.{bits, bits_of}
use Rattle.cmap_binary.proofs.BitsAhead.{bytes_pushed}
use Rattle.cmap_binary.proofs.bit_queue.with_bytes.Goals as goal

pub loop-byte-preserved : goal.loop-byte-preserved
loop-byte-preserved c = λ held small.
    let i = c.loop-byte.byte-index in
    let count : held + 8 * (i + 1) ≡ held + 8 * i + 8 = omega arith in
    rw count (bytes_pushed c.args.bytes.now i (held + 8 * i) c.loop-byte.longer c.from.result c.loop-byte-test.true (omega (arith, c.loop-byte-test.true, c.requires)) (omega (arith, c.from.ensures, c.type_inv.bytes i)) c.from.ensures ∙ c.loop-byte.invariant held small)

pub returns : goal.returns
returns c = λ held small.
    let end : c.loop-byte.byte-index ≡ length c.args.bytes.now = omega arith in
    rw end at (sym (append-nil _) ∙ ap (λ bs. bits_of (held + 8 * c.loop-byte.byte-index) c.loop-byte.longer ++ bits bs) (sym (drop_all c.loop-byte.byte-index c.args.bytes.now (omega (arith, end)))) ∙ c.loop-byte.invariant held small)
