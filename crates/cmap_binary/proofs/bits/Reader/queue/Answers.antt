use Rattle.std.proofs.Common.{◌∙◌, ap, sym, arith}
use Rattle.std.proofs.lemmas.List.{nil_from_length}
use Rattle.cmap_binary.specs.BitQueues.{bits_ahead}
use Rattle.cmap_binary.specs.Reader.{bytes_left}
use Rattle.cmap_binary.proofs.BitsAhead.{none_queued, queued}
use Rattle.cmap_binary.proofs.bits.Reader.queue.Goals as goal

pub returns-in-empty : goal.returns-in-empty
returns-in-empty c =
    let r = c.self.inside in
    let left = c.left.ensures ∙ ap bytes_left (sym c.self.view_is) in
    c.new.ensures ∙ rw (← c.self.view_is) (none_queued r.bytes.now c.left.result.now r.byte r.bit c.self.invariant.0 left (nil_from_length _ (omega (arith, c.in-empty.len_below))))

pub returns-in-len1-up : goal.returns-in-len1-up
returns-in-len1-up c =
    let r = c.self.inside in
    let left = c.left.ensures ∙ ap bytes_left (sym c.self.view_is) in
    ap bits_ahead c.after.ensures ∙ rw (← c.self.view_is) (queued r.bytes.now c.left.result.now r.byte r.bit c.self.invariant.0 left c.in-len1-up.len_at_least)
