use Rattle.std.proofs.Common.{◌∙◌, arith}
use Rattle.cmap_binary.proofs.BitsAhead.{four_pushed}
use Rattle.cmap_binary.proofs.bit_queue.BitQueue.fill.Goals as goal

pub returns-in-len4-up-clause-same : goal.returns-in-len4-up-clause-same
returns-in-len4-up-clause-same c =
    let q = c.self.inside in
    rw (← c.self.view_is) (four_pushed q.rest.now q.held q.ahead c.from.result c.in-len4-up.len_at_least (omega arith) (omega (arith, c.from.ensures)) (omega arith) (omega arith) (omega arith) (c.from.ensures ∙ c.from_be_bytes-next.ensures))
