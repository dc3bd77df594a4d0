use Rattle.std.proofs.Common.{◌∙◌, ap}
use Rattle.cmap_binary_writer.proofs.BitsWritten.{finished, finished_full}
use Rattle.cmap_binary_writer.proofs.bits.BitWriter.finish.Goals as goal
use Rattle.cmap_binary_writer.proofs.bits.BitWriter.finish.Goals.{then-count-gt0+in_ok-push, else-count-gt0}

pub returns : goal.returns
returns c =
    let i = c.self.inside in
    elim c.if-count-gt0.branch [
      | then-count-gt0+in_ok-push w ↦ finished i.bytes.items c.if-count-gt0.bytes.items c.args.self i.count i.pending w.if-count-gt0.true c.self.invariant.0 c.self.invariant.1 (ap (λ v. v.items) w.bytes-is ∙ w.in_ok-push.ensures.items) c.self.view_is
      | else-count-gt0 w ↦ finished_full i.bytes.items c.if-count-gt0.bytes.items c.args.self i.count i.pending w.if-count-gt0.false (ap (λ v. v.items) w.bytes-is) c.self.view_is
    ]
