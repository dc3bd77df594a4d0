use Rattle.std.proofs.Common.{arith}
use Rattle.cmap_values.specs.CodeLengths.{length_of}
use Rattle.cmap_layers.proofs.CodesOfCids.{added, passed_over}
use Rattle.cmap_layers.proofs.layers.Layers.codes_of_cid.Goals as goal
use Rattle.cmap_layers.proofs.layers.Layers.codes_of_cid.Goals.{in-Some+in_ok-add_range, in_default}

pub loop-next-preserved : goal.loop-next-preserved
loop-next-preserved c =
    let layers = c.args.self.now in let len = length_of c.args.len in let cid = c.args.cid in
    let next = c.loop-next.next in let stretch = c.cid_stretch-stretch.result in let last = stretch.last in
    elim c.match-codes_among.branch [
      | in-Some+in_ok-add_range w ↦ record {
        within = omega arith;
        codes = rw (w.ranges-is, c.from-next.ensures, w.in_ok-add_range.ensures)
            (added layers len cid next last stretch c.loop-next.ranges.items c.loop-next.invariant.codes c.cid_stretch-stretch.ensures.cids (omega arith) (omega arith) w.in-Some.range (rw w.in-Some.is at c.codes_among.ensures));
      }
      | in_default w ↦ record {
        within = omega arith;
        codes = rw (w.ranges-is, c.from-next.ensures)
            (passed_over layers len cid next last stretch c.loop-next.ranges.items c.loop-next.invariant.codes c.cid_stretch-stretch.ensures.cids (omega arith) (omega arith) (rw w.in_default.is at c.codes_among.ensures));
      }
    ]
