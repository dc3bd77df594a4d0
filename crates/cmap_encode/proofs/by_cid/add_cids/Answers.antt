use Rattle.std.proofs.Common.{◌≡◌, ◌^◌, subst, arith}
use Rattle.std.specs.Option.{option_copied}
use Rattle.cmap_encode.specs.GatheredSeen.{AddsCids}
use Rattle.cmap_encode.proofs.CidsAdded.{more_cids}
use Rattle.cmap_encode.proofs.by_cid.add_cids.Goals as goal

pub loop-next-preserved : goal.loop-next-preserved
loop-next-preserved c = record {
  within = c.in_ok-next.ensures.more.1;
  are = c.in_ok-next.ensures.are;
  adds = more_cids (option_copied c.args.collection) c.args.cids.now c.args.texts.now c.loop-next.texts c.add_row.new.texts 0 c.loop-next.next c.in_ok-next.next (omega arith) (let later = c.in_ok-next.ensures.more.0 in omega arith) c.loop-next.invariant.adds c.in_ok-next.ensures.adds;
}

pub returns-clause-adds : goal.returns-clause-adds
returns-clause-adds c =
    let end : c.loop-next.next ≡ 2 ^ 32 = omega (arith, c.loop-next.invariant.within, c.from.ensures) in
    subst (λ n. AddsCids (option_copied c.args.collection) c.args.cids.now 0 n c.args.texts.now c.loop-next.texts) end c.loop-next.invariant.adds
