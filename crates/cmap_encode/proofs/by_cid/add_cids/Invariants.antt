use Rattle.std.proofs.Common.{◌-◌, ◌≤◌, ◌^◌}
use Rattle.std.specs.Option.{option_copied}
use Rattle.cmap_encode.specs.GatheredSeen.{AddsCids}
use Rattle.cmap_encode.specs.RunsSeen.{AreRunsByPrefix}
use Rattle.cmap_encode.proofs.by_cid.add_cids.Given as goal

abbrev pub invariant-loop-next : goal.invariant-loop-next
invariant-loop-next l = record {
  within : l.next ≤ 2 ^ 32;
  are : AreRunsByPrefix l.texts;
  adds : AddsCids (option_copied l.collection) l.cids 0 l.next l.initial.texts l.texts;
}

abbrev pub decreases-loop-next : goal.decreases-loop-next
decreases-loop-next l = 2 ^ 32 - l.next
