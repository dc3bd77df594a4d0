use Rattle.std.proofs.Common.{◌≡◌, map, take}
use Rattle.cmap_load.specs.NameLists.{texts_of}
use Rattle.cmap_load.specs.SalvageSeen.{fault_named, faults_seen}
use Rattle.cmap_load.proofs.salvage.refusals.Given as goal

abbrev pub invariant-loop-fault : goal.invariant-loop-fault
invariant-loop-fault l = record {
  seen : faults_seen l.refusals.items ≡ map (fault_named (texts_of l.list)) (take l.fault-index l.faults);
}
