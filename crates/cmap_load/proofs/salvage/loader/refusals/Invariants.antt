use Rattle.std.proofs.Common.{◌≡◌, map, take}
use Rattle.cmap_load.specs.SalvageSeen.{fault_named, faults_seen}
use Rattle.cmap_load.proofs.salvage.loader.refusals.Given as goal

abbrev pub invariant-loop-fault : goal.invariant-loop-fault
invariant-loop-fault g l = record {
  seen : faults_seen l.refusals.items ≡ map (fault_named (g.N.Texts.texts l.list)) (take l.fault-index l.faults);
}
