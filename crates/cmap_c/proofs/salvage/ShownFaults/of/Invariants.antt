use Rattle.std.proofs.Common.{◌≡◌, ◌++◌, drop, vec_items}
use Rattle.cmap_load.specs.SalvageSeen.{faults_seen}
use Rattle.cmap_c.specs.Salvaged.{names_joined, numbers_of_all}
use Rattle.cmap_c.proofs.salvage.ShownFaults.of.Given as goal

abbrev pub invariant-loop-fault : goal.invariant-loop-fault
invariant-loop-fault l =
    (vec_items l.shown ++ numbers_of_all (faults_seen (drop l.fault-index l.faults)) ≡ numbers_of_all (faults_seen l.faults))
    × (vec_items l.names ++ names_joined (faults_seen (drop l.fault-index l.faults)) ≡ names_joined (faults_seen l.faults))
