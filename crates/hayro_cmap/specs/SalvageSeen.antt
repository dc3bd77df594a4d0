-- Private aid: what contracts see of files that are read past their faults.
pub use Rattle.cmap_load.specs.SalvageSeen.{GoesOn, ReadsOn, Walks, fault_seen, faults_seen, opening_seen}
