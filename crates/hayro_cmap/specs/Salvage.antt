-- Files over the files that they use, where some are at fault: each is read past its faults, and reading goes on after a use that gives no file.
pub use Rattle.cmap_load.specs.Salvage.{AreOfBundle, BeginsWith, BeginsWithFault, Found, GivesMap, IsFirstPastFaults, IsReadPast, IsReadWithin, NamedFault, Opening, Reading, Salvages, SalvagesBytes, SalvagesEach, SalvagesMap, SalvagesNamed, SalvagesUse, faults_of, is_fault_of, is_listed, is_name, is_same_kind, list_causes, list_each, no_layers}
