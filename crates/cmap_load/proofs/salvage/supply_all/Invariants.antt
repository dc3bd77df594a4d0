use Rattle.std.proofs.Common.{ℕ, List, Option, ◌-◌, ◌^◌}
use Rattle.cmap_binary.specs.BundleSeen.{tables_given}
use Rattle.cmap_load.specs.NameLists.{AreNumbered, texts_of}
use Rattle.cmap_load.specs.SalvageLoads.{IsSalvaging, Salvages, files_read}
use Rattle.cmap_load.proofs.salvage.supply_all.Given as goal

abbrev pub invariant-loop-load : goal.invariant-loop-load
invariant-loop-load g l = record {
  loading : IsSalvaging texts_of AreNumbered l.load;
  loads : (budget : Option ℕ) (bytes : List ℕ) → Salvages texts_of (tables_given l.bundle) budget (g.S.Source.answers l.source) bytes l.initial.load → Salvages texts_of (tables_given l.bundle) budget (g.S.Source.answers l.source) bytes l.load;
}

abbrev pub decreases-loop-load : goal.decreases-loop-load
decreases-loop-load g l = 2 ^ 64 - files_read l.load
