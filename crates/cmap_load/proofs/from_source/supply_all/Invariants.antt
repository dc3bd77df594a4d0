use Rattle.std.proofs.Common.{ℕ, List, Option}
use Rattle.cmap_binary.specs.BundleSeen.{tables_given}
use Rattle.cmap_load.specs.Loads.{IsLoading, Loads, files_in, files_left, wanted_of}
use Rattle.cmap_load.specs.NameLists.{AreNumbered, texts_of}
use Rattle.cmap_load.proofs.from_source.supply_all.Given as goal

abbrev pub invariant-loop-name : goal.invariant-loop-name
invariant-loop-name g l = record {
  loading : IsLoading texts_of AreNumbered l.load;
  loads : (budget : Option ℕ) (bytes : List ℕ) → Loads texts_of (tables_given l.bundle) budget (g.S.Source.answers l.source) bytes l.initial.load → Loads texts_of (tables_given l.bundle) budget (g.S.Source.answers l.source) bytes l.load;
}

abbrev pub decreases-loop-name : goal.decreases-loop-name
decreases-loop-name g l = files_left (wanted_of texts_of l.load) (files_in l.load)
