use Rattle.std.proofs.Common.{◌-◌, ◌^◌}
use Rattle.hayro_cmap.specs.Loaders.{AreNumbered, IsSalvaging, files_read, texts_of}
use Rattle.cmap_sources.proofs.reading.load_past_faults.Given as goal

abbrev pub invariant-loop-load : goal.invariant-loop-load
invariant-loop-load l = record {
  loading : IsSalvaging texts_of AreNumbered l.load;
}

abbrev pub decreases-loop-load : goal.decreases-loop-load
decreases-loop-load l = 2 ^ 64 - files_read l.load
