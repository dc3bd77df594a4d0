use Rattle.hayro_cmap.specs.Loaders.{AreNumbered, IsLoading, files_in, files_left, texts_of, wanted_of}
use Rattle.cmap_sources.proofs.reading.load.Given as goal

abbrev pub invariant-loop-name : goal.invariant-loop-name
invariant-loop-name l = record {
  loading : IsLoading texts_of AreNumbered l.load;
}

abbrev pub decreases-loop-name : goal.decreases-loop-name
decreases-loop-name l = files_left (wanted_of texts_of l.load) (files_in l.load)
