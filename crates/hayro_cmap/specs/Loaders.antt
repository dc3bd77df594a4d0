-- What a loader was given, what it wants, and what its result is.
pub use Rattle.cmap_load.specs.Loads.{AreLoadedBy, FitsBy, IsLoading, IsRefusedBy, IsRefusedFile, IsUnchanged, Reads, budget_of, files_in, files_left, refusal_of, refused_of, wanted_of}
pub use Rattle.cmap_load.specs.NameCopies.{AreNumbered, texts_of}
pub use Rattle.cmap_load.specs.SalvageLoads.{IsGiven, IsSalvagedBy, IsSalvaging, ReadsPast, Salvages, budget_in, faults_of, files_read, is_settled, wanted_name}
