-- Why files have no layers: the file at fault, and what is wrong with it.
pub use Rattle.cmap_load.specs.Refusals.{Fails, HasLayers, IsDecidedAsText, IsFault, IsFaultWithin, IsFirstFault, IsMissing, IsOwnFault, IsReadAsText, IsUseFault, IsUseFaultWithin, IsUsedAfter}
