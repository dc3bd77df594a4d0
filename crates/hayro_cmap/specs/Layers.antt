-- Files over the files that they use: the layers of a map.
pub use Rattle.cmap_load.specs.Layers.{AreLayers, AreUses, IsBase, Means, OfAnswer}
