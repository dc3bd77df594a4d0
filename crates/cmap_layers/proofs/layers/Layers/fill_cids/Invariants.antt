use Rattle.std.proofs.Common.{drop}
use Rattle.cmap_values.specs.CodeLengths.{length_of}
use Rattle.cmap_layers.specs.LayersSeen.{layers_seen}
use Rattle.cmap_layers.proofs.RowWritten.{AreCidsIn}
use Rattle.cmap_layers.proofs.layers.Layers.fill_cids.Given as goal

abbrev pub invariant-loop-index : goal.invariant-loop-index
invariant-loop-index l = AreCidsIn (layers_seen (drop l.index l.layers)) (length_of l.len) l.absent l.first l.cids
