use Rattle.cmap_values.specs.declared.declarations.CidRange.{CidRange}
use Rattle.cmap_binary_writer.specs.EncodersSeen.{shape_seen}
use Rattle.cmap_binary_writer.specs.Held.{HasShape}
use Rattle.cmap_binary_writer.proofs.SegmentsMade.{first_short, get_or_same}
use Rattle.cmap_binary_writer.proofs.cids.first_shape.Goals as goal

pub returns : goal.returns
returns c = (c.requires.filled, λ d. get_or_same (λ (e : CidRange). HasShape (shape_seen c.of.result) e.range.start e.range.end) c.args.entries.now 0 _ d c.requires.filled (c.of.ensures.has (first_short c.args.entries.now _ c.requires.filled c.requires.short)))
