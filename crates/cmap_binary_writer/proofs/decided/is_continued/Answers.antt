use Rattle.std.proofs.Common.{sym}
use Rattle.cmap_binary_writer.proofs.CidParts.{last_filled}
use Rattle.cmap_binary_writer.proofs.decided.is_continued.Goals as goal

pub goes_on-requires : goal.goes_on-requires
goes_on-requires c = last_filled c.args.ranges.now c.in-Some.last.now c.requires (sym c.in-Some.ensures.value)
