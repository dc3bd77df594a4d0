use Rattle.std.proofs.Common.{refl}
use Rattle.cmap_values.specs.declared.declarations.BfRange.{BfRange}
use Rattle.cmap_text.specs.TextSeen.{extent_seen}
use Rattle.cmap_text_writer.specs.Fits.{IsOfExtent}
use Rattle.cmap_text_writer.proofs.Walked.{all_of_first}
use Rattle.cmap_text_writer.proofs.runs.next_text_section.Goals as goal

pub returns-clause-all : goal.returns-clause-all
returns-clause-all c = all_of_first (λ (e : BfRange). IsOfExtent (extent_seen c.section_of.result.0) e.range.start e.range.end) c.args.entries.now _ c.min.result c.section_of.result.1 c.section_of.ensures.within refl c.section_of.ensures.all
