use Rattle.cmap_binary.proofs.RowsAdded.{in_words}
use Rattle.cmap_binary.proofs.salvage.check_segment.Goals as goal

pub returns : goal.returns
returns c = in_words c.read_segment.result c.read_segment.ensures (λ says. (says.content, says.only)) (λ reason is. is)
