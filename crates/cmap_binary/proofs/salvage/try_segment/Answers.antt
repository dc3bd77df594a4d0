use Rattle.cmap_binary.proofs.RowsAdded.{in_words}
use Rattle.cmap_binary.proofs.salvage.try_segment.Goals as goal

-- what says something isn't refused
pub returns : goal.returns
returns c =
    let (content, only) = c.in_ok-check_segment.ensures.0 in
    in_words c.read_segment.result c.read_segment.ensures (λ says. says) (λ reason is. absurd (is.0 content only.holds))
