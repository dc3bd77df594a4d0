use Rattle.cmap_codespaces.proofs.RowBits.{all_set}
use Rattle.cmap_codespaces.proofs.query.Query.among.Goals as goal

pub returns : goal.returns
returns c = λ i. all_set _ _ _ _ _ i
