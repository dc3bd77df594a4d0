use Rattle.cmap_codespaces.proofs.SpacesFound.{least_counted}
use Rattle.cmap_codespaces.proofs.spaces.Spaces.count_of_all.Goals as goal

pub returns : goal.returns
returns c = rw c.unwrap_or.ensures (least_counted _ c.shortest_of_all.result (λ n inside. inside.0.0) c.shortest_of_all.ensures)
