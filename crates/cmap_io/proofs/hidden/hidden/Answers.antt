use Rattle.cmap_io.proofs.HiddenRanges.{hidden_exact, hidden_rising}
use Rattle.cmap_io.proofs.hidden.hidden.Goals as goal

pub returns-clause-rising : goal.returns-clause-rising
returns-clause-rising c = hidden_rising

pub returns-clause-exact : goal.returns-clause-exact
returns-clause-exact c = hidden_exact
