use Rattle.cmap_binary.proofs.Fronts.{finds_under}
use Rattle.cmap_binary.proofs.pieces.take_code.Goals as goal

pub returns : goal.returns
returns c = finds_under _ _ c.take_field.result c.in_ok-of.ensures.0 c.take_field.ensures
