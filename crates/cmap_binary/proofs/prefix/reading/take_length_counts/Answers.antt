use Rattle.cmap_binary.proofs.Fronts.{then_none, then_finds_ok}
use Rattle.cmap_binary.proofs.prefix.reading.take_length_counts.Goals as goal

pub returns-in_default : goal.returns-in_default
returns-in_default c = then_none _ _ c.in_default.ensures

pub returns : goal.returns
returns c = then_finds_ok _ _ _ c.in-Some.ensures c.take_fields.ensures
