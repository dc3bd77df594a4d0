use Rattle.std.proofs.Common.{◌∙◌}
use Rattle.cmap_text.proofs.Refusals.{if_ok}
use Rattle.cmap_text.proofs.tokens.units_of_bytes.Goals as goal

pub returns : goal.returns
returns c = if_ok c.from_slice.result _ _ (λ found is. is ∙ c.deref.ensures.value ∙ c.in_ok-units.ensures) c.from_slice.ensures.units
