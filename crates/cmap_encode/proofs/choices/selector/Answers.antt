use Rattle.std.proofs.Common.{refl, sym, ◌∙◌}
use Rattle.cmap_encode.proofs.choices.selector.Goals as goal

pub returns : goal.returns
returns c = rw (sym c.is_selector.ensures ∙ c.if-not-is_selector.false) refl
