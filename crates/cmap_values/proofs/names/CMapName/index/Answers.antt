use Rattle.std.proofs.Common.{ap, ◌∙◌}
use Rattle.cmap_values.specs.Names.{index_of_text}
use Rattle.cmap_values.proofs.OneName.{index-of_known}
use Rattle.cmap_values.proofs.names.CMapName.index.Goals as goal

pub returns-in_default : goal.returns-in_default
returns-in_default c = c.index_of.ensures.index ∙ ap index_of_text c.text.ensures ∙ index-of_known _ c.in_default.not-Custom
