use Rattle.std.proofs.Common.{◌∙◌, ap, arith}
use Rattle.ucd_category.specs.GeneralCategory.{general_category}
use Rattle.cmap_io.specs.Shown.{is_hidden}
use Rattle.cmap_io.proofs.hidden.is_hidden.Goals as goal

pub returns : goal.returns
returns c =
    c.is_in.ensures ∙ c.hidden.ensures.exact c.from.result (omega (arith, c.from.ensures))
    ∙ ap (λ code_point. is_hidden (general_category code_point)) c.from.ensures
