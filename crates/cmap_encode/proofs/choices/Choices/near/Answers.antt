use Rattle.std.proofs.Common.{ap, ◌∙◌}
use Rattle.std.specs.Prelude.{option_map}
use Rattle.cmap_encode.specs.ChoicesSeen.{choice_seen}
use Rattle.cmap_encode.specs.Standing.{alike_as}
use Rattle.cmap_encode.proofs.choices.Choices.near.Goals as goal

pub returns-in_err-own : goal.returns-in_err-own
returns-in_err-own c = ap (option_map choice_seen) c.from_residual.ensures ∙ ap alike_as c.in_err-own.ensures

pub returns : goal.returns
returns c = ap alike_as c.in_ok-own.ensures
