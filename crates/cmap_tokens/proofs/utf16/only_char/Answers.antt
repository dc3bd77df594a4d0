use Rattle.std.proofs.Common.{◌∙◌}
use Rattle.cmap_tokens.proofs.TextsOfUnits.{only_first}
use Rattle.cmap_tokens.proofs.utf16.only_char.Goals as goal

pub returns : goal.returns
returns c = c.then_some.ensures ∙ only_first c.args.front.now c.args.last c.in_ok-first.first c.in_ok-first.after c.in_ok-first.ensures.value
