use Rattle.std.proofs.Common.{◌∙◌, arith}
use Rattle.cmap_encode.proofs.TextsOwned.{longer_chosen}
use Rattle.cmap_encode.proofs.ways.choice_of.Goals as goal

pub returns-else-taken-eq1 : goal.returns-else-taken-eq1
returns-else-taken-eq1 c =
    c.longer.ensures ∙ longer_chosen c.args.choices.now c.args.text.now c.args.taken c.index-text-taken.result c.index-text-taken.result c.args.node (omega (arith, c.requires.some, c.if-taken-eq1.false)) c.requires.within c.requires.node c.index-text-taken.is
