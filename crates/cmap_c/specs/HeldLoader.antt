-- A loader of either kind, as the logic has it.
use denote.RattleType.{RattleType}
use Rattle.cmap_c.specs.contracts.either_loader.EitherLoader as either

abbrev pub either_loader : RattleType
either_loader = either.the_row
