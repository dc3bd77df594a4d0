-- The loader behind the pointer of a handle, as the logic has it.
use denote.RattleType.{RattleType}
use Rattle.cmap_c.specs.contracts.file_loader.FileLoader as file_loader

abbrev pub held_loader : RattleType
held_loader = file_loader.the_row
