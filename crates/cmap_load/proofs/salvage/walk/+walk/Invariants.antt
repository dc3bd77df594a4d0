use Rattle.std.proofs.Common.{◌∷◌, ◌++◌, [], false, drop, ◌+◌, ◌*◌}
use Rattle.std.specs.Prelude.{map}
use Rattle.cmap_load.specs.Kept.{files_of}
use Rattle.cmap_load.specs.Numbers.{text_at}
use Rattle.cmap_load.proofs.Walked.{Walked}
use Rattle.cmap_load.proofs.salvage.walk.+walk.Given as goal

abbrev pub decreases-walk_file : goal.decreases-walk_file
decreases-walk_file g l = 6 * l.below + 5

abbrev pub decreases-walk_uses : goal.decreases-walk_uses
decreases-walk_uses g l = 6 * l.below + 4

abbrev pub decreases-walk_use : goal.decreases-walk_use
decreases-walk_use g l = 6 * l.below + 3

abbrev pub decreases-open_use : goal.decreases-open_use
decreases-open_use g l = 6 * l.below + 2

abbrev pub decreases-walk_unknown : goal.decreases-walk_unknown
decreases-walk_unknown g l = 6 * l.below + 1

abbrev pub decreases-walk_named : goal.decreases-walk_named
decreases-walk_named g l = 6 * l.below

abbrev pub invariant-walk_uses-loop-name : goal.invariant-walk_uses-loop-name
invariant-walk_uses-loop-name g l =
    Walked (files_of g.N.Texts.texts l.files) l.below (map (text_at (g.N.Texts.texts l.files.load.list)) l.uses) (drop l.name-index (map (text_at (g.N.Texts.texts l.files.load.list)) l.others) ++ text_at (g.N.Texts.texts l.files.load.list) l.last ∷ []) false l.initial.walk l.walk l.base
