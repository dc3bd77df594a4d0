use Rattle.std.proofs.Common.{◌≡◌, map, take}
use Rattle.cmap_c_writer.specs.Whole.{chosen_seen}
use Rattle.cmap_c_writer.proofs.chosen.chosen_codes.Given as goal

abbrev pub invariant-loop-one : goal.invariant-loop-one
invariant-loop-one l = map chosen_seen l.codes.items ≡ take l.one-index l.chosen
