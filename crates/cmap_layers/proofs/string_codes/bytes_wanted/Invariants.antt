use Rattle.cmap_layers.specs.LayersSeen.{layers_seen}
use Rattle.cmap_layers.specs.StringCodes.{ranges_of}
use Rattle.cmap_layers.proofs.BestMatch.{MatchAtMost}
use Rattle.cmap_layers.proofs.string_codes.bytes_wanted.Given as goal

abbrev pub invariant-loop-fewer : goal.invariant-loop-fewer
invariant-loop-fewer l = MatchAtMost (ranges_of (layers_seen l.layers)) l.text l.fewer l.most
