use Rattle.std.proofs.Common.{◌≡◌, map, take}
use Rattle.cmap_values.specs.NamesSeen.{names_seen}
use Rattle.cmap_load.specs.Numbers.{text_at}
use Rattle.cmap_load.proofs.loader.refusal.Given as goal

abbrev pub invariant-loop-number : goal.invariant-loop-number
invariant-loop-number g l = record {
  names : names_seen l.names.items ≡ map (text_at (g.N.Texts.texts l.list)) (take l.number-index l.numbers);
}
