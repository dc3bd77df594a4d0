use Rattle.std.proofs.Common.{◌≡◌, map, take}
use Rattle.cmap_values.specs.NamesSeen.{names_seen}
use Rattle.cmap_load.specs.NameLists.{texts_of}
use Rattle.cmap_load.specs.Numbers.{text_at}
use Rattle.cmap_load.proofs.from_source.refusal_of.Given as goal

abbrev pub invariant-loop-number : goal.invariant-loop-number
invariant-loop-number l = record {
  names : names_seen l.names.items ≡ map (text_at (texts_of l.list)) (take l.number-index l.numbers);
}
