use Rattle.std.proofs.Common.{◌≡◌, map, take}
use Rattle.cmap_values.specs.NamesSeen.{names_seen}
use Rattle.cmap_load.specs.Graphs.{AreNamed}
use Rattle.cmap_load.specs.Loads.{HasGrown, IsSet}
use Rattle.cmap_load.specs.Numbers.{text_at}
use Rattle.cmap_load.proofs.loader.Loader.numbers.Given as goal

abbrev pub invariant-loop-name : goal.invariant-loop-name
invariant-loop-name g l = record {
  set : IsSet g.N.Texts.texts g.N.Names.are_numbered l.self;
  grown : HasGrown g.N.Texts.texts l.initial.self l.self;
  named : AreNamed l.self.table.graph l.numbers.items;
  numbers : map (text_at (g.N.Texts.texts l.self.list)) l.numbers.items ≡ take l.name-index (names_seen l.uses);
}
