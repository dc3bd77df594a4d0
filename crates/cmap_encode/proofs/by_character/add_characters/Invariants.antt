use Rattle.std.proofs.Common.{◌-◌, ◌≤◌}
use Rattle.cmap_encode.specs.GatheredSeen.{AddsGlyphs}
use Rattle.cmap_encode.specs.Maps.{maps_seen, unicode_seen}
use Rattle.cmap_encode.specs.RunsSeen.{AreRunsByPrefix}
use Rattle.cmap_encode.proofs.by_character.add_characters.Given as goal

abbrev pub invariant-loop-next : goal.invariant-loop-next
invariant-loop-next l = record {
  within : l.next ≤ 0x110000;
  are : AreRunsByPrefix l.texts;
  adds : AddsGlyphs (maps_seen l.maps) (unicode_seen l.unicode) l.glyphs 0 l.next l.initial.texts l.texts;
}

abbrev pub decreases-loop-next : goal.decreases-loop-next
decreases-loop-next l = 0x110000 - l.next
