use Rattle.std.proofs.Common.{[], ap, ◌∙◌, sym}
use Rattle.std.specs.Prelude.{flat_map}
use Rattle.std.specs.Char.Escape.{encode_utf16}
use Rattle.std.proofs.lemmas.Iterator.{YieldsList-from_chars}
use Rattle.std.proofs.lemmas.Iterator.Consumers.{YieldsList-end}
use Rattle.std.proofs.lemmas.List.{flat_map_more, map-id}
use Rattle.cmap_values.proofs.units.Units.from_text.Goals as goal

pub returns : goal.returns
returns c =
    let yielded = c.loop-character.yielded in
    let all = (YieldsList-end (YieldsList-from_chars c.args.text.now c.utf8.text cc) yielded _ c.loop-character.yielded_by _ _ c.in-None.is c.next.ensures.steps).0 in
    let units = c.deref.ensures.value ∙ c.loop-character.invariant ∙ ap (flat_map encode_utf16) (sym (map-id yielded) ∙ all) in
    rw units at c.from_slice.ensures.units

pub loop-character-preserved : goal.loop-character-preserved
loop-character-preserved c =
    rw (← flat_map_more encode_utf16 [] c.loop-character.yielded c.in-Some.character, ← c.loop-character.invariant)
    (rw c.encode_utf16.ensures.value at c.in_ok-extend_from_slice.ensures.items)
