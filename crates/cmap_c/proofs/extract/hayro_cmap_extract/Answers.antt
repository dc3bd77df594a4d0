use Rattle.std.proofs.Common.{refl, subst}
use Rattle.cmap_unicode.specs.TextsOfCodes.{Font}
use Rattle.cmap_c.specs.Extracted.{IsExtracted}
use Rattle.cmap_c.proofs.CharactersExtracted.{of_font}
use Rattle.cmap_handles.proofs.HandlesRead.{no_map, of_map}
use Rattle.cmap_c.proofs.extract.hayro_cmap_extract.Goals as goal

pub returns-in_default-clause-characters : goal.returns-in_default-clause-characters
returns-in_default-clause-characters c = no_map _ _ _ c.in_default.ensures.map (c.number.ensures, refl, refl, c.none.ensures)

pub returns-clause-characters : goal.returns-clause-characters
returns-clause-characters c =
    let P : Font → Type 0 = λ font. IsExtracted font c.args.string.now c.args.characters.now c.extract.new.characters c.args.text.now c.extract.new.text c.extract.new.extracted c.extract.result in
    of_map _ c.in-Some.layers.now _ _ c.in-Some.ensures.map (of_font P _ _ _ _ _ c.layers-2.ensures.map c.layers-3.ensures.map (subst P c.font-font.ensures c.extract.ensures))

pub extract-requires : goal.extract-requires
extract-requires c = c.none.ensures
