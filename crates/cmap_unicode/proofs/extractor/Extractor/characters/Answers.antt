use Rattle.cmap_unicode.specs.Characters.{font_of}
use Rattle.cmap_unicode.proofs.CharactersInRow.{first_all}
use Rattle.cmap_unicode.proofs.extractor.Extractor.characters.Goals as goal

pub returns : goal.returns
returns c =
    let font = font_of c.args.self.now in
    first_all font c.args.string.now c.loop-characters.characters.items c.loop-characters.left.now c.loop-characters.invariant (rw c.in_default.is at c.in_ok-character.ensures.character)
