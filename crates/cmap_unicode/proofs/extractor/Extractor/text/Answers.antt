use Rattle.std.proofs.Common.{ap, ◌∙◌, arith}
use Rattle.std.specs.Prelude.{flat_map}
use Rattle.std.proofs.lemmas.List.{take_all}
use Rattle.cmap_unicode.specs.Characters.{shown}
use Rattle.cmap_unicode.proofs.extractor.Extractor.text.Goals as goal

pub returns : goal.returns
returns c = (
  c.in_ok-characters.characters.items,
  c.in_ok-characters.ensures,
  c.loop-character.invariant ∙ ap (flat_map (shown c.args.missing.now)) (take_all c.loop-character.character-index c.deref-character-items.result.now (omega arith) ∙ c.deref-character-items.ensures.value),
)
