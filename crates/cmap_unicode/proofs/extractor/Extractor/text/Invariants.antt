use Rattle.std.proofs.Common.{◌≡◌, take}
use Rattle.std.specs.Prelude.{flat_map}
use Rattle.std.specs.String.{string_bytes}
use Rattle.cmap_unicode.specs.Characters.{shown}
use Rattle.cmap_unicode.proofs.extractor.Extractor.text.Given as goal

abbrev pub invariant-loop-character : goal.invariant-loop-character
invariant-loop-character l = string_bytes l.text ≡ flat_map (shown l.missing) (take l.character-index l.character-items)
