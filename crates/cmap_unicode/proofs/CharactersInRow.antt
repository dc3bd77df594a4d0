-- The characters of a string, one after another.
use Rattle.std.proofs.Common.{◌≡◌, ℕ, List, [], ◌++◌, subst}
use Rattle.std.proofs.lemmas.List.{append-nil}
use Rattle.cmap_unicode.specs.Characters.{AreCharactersOf}
use Rattle.cmap_unicode.specs.TextsOfCodes.{Font}
use Rattle.cmap_unicode.specs.declared.extractor.Character.{Character}

-- these are those of the front of a string of which this is left
pub record AreFirst (font : Font) (string : List ℕ) (characters : List Character) (left : List ℕ) : Type 0 where
  pub follow : (more : List Character) → AreCharactersOf font left more → AreCharactersOf font string (characters ++ more)

pub first_all : (font : Font) (string : List ℕ) (characters : List Character) (left : List ℕ) → AreFirst font string characters left → left ≡ [] → AreCharactersOf font string characters
first_all font string characters left first end = subst (AreCharactersOf font string) (append-nil characters) (first.follow [] end)
