-- The codes of a font that have a text.
use Rattle.std.specs.Prelude.{◌≡◌, ◌↔◌, ℕ, ◌^◌, ◌≤◌, List, [], Option, Some, MatchOption}
use Rattle.cmap_values.specs.declared.range.Range.{Range}
use Rattle.cmap_tokens.specs.Texts.{Text}
use Rattle.cmap_layers.specs.CodeRanges.{AreRangesOf, IsIn}
use Rattle.cmap_unicode.specs.Characters.{characters_of}
use Rattle.cmap_unicode.specs.CountedTexts.{counted_on}
use Rattle.cmap_unicode.specs.TextsOfCodes.{Font, IsTextOf}

-- the code has a text of these characters, as a code of len bytes
abbrev pub HasText : Font → ℕ → List ℕ → ℕ → Type 0
HasText font len characters code = (text : Text) × IsTextOf font code len (Some text) × (characters_of text ≡ characters)

-- the ranges have exactly the codes of len bytes that have the text
abbrev pub AreCodesOfText : Font → ℕ → List ℕ → List Range → Type 0
AreCodesOfText font len characters ranges = AreRangesOf (HasText font len characters) (256 ^ len) ranges

-- ---- private aid
-- the code has one of these texts, with these characters
abbrev pub Spells : (ℕ → Option Text) → List ℕ → ℕ → Type 0
Spells texts characters code = (text : Text) × (texts code ≡ Some text) × (characters_of text ≡ characters)

-- no text is empty
abbrev pub AreFilled : (ℕ → Option Text) → Type 0
AreFilled texts = (code : ℕ) → Spells texts [] code → ⊥

-- among the codes of a range, Holds is true of exactly the codes in the range that is found, if any
abbrev pub AreAmong : (ℕ → Type 0) → Range → Option Range → Type 0
AreAmong Holds range found = MatchOption found
    ((code : ℕ) → IsIn code range → Holds code → ⊥)
    (λ these. (range.start ≤ these.start) × (these.start ≤ these.end) × (these.end ≤ range.end) × ((code : ℕ) → IsIn code range → (Holds code ↔ IsIn code these)))

-- a text that counts on from the characters `begin` has these characters, k codes after the first
abbrev pub CountsTo : List ℕ → List ℕ → ℕ → Type 0
CountsTo begin characters k = counted_on begin k ≡ characters
