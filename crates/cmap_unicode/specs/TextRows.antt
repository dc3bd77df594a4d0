-- The texts of codes in a row, by the text of the first code.
use Rattle.std.specs.Prelude.{◌≡◌, ◌⊎◌, ℕ, ◌+◌, ◌-◌, ◌<◌, ◌≤◌, ◌^◌, IsSomeAnd, List, None, Option, Some, option_and_then, option_map, if◌then◌else◌}
use Rattle.cmap_tokens.specs.Texts.{Text}
use Rattle.cmap_tokens.specs.TextSeen.{text_seen}
use Rattle.cmap_layers.specs.CodeStretches.{HasNoText, HoldsBelow, IsRowEnd, TextsEnd, cid_after}
use Rattle.cmap_layers.specs.Layers.{Layer}
use Rattle.cmap_layers.specs.LayersDecide.{deciding_bf}
use Rattle.cmap_layers.specs.Lookups.{bf_of}
use Rattle.cmap_layers.specs.declared.stretches.Cids.{Cids}
use Rattle.cmap_layers.specs.declared.stretches.Cids.TheVariants.{Absent, CountOn, Same}
use Rattle.cmap_unicode.specs.Cids.{declared_cid}
use Rattle.cmap_unicode.specs.CountedTexts.{counted_on, text_after}
use Rattle.cmap_unicode.specs.Given.{DeclarationsEnd, DeclaresNone, as_cid, given}
use Rattle.cmap_unicode.specs.TextsOfCodes.{Font, text_in, text_of}
use Rattle.cmap_unicode.specs.declared.rows.TextRow.{TextRow}

-- the text of a code of len bytes, if it has one, as IsTextOf gives it
abbrev pub its_text : Font → ℕ → ℕ → Option Text
its_text font len code = text_of font code (declared_cid font.encoding code len)

-- the codes from the first to the last one have texts if the first code has one: the same text, or texts that count on
pub record AreTexts (texts : ℕ → Option Text) (first : ℕ) (row : TextRow) : Type 0 where
  pub within : first ≤ row.last
  pub text : option_map text_seen row.text ≡ texts first
  pub further : (k : ℕ) → first + k ≤ row.last → texts (first + k) ≡ option_map (λ text. text_after text (if row.counts_on then k else 0)) (texts first)

-- AreTexts holds for codes of len bytes in the font
abbrev pub IsTextRow : Font → ℕ → ℕ → TextRow → Type 0
IsTextRow font len first row = AreTexts (its_text font len) first row

-- the texts of a map end: another declaration decides the code after the last one, in the list of a layer above which no layer has a text for the first code; or the last code ends a row of 1,024 texts
abbrev pub MapEnds : ℕ → ℕ → List Layer → Type 0
MapEnds first last layers = HoldsBelow (HasNoText first) (TextsEnd first last) layers ⊎ IsSomeAnd (deciding_bf layers last) (λ entry. IsRowEnd entry.units (last - entry.start))

-- the texts of a map end with the last code, unless it is the last code of 32 bits; without a map, texts end only there
abbrev pub IsLongestRow : Option (List Layer) → ℕ → ℕ → Type 0
IsLongestRow map first last = last + 1 < 2 ^ 32 → IsSomeAnd map (MapEnds first last)

-- the CIDs of a font's codes end; or the texts of CIDs that count on end in the collection's map
abbrev pub CidsEnd : Font → ℕ → ℕ → ℕ → Type 0
CidsEnd font len first last = HoldsBelow (DeclaresNone len first) (DeclarationsEnd len first last) font.encoding
    ⊎ ((cid : ℕ) × (given font.encoding first len ≡ Some (as_cid cid)) × IsLongestRow font.collection cid (cid + (last - first)))

-- the texts of the ToUnicode CMap end; or, if it has no text for the first code, the CIDs or their texts end
abbrev pub IsLongestTextRow : Font → ℕ → ℕ → ℕ → Type 0
IsLongestTextRow font len first last = IsLongestRow font.to_unicode first last ⊎ ((text_in font.to_unicode first ≡ None) × CidsEnd font len first last)

-- ---- private aid
-- the texts of CIDs that count on end
abbrev pub CountedEnd : Option (List Layer) → Cids → ℕ → Type 0
CountedEnd collection (CountOn cid) more = IsLongestRow collection cid (cid + more)
CountedEnd collection (Same cid) more = ⊥
CountedEnd collection Absent more = ⊥

-- the texts of a map from the first to the last code count on
abbrev pub TextsCountOn : List Layer → ℕ → ℕ → Type 0
TextsCountOn layers first last = (k : ℕ) → first + k ≤ last → bf_of layers (first + k) ≡ option_map (λ cs. counted_on cs k) (bf_of layers first)

-- the texts that a collection's map gives to codes from the first one on with these CIDs
abbrev pub texts_of_cids : Option (List Layer) → Cids → ℕ → ℕ → Option Text
texts_of_cids collection cids first code = option_and_then (text_in collection) (cid_after cids (code - first))
