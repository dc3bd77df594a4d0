-- The places of declarations in the pieces of a text that is read past its faults.
use Rattle.std.specs.Prelude.{◌≡◌, ℕ, ◌+◌, ◌-◌, ◌<◌, ◌≤◌, ◌⊎◌, Bool, true, false, List, [], ◌∷◌, ◌++◌, codes, length, Some, None, Ok, Err}
use Rattle.cmap_tokens.specs.Pieces.{Piece, pieces_left}
use Rattle.cmap_tokens.specs.Tokens.{Token}
use Rattle.cmap_tokens.specs.TokensLeft.{start_of}
use Rattle.cmap_values.specs.BigEndian.{big_endian}
use Rattle.cmap_values.specs.Files.{Declaration, Lists, lists_of}
use Rattle.cmap_text.specs.TextFiles.{IsCode, IsEntry, Section, bf_char, bf_range, codespace_range}
use Rattle.cmap_text.specs.TextReading.{key_in, opened_by, text_of}
use Rattle.cmap_text.specs.Classes.{alone, class_of, class_of_malformed, is_stray, known, open_bracket, part, text_in}
pub use Rattle.cmap_text.specs.FaultyTexts.{InRows, IsEmptyString}

-- the pieces are these tokens and pieces that take no place: pieces that are alone and, in rows, names that aren't known
pub data AreParts (rows : Bool) : List Piece → List Token → Type 0 where
  no_part : AreParts rows [] []
  lone_piece : {pieces : List Piece} {tokens : List Token} → AreParts rows pieces tokens → (piece : Piece) → class_of piece ≡ alone → AreParts rows (pieces ++ piece ∷ []) tokens
  stray_name : {pieces : List Piece} {tokens : List Token} → AreParts rows pieces tokens → (piece : Piece) → rows ≡ true → is_stray piece ≡ true → AreParts rows (pieces ++ piece ∷ []) tokens
  next_part : {pieces : List Piece} {tokens : List Token} → AreParts rows pieces tokens → (piece : Piece) (t : Token) → piece.token ≡ Ok t → AreParts rows (pieces ++ piece ∷ []) (tokens ++ t ∷ [])

-- the pieces of a list have texts, or other parts in place of texts, for this number of codes from `start` on, and declare this
pub data AreTexts (start : ℕ) : List Piece → ℕ → List Declaration → Type 0 where
  no_text : AreTexts start [] 0 []
  between : {pieces : List Piece} {n : ℕ} {declared : List Declaration} → AreTexts start pieces n declared → (piece : Piece) → (class_of piece ≡ alone) ⊎ (class_of piece ≡ open_bracket) → AreTexts start (pieces ++ piece ∷ []) n declared
  other_part : {pieces : List Piece} {n : ℕ} {declared : List Declaration} → AreTexts start pieces n declared → (piece : Piece) → class_of piece ≡ part → text_in piece ≡ None → AreTexts start (pieces ++ piece ∷ []) (n + 1) declared
  next_text : {pieces : List Piece} {n : ℕ} {declared : List Declaration} → AreTexts start pieces n declared → (piece : Piece) (units : List ℕ) → text_in piece ≡ Some units → AreTexts start (pieces ++ piece ∷ []) (n + 1) (declared ++ text_of (start + n) (start + n) units)
  empty_text : {pieces : List Piece} {n : ℕ} {declared : List Declaration} → AreTexts start pieces n declared → (piece : Piece) (t : Token) → piece.token ≡ Ok t → IsEmptyString t → AreTexts start (pieces ++ piece ∷ []) (n + 1) (declared ++ text_of (start + n) (start + n) [])

-- the pieces are an entry of the section that declares this, or the beginning of an entry with a list; or the pieces show the intended declaration, by an empty string in the place of a text, or by a codespace range whose second code is longer, so that bytes 0 stand before the first code
pub data StandsAs (rows : Bool) : Section → List Piece → List Declaration → Type 0 where
  an_entry : {section : Section} {pieces : List Piece} {tokens : List Token} {declared : List Declaration} → AreParts rows pieces tokens → IsEntry section tokens declared [] → StandsAs rows section pieces declared
  a_list : {opening others : List Piece} {a b : Token} {first last : List ℕ} {n : ℕ} {declared : List Declaration} → AreParts rows opening (a ∷ b ∷ Token.Name false (codes "[") ∷ []) → IsCode a first → IsCode b last → AreTexts (big_endian first) others n declared → n ≤ big_endian last + 1 - big_endian first → StandsAs rows bf_range (opening ++ others) declared
  an_empty_text : {pieces : List Piece} {a d : Token} {code : List ℕ} → AreParts rows pieces (a ∷ d ∷ []) → IsCode a code → IsEmptyString d → StandsAs rows bf_char pieces (text_of (big_endian code) (big_endian code) [])
  empty_texts : {pieces : List Piece} {a b d : Token} {first last : List ℕ} → AreParts rows pieces (a ∷ b ∷ d ∷ []) → IsCode a first → IsCode b last → IsEmptyString d → StandsAs rows bf_range pieces (text_of (big_endian first) (big_endian last) [])
  a_longer_end : {pieces : List Piece} {a b : Token} {low high : List ℕ} → AreParts rows pieces (a ∷ b ∷ []) → IsCode a low → IsCode b high → length low < length high → StandsAs rows codespace_range pieces (Declaration.codespace (record { len = length high; low = big_endian low; high = big_endian high }) ∷ [])

-- the place of the next piece: an item, the value of a key, or within an open section
pub data Place : Type 0 where
  outside : Place
  key_value : Place
  within : Section → Place

-- the place after the first piece of an item
abbrev pub begun_by : Piece → Place
begun_by piece = elim piece.token [ Ok t ↦ elim (opened_by t) [ Some section ↦ within section | None ↦ elim (key_in t) [ Some k ↦ key_value | None ↦ outside ] ] | Err w ↦ outside ]

-- a malformed piece that is alone is no value of a key, and a section is open up to a known word
abbrev pub place_after : Place → Piece → Place
place_after outside piece = begun_by piece
place_after key_value piece = elim piece.token [ Ok t ↦ outside | Err w ↦ elim (class_of_malformed w.kind) [ alone ↦ key_value | _ ↦ outside ] ]
place_after (within section) piece = elim (class_of piece) [ known ↦ begun_by piece | _ ↦ within section ]

unfoldable pub place_at : Place → List Piece → Place
place_at place [] = place
place_at place (piece ∷ pieces) = place_at (place_after place piece) pieces

-- the declarations of pieces in order, each at an entry of its own in a section that is open there
pub data Stands (rows : Bool) : List Piece → List Declaration → Type 0 where
  nothing : Stands rows [] []
  passed : {pieces : List Piece} {declared : List Declaration} → Stands rows pieces declared → (piece : Piece) → Stands rows (pieces ++ piece ∷ []) declared
  entered : {section : Section} {pieces others : List Piece} {declared more : List Declaration} → Stands rows pieces declared → place_at outside pieces ≡ within section → StandsAs rows section others more → Stands rows (pieces ++ others) (declared ++ more)

-- the lists are lists of declarations that stand in the text in this way
abbrev pub AreDeclared : List ℕ → Lists → Type 0
AreDeclared text lists = (rows : Bool) × InRows text rows × (declared : List Declaration) × Stands rows (pieces_left (start_of text)) declared × (lists ≡ lists_of declared)
