-- Texts encoded piece by piece, by what stands for the pieces.
use Rattle.std.specs.Prelude.{◌≡◌, ℕ, ◌+◌, ◌<◌, ◌≤◌, List, [], ◌∷◌, ◌++◌, Option, Some, drop, flat_map, length, option_map, take}
use Rattle.std.specs.Char.{encode_utf8}
use Rattle.cmap_encode.specs.ChoicesSeen.{own_choice}
use Rattle.cmap_encode.specs.Maps.{Maps}
use Rattle.cmap_encode.specs.Pieces.{AreChoices, BeginsWith, Choice, Choices, IsEncodable}
use Rattle.cmap_encode.specs.StandsFor.{IsOwn}
use Rattle.cmap_encode.specs.Standing.{standing}
use Rattle.cmap_encode.specs.declared.pieces.Piece.{Piece}
use Rattle.cmap_encode.specs.declared.rank.Ranked.{Ranked}

-- the text falls into pieces, and the string is the codes that stand for the pieces, one after another
pub record IsEncodingBy (choices : Choices) (text string : List ℕ) : Type 0 where
  pub pieces : List Choice
  pub are : AreChoices choices text pieces
  pub is : string ≡ flat_map (λ piece. piece.bytes) pieces

-- the piece has len bytes in UTF-8, and this stands for it
pub record IsPieceOf (len : ℕ) (choice : Choice) (piece : Piece) : Type 0 where
  pub text : piece.text_len ≡ len
  pub code : piece.code_len ≡ length choice.bytes
  pub grade : piece.grade ≡ choice.grade

-- the pieces into which the text falls, one after another
pub data ArePiecesBy (choices : Choices) : List ℕ → List Piece → Type 0 where
  nothing : ArePiecesBy choices [] []
  next : (text : List ℕ) (len : ℕ) (choice : Choice) (first : Piece) (rest : List Piece) → BeginsWith choices text len → choices (take len text) ≡ Some choice
      → IsPieceOf (length (flat_map encode_utf8 (take len text))) choice first → ArePiecesBy choices (drop len text) rest → ArePiecesBy choices text (first ∷ rest)

-- of the prefixes of the text that fall into pieces, the longest has count characters
pub record IsLongestEncodable (choices : Choices) (text : List ℕ) (count : ℕ) : Type 0 where
  pub within : count ≤ length text
  pub encodable : IsEncodable choices (take count text)
  pub longest : (more : ℕ) → count < more → more ≤ length text → IsEncodable choices (take more text) → ⊥

-- the text doesn't fall into pieces; its longest prefix that falls into pieces ends at this offset, in bytes of UTF-8
pub record IsStuckBy (choices : Choices) (text : List ℕ) (offset : ℕ) : Type 0 where
  pub none : IsEncodable choices text → ⊥
  pub count : ℕ
  pub longest : IsLongestEncodable choices text count
  pub is_offset : offset ≡ length (flat_map encode_utf8 (take count text))

-- the longest prefix that falls into pieces, encoded; then other bytes for the character after the prefix; then the rest of the text likewise
pub data IsLossyEncodingBy (choices : Choices) (missing : List ℕ) : List ℕ → List ℕ → Type 0 where
  -- all of the text falls into pieces
  whole : (text string : List ℕ) → IsEncodingBy choices text string → IsLossyEncodingBy choices missing text string
  -- the first count characters fall into pieces, and no more
  stuck : (text prefix rest : List ℕ) (count : ℕ) → IsLongestEncodable choices text count → count < length text → IsEncodingBy choices (take count text) prefix
      → IsLossyEncodingBy choices missing (drop (count + 1) text) rest → IsLossyEncodingBy choices missing text (prefix ++ (missing ++ rest))

-- ---- by the maps of a font
-- the choice is the own code of the text, or the text has no own code
pub record IsOwnChoice (maps : Maps) (text : List ℕ) (own : Option Choice) : Type 0 where
  pub found : Option Ranked
  pub is_own : IsOwn maps text found
  pub is : own ≡ option_map own_choice found

-- what stands for each text, by own codes
pub record AreChoicesOf (maps : Maps) (choices : Choices) : Type 0 where
  pub own : Choices
  pub owns : (text : List ℕ) → IsOwnChoice maps text (own text)
  pub are : choices ≡ standing own maps.exact

-- the string is the encoding of the text
pub record IsEncodingOf (maps : Maps) (text string : List ℕ) : Type 0 where
  pub choices : Choices
  pub are : AreChoicesOf maps choices
  pub encoding : IsEncodingBy choices text string

-- the pieces of the text
pub record ArePiecesOf (maps : Maps) (text : List ℕ) (pieces : List Piece) : Type 0 where
  pub choices : Choices
  pub are : AreChoicesOf maps choices
  pub pieces_by : ArePiecesBy choices text pieces

-- the text has no encoding; its longest prefix with an encoding ends at this offset, in bytes of UTF-8
pub record IsStuckAt (maps : Maps) (text : List ℕ) (offset : ℕ) : Type 0 where
  pub choices : Choices
  pub are : AreChoicesOf maps choices
  pub stuck : IsStuckBy choices text offset

-- the string is the encoding of the text as far as the text has an encoding, with other bytes for the other characters
pub record IsLossyEncodingOf (maps : Maps) (missing text string : List ℕ) : Type 0 where
  pub choices : Choices
  pub are : AreChoicesOf maps choices
  pub encoding : IsLossyEncodingBy choices missing text string
