-- One file with the answers of a map of several layers, for all codes or for the chosen codes.
use Rattle.std.specs.Prelude.{◌≡◌, ◌≢◌, ◌↔◌, ℕ, ◌<◌, ◌^◌, List, [], ◌∷◌, AllPairs, Any, Option, Some, None, unwrap_or}
use Rattle.std.specs.List.{Contains}
use Rattle.std.specs.Option.{option_or}
use Rattle.cmap_tokens.specs.Texts.{only_character}
use Rattle.cmap_values.specs.CodeLengths.{IsCodeLength, length_of}
use Rattle.cmap_values.specs.Files.{CidEntry, Codespace, File, Lists, of_length}
use Rattle.cmap_layers.specs.Layers.{Layer, layer_of, top_metadata}
use Rattle.cmap_layers.specs.Lookups.{bf_of, cid_of}
use Rattle.cmap_unicode.specs.Cids.{declared_cid}
use Rattle.cmap_unicode.specs.Given.{cid_given, given, notdef_given}
use Rattle.cmap_edit.specs.Chosen.{Chosen, ChosenNumber}
use Rattle.cmap_edit.specs.Tidy.{AreTidyCids, AreTidyNotdefs, AreTidyTexts, cid_said, notdef_said}
use Rattle.cmap_edit.specs.declared.flatten.codes.Codes.{Codes}
use Rattle.cmap_edit.specs.declared.flatten.answers.Contradiction.{Contradiction}

-- the CID that a list of CID declarations gives to a code
abbrev pub cid_listed : List CidEntry → ℕ → Option ℕ
cid_listed entries code = unwrap_or (cid_said entries code) None

-- a chosen code has the answer of the whole map, and any other code has no answer
abbrev pub AnswersOnly : {A : Type 0} → Type 0 → Option A → Option A → Type 0
AnswersOnly IsChosen whole answer = (IsChosen → answer ≡ whole) × ((IsChosen → ⊥) → answer ≡ None)

-- all lists are tidy
pub record AreAllTidy (lists : Lists) : Type 0 where
  pub one : AreTidyCids lists.cids.one × AreTidyNotdefs lists.notdefs.one
  pub two : AreTidyCids lists.cids.two × AreTidyNotdefs lists.notdefs.two
  pub three : AreTidyCids lists.cids.three × AreTidyNotdefs lists.notdefs.three
  pub four : AreTidyCids lists.cids.four × AreTidyNotdefs lists.notdefs.four
  pub texts : AreTidyTexts lists.bfs

-- the file has the answers of the layers, for the chosen codes of each length and for the chosen numbers of codes
pub record AnswersAs (IsChosen : ℕ → ℕ → Type 0) (IsChosenNumber : ℕ → Type 0) (layers : List Layer) (file : File) : Type 0 where
  -- the file has the metadata of the top layer and uses no other file
  pub metadata : top_metadata layers ≡ Some file.metadata
  pub uses : file.uses ≡ []
  -- the file has exactly the codespace ranges of the layers, so strings are cut alike
  pub spaces : (space : Codespace) → (Contains file.lists.spaces space ↔ Any (λ layer. Contains layer.lists.spaces space) layers)
  -- each codespace range stands once
  pub spaces_once : AllPairs (λ space later. space ≢ later) file.lists.spaces
  -- for each chosen code the file declares the same CID as the layers
  pub declared : (code len : ℕ) → code < 2 ^ 32 → IsCodeLength len → AnswersOnly (IsChosen code len) (declared_cid layers code len) (declared_cid (layer_of file ∷ []) code len)
  -- a CID of the layers is a CID in the file, and a notdef is a notdef
  pub cids : (code len : ℕ) → code < 2 ^ 32 → IsCodeLength len → AnswersOnly (IsChosen code len) (cid_given (given layers code len)) (cid_listed (of_length file.lists.cids len) code)
  pub notdefs : (code len : ℕ) → code < 2 ^ 32 → IsCodeLength len → AnswersOnly (IsChosen code len) (notdef_given (given layers code len)) (notdef_said (of_length file.lists.notdefs len) code)
  -- the file gives the same text as the layers
  pub texts : (code : ℕ) → code < 2 ^ 32 → AnswersOnly (IsChosenNumber code) (bf_of layers code) (bf_of (layer_of file ∷ []) code)
  -- a lookup, which falls back on the text, gives the same CID
  pub answers : (code len : ℕ) → code < 2 ^ 32 → IsCodeLength len → IsChosen code len → cid_of (layer_of file ∷ []) code len ≡ cid_of layers code len
  pub tidy : AreAllTidy file.lists

-- the file has the answers of the layers for the chosen codes, and for no others
abbrev pub IsSubset : List Layer → List Codes → File → Type 0
IsSubset layers codes file = AnswersAs (Chosen codes) (ChosenNumber codes) layers file

-- the file has the answers of the layers for all codes
abbrev pub IsFlat : List Layer → File → Type 0
IsFlat layers file = AnswersAs (λ code len. Unit {0}) (λ code. Unit {0}) layers file

-- the CID that one file gives to a code, if the file declares the CID and the text of the layers: the declared CID, otherwise the character of the text
abbrev pub cid_of_one : List Layer → ℕ → ℕ → Option ℕ
cid_of_one layers code len = option_or (declared_cid layers code len) (only_character (bf_of layers code))

-- the CID that one file gives is the CID of the layers
abbrev pub IsKept : List Layer → ℕ → ℕ → Type 0
IsKept layers code len = cid_of layers code len ≡ cid_of_one layers code len

-- no tidy file has all answers for the code: in the layers a character stands above a CID, a text of several characters above a character, or a declared CID passes 32 bits
abbrev pub Contradicts : List Layer → Contradiction → Type 0
Contradicts layers at = IsKept layers at.code (length_of at.len) → ⊥

-- the contradiction has a chosen code
abbrev pub IsContradiction : List Layer → List Codes → Contradiction → Type 0
IsContradiction layers codes at = Chosen codes at.code (length_of at.len) × Contradicts layers at
