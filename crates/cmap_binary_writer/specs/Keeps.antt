-- The content that a written file keeps of the given file.
use Rattle.std.specs.Prelude.{◌≡◌, ℕ, List, ◌∷◌, map}
use Rattle.cmap_values.specs.Files.{BfEntry, CidEntry, File, Lists}
use Rattle.cmap_unicode.specs.Cids.{declared_cid}
use Rattle.cmap_layers.specs.Layers.{Layer, layer_of}
use Rattle.cmap_layers.specs.Lookups.{bf_of, cid_of}
use Rattle.cmap_binary.specs.Bundles.{PrefixTables}
use Rattle.cmap_binary.specs.BinaryFiles.{IsBinaryFile}
use Rattle.cmap_binary_writer.specs.Written.{IsFramedFile}
use Rattle.cmap_binary_writer.specs.Pieces.{cid_told, text_told}

-- each code has the same CID, or none, by the last declaration that contains it
abbrev pub HaveSameCids : List CidEntry → List CidEntry → Type 0
HaveSameCids es made = (code : ℕ) → cid_told made code ≡ cid_told es code

-- each code has the same text, or none
abbrev pub HaveSameTexts : List BfEntry → List BfEntry → Type 0
HaveSameTexts es made = (code : ℕ) → text_told made code ≡ text_told es code

-- lists with the same content: the same CID or text for each code, and the same notdef declarations and codespace ranges
pub record KeepLists (lists made : Lists) : Type 0 where
  pub spaces : made.spaces ≡ lists.spaces
  pub notdefs : made.notdefs ≡ lists.notdefs
  pub bfs : HaveSameTexts lists.bfs made.bfs
  pub one : HaveSameCids lists.cids.one made.cids.one
  pub two : HaveSameCids lists.cids.two made.cids.two
  pub three : HaveSameCids lists.cids.three made.cids.three
  pub four : HaveSameCids lists.cids.four made.cids.four

-- both have the same CID for each code of each length, with or without texts, and the same text for each code; and both have the same metadata and codespace ranges, layer by layer
pub record AnswerAlike (layers others : List Layer) : Type 0 where
  pub cids : (code len : ℕ) → cid_of others code len ≡ cid_of layers code len
  pub declared : (code len : ℕ) → declared_cid others code len ≡ declared_cid layers code len
  pub texts : (code : ℕ) → bf_of others code ≡ bf_of layers code
  pub metadata : map (λ layer. layer.metadata) others ≡ map (λ layer. layer.metadata) layers
  pub spaces : map (λ layer. layer.lists.spaces) others ≡ map (λ layer. layer.lists.spaces) layers

-- the same metadata and names of used files, and lists with the same content; over layers with the same answers both files have the same answers, so a chain of files has the same answers
-- if each file is kept
pub record Keeps (file made : File) : Type 0 where
  pub metadata : made.metadata ≡ file.metadata
  pub lists : KeepLists file.lists made.lists
  pub uses : made.uses ≡ file.uses
  pub answers : (below others : List Layer) → AnswerAlike below others → AnswerAlike (layer_of file ∷ below) (layer_of made ∷ others)

-- the bytes are a binary file by these tables, which keeps the content of the file and states its own length
pub record IsWritten (tables : PrefixTables) (file : File) (bytes : List ℕ) : Type 0 where
  pub made : File
  pub is : IsBinaryFile tables bytes made
  pub keeps : Keeps file made
  pub framed : IsFramedFile bytes
