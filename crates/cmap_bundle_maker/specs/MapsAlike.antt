-- Maps over a bundle of files, and maps over the texts that the files were read from.
use Rattle.std.specs.Prelude.{◌≡◌, ◌↔◌, ℕ, List, All, Option, Some, option_and_then}
use Rattle.std.specs.Borrow.{Bor}
use Rattle.std.specs.Option.{option_copied}
use Rattle.cmap_values.specs.Names.{index_of_text}
use Rattle.cmap_values.specs.Only.{IsOnly}
use Rattle.cmap_values.specs.Files.{File}
use Rattle.cmap_values.specs.FilesSeen.{file_seen}
use Rattle.cmap_text.specs.TextFiles.{IsTextFile}
use Rattle.cmap_binary.specs.Bundles.{Bundle, IsBundle, PrefixTables}
use Rattle.cmap_binary.specs.BinaryFiles.{IsMarkedBinary}
use Rattle.cmap_layers.specs.Layers.{Layer}
use Rattle.cmap_load.specs.Answers.{embedded}
use Rattle.cmap_load.specs.Layers.{AreLayers, Means}
use Rattle.cmap_load.specs.Maps.{most_files}
use Rattle.cmap_binary_writer.specs.Keeps.{AnswerAlike}
use Rattle.cmap_bundle_maker.specs.Slots.{source_at}
use Rattle.cmap_bundle_maker.specs.declared.source.Source.{Source}

-- the source has the text that its file was read from, which isn't marked as a binary file
pub record IsRead (source : Source) : Type 0 where
  pub text : Bor (List ℕ)
  pub given : source.text ≡ Some text
  pub unmarked : IsMarkedBinary text.now → ⊥
  pub only : IsOnly (IsTextFile text.now) (file_seen source.file.now)

-- the text of the first source of this name
abbrev pub text_named : List Source → List ℕ → Option (List ℕ)
text_named sources name = option_and_then (λ place. option_and_then (λ source. option_copied source.text) (source_at sources place)) (index_of_text name)

-- names are answered by the texts of the sources, or by the files of the bundle
abbrev pub OfTexts : List Source → List ℕ → Option (List ℕ) → Type 0
OfTexts sources name answer = answer ≡ text_named sources name

abbrev pub OfBundle : Bundle → List ℕ → Option (List ℕ) → Type 0
OfBundle bundle name answer = answer ≡ embedded (Some bundle) name

-- the layers of a file over the texts, by these tables, if any; and over the bundle
abbrev pub AreOverTexts : List Source → Option PrefixTables → List ℕ → List Layer → Type 0
AreOverTexts sources given bytes layers = AreLayers (Means given) (OfTexts sources) most_files bytes layers

abbrev pub AreOverBundle : Bundle → List ℕ → List Layer → Type 0
AreOverBundle bundle bytes layers = AreLayers (Means (Some bundle.tables)) (OfBundle bundle) most_files bytes layers

-- the file of these bytes has layers over both or over neither, and the layers answer alike
pub record HasMapsAlike (sources : List Source) (bundle : Bundle) (given : Option PrefixTables) (bytes : List ℕ) : Type 0 where
  pub bundled : (layers : List Layer) → AreOverTexts sources given bytes layers → (others : List Layer) × AreOverBundle bundle bytes others × AnswerAlike layers others
  pub unbundled : (others : List Layer) → AreOverBundle bundle bytes others → (layers : List Layer) × AreOverTexts sources given bytes layers × AnswerAlike layers others

-- the bytes mean the same by the given tables and by the tables of the bundle: this holds of all texts, and of all files if the tables are the same
abbrev pub MeanTheSame : Option PrefixTables → PrefixTables → List ℕ → Type 0
MeanTheSame given tables bytes = (file : File) → Means given bytes file ↔ Means (Some tables) bytes file

-- the bytes are a bundle over which any file answers as it does over the texts
abbrev pub AnswersAsTexts : List Source → List ℕ → Type 0
AnswersAsTexts sources bytes = All IsRead sources → (bundle : Bundle) → IsOnly (IsBundle bytes) bundle → (given : Option PrefixTables) (file : List ℕ) → MeanTheSame given bundle.tables file → HasMapsAlike sources bundle given file
