-- The text of one file with the answers of a map.
use Rattle.std.specs.Prelude.{◌≡◌, ◌⊎◌, ℕ, List, [], ◌∷◌, Any, None, map}
use Rattle.cmap_edit.specs.Subsets.{Contradicts, IsContradiction, IsFlat, IsSubset}
use Rattle.cmap_edit.specs.declared.flatten.answers.Contradiction.{Contradiction}
use Rattle.cmap_edit.specs.declared.flatten.codes.Codes.{Codes}
use Rattle.cmap_layers.specs.Layers.{Layer}
use Rattle.cmap_text_writer.specs.Lengths.{length_by}
use Rattle.cmap_text_writer.specs.Obstacles.{NoTextSays}
use Rattle.cmap_text_writer.specs.Written.{IsWritten}
use Rattle.cmap_values.specs.CodeLengths.{length_of}
use Rattle.cmap_values.specs.Files.{File}
use Rattle.cmap_c_writer.specs.Given.{length_given}
use Rattle.cmap_c_writer.specs.declared.chosen.ChosenCodes.{ChosenCodes}

-- codes of a length in their C form
abbrev pub chosen_seen : Codes → ChosenCodes
chosen_seen codes = record { first = codes.range.start; last = codes.range.end; byte_len = length_of codes.len }

-- the file has the answers of the layers for the chosen codes, and for no others
abbrev pub AnswersForChosen : List ChosenCodes → List Layer → File → Type 0
AnswersForChosen chosen layers file = (codes : List Codes) × (map chosen_seen codes ≡ chosen) × IsSubset layers codes file

-- the file has the answers for these codes, or for all codes if none are chosen
abbrev pub AnswersFor : List ChosenCodes → List Layer → File → Type 0
AnswersFor [] layers file = IsFlat layers file
AnswersFor (one ∷ more) layers file = AnswersForChosen (one ∷ more) layers file

-- some code has a contradiction
abbrev pub HasNoFlatFile : List Layer → Type 0
HasNoFlatFile layers = (at : Contradiction) × Contradicts layers at

-- some codes have a length outside one to four bytes, or a chosen code has a contradiction
abbrev pub HasNoFileOfChosen : List ChosenCodes → List Layer → Type 0
HasNoFileOfChosen chosen layers = Any (λ one. length_given one.byte_len ≡ None) chosen
    ⊎ ((codes : List Codes) × (map chosen_seen codes ≡ chosen) × (at : Contradiction) × IsContradiction layers codes at)

abbrev pub HasNoFile : List ChosenCodes → List Layer → Type 0
HasNoFile [] layers = HasNoFlatFile layers
HasNoFile (one ∷ more) layers = HasNoFileOfChosen (one ∷ more) layers

-- the text has the content of such a file, and is laid out; codes of texts have the length of the codespace ranges around them
abbrev pub IsWrittenText : List Layer → List ChosenCodes → List ℕ → Type 0
IsWrittenText layers chosen text = (file : File) × AnswersFor chosen layers file × IsWritten (length_by file.lists.spaces) file text

-- there is no such file, or there is such a file that no text represents
abbrev pub HasNoWrittenText : List Layer → List ChosenCodes → Type 0
HasNoWrittenText layers chosen = HasNoFile chosen layers ⊎ ((file : File) × AnswersFor chosen layers file × NoTextSays file)
