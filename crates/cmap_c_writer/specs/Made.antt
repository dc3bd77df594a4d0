-- The text of a file that is made, and the outcome of a call that writes such a text.
use Rattle.std.specs.Prelude.{◌≡◌, ℕ, List, Result, MatchOption, IsSomeAnd, ◌⊎◌}
use Rattle.std.specs.Result.{MatchResult}
use Rattle.std.specs.Global.{Vec}
use Rattle.cmap_values.specs.Files.{File}
use Rattle.cmap_values.specs.declared.fault.Fault.{Fault}
use Rattle.cmap_values.specs.declared.fault.Fault.TheVariants as fault
use Rattle.cmap_handles.specs.Rooms.{IsPut}
use Rattle.cmap_handles.specs.Statuses.{number}
use Rattle.cmap_handles.specs.declared.status.Status.TheVariants.{NoMemory, Refused}
use Rattle.cmap_text_writer.specs.Obstacles.{NoTextSays}
use Rattle.cmap_text_writer.specs.Written.{IsWritten}
use Rattle.cmap_edit.specs.Tidied.{IsTidied}
use Rattle.cmap_c_writer.specs.Given.{file_given, text_lengths_given}
use Rattle.cmap_c_writer.specs.declared.declaration.Declaration.{Declaration}
use Rattle.cmap_c_writer.specs.declared.facts.Facts.{Facts}
use Rattle.cmap_c_writer.specs.declared.written.NoText.{NoText}

-- the text has the content of the file in the fewest declarations, and is laid out; `lengths` has the lengths of codes of texts
abbrev pub IsTidyText : (ℕ → ℕ) → File → List ℕ → Type 0
IsTidyText lengths file text = (tidied : File) × IsTidied file tidied × IsWritten lengths tidied text

-- no text represents the tidied file
abbrev pub HasNoTidyText : File → Type 0
HasNoTidyText file = (tidied : File) × IsTidied file tidied × NoTextSays tidied

-- the arguments stand for a file, and the text has the content of that file
abbrev pub IsMadeText : Facts → List Declaration → List ℕ → Type 0
IsMadeText facts ds text = IsSomeAnd (file_given facts ds) (λ file. IsTidyText (text_lengths_given ds file.lists.spaces) file text)

-- the arguments stand for no file, or for a file that no text represents
abbrev pub HasNoMadeText : Facts → List Declaration → Type 0
HasNoMadeText facts ds = MatchOption (file_given facts ds) (Unit {0}) HasNoTidyText

-- a text with the property goes to the buffer; or `refuses` holds or memory ran out, and nothing is written
abbrev pub PutsText : (List ℕ → Type 0) → Type 0 → List ℕ → List ℕ → ℕ → ℕ → ℕ → Type 0
PutsText IsText refuses old new old_needed needed status = ((text : List ℕ) × IsText text × IsPut text old new needed status)
    ⊎ ((((status ≡ number Refused) × refuses) ⊎ (status ≡ number NoMemory)) × (new ≡ old) × (needed ≡ old_needed))

-- ---- private aid: of a text that was made
abbrev pub EndsFailed : Fault NoText → ℕ → Type 0
EndsFailed (fault.Refused reason) status = status ≡ number Refused
EndsFailed fault.Memory status = status ≡ number NoMemory

abbrev pub EndsAs : Result (Vec ℕ) (Fault NoText) → List ℕ → List ℕ → ℕ → ℕ → ℕ → Type 0
EndsAs made old new old_needed needed status = MatchResult made (λ text. IsPut text.items old new needed status)
    (λ failure. EndsFailed failure status × (new ≡ old) × (needed ≡ old_needed))
