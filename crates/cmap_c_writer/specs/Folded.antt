-- A text in the characters that are usually written, as C gets it.
use Rattle.std.specs.Prelude.{◌≡◌, ◌⊎◌, ℕ, List, chars, encode_utf8_all}
use Rattle.std.specs.Str.{IsUtf8, IsValidUpTo}
use Rattle.cmap_handles.specs.Rooms.{IsPut}
use Rattle.cmap_handles.specs.Statuses.{number}
use Rattle.cmap_handles.specs.declared.status.Status.TheVariants.{NoMemory, Refused}
use Rattle.cmap_encode.specs.Folding.{folded}

-- the first text is UTF-8, and the second is the first in the characters that are usually written
abbrev pub IsFolded : List ℕ → List ℕ → Type 0
IsFolded text shown = IsUtf8 text × (shown ≡ encode_utf8_all (folded (chars text)))

-- the folded text goes to the buffer; or the place where the text stops being UTF-8 goes to the offset; or memory ran out. All other outputs keep their values
abbrev pub PutsFolded : List ℕ → List ℕ → List ℕ → ℕ → ℕ → ℕ → ℕ → ℕ → Type 0
PutsFolded text old new old_needed needed old_offset offset status =
    ((shown : List ℕ) × IsFolded text shown × IsPut shown old new needed status × (offset ≡ old_offset))
    ⊎ (((((status ≡ number Refused) × IsValidUpTo text offset) ⊎ ((status ≡ number NoMemory) × (offset ≡ old_offset))))
    × (new ≡ old) × (needed ≡ old_needed))
