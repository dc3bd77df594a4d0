-- Parts of declarations of texts.
use Rattle.std.specs.Prelude.{◌≡◌, ℕ, ◌+◌, ◌-◌, ◌<◌, ◌≤◌, ◌^◌, List, [], All, length, unwrap_or}
use Rattle.cmap_tokens.specs.Texts.{shifted, text_at}
use Rattle.cmap_values.specs.Files.{BfEntry}
use Rattle.cmap_layers.specs.Lookups.{bf_span}
use Rattle.cmap_binary_writer.specs.Pieces.{AllSayAs, SaysAs}

-- units whose texts are the texts of other units from an offset on
abbrev pub ShiftsTo : List ℕ → ℕ → List ℕ → Type 0
ShiftsTo units offset shifted = (more : ℕ) → text_at shifted more ≡ text_at units (offset + more)

-- the units with the offset added to the last one; no units where there are none, or where the sum doesn't fit in a unit
abbrev pub units_from : List ℕ → ℕ → List ℕ
units_from units offset = unwrap_or (shifted units offset) []

-- the units that an entry gives to a code
abbrev pub units_at : BfEntry → ℕ → List ℕ
units_at e code = units_from e.units (code - e.start)

-- the units are the units at the offset, and their texts are the texts from the offset on; they aren't more than
-- the original units, and each has 16 bits
pub record IsShifted (units : List ℕ) (offset : ℕ) (shifted : List ℕ) : Type 0 where
  pub texts : ShiftsTo units offset shifted
  pub exact : (more : ℕ) → units_from shifted more ≡ units_from units (offset + more)
  pub counted : length shifted ≤ length units
  pub small : All (λ u. u < 2 ^ 16) shifted

-- from 1 to 65536 codes
abbrev pub IsDecidedText : BfEntry → Type 0
IsDecidedText e = (e.start ≤ e.end) × (e.end < 2 ^ 32) × (e.end - e.start < 2 ^ 16) × All (λ u. u < 2 ^ 16) e.units

-- after a range is added, the entries give each code the units of a list, if the old entries and the range do
abbrev pub GivesUnits : BfEntry → List BfEntry → List BfEntry → Type 0
GivesUnits e old new = (es : List BfEntry) → AllSayAs bf_span units_at es old → SaysAs bf_span units_at es e → AllSayAs bf_span units_at es new
