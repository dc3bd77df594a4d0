-- The encoder of a font, and the string of a text, as C gets them.
use Rattle.std.specs.Prelude.{◌≡◌, ◌⊎◌, ℕ, Bool, List, Option, Some, None, Result}
use Rattle.std.specs.Result.{MatchResult}
use Rattle.std.specs.Global.{Vec}
use Rattle.std.specs.Str.{IsUtf8, IsValidUpTo, chars}
use Rattle.cmap_values.specs.declared.fault.Fault.{Fault}
use Rattle.cmap_values.specs.declared.fault.Fault.TheVariants as fault
use Rattle.cmap_handles.specs.Rooms.{IsPut}
use Rattle.cmap_handles.specs.Statuses.{number}
use Rattle.cmap_handles.specs.declared.status.Status.TheVariants.{Done, NoMemory, Refused}
use Rattle.cmap_layers.specs.Layers.{Layer}
use Rattle.cmap_unicode.specs.TextsOfCodes.{Font}
use Rattle.cmap_encode.specs.EncoderSeen.{IsEncoderFor}
use Rattle.cmap_encode.specs.Encodings.{ArePiecesOf, IsEncodingOf, IsLossyEncodingOf, IsStuckAt}
use Rattle.cmap_encode.specs.Maps.{Maps}
use Rattle.cmap_encode.specs.StringsOfCodes.{AreCodes}
use Rattle.cmap_encode.specs.declared.encoder.Encoder.{Encoder}
use Rattle.cmap_encode.specs.declared.encoder.Unencodable.{Unencodable}
use Rattle.cmap_encode.specs.declared.pieces.Piece.{Piece}

-- there is an encoder of the font with this map from Unicode, or memory ran out and there is no encoder
abbrev pub IsBuilt : Font → Option (List Layer) → Bool → Option Encoder → ℕ → Type 0
IsBuilt font unicode exact built status = ((encoder : Encoder) × IsEncoderFor font unicode exact encoder × (built ≡ Some encoder) × (status ≡ number Done))
    ⊎ ((built ≡ None) × (status ≡ number NoMemory))

-- the text is UTF-8, and this string is its encoding
abbrev pub IsStringOf : Maps → List ℕ → List ℕ → Type 0
IsStringOf maps text string = IsUtf8 text × IsEncodingOf maps (chars text) string

-- the text is UTF-8, and these are its pieces
abbrev pub ArePiecesOfText : Maps → List ℕ → List Piece → Type 0
ArePiecesOfText maps text pieces = IsUtf8 text × ArePiecesOf maps (chars text) pieces

-- the text is UTF-8 without an encoding, and its longest prefix with an encoding ends here; or the text isn't UTF-8, and its longest prefix in UTF-8 ends here
abbrev pub IsRefusedAt : Maps → List ℕ → ℕ → Type 0
IsRefusedAt maps text offset = (IsUtf8 text × IsStuckAt maps (chars text) offset) ⊎ IsValidUpTo text offset

-- the string of the text goes to the buffer; or the place where the text is refused goes to the offset; or memory ran out. All other outputs keep their values
abbrev pub PutsString : Maps → List ℕ → List ℕ → List ℕ → ℕ → ℕ → ℕ → ℕ → ℕ → Type 0
PutsString maps text old new old_needed needed old_offset offset status =
    ((string : List ℕ) × IsStringOf maps text string × IsPut string old new needed status × (offset ≡ old_offset))
    ⊎ (((((status ≡ number Refused) × IsRefusedAt maps text offset) ⊎ ((status ≡ number NoMemory) × (offset ≡ old_offset))))
    × (new ≡ old) × (needed ≡ old_needed))

-- the text is UTF-8, and the bytes for characters without an encoding are whole codes of the font
abbrev pub TakesLossy : Maps → List ℕ → List ℕ → Type 0
TakesLossy maps missing text = IsUtf8 text × AreCodes maps.font.encoding missing

-- the text and the bytes are accepted, and the string is the encoding of the text, with these bytes for the characters without an encoding
abbrev pub IsLossyStringOf : Maps → List ℕ → List ℕ → List ℕ → Type 0
IsLossyStringOf maps missing text string = TakesLossy maps missing text × IsLossyEncodingOf maps missing (chars text) string

-- such a string goes to the buffer; or nothing is written, since the text isn't UTF-8, the bytes aren't whole codes of the font, or memory ran out
abbrev pub PutsLossyString : Maps → List ℕ → List ℕ → List ℕ → List ℕ → ℕ → ℕ → ℕ → Type 0
PutsLossyString maps missing text old new old_needed needed status =
    ((string : List ℕ) × IsLossyStringOf maps missing text string × IsPut string old new needed status)
    ⊎ ((((status ≡ number Refused) × (TakesLossy maps missing text → ⊥)) ⊎ (status ≡ number NoMemory)) × (new ≡ old) × (needed ≡ old_needed))

-- ---- private aid: of a string that was made
abbrev pub EndsFailed : Fault Unencodable → ℕ → ℕ → ℕ → Type 0
EndsFailed (fault.Refused refused) old_offset offset status = (status ≡ number Refused) × (offset ≡ refused.offset)
EndsFailed fault.Memory old_offset offset status = (status ≡ number NoMemory) × (offset ≡ old_offset)

abbrev pub EndsAs : Result (Vec ℕ) (Fault Unencodable) → List ℕ → List ℕ → ℕ → ℕ → ℕ → ℕ → ℕ → Type 0
EndsAs made old new old_needed needed old_offset offset status = MatchResult made (λ string. IsPut string.items old new needed status × (offset ≡ old_offset))
    (λ failure. EndsFailed failure old_offset offset status × (new ≡ old) × (needed ≡ old_needed))
