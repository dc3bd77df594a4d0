-- What goes to C of an encoder that was built, and of a string or of pieces that were made.
use Rattle.std.proofs.Common.{◌≡◌, ℕ, Bool, List, Option, None, Some, Result, Ok, Err, inl, inr, subst, ap, ◌∙◌}
use Rattle.std.specs.Prelude.{IfOk, String, encode_utf8_all}
use Rattle.std.specs.String.{string_bytes, string_vec}
use Rattle.std.specs.Result.{MatchResult}
use Rattle.std.specs.Global.{Global, Vec}
use Rattle.std.specs.Str.{IsUtf8, IsValidUpTo, chars}
use Rattle.std.specs.declared.alloc.AllocError.{AllocError}
use Rattle.cmap_values.specs.Outcomes.{Outcome}
use Rattle.cmap_values.specs.declared.fault.Fault.{Fault}
use Rattle.cmap_values.specs.declared.fault.Fault.TheVariants as fault
use Rattle.cmap_layers.specs.Layers.{Layer}
use Rattle.cmap_handles.specs.Statuses.{number}
use Rattle.cmap_handles.specs.declared.status.Status.TheVariants.{Done, NoMemory}
use Rattle.cmap_unicode.specs.TextsOfCodes.{Font}
use Rattle.cmap_encode.specs.EncoderSeen.{IsEncoderFor}
use Rattle.cmap_encode.specs.Folding.{folded}
use Rattle.cmap_encode.specs.Encodings.{ArePiecesOf, IsEncodingOf, IsStuckAt}
use Rattle.cmap_encode.specs.Maps.{Maps}
use Rattle.cmap_encode.specs.declared.encoder.Encoder.{Encoder}
use Rattle.cmap_encode.specs.declared.encoder.Unencodable.{Unencodable}
use Rattle.cmap_encode.specs.declared.pieces.Piece.{Piece}
use Rattle.cmap_c_writer.specs.Encoded.{ArePiecesOfText, EndsAs, IsBuilt, IsLossyStringOf, IsRefusedAt, IsStringOf, PutsLossyString, PutsString, TakesLossy}
use Rattle.cmap_c_writer.specs.Folded.{IsFolded, PutsFolded}
use Rattle.cmap_c_writer.specs.PiecesSeen.{EndsAsPieces, PutsPieces}
use Rattle.cmap_c_writer.specs.declared.pieces.EncodedPiece.{EncodedPiece}

-- what holds of a font and of a map from Unicode holds of the same maps
pub of_maps : (P : Font → Option (List Layer) → Type 0) (font : Font) (encoding : List Layer) (texts to_unicode texts_of_cids collection glyphs unicode : Option (List Layer))
    → font ≡ record { encoding = encoding; to_unicode = texts; collection = texts_of_cids } → texts ≡ to_unicode → texts_of_cids ≡ collection → glyphs ≡ unicode
    → P font glyphs → P (record { encoding = encoding; to_unicode = to_unicode; collection = collection }) unicode
of_maps P font encoding texts to_unicode texts_of_cids collection glyphs unicode is same also last holds =
    subst (P _) last
    (subst (λ given. P (record { encoding = encoding; to_unicode = to_unicode; collection = given }) glyphs) also
    (subst (λ given. P (record { encoding = encoding; to_unicode = given; collection = texts_of_cids }) glyphs) same (subst (λ given. P given glyphs) is holds)))

-- an encoder that was built is kept
pub built : {B : Type 0} (value : B → Encoder) (made : Result B AllocError) (font : Font) (unicode : Option (List Layer)) (exact : Bool) (status : ℕ) (now : Option Encoder)
    → IfOk made (λ b. IsEncoderFor font unicode exact (value b))
    → MatchResult made (λ b. (status ≡ number Done) × (now ≡ Some (value b))) (λ _. (status ≡ number NoMemory) × (now ≡ None)) → IsBuilt font unicode exact now status
built value (Ok b) font unicode exact status now is kept = inl (value b, is, kept.1, kept.0)
built value (Err e) font unicode exact status now is kept = inr (kept.1, kept.0)

-- of a text that is UTF-8, the string that it has, or where it is refused
pub string_known : (maps : Maps) (text given : List ℕ) (made : Result (Vec ℕ) (Fault Unencodable)) → given ≡ text → IsUtf8 text
    → Outcome (λ string. IsEncodingOf maps (chars given) string.items) (λ refused. IsStuckAt maps (chars given) refused.offset) made
    → Outcome (λ string. IsStringOf maps text string.items) (λ refused. IsRefusedAt maps text refused.offset) made
string_known maps text given (Ok string) same utf8 is = ((utf8, subst (λ t. IsEncodingOf maps (chars t) string.items) same is.0), tt)
string_known maps text given (Err (fault.Refused refused)) same utf8 is = (tt, inl (utf8, subst (λ t. IsStuckAt maps (chars t) refused.offset) same is.1))
string_known maps text given (Err fault.Memory) same utf8 is = (tt, tt)

-- a string that was made is put, or the text is refused
pub string_put : (maps : Maps) (text : List ℕ) (made : Result (Vec ℕ) (Fault Unencodable)) (old new : List ℕ) (old_needed needed old_offset offset status : ℕ)
    → Outcome (λ string. IsStringOf maps text string.items) (λ refused. IsRefusedAt maps text refused.offset) made → EndsAs made old new old_needed needed old_offset offset status
    → PutsString maps text old new old_needed needed old_offset offset status
string_put maps text (Ok string) old new old_needed needed old_offset offset status is ends = inl (string.items, is.0, ends.0, ends.1)
string_put maps text (Err (fault.Refused refused)) old new old_needed needed old_offset offset status is ends = inr (inl (ends.0.0, rw ends.0.1 is.1), ends.1, ends.2)
string_put maps text (Err fault.Memory) old new old_needed needed old_offset offset status is ends = inr (inr ends.0, ends.1, ends.2)

pub lossy_put : (maps : Maps) (missing text : List ℕ) (made : Result (Vec ℕ) (Fault Unencodable)) (old new : List ℕ) (old_needed needed old_offset offset status : ℕ)
    → Outcome (λ string. IsLossyStringOf maps missing text string.items) (λ _. TakesLossy maps missing text → ⊥) made → EndsAs made old new old_needed needed old_offset offset status → PutsLossyString maps missing text old new old_needed needed status
lossy_put maps missing text (Ok string) old new old_needed needed old_offset offset status is ends = inl (string.items, is.0, ends.0)
lossy_put maps missing text (Err (fault.Refused refused)) old new old_needed needed old_offset offset status is ends = inr (inl (ends.0.0, is.1), ends.1, ends.2)
lossy_put maps missing text (Err fault.Memory) old new old_needed needed old_offset offset status is ends = inr (inr ends.0.0, ends.1, ends.2)

-- the same of a text in the characters that are usually written
pub folded_known : (text given : List ℕ) (made : Result (String Global) AllocError) → given ≡ text → IsUtf8 text → IfOk made (λ shown. string_bytes shown ≡ encode_utf8_all (folded (chars given)))
    → IfOk made (λ shown. IsFolded text (string_vec shown).items)
folded_known text given (Ok shown) same utf8 is = (utf8, is ∙ ap (λ t. encode_utf8_all (folded (chars t))) same)
folded_known text given (Err e) same utf8 is = tt

pub folded_put : (text : List ℕ) (made : Result (Vec ℕ) (Fault Unencodable)) (old new : List ℕ) (old_needed needed old_offset offset status : ℕ)
    → Outcome (λ shown. IsFolded text shown.items) (λ refused. IsValidUpTo text refused.offset) made → EndsAs made old new old_needed needed old_offset offset status
    → PutsFolded text old new old_needed needed old_offset offset status
folded_put text (Ok shown) old new old_needed needed old_offset offset status is ends = inl (shown.items, is.0, ends.0, ends.1)
folded_put text (Err (fault.Refused refused)) old new old_needed needed old_offset offset status is ends = inr (inl (ends.0.0, rw ends.0.1 is.1), ends.1, ends.2)
folded_put text (Err fault.Memory) old new old_needed needed old_offset offset status is ends = inr (inr ends.0, ends.1, ends.2)

-- the same of pieces
pub pieces_known : (maps : Maps) (text given : List ℕ) (made : Result (Vec Piece) (Fault Unencodable)) → given ≡ text → IsUtf8 text
    → Outcome (λ pieces. ArePiecesOf maps (chars given) pieces.items) (λ refused. IsStuckAt maps (chars given) refused.offset) made
    → Outcome (λ pieces. ArePiecesOfText maps text pieces.items) (λ refused. IsRefusedAt maps text refused.offset) made
pieces_known maps text given (Ok pieces) same utf8 is = ((utf8, subst (λ t. ArePiecesOf maps (chars t) pieces.items) same is.0), tt)
pieces_known maps text given (Err (fault.Refused refused)) same utf8 is = (tt, inl (utf8, subst (λ t. IsStuckAt maps (chars t) refused.offset) same is.1))
pieces_known maps text given (Err fault.Memory) same utf8 is = (tt, tt)

pub pieces_put : (maps : Maps) (text : List ℕ) (made : Result (Vec Piece) (Fault Unencodable)) (old new : List EncodedPiece) (old_needed needed old_offset offset status : ℕ)
    → Outcome (λ pieces. ArePiecesOfText maps text pieces.items) (λ refused. IsRefusedAt maps text refused.offset) made → EndsAsPieces made old new old_needed needed old_offset offset status
    → PutsPieces maps text old new old_needed needed old_offset offset status
pieces_put maps text (Ok pieces) old new old_needed needed old_offset offset status is ends = inl (pieces.items, is.0, ends.0, ends.1)
pieces_put maps text (Err (fault.Refused refused)) old new old_needed needed old_offset offset status is ends = inr (inl (ends.0.0, rw ends.0.1 is.1), ends.1, ends.2)
pieces_put maps text (Err fault.Memory) old new old_needed needed old_offset offset status is ends = inr (inr ends.0, ends.1, ends.2)
