-- What calls add to a text, one after another.
use Rattle.std.proofs.Common.{◌≡◌, ℕ, ◌<◌, List, [], ◌∷◌, ◌++◌, All, refl, sym, ap, ◌∙◌, append-nil, append_assoc, arith, if◌then◌else◌, Bool, true, false, inl}
use Rattle.std.specs.Prelude.{encode_utf8, encode_utf8_all}
use Rattle.std.proofs.lemmas.Str.{encodes-append, encode_ascii}
use Rattle.std.proofs.lemmas.List.Elements.{All-nil, All-cons, All-append, All-head, All-tail, All-weaker}
use Rattle.cmap_io.specs.Escapes.{IsPrintable, AddsPrintable}
use Rattle.cmap_io.specs.Shown.{IsShown, AddsShown}

-- such bytes are characters
pub encodes_printable : (bytes : List ℕ) → All IsPrintable bytes → encode_utf8_all bytes ≡ bytes
encodes_printable [] all = refl
encodes_printable (byte ∷ bytes) all =
    let high = (All-head IsPrintable byte bytes all).1 in
    let ascii : byte < 128 = omega arith in
    ap (λ front. front ++ encode_utf8_all bytes) (encode_ascii byte ascii)
    ∙ ap (λ rest. byte ∷ rest) (encodes_printable bytes (All-tail IsPrintable byte bytes all))

-- what only prints such bytes
pub shows_printable : (old new : List ℕ) → AddsPrintable old new → AddsShown old new
shows_printable old new adds = (
  adds.0,
  adds.1 ∙ ap (λ bytes. old ++ bytes) (sym (encodes_printable adds.0 adds.2)),
  All-weaker IsPrintable IsShown (λ x printable. inl printable) adds.0 adds.2,
)

-- nothing is added
pub shows_nothing : (old new : List ℕ) → new ≡ old → AddsShown old new
shows_nothing old new is = ([], is ∙ sym (append-nil old), All-nil IsShown)

-- what is added after what was added
pub shows_both : (old middle new : List ℕ) → AddsShown old middle → AddsShown middle new → AddsShown old new
shows_both old middle new first second = (
  first.0 ++ second.0,
  second.1 ∙ ap (λ front. front ++ encode_utf8_all second.0) first.1 ∙ append_assoc old (encode_utf8_all first.0) (encode_utf8_all second.0)
      ∙ ap (λ bytes. old ++ bytes) (sym (encodes-append first.0 second.0)),
  All-append IsShown first.0 second.0 first.2 second.2,
)

-- a character is added where there is room for it, and nothing where not
pub shows_one : (done : Bool) (old new : List ℕ) (character : ℕ) → new ≡ (if done then old ++ encode_utf8 character else old) → IsShown character → AddsShown old new
shows_one true old new character is shown = (
  character ∷ [],
  is ∙ ap (λ bytes. old ++ bytes) (sym (append-nil (encode_utf8 character))),
  All-cons IsShown character [] shown (All-nil IsShown),
)
shows_one false old new character is shown = shows_nothing old new is

-- a quotation mark
pub shows_mark : (done : Bool) (old new : List ℕ) → new ≡ (if done then old ++ encode_utf8 0x22 else old) → AddsShown old new
shows_mark done old new is = shows_one done old new 0x22 is (inl (omega arith, omega arith))
