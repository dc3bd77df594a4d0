use Rattle.std.proofs.Common.{◌≡◌, ℕ, Bool, true, false, if◌then◌else◌, List, [], ◌∷◌, ◌++◌, append-nil, arith, sym, ap, subst, ◌∙◌}
use Rattle.std.specs.Prelude.{IsUtf8, OnOk, encode_utf8, string_bytes}
use Rattle.std.specs.List.{flat_map}
use Rattle.std.proofs.lemmas.List.Elements.{All-nil, All-cons}
use Rattle.std.proofs.lemmas.Str.{chars-nil, chars_past_char}
use Rattle.cmap_io.specs.Escapes.{IsPrintable}
use Rattle.cmap_io.specs.Shown.{AddsShown, character_shown, text_shown}
use Rattle.cmap_io.specs.PathTexts.{path_character_shown}
use Rattle.cmap_io.proofs.AddsShown.{shows_nothing, shows_printable}
use Rattle.cmap_io.proofs.path_text.push_character.Goals as goal

shows_mark : (done : Bool) (old new : List ℕ) → new ≡ (if done then old ++ 0x5C ∷ 0x78 ∷ [] else old) → AddsShown old new
shows_mark true old new is = shows_printable old new (
  0x5C ∷ 0x78 ∷ [],
  is,
  All-cons IsPrintable 0x5C (0x78 ∷ []) (omega arith, omega arith) (All-cons IsPrintable 0x78 [] (omega arith, omega arith) (All-nil IsPrintable)),
)
shows_mark false old new is = shows_nothing old new is

pub returns-then-character-eq-MARK-clause-harmless : goal.returns-then-character-eq-MARK-clause-harmless
returns-then-character-eq-MARK-clause-harmless c = shows_mark _ _ _ c.push_str.ensures.bytes

-- a text of one character
one_shown : (bytes : List ℕ) (character : ℕ) → IsUtf8 bytes → bytes ≡ encode_utf8 character → text_shown bytes ≡ character_shown character
one_shown bytes character utf8 is =
    ap (flat_map character_shown) (chars_past_char bytes [] character utf8 (is ∙ sym (append-nil (encode_utf8 character))))
    ∙ ap (λ rest. character_shown character ++ flat_map character_shown rest) chars-nil
    ∙ append-nil (character_shown character)

other_shown : (character : ℕ) → ¬ (character ≡ 0) → character_shown character ≡ path_character_shown character
other_shown character other = grind arith

pub returns-else-character-eq-MARK-clause-shown : goal.returns-else-character-eq-MARK-clause-shown
returns-else-character-eq-MARK-clause-shown c =
    let is = one_shown _ c.args.character c.encode_utf8.utf8 c.encode_utf8.ensures.value ∙ other_shown c.args.character c.if-character-eq-MARK.false in
    subst (λ added. OnOk c.push_text.result (string_bytes c.push_text.new.out ≡ string_bytes c.args.out.now ++ added)) is c.push_text.ensures.shown
