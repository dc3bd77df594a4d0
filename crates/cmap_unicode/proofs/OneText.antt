-- A code has one text.
use Rattle.std.proofs.Common.{◌≡◌, ℕ, List, [], ◌∷◌, ◌++◌, length, Option, Some, None, Result, Ok, Err, refl, sym, ap, ◌∙◌, arith}
use Rattle.std.specs.Prelude.{◌<◌, IsSomeAnd, OnErr, OnOk, if◌then◌else◌, is_ok, option_and_then, option_map}
use Rattle.std.specs.Option.{option_or}
use Rattle.std.proofs.lemmas.Option.{none-some, same_Some}
use Rattle.cmap_tokens.specs.Texts.{Text, more, text_of_characters}
use Rattle.cmap_values.specs.Only.{IsOnly}
use Rattle.cmap_unicode.specs.Cids.{declared_cid}
use Rattle.cmap_unicode.specs.TextsOfCodes.{Font, HasLongText, IsTextOf, by_cid, by_code, text_in, text_of, unknown}

module _ (font : Font) (code len : ℕ) where
  -- the ToUnicode CMap has no text for the code, which has this CID
  text_of_cid : (cid : ℕ) (text : Option Text) → text_in font.to_unicode code ≡ None → declared_cid font.encoding code len ≡ Some cid → text_in font.collection cid ≡ text → IsTextOf font code len text
  text_of_cid cid (Some text) none is found = by_cid cid text none is found
  text_of_cid cid None none is found = unknown none (λ other also. ap (text_in font.collection) (same_Some other cid (sym also ∙ is)) ∙ found)

  by_parts : (converted : Option Text) (cid : Option ℕ) → text_in font.to_unicode code ≡ converted → declared_cid font.encoding code len ≡ cid
      → IsTextOf font code len (option_or converted (option_and_then (text_in font.collection) cid))
  by_parts (Some text) cid found is = by_code text found
  by_parts None (Some cid) none is = text_of_cid cid (text_in font.collection cid) none is refl
  by_parts None None none is = unknown none (λ other also. absurd (none-some other (sym is ∙ also)))

  none_of_cid : (cid : Option ℕ) → ((found : ℕ) → cid ≡ Some found → text_in font.collection found ≡ None) → option_and_then (text_in font.collection) cid ≡ None
  none_of_cid (Some cid) none = none cid refl
  none_of_cid None none = refl

  alone_text : {text : Option Text} → IsTextOf font code len text → text ≡ text_of font code (declared_cid font.encoding code len)
  alone_text (by_code text found) = sym (ap (λ converted. option_or converted (option_and_then (text_in font.collection) (declared_cid font.encoding code len))) found)
  alone_text (by_cid cid text none is found) =
      sym (ap (λ converted. option_or converted (option_and_then (text_in font.collection) (declared_cid font.encoding code len))) none ∙ ap (option_and_then (text_in font.collection)) is ∙ found)
  alone_text (unknown none of_cids) =
      sym (ap (λ converted. option_or converted (option_and_then (text_in font.collection) (declared_cid font.encoding code len))) none ∙ none_of_cid (declared_cid font.encoding code len) of_cids)

  pub is_text : IsTextOf font code len (text_of font code (declared_cid font.encoding code len))
  is_text = by_parts (text_in font.to_unicode code) (declared_cid font.encoding code len) refl refl

  pub one_text : (text : Option Text) → text ≡ text_of font code (declared_cid font.encoding code len) → IsOnly (IsTextOf font code len) text
  one_text text is = record { holds = rw is is_text; alone = λ other also. alone_text also ∙ sym is }

  pub has_long_text : (characters : List ℕ) → text_of font code (declared_cid font.encoding code len) ≡ Some (more characters) → HasLongText font code len
  has_long_text characters is = (characters, rw (sym is) is_text)

-- what holds in any case
pub holds_on_err : {T E P : Type 0} (r : Result T E) → P → OnErr r P
holds_on_err (Ok x) holds = tt
holds_on_err (Err e) holds = holds

-- a text that takes memory has more than one character
pub long_text : (found : Option (List ℕ)) → IsSomeAnd found (λ characters. 1 < length characters) → (characters : List ℕ) × (option_map text_of_characters found ≡ Some (more characters))
long_text None long = absurd long
long_text (Some []) long = absurd (omega (arith, long))
long_text (Some (c ∷ [])) long = absurd (omega (arith, long))
long_text (Some (c ∷ d ∷ characters)) long = (c ∷ d ∷ characters, refl)

-- bytes are added, if that doesn't fail
pub added : {T E : Type 0} (r : Result T E) (old now bytes others : List ℕ) → now ≡ (if is_ok r then old ++ bytes else old) → bytes ≡ others → OnOk r (now ≡ old ++ others)
added (Ok x) old now bytes others is same = is ∙ ap (λ l. old ++ l) same
added (Err e) old now bytes others is same = tt
