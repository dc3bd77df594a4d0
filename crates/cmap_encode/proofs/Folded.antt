-- Characters that are added to a text in UTF-8.
use Rattle.std.proofs.Common.{◌≡◌, ℕ, ◌+◌, ◌<◌, Bool, true, false, List, [], ◌∷◌, ◌++◌, get_or, length, take, refl, sym, ap, ◌∙◌, append-nil, append_assoc, Result, Ok, Err}
use Rattle.std.specs.Prelude.{OnOk, encode_utf8, encode_utf8_all, flat_map, if◌then◌else◌, is_ok}
use Rattle.std.proofs.lemmas.Bool.{false≢true}
use Rattle.std.proofs.lemmas.List.{take_more}
use Rattle.std.proofs.lemmas.List.Concat.{flat_map-append}
use Rattle.std.proofs.lemmas.Str.{encodes-append}
use Rattle.cmap_encode.specs.Folding.{folded_character, is_form, letters_of, usual}
use Rattle.cmap_encode.specs.Letters.{is_selector}

-- neither of two tests holds
neither : (first second : Bool) (a b c : List ℕ) → first ≡ false → second ≡ false → (if first then a else if second then b else c) ≡ c
neither false false a b c first second = refl
neither false true a b c first second = absurd (false≢true (sym second))
neither true other a b c first second = absurd (false≢true (sym first))

-- what is neither a selector nor a form is the usual character
pub is_usual : (character shown : ℕ) → is_selector character ≡ false → is_form character ≡ false → shown ≡ usual character → shown ∷ [] ≡ folded_character character
is_usual character shown selector form is =
    ap (λ one. one ∷ []) is ∙ sym (neither (is_selector character) (is_form character) [] (letters_of character) (usual character ∷ []) selector form)

-- a character is added, if that doesn't fail
pub one_added : {T E : Type 0} (r : Result T E) (old new characters : List ℕ) (character : ℕ) → new ≡ (if is_ok r then old ++ encode_utf8 character else old)
    → character ∷ [] ≡ characters → OnOk r (new ≡ old ++ encode_utf8_all characters)
one_added (Ok x) old new characters character is same =
    is ∙ ap (λ bytes. old ++ bytes) (sym (append-nil (encode_utf8 character)) ∙ ap encode_utf8_all same)
one_added (Err e) old new characters character is same = tt

-- the next of some characters
pub next_added : (old now new characters : List ℕ) (i character other : ℕ) → i < length characters → character ≡ get_or characters i other → now ≡ old ++ encode_utf8_all (take i characters) → new ≡ now ++ encode_utf8 character
    → new ≡ old ++ encode_utf8_all (take (i + 1) characters)
next_added old now new characters i character other within at now_is new_is =
    let prefix = take i characters in
    new_is ∙ ap (λ bytes. bytes ++ encode_utf8 character) now_is ∙ append_assoc old (encode_utf8_all prefix) (encode_utf8 character)
    ∙ ap (λ bytes. old ++ (encode_utf8_all prefix ++ bytes)) (sym (append-nil (encode_utf8 character)))
    ∙ ap (λ bytes. old ++ bytes) (sym (encodes-append prefix (character ∷ [])))
    ∙ ap (λ one. old ++ encode_utf8_all (prefix ++ one ∷ [])) at ∙ ap (λ front. old ++ encode_utf8_all front) (sym (take_more characters i other within))

-- what stands for the next character
pub next_piece : (piece : ℕ → List ℕ) (now new front : List ℕ) (character : ℕ) → now ≡ encode_utf8_all (flat_map piece front) → new ≡ now ++ encode_utf8_all (piece character)
    → new ≡ encode_utf8_all (flat_map piece (front ++ character ∷ []))
next_piece piece now new front character now_is new_is =
    new_is ∙ ap (λ bytes. bytes ++ encode_utf8_all (piece character)) now_is ∙ sym (encodes-append (flat_map piece front) (piece character))
    ∙ ap (λ all. encode_utf8_all (flat_map piece front ++ all)) (sym (append-nil (piece character)))
    ∙ ap encode_utf8_all (sym (flat_map-append piece front (character ∷ [])))
