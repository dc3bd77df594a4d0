-- What the text of a value of JSON is made of.
use Rattle.std.proofs.Common.{◌≡◌, ℕ, suc, ◌+◌, ◌/◌, ◌%◌, ◌<◌, ◌≤◌, Bool, true, false, ◌||◌, ◌==◌, List, [], ◌∷◌, ◌++◌, length, get_or, IsUtf8, encode_utf8, encode_utf8_all, refl, sym, ap, ap₂, ◌∙◌, append-nil, append_assoc, arith, inl, inr}
use Rattle.std.specs.Str.{bytes_eq}
use Rattle.std.proofs.lemmas.Bool.{cases_lt, le-ltb, ne_eqb}
use Rattle.std.proofs.lemmas.List.Concat.{flat_map-append}
use Rattle.std.proofs.lemmas.Slice.Eq.{bytes_eq-Decides}
use Rattle.std.proofs.lemmas.Str.{encode_ascii, encodes-append, inside_one}
use Rattle.serde_json.specs.Data.{Data, Items, Members, item, member, string}
use Rattle.serde_json.specs.Written.{comma_if, compact_text, items_text, members_text}
use Rattle.ucd_table.proofs.TrieCheck.{all_below, all_below-at}
use Rattle.serde_json.proofs.OnLiterals.{serde_json_on_literals}
use Rattle.cmap_io.specs.Escapes.{digits_of}
use Rattle.cmap_io.specs.Json.{byte_spelled, text_spelled}
use Rattle.cmap_io.specs.declared.digits.Letters.TheVariants.{Small}

-- the text of a string
pub string_spelled : (text : List ℕ) → compact_text (string text) ≡ 0x22 ∷ (text_spelled text ++ 0x22 ∷ [])
unfolding serde_json_on_literals
string_spelled text = refl

-- a string is added mark by mark
pub string_added : (old begun middle new text : List ℕ) → begun ≡ old ++ 0x22 ∷ [] → middle ≡ begun ++ text_spelled text → new ≡ middle ++ 0x22 ∷ [] → new ≡ old ++ compact_text (string text)
string_added old begun middle new text first spelled last =
    last ∙ ap (λ bytes. bytes ++ 0x22 ∷ []) (spelled ∙ ap (λ bytes. bytes ++ text_spelled text) first ∙ append_assoc old (0x22 ∷ []) (text_spelled text))
    ∙ append_assoc old (0x22 ∷ text_spelled text) (0x22 ∷ []) ∙ ap (λ bytes. old ++ bytes) (sym (string_spelled text))

-- one more character
pub one_more_spelled : (old now new front : List ℕ) (c : ℕ) → now ≡ old ++ text_spelled (encode_utf8_all front) → new ≡ now ++ text_spelled (encode_utf8 c) → new ≡ old ++ text_spelled (encode_utf8_all (front ++ c ∷ []))
one_more_spelled old now new front c now_is new_is =
    new_is ∙ ap (λ bytes. bytes ++ text_spelled (encode_utf8 c)) now_is ∙ append_assoc old (text_spelled (encode_utf8_all front)) (text_spelled (encode_utf8 c))
    ∙ ap (λ bytes. old ++ bytes) (sym (flat_map-append byte_spelled (encode_utf8_all front) (encode_utf8 c))
    ∙ ap (λ bytes. text_spelled (encode_utf8_all front ++ bytes)) (sym (append-nil (encode_utf8 c))) ∙ ap text_spelled (sym (encodes-append front (c ∷ []))))

byte_plain : (x : ℕ) → (x ≡ 0x22 → ⊥) → (x ≡ 0x5C → ⊥) → 0x20 ≤ x → byte_spelled x ≡ x ∷ []
byte_plain x mark backslash from =
    rw (ne_eqb x 0x22 mark, ne_eqb x 0x5C backslash, ne_eqb x 8 (λ is. omega arith), ne_eqb x 12 (λ is. omega arith), ne_eqb x 10 (λ is. omega arith), ne_eqb x 13 (λ is. omega arith), ne_eqb x 9 (λ is. omega arith), le-ltb x 0x20 from) refl

escape_high : (xs : List ℕ) → ((k : ℕ) → k < length xs → 128 ≤ get_or xs k 0) → text_spelled xs ≡ xs
escape_high [] high = refl
escape_high (x ∷ xs) high =
    let first : 128 ≤ x = high 0 (omega arith) in
    ap₂ (λ (a b : List ℕ). a ++ b) (byte_plain x (λ is. omega arith) (λ is. omega arith) (omega arith)) (escape_high xs (λ k below. high (suc k) (omega arith)))

-- a character that stands for itself
pub spelled_plain : (c : ℕ) → (c ≡ 0x22 → ⊥) → (c ≡ 0x5C → ⊥) → 0x20 ≤ c → text_spelled (encode_utf8 c) ≡ encode_utf8 c
spelled_plain c mark backslash from = elim (cases_lt c 128) [
  | inl small ↦
      ap text_spelled (encode_ascii c small) ∙ append-nil (byte_spelled c) ∙ byte_plain c mark backslash from ∙ sym (encode_ascii c small)
  | inr large ↦
      escape_high (encode_utf8 c) (λ k below. elim (cases_lt (get_or (encode_utf8 c) k 0) 128) [
        | inl low ↦ absurd (omega (arith, inside_one c [] (encode_utf8 c) k (sym (append-nil _)) below low))
        | inr high ↦ high
      ])
]
