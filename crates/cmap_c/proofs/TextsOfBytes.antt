-- The bytes of texts in UTF-8.
use Rattle.std.proofs.Common.{◌≡◌, ℕ, List, [], ◌∷◌, Option, Some, None, ap, sym, ◌∙◌, refl, subst}
use Rattle.std.specs.Prelude.{encode_utf8_all, MatchOption, option_map}
use Rattle.std.specs.Char.{encode_utf8}
use Rattle.std.specs.String.{string_bytes}
use Rattle.std.proofs.lemmas.List.{append-nil}
use Rattle.std.proofs.lemmas.Option.{none-some, same_Some}
use Rattle.std.proofs.lemmas.Str.{encodes-chars, IsUtf8-string_bytes}
use Rattle.cmap_tokens.specs.Texts.{Text, one, more, text_of_characters}
use Rattle.cmap_tokens.specs.TextSeen.{text_seen}
use Rattle.cmap_tokens.specs.declared.utf16.BfString.{BfString}
use Rattle.cmap_tokens.specs.declared.utf16.BfString.TheVariants as bf
use Rattle.cmap_handles.specs.Handles.{utf8_of}

abbrev characters_of : Text → List ℕ
characters_of (one c) = c ∷ []
characters_of (more cs) = cs

characters_of_text : (cs : List ℕ) → characters_of (text_of_characters cs) ≡ cs
characters_of_text [] = refl
characters_of_text (c ∷ []) = refl
characters_of_text (c ∷ d ∷ cs) = refl

encoded : (text : BfString) → encode_utf8_all (characters_of (text_seen text)) ≡ utf8_of text
encoded (bf.Char c) = refl
encoded (bf.String s) = encodes-chars (string_bytes s) (IsUtf8-string_bytes s)

-- what holds of the bytes of the text that is found holds of those of its characters
pub holds_of_bytes : (Q : List ℕ → Type 0) (N : Type 0) (found : Option (List ℕ)) (text : BfString) → Some (text_seen text) ≡ option_map text_of_characters found
    → Q (utf8_of text) → MatchOption found N (λ characters. Q (encode_utf8_all characters))
holds_of_bytes Q N None text same q = absurd (none-some (text_seen text) (sym same))
holds_of_bytes Q N (Some cs) text same q =
    let is : text_seen text ≡ text_of_characters cs = same_Some (text_seen text) (text_of_characters cs) same in
    let of : encode_utf8_all cs ≡ utf8_of text = ap encode_utf8_all (sym (ap characters_of is ∙ characters_of_text cs)) ∙ encoded text in
    subst Q (sym of) q

pub holds_of_none : (N : Type 0) (P : List ℕ → Type 0) (found : Option (List ℕ)) → None ≡ option_map text_of_characters found → N → MatchOption found N P
holds_of_none N P None same n = n
holds_of_none N P (Some cs) same n = absurd (none-some (text_of_characters cs) same)

pub encode_one : (c : ℕ) → encode_utf8_all (c ∷ []) ≡ encode_utf8 c
encode_one c = append-nil (encode_utf8 c)
