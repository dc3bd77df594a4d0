-- The parts of a file beside its sections.
use Rattle.std.proofs.Common.{◌≡◌, ℕ, Bool, true, false, List, [], ◌∷◌, ◌++◌, Some, None, length, inl, inr, refl, ap, ◌∙◌, arith}
use Rattle.std.specs.Prelude.{◌&&◌, IfSome, Option, codes, is_none, nat_lt, not}
use Rattle.std.specs.List.{list_all}
use Rattle.std.proofs.lemmas.Bool.{and_parts, ltb-true, not-true}
use Rattle.std.proofs.lemmas.List.{append_assoc}
use Rattle.cmap_tokens.proofs.ByteTests.{all_weaker, none_of}
use Rattle.cmap_tokens.specs.Bytes.{is_regular}
use Rattle.cmap_tokens.specs.Numbers.{numeral, integer, radix_integer, is_real}
use Rattle.cmap_tokens.specs.Gaps.{comment_after, ends_comment}
use Rattle.cmap_tokens.specs.Tokens.{IsToken, Token, is_bracket}
use Rattle.cmap_text.specs.TextFiles.{Item, other}
use Rattle.cmap_text.specs.TextReading.{is_executable, key_in, opened_by, use_word}
use Rattle.cmap_text_writer.specs.FileItems.{comments_text, end_text, footer_items, footer_text, header_items, header_text, name, number, resource_text, type_text, word}
use Rattle.cmap_text_writer.specs.Fits.{IsSayableName}
use Rattle.cmap_text_writer.specs.Told.{TellsItems, TellsTokens}
use Rattle.cmap_text_writer.proofs.ItemsTold.{gap_items, items_both, other_item}
use Rattle.cmap_text_writer.proofs.TokensTold.{gap_told, is_name, is_number, is_word, lined, spaced}

-- ---- words that are items by themselves
no_value_is : {A : Type 0} (o : Option A) → is_none o ≡ true → o ≡ None
no_value_is None is = refl
no_value_is (Some x) is = absurd (cc)

abbrev is_plain_word : List ℕ → Bool
is_plain_word b = nat_lt 0 (length b) && (list_all is_regular b && (is_none (numeral b) && (is_none (opened_by (Token.Name false b)) && not (is_executable use_word (Token.Name false b)))))

module _ (b : List ℕ) (plain : is_plain_word b ≡ true) where
  word_by : (bytes : List ℕ) → (IsToken b (Token.Name false b) → TellsTokens (Token.Name false b ∷ []) bytes) → TellsItems (word b ∷ []) bytes
  word_by bytes told =
      let (some, p) = and_parts (nat_lt 0 (length b)) _ plain in
      let (regular, q) = and_parts (list_all is_regular b) _ p in
      let (no_number, r) = and_parts (is_none (numeral b)) _ q in
      let (no_section, no_use) = and_parts (is_none (opened_by (Token.Name false b))) _ r in
      other_item (Token.Name false b) bytes (told (is_word b (ltb-true 0 (length b) some) regular (no_value_is (numeral b) no_number))) (no_value_is (opened_by (Token.Name false b)) no_section) (not-true _ no_use) refl

  pub spaced_word : TellsItems (word b ∷ []) (b ++ 32 ∷ [])
  spaced_word = word_by (b ++ 32 ∷ []) (spaced b (Token.Name false b))

  pub lined_word : TellsItems (word b ∷ []) (b ++ 10 ∷ [])
  lined_word = word_by (b ++ 10 ∷ []) (lined b (Token.Name false b))

-- a literal name that is no key
pub spaced_name : (b : List ℕ) → list_all is_regular b ≡ true → key_in (Token.Name true b) ≡ None → TellsItems (name b ∷ []) (47 ∷ b ++ 32 ∷ [])
spaced_name b all no_key = other_item (Token.Name true b) (47 ∷ b ++ 32 ∷ []) (spaced (47 ∷ b) (Token.Name true b) (is_name b all)) refl refl no_key

-- ---- numbers
twelve : TellsItems (other (number 12) ∷ []) (codes "12 ")
unfolding numeral integer radix_integer is_real
twelve = other_item (number 12) (codes "12 ") (spaced (codes "12") (number 12) (is_number (codes "12") _ (omega arith) refl refl)) refl refl refl

pub three : TellsItems (other (number 3) ∷ []) (codes "3 ")
unfolding numeral integer radix_integer is_real
three = other_item (number 3) (codes "3 ") (spaced (codes "3") (number 3) (is_number (codes "3") _ (omega arith) refl refl)) refl refl refl

pub join : {i : Item} {js : List Item} {a b : List ℕ} → TellsItems (i ∷ []) a → TellsItems js b → TellsItems (i ∷ js) (a ++ b)
join {i} {js} {a} {b} first later = items_both (i ∷ []) js a b first later

-- ---- the type of a CMap
one : TellsItems (other (number 1) ∷ []) (codes "1 ")
unfolding numeral integer radix_integer is_real
one = other_item (number 1) (codes "1 ") (spaced (codes "1") (number 1) (is_number (codes "1") _ (omega arith) refl refl)) refl refl refl

two : TellsItems (other (number 2) ∷ []) (codes "2 ")
unfolding numeral integer radix_integer is_real
two = other_item (number 2) (codes "2 ") (spaced (codes "2") (number 2) (is_number (codes "2") _ (omega arith) refl refl)) refl refl refl

abbrev pub type_number : Bool → ℕ
type_number true = 2
type_number false = 1

type_told : (is_to_unicode : Bool) → TellsItems (name (codes "CMapType") ∷ other (number (type_number is_to_unicode)) ∷ word (codes "def") ∷ []) (type_text is_to_unicode)
unfolding numeral integer radix_integer is_real
type_told true = join (spaced_name (codes "CMapType") refl refl) (join two (lined_word (codes "def") refl))
type_told false = join (spaced_name (codes "CMapType") refl refl) (join one (lined_word (codes "def") refl))

-- ---- comments
abbrev goes_on : ℕ → Bool
goes_on b = not (ends_comment b)

comment_passed : (text rest : List ℕ) → list_all goes_on text ≡ true → comment_after true (text ++ rest) ≡ comment_after true rest
comment_passed [] rest all = refl
comment_passed (b ∷ text) rest all = let (first, later) = and_parts (goes_on b) (list_all goes_on text) all in rw (first, comment_after) (comment_passed text rest later)

abbrev line_ends : List ℕ
line_ends = codes "\n\u{c}\r"

-- a name has no end of a line
name_goes_on : (bytes : List ℕ) → IsSayableName bytes → list_all goes_on bytes ≡ true
name_goes_on bytes (inl regular) = all_weaker is_regular goes_on bytes (λ b is. ap not (none_of is_regular b line_ends refl is)) regular
name_goes_on bytes (inr (inl (b, is, bracket))) = rw (is, none_of is_bracket b line_ends refl bracket) refl
name_goes_on bytes (inr (inr (inl is))) = rw is refl
name_goes_on bytes (inr (inr (inr is))) = rw is refl

resource_passed : (bytes : List ℕ) → IsSayableName bytes → (rest : List ℕ) → comment_after false (resource_text bytes ++ rest) ≡ comment_after false rest
resource_passed bytes is rest = ap (comment_after true) (append_assoc bytes (codes ")\n") rest) ∙ comment_passed bytes (codes ")\n" ++ rest) (name_goes_on bytes is)

first_line : TellsItems [] (codes "%!PS-Adobe-3.0 Resource-CMap\n")
first_line = gap_items (codes "%!PS-Adobe-3.0 Resource-CMap\n") (gap_told (codes "%!PS-Adobe-3.0 Resource-CMap\n") (λ rest. refl))

pub comments_told : (name : Option (List ℕ)) → IfSome name IsSayableName → TellsItems [] (comments_text name)
comments_told None h = first_line
comments_told (Some bytes) is = items_both [] [] (codes "%!PS-Adobe-3.0 Resource-CMap\n") (resource_text bytes) first_line (gap_items (resource_text bytes) (gap_told (resource_text bytes) (resource_passed bytes is)))

-- ---- the first lines and the last ones of the file
pub header_told : (is_to_unicode : Bool) → TellsItems (header_items (type_number is_to_unicode)) (header_text is_to_unicode)
unfolding numeral integer radix_integer is_real
header_told is_to_unicode =
    (join (spaced_name (codes "CIDInit") refl refl)
    (join (spaced_name (codes "ProcSet") refl refl)
    (join (spaced_word (codes "findresource") refl)
    (join (lined_word (codes "begin") refl)
    (join twelve
    (join (spaced_word (codes "dict") refl)
    (join (lined_word (codes "begin") refl)
    (join (lined_word (codes "begincmap") refl)
    (type_told is_to_unicode)))))))))

end_told : (has_name : Bool) → TellsItems [] (end_text has_name)
end_told true = gap_items (codes "%%EndResource\n%%EOF\n") (gap_told (codes "%%EndResource\n%%EOF\n") (λ rest. refl))
end_told false = gap_items (codes "%%EOF\n") (gap_told (codes "%%EOF\n") (λ rest. refl))

pub footer_told : (has_name : Bool) → TellsItems footer_items (footer_text has_name)
unfolding numeral integer radix_integer is_real
footer_told has_name =
    join (lined_word (codes "endcmap") refl)
    (join (spaced_word (codes "CMapName") refl)
    (join (spaced_word (codes "currentdict") refl)
    (join (spaced_name (codes "CMap") refl refl)
    (join (spaced_word (codes "defineresource") refl)
    (join (lined_word (codes "pop") refl)
    (join (lined_word (codes "end") refl)
    (join (lined_word (codes "end") refl)
    (end_told has_name))))))))
