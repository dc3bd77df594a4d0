-- The keys of a file, and the names that it uses.
use Rattle.std.proofs.Common.{◌≡◌, ◌∙◌, ℕ, true, false, List, [], ◌∷◌, ◌++◌, Some, inl, inr, refl, ap, subst, arith}
use Rattle.std.specs.Prelude.{Contains, codes}
use Rattle.std.specs.Fmt.{signed_decimal}
use Rattle.std.specs.List.{list_all}
use Rattle.std.proofs.lemmas.List.{append_assoc}
use Rattle.cmap_values.specs.Files.{Collection, Mode, horizontal, vertical}
use Rattle.cmap_values.specs.Names.{ordering_of, registry_of}
use Rattle.cmap_tokens.specs.Bytes.{is_regular}
use Rattle.cmap_tokens.specs.Numbers.{Integer, numeral, integer, radix_integer, is_real}
use Rattle.cmap_tokens.specs.Tokens.{IsBracket, IsToken, Token}
use Rattle.cmap_text.specs.TextFiles.{Item, key, keys}
use Rattle.cmap_tokens.proofs.ByteTests.{one_of}
use Rattle.cmap_text_writer.specs.Fits.{CollectionFits, IsSayableName}
use Rattle.cmap_text_writer.specs.FileItems.{collection_items, collection_text, mode_items, mode_text, name_items, name_spelled, name_text, number, string_spelled, word}
use Rattle.cmap_text_writer.specs.Told.{TellsItems}
use Rattle.cmap_text_writer.proofs.HeaderTold.{join, lined_word, spaced_name, spaced_word, three}
use Rattle.cmap_text_writer.proofs.ItemsTold.{key_item, no_items}
use Rattle.cmap_text_writer.proofs.TextStrings.{string_is}
use Rattle.cmap_text_writer.proofs.TokensTold.{is_name, is_number, is_string_token, spaced, tokens_both}

-- ---- a key, its value, and def
def_told : TellsItems (word (codes "def") ∷ []) (codes "def\n")
unfolding numeral integer radix_integer is_real
def_told = lined_word (codes "def") refl

pub valued : (k : List ℕ) (value : Token) (spelled tail : List ℕ) (items : List Item) → Contains keys k → list_all is_regular k ≡ true → IsToken spelled value → TellsItems items tail
    → TellsItems (key k (Some value) ∷ word (codes "def") ∷ items) ((47 ∷ k ++ 32 ∷ []) ++ (spelled ++ (codes " def\n" ++ tail)))
valued k value spelled tail items is regular is_value later =
    let first = key_item k value ((47 ∷ k ++ 32 ∷ []) ++ (spelled ++ 32 ∷ [])) is (tokens_both (Token.Name true k ∷ []) (value ∷ []) _ _ (spaced (47 ∷ k) (Token.Name true k) (is_name k regular)) (spaced spelled value is_value)) in
    let parts : ((47 ∷ k ++ 32 ∷ []) ++ (spelled ++ 32 ∷ [])) ++ (codes "def\n" ++ tail) ≡ (47 ∷ k ++ 32 ∷ []) ++ (spelled ++ (codes " def\n" ++ tail)) =
    append_assoc (47 ∷ k ++ 32 ∷ []) (spelled ++ 32 ∷ []) (codes "def\n" ++ tail) ∙ ap (λ bs. (47 ∷ k ++ 32 ∷ []) ++ bs) (append_assoc spelled (32 ∷ []) (codes "def\n" ++ tail)) in
    subst (TellsItems (key k (Some value) ∷ word (codes "def") ∷ items)) parts (join first (join def_told later))

-- ---- the collection
pub collection_spelled : (c : Collection) → CollectionFits c → IsToken (signed_decimal c.supplement) (Token.Numeral (Integer c.supplement)) → TellsItems (collection_items c) (collection_text c)
unfolding numeral integer radix_integer is_real
collection_spelled c fits number_is =
    let r = registry_of c.family in
    let o = ordering_of c.family in
    join (spaced_name (codes "CIDSystemInfo") refl refl)
    (join three
    (join (spaced_word (codes "dict") refl)
    (join (spaced_word (codes "dup") refl)
    (join (lined_word (codes "begin") refl)
    (valued (codes "Registry") (Token.String (string_spelled r)) (string_spelled r) _ _ (0, omega arith, refl) refl (is_string_token (string_spelled r) (string_is r fits.registry))
    (valued (codes "Ordering") (Token.String (string_spelled o)) (string_spelled o) _ _ (1, omega arith, refl) refl (is_string_token (string_spelled o) (string_is o fits.ordering))
    (valued (codes "Supplement") (Token.Numeral (Integer c.supplement)) (signed_decimal c.supplement) (codes "end def\n") (word (codes "end") ∷ word (codes "def") ∷ []) (2, omega arith, refl) refl number_is
    (join (spaced_word (codes "end") refl) def_told))))))))

-- ---- the name
bracket_special : (bytes : List ℕ) → IsBracket bytes → list_all is_regular bytes ≡ false
bracket_special bytes (inl (b, is, bracket)) = rw (is, one_of is_regular b (codes "[]{}") refl bracket) refl
bracket_special bytes (inr (inl is)) = rw is refl
bracket_special bytes (inr (inr is)) = rw is refl

name_is_token : (bytes : List ℕ) → IsSayableName bytes → IsToken (name_spelled bytes) (Token.Name (list_all is_regular bytes) bytes)
name_is_token bytes (inl all) = rw all (is_name bytes all)
name_is_token bytes (inr bracket) = rw (bracket_special bytes bracket) (inr (inr (inl (bracket, refl))))

pub name_told : (bytes : List ℕ) → IsSayableName bytes → TellsItems (name_items bytes) (name_text bytes)
name_told bytes is = subst (λ bs. TellsItems (name_items bytes) (codes "/CMapName " ++ (name_spelled bytes ++ bs))) refl (valued (codes "CMapName") (Token.Name (list_all is_regular bytes) bytes) (name_spelled bytes) [] [] (3, omega arith, refl) refl (name_is_token bytes is) no_items)

-- ---- the writing mode
mode_value : (digit : List ℕ) (n : ℕ) → IsToken digit (number n) → TellsItems (key (codes "WMode") (Some (number n)) ∷ word (codes "def") ∷ []) (codes "/WMode " ++ (digit ++ codes " def\n"))
mode_value digit n is = valued (codes "WMode") (number n) digit [] [] (4, omega arith, refl) refl is no_items

pub mode_told : (mode : Mode) → TellsItems (mode_items mode) (mode_text mode)
unfolding numeral integer radix_integer is_real
mode_told horizontal = mode_value (codes "0") 0 (is_number (codes "0") _ (omega arith) refl refl)
mode_told vertical = mode_value (codes "1") 1 (is_number (codes "1") _ (omega arith) refl refl)
