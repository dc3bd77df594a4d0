-- What the values of keys say of a file.
use Rattle.std.proofs.Common.{◌≡◌, ℕ, refl, sym, ap, subst, ◌∙◌, List}
use Rattle.std.specs.Prelude.{ℤ, Option, Some}
use Rattle.cmap_tokens.specs.Strings.{IsValue}
use Rattle.cmap_tokens.specs.Tokens.{Token}
use Rattle.cmap_values.specs.Only.{IsOnly}
use Rattle.cmap_values.specs.Files.{Collection, Mode}
use Rattle.cmap_text.specs.TextFiles.{GivesText, IsCollection, collection_of, mode_in, name_in, supplement_in}
use Rattle.cmap_text.specs.TextReading.{AreSaid, Values}

-- the text of a string
string_given : (piece bytes : List ℕ) → IsValue piece bytes → ((value : List ℕ) → IsValue piece value → value ≡ bytes) → IsOnly (GivesText (Some (Token.String piece))) (Some bytes)
string_given piece bytes value only = record {
  holds = (bytes, value, refl);
  alone = λ other (given, is_value, is). is ∙ ap Some (only given is_value);
}

pub text_given : (t : Token) (piece bytes : List ℕ) → t ≡ Token.String piece → IsValue piece bytes → ((value : List ℕ) → IsValue piece value → value ≡ bytes) → IsOnly (GivesText (Some t)) (Some bytes)
text_given t piece bytes is value only = subst (λ u. IsOnly (GivesText (Some u)) (Some bytes)) (sym is) (string_given piece bytes value only)

pub collection_is : (values : Values) (registry ordering : Option (List ℕ)) (supplement : Option ℤ) (found : Option Collection) → IsOnly (GivesText values.registry) registry → IsOnly (GivesText values.ordering) ordering → supplement ≡ supplement_in values.supplement → found ≡ collection_of registry ordering supplement
    → IsOnly (IsCollection values.registry values.ordering values.supplement) found
collection_is values registry ordering supplement found registry_only ordering_only supplement_is found_is =
    let is = rw supplement_is at found_is in
    record {
      holds = (registry, ordering, registry_only.holds, ordering_only.holds, is);
      alone = λ other (r, o, gives_r, gives_o, other_is). other_is ∙ rw (registry_only.alone r gives_r, ordering_only.alone o gives_o) (sym is);
    }

pub metadata_is : (values : Values) (collection : Option Collection) (name : Option (List ℕ)) (mode : Option Mode) → IsOnly (IsCollection values.registry values.ordering values.supplement) collection → name ≡ name_in values.name → mode ≡ mode_in values.mode
    → IsOnly (AreSaid values) (record { collection = collection; name = name; mode = mode })
metadata_is values collection name mode only name_is mode_is = record {
  holds = (only.holds, name_is, mode_is);
  alone = λ other (other_only, other_name, other_mode).
      let same = only.alone other.collection other_only in
      let other_is : other ≡ record { collection = other.collection; name = other.name; mode = other.mode } = refl in
      other_is ∙ rw (same, other_name ∙ sym name_is, other_mode ∙ sym mode_is) refl;
}
