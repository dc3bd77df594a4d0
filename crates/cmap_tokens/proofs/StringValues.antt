-- The value that is read of a string is the one that it stands for.
use Rattle.std.proofs.Common.{◌≡◌, ℕ, ◌-◌, ◌<◌, ◌≤◌, ◌^◌, ◌==◌, true, false, List, [], ◌∷◌, ◌++◌, length, suc, get_or, Option, Some, None, refl, sym, ap, ◌∙◌, inl, inr, arith, length-append}
use Rattle.std.specs.Prelude.{◌↔◌, IfSome, IsTrue, MatchOption, is_some}
use Rattle.std.specs.Int.Digits.{number_from_digits}
use Rattle.std.specs.List.{AllByRecursion}
use Rattle.std.proofs.lemmas.Bool.{false≢true}
use Rattle.std.proofs.lemmas.Bool.Decides.{nat_tests}
use Rattle.std.proofs.lemmas.List.{take_at}
use Rattle.cmap_tokens.specs.Tokens.{IsHexString, IsTextString, IsString}
use Rattle.cmap_tokens.specs.Strings.{IsValue, hex_value, inside, ArePairs, IsOnlyValue, IsPlain}
use Rattle.cmap_tokens.specs.TokenReading.{is_paired, is_string, value_by_bracket, string_value}
use Rattle.cmap_tokens.proofs.Digits.{paired}
use Rattle.cmap_tokens.proofs.StringCuts.{cut_read, has_cut}
use Rattle.cmap_tokens.proofs.StringLengths.{ends_from, is_string-from, IsString-from}

-- ---- the first bracket tells which string it is
pub hex_begins : (piece : List ℕ) → IsHexString piece → (get_or piece 0 0 == 60) ≡ true
hex_begins piece (body, shape, all) = rw shape refl

text_begins : (piece : List ℕ) → IsTextString piece → (get_or piece 0 0 == 60) ≡ false
text_begins piece (bytes, shape, closes) = rw shape refl

pub hex_string : (piece : List ℕ) → is_string piece ≡ true → (get_or piece 0 0 == 60) ≡ true → IsHexString piece
hex_string piece is begins =
    elim (IsString-from piece is) [
      | inl hex ↦ hex
      | inr text ↦ absurd (false≢true (sym (text_begins piece text) ∙ begins))
    ]

pub inside_is : (first last : ℕ) (body : List ℕ) → inside (first ∷ body ++ last ∷ []) ≡ body
inside_is first last body =
    let end : length (first ∷ body ++ last ∷ []) - 1 ≡ suc (length body) = omega (arith, length-append body (last ∷ [])) in
    rw end (take_at body (last ∷ []) (length body) refl)

pub has_brackets : (piece : List ℕ) → is_string piece ≡ true → 2 ≤ length piece
has_brackets piece is =
    elim (IsString-from piece is) [
      | inl (body, shape, all) ↦ omega (arith, ap length shape, length-append body (62 ∷ []))
      | inr (bytes, shape, closes) ↦ let (body, whole, paired) = ends_from false 1 bytes closes in omega (arith, ap length shape, ap length whole, length-append body (41 ∷ []))
    ]

-- ---- the value
pub value_holds : (piece : List ℕ) → IsString piece → IsValue piece (value_by_bracket piece)
value_holds piece (inl hex) = inl (hex, rw (hex_begins piece hex) refl)
value_holds piece (inr text) =
    let (bytes, shape, closes) = text in
    let (body, whole, paired) = ends_from false 1 bytes closes in
    let body_is : inside piece ≡ body = ap inside (shape ∙ ap (λ t. 40 ∷ t) whole) ∙ inside_is 40 41 body in
    let (parts, cut) = has_cut (length (inside piece)) (inside piece) (omega arith) (ap (is_paired false) body_is ∙ paired) in
    rw (text_begins piece text) (inr (text, parts, cut))

pub value_same : (piece value : List ℕ) → IsValue piece value → IsString piece × (value ≡ value_by_bracket piece)
value_same piece value (inl (hex, is)) = (inl hex, is ∙ rw (hex_begins piece hex) refl)
value_same piece value (inr (text, parts, cut)) = (inr text, cut_read parts (inside piece) value (length (inside piece)) cut (omega arith) ∙ rw (text_begins piece text) refl)

pub one_value : (piece value other : List ℕ) → IsValue piece value → IsValue piece other → value ≡ other
one_value piece value other is other_is = (value_same piece value is).1 ∙ sym (value_same piece other other_is).1

-- what is decoded
pub decoded : (raw value : List ℕ) → is_string raw ≡ true → value ≡ value_by_bracket raw → IsValue raw value × ((other : List ℕ) → IsValue raw other → other ≡ value)
decoded raw value string e = let is : IsValue raw value = rw e (value_holds raw (IsString-from raw string)) in (is, λ other other_is. one_value raw other value other_is is)

pub IsValue-read : (piece value : List ℕ) → IsValue piece value → string_value piece ≡ Some value
unfolding string_value
IsValue-read piece value is = let (string, same) = value_same piece value is in rw (is_string-from piece string) (ap Some (sym same))

pub IsValue-from : (piece value : List ℕ) → string_value piece ≡ Some value → IsValue piece value
unfolding string_value
IsValue-from piece value e = (decoded piece value (grind (arith, nat_tests, e)) (grind (arith, nat_tests, e))).0

-- ---- a hexadecimal string whose digits stand in pairs, and the number that they write
-- what the digits between the brackets answer
abbrev pub Answers : List ℕ → Option (ℕ × ℕ) → Type 0
Answers digits found = MatchOption found (ArePairs digits → ⊥) (λ first. ArePairs digits × (first.0 ≡ length (hex_value digits)) × (first.1 ≡ number_from_digits 256 (hex_value digits)))

pub plain_value : (raw : List ℕ) (found : Option (ℕ × ℕ)) → IsHexString raw → Answers (inside raw) found
    → IfSome found (λ first. (value : List ℕ) × IsOnlyValue raw value × AllByRecursion (λ b. b < 2 ^ 8) value × (first.0 ≡ length value) × (first.1 ≡ number_from_digits 256 value))
plain_value raw None hex is = tt
plain_value raw (Some first) hex is =
    let (all, even, some, few) = is.0 in
    (hex_value (inside raw), record { holds = inl (hex, refl); alone = λ other other_is. one_value raw other _ other_is (inl (hex, refl)) }, (paired (inside raw) all even).2, is.1, is.2)

pub plain_is : (raw : List ℕ) (found : Option (ℕ × ℕ)) → IsHexString raw → Answers (inside raw) found → IsTrue (is_some found) ↔ IsPlain raw
plain_is raw None hex is = (λ some. absurd (false≢true some), λ plain. absurd (is plain.1))
plain_is raw (Some first) hex is = (λ some. (hex, is.0), λ plain. refl)
