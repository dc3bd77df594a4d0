-- The codes of characters in the encoding forms of Unicode.
use Rattle.std.proofs.Common.{◌≡◌, ℕ, ◌+◌, ◌-◌, ◌/◌, ◌%◌, ◌^◌, ◌<◌, ◌≤◌, ◌⊎◌, Bool, true, false, Some, None, refl, sym, ap, ◌∙◌, subst, inl, inr, arith}
use Rattle.std.specs.Prelude.{nat_lt, if◌then◌else◌}
use Rattle.std.proofs.lemmas.Bool.{cases_lt}
use Rattle.std.proofs.lemmas.Bool.Decides.{nat_tests}
use Rattle.cmap_values.specs.CodeLengths.{length_of}
use Rattle.cmap_values.specs.declared.code_length.CodeLength.TheVariants.{One, Two, Three, Four}
use Rattle.cmap_encode.specs.Forms.{HaveCodes, code_in, code_with, four_above, is_scalar, last_with, pair_of, scalar_code, three_above, two_above, utf16_code, utf8_code, with_last}
use Rattle.cmap_encode.specs.Ranks.{code_after}
use Rattle.cmap_encode.specs.declared.code.Code.{Code}
use Rattle.cmap_encode.specs.declared.forms.Form.{Form}
use Rattle.cmap_encode.specs.declared.forms.Form.TheVariants.{Utf8, Utf16, Utf32}

-- ---- one character
low_scalar : (c : ℕ) → c < 0xD800 → is_scalar c ≡ true
low_scalar c low = grind (arith, nat_tests)

high_scalar : (c : ℕ) → 0xE000 ≤ c → c < 0x110000 → is_scalar c ≡ true
high_scalar c high low = grind (arith, nat_tests)

surrogate : (c : ℕ) → 0xD800 ≤ c → c < 0xE000 → is_scalar c ≡ false
surrogate c high low = grind (arith, nat_tests)

below : (n limit : ℕ) → n < limit → nat_lt n limit ≡ true
below n limit lt = grind (arith, nat_tests)

not_below : (n limit : ℕ) → limit ≤ n → nat_lt n limit ≡ false
not_below n limit le = grind (arith, nat_tests)

if_true : {A : Type 0} (b : Bool) (x y : A) → b ≡ true → (if b then x else y) ≡ x
if_true b x y is = ap (λ b. if b then x else y) is

if_false : {A : Type 0} (b : Bool) (x y : A) → b ≡ false → (if b then x else y) ≡ y
if_false b x y is = ap (λ b. if b then x else y) is

in_form : (form : Form) (c : ℕ) → is_scalar c ≡ true → code_in form c ≡ Some (scalar_code form c)
in_form form c is = if_true (is_scalar c) (Some (scalar_code form c)) None is

one_byte : (c : ℕ) → c < 0x80 → utf8_code c ≡ code_with One c
one_byte c low = if_true (nat_lt c 0x80) _ _ (below c 0x80 low)

two_bytes : (c : ℕ) → 0x80 ≤ c → c < 0x800 → utf8_code c ≡ code_with Two (with_last two_above c)
two_bytes c high low = if_false (nat_lt c 0x80) _ _ (not_below c 0x80 high) ∙ if_true (nat_lt c 0x800) _ _ (below c 0x800 low)

three_bytes : (c : ℕ) → 0x800 ≤ c → c < 0x10000 → utf8_code c ≡ code_with Three (with_last three_above c)
three_bytes c high low = if_false (nat_lt c 0x80) _ _ (not_below c 0x80 (omega arith)) ∙ if_false (nat_lt c 0x800) _ _ (not_below c 0x800 high) ∙ if_true (nat_lt c 0x10000) _ _ (below c 0x10000 low)

four_bytes : (c : ℕ) → 0x10000 ≤ c → utf8_code c ≡ code_with Four (with_last four_above c)
four_bytes c high = if_false (nat_lt c 0x80) _ _ (not_below c 0x80 (omega arith)) ∙ if_false (nat_lt c 0x800) _ _ (not_below c 0x800 (omega arith)) ∙ if_false (nat_lt c 0x10000) _ _ (not_below c 0x10000 high)

one_unit : (c : ℕ) → c < 0x10000 → utf16_code c ≡ code_with Two c
one_unit c low = if_true (nat_lt c 0x10000) _ _ (below c 0x10000 low)

two_units : (c : ℕ) → 0x10000 ≤ c → utf16_code c ≡ code_with Four (pair_of (c - 0x10000))
two_units c high = if_false (nat_lt c 0x10000) _ _ (not_below c 0x10000 high)

-- ---- codes count on
last_counts : (above : ℕ → ℕ) (first count : ℕ) → first % 0x40 + count < 0x40 → with_last above (first + count) ≡ with_last above first + count
last_counts above first count few =
    let same : (first + count) / 0x40 ≡ first / 0x40 = omega arith in
    let more : (first + count) % 0x40 ≡ first % 0x40 + count = omega arith in
    omega (arith, ap above same, more)

pair_counts : (first count : ℕ) → first % 0x400 + count < 0x400 → pair_of (first + count) ≡ pair_of first + count
pair_counts first count few =
    let same : (first + count) / 0x400 ≡ first / 0x400 = omega arith in
    let more : (first + count) % 0x400 ≡ first % 0x400 + count = omega arith in
    omega (arith, same, more)

abbrev CountsOn : Form → ℕ → ℕ → Type 0
CountsOn form first count = scalar_code form (first + count) ≡ code_after count (scalar_code form first)

by_bytes : (first count : ℕ) → first + count ≤ last_with Utf8 first → CountsOn Utf8 first count
by_bytes first count within =
    elim (cases_lt first 0x80) [
      | inl one ↦
          let few : first + count ≤ 0x7F = subst (λ n. first + count ≤ n) (if_true (nat_lt first 0x80) _ _ (below first 0x80 one)) within in
          one_byte (first + count) (omega arith) ∙ sym (ap (code_after count) (one_byte first one))
      | inr more ↦
          let few : first + count ≤ first - first % 0x40 + 0x3F = subst (λ n. first + count ≤ n) (if_false (nat_lt first 0x80) _ _ (not_below first 0x80 more)) within in
          let last : first % 0x40 + count < 0x40 = omega arith in
          elim (cases_lt first 0x800) [
            | inl two ↦ two_bytes (first + count) (omega arith) (omega arith) ∙ ap (code_with Two) (last_counts two_above first count last) ∙ sym (ap (code_after count) (two_bytes first more two))
            | inr further ↦
                elim (cases_lt first 0x10000) [
                  | inl three ↦ three_bytes (first + count) (omega arith) (omega arith) ∙ ap (code_with Three) (last_counts three_above first count last) ∙ sym (ap (code_after count) (three_bytes first further three))
                  | inr four ↦ four_bytes (first + count) (omega arith) ∙ ap (code_with Four) (last_counts four_above first count last) ∙ sym (ap (code_after count) (four_bytes first four))
                ]
          ]
    ]

by_units : (first count : ℕ) → first + count ≤ last_with Utf16 first → CountsOn Utf16 first count
by_units first count within =
    elim (cases_lt first 0xE000) [
      | inl low ↦
          let few : first + count ≤ 0xD7FF = subst (λ n. first + count ≤ n) (if_true (nat_lt first 0xE000) _ _ (below first 0xE000 low)) within in
          one_unit (first + count) (omega arith) ∙ sym (ap (code_after count) (one_unit first (omega arith)))
      | inr high ↦
          elim (cases_lt first 0x10000) [
            | inl unit ↦
                let few : first + count ≤ 0xFFFF = subst (λ n. first + count ≤ n) (if_false (nat_lt first 0xE000) _ _ (not_below first 0xE000 high) ∙ if_true (nat_lt first 0x10000) _ _ (below first 0x10000 unit)) within in
                one_unit (first + count) (omega arith) ∙ sym (ap (code_after count) (one_unit first unit))
            | inr pair ↦
                let few : first + count ≤ first - first % 0x400 + 0x3FF = subst (λ n. first + count ≤ n) (if_false (nat_lt first 0xE000) _ _ (not_below first 0xE000 high) ∙ if_false (nat_lt first 0x10000) _ _ (not_below first 0x10000 pair)) within in
                let offset : first + count - 0x10000 ≡ first - 0x10000 + count = omega arith in
                two_units (first + count) (omega arith) ∙ ap (λ d. code_with Four (pair_of d)) offset ∙ ap (code_with Four) (pair_counts (first - 0x10000) count (omega arith)) ∙ sym (ap (code_after count) (two_units first pair))
          ]
    ]

counts_on : (form : Form) (first count : ℕ) → first + count ≤ last_with form first → CountsOn form first count
counts_on Utf8 first count within = by_bytes first count within
counts_on Utf16 first count within = by_units first count within
counts_on Utf32 first count within = refl

-- ---- codes fit
abbrev Fits : Code → Type 0
Fits code = code.number < 256 ^ length_of code.len

scalar_fits : (form : Form) (c : ℕ) → c < 0x110000 → Fits (scalar_code form c)
scalar_fits Utf8 c few =
    elim (cases_lt c 0x80) [
      | inl one ↦ subst Fits (sym (one_byte c one)) (omega arith)
      | inr more ↦
          elim (cases_lt c 0x800) [
            | inl two ↦ subst Fits (sym (two_bytes c more two)) (omega arith)
            | inr further ↦
                elim (cases_lt c 0x10000) [
                  | inl three ↦ subst Fits (sym (three_bytes c further three)) (omega arith)
                  | inr four ↦ subst Fits (sym (four_bytes c four)) (omega arith)
                ]
          ]
    ]
scalar_fits Utf16 c few =
    elim (cases_lt c 0x10000) [
      | inl unit ↦ subst Fits (sym (one_unit c unit)) (omega arith)
      | inr pair ↦ subst Fits (sym (two_units c pair)) (omega arith)
    ]
scalar_fits Utf32 c few = omega arith

-- ---- characters in a row
pub last_scalar : (form : Form) (first : ℕ) → first ≤ 0x10FFFF → (first < 0xD800) ⊎ (0xE000 ≤ first) → (first ≤ last_with form first) × (last_with form first ≤ 0x10FFFF) × ((first < 0xD800 → last_with form first < 0xD800))
last_scalar Utf8 first within scalar =
    elim (cases_lt first 0x80) [
      | inl one ↦ let last = if_true (nat_lt first 0x80) 0x7F (first - first % 0x40 + 0x3F) (below first 0x80 one) in (omega (arith, last), omega (arith, last), λ low. omega (arith, last))
      | inr more ↦ let last = if_false (nat_lt first 0x80) 0x7F (first - first % 0x40 + 0x3F) (not_below first 0x80 more) in (omega (arith, last), omega (arith, last), λ low. omega (arith, last))
    ]
last_scalar Utf16 first within scalar =
    elim (cases_lt first 0xE000) [
      | inl low ↦
          let last : last_with Utf16 first ≡ 0xD7FF = if_true (nat_lt first 0xE000) _ _ (below first 0xE000 low) in
          let less : first < 0xD800 = omega (arith, scalar) in (omega (arith, last), omega (arith, last), λ low. omega (arith, last))
      | inr high ↦
          elim (cases_lt first 0x10000) [
            | inl unit ↦ let last : last_with Utf16 first ≡ 0xFFFF = if_false (nat_lt first 0xE000) _ _ (not_below first 0xE000 high) ∙ if_true (nat_lt first 0x10000) _ _ (below first 0x10000 unit) in (omega (arith, last), omega (arith, last), λ low. absurd (omega arith))
            | inr pair ↦
                let last : last_with Utf16 first ≡ first - first % 0x400 + 0x3FF = if_false (nat_lt first 0xE000) _ _ (not_below first 0xE000 high) ∙ if_false (nat_lt first 0x10000) _ _ (not_below first 0x10000 pair) in (omega (arith, last), omega (arith, last), λ low. absurd (omega arith))
          ]
    ]
last_scalar Utf32 first within scalar =
    elim (cases_lt first 0xE000) [
      | inl low ↦
          let last : last_with Utf32 first ≡ 0xD7FF = if_true (nat_lt first 0xE000) _ _ (below first 0xE000 low) in
          let less : first < 0xD800 = omega (arith, scalar) in (omega (arith, last), omega (arith, last), λ low. omega (arith, last))
      | inr high ↦ let last : last_with Utf32 first ≡ 0x10FFFF = if_false (nat_lt first 0xE000) _ _ (not_below first 0xE000 high) in (omega (arith, last), omega (arith, last), λ low. absurd (omega arith))
    ]

pub row_fits : (form : Form) (first : ℕ) → first ≤ 0x10FFFF → (first < 0xD800) ⊎ (0xE000 ≤ first) → (scalar_code form first).number + (last_with form first - first) < 256 ^ length_of (scalar_code form first).len
row_fits form first within scalar =
    let (some, few, low) = last_scalar form first within scalar in
    let at : first + (last_with form first - first) ≡ last_with form first = omega arith in
    subst Fits (ap (scalar_code form) (sym at) ∙ counts_on form first (last_with form first - first) (omega arith)) (scalar_fits form (last_with form first) (omega arith))

pub scalars_count : (form : Form) (first : ℕ) → first ≤ 0x10FFFF → (first < 0xD800) ⊎ (0xE000 ≤ first) → HaveCodes form first (last_with form first) (Some (scalar_code form first))
scalars_count form first within scalar = λ count to.
    let (some, few, low) = last_scalar form first within scalar in
    let is : is_scalar (first + count) ≡ true =
    elim scalar [ inl less ↦ let still = low less in low_scalar (first + count) (omega arith) | inr more ↦ high_scalar (first + count) (omega arith) (omega arith) ] in
    in_form form (first + count) is ∙ ap Some (counts_on form first count to)

pub surrogates_none : (form : Form) (first : ℕ) → 0xD800 ≤ first → HaveCodes form first 0xDFFF None
surrogates_none form first from = λ count to. if_false (is_scalar (first + count)) (Some (scalar_code form (first + count))) None (surrogate (first + count) (omega arith) (omega arith))

pub none_above : (form : Form) (c : ℕ) → 0x110000 ≤ c → code_in form c ≡ None
none_above form c high = if_false (is_scalar c) (Some (scalar_code form c)) None (grind (arith, nat_tests))
