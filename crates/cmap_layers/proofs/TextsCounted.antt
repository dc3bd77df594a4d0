-- Texts count on within a block of 1024 units, by which surrogates lie.
use Rattle.std.proofs.Common.{◌≡◌, ℕ, Bool, ◌+◌, ◌-◌, ◌%◌, ◌<◌, ◌≤◌, ◌^◌, true, false, ◌&&◌, List, [], ◌∷◌, ◌++◌, inl, inr, length, take, Option, Some, None, option_map, refl, ap, sym, ◌∙◌, arith}
use Rattle.std.specs.Prelude.{if◌then◌else◌, nat_lt, option_and_then, slice_get}
use Rattle.std.specs.Char.Utf16.{utf16_chars, lone_unit_char, surrogate_pair_char, is_high_surrogate, is_low_surrogate}
use Rattle.std.proofs.lemmas.Bool.{cases_Bool, cases_lt, le-ltb, lt-ltb}
use Rattle.std.proofs.lemmas.Bool.Decides.{nat_tests}
use Rattle.cmap_tokens.specs.Texts.{all_some, characters, only_character, text_at}
use Rattle.cmap_layers.specs.CodeStretches.{counted_on}

-- ---- units that end so spell some character, or nothing
not_empty : (c : ℕ) (o : Option (List ℕ)) → option_map (λ cs. c ∷ cs) o ≡ Some [] → ⊥
not_empty c None e = cc
not_empty c (Some cs) e = cc

first_not_empty : (o : Option ℕ) (found : List (Option ℕ)) → all_some (o ∷ found) ≡ Some [] → ⊥
first_not_empty None found e = cc
first_not_empty (Some c) found e = not_empty c (all_some found) e

some_characters : (u : ℕ) (us : List ℕ) → characters (u ∷ us) ≡ Some [] → ⊥
unfolding utf16_chars
some_characters u [] e = first_not_empty (lone_unit_char u) [] e
some_characters u (v ∷ us) e =
    elim (cases_Bool (is_high_surrogate u && is_low_surrogate v)) [
      | inl pair ↦ not_empty (surrogate_pair_char u v) (characters us) (rw pair at e)
      | inr lone ↦ first_not_empty (lone_unit_char u) (utf16_chars (v ∷ us)) (rw lone at e)
    ]

pub some_ended : (front : List ℕ) (v : ℕ) → characters (front ++ v ∷ []) ≡ Some [] → ⊥
some_ended [] v = some_characters v []
some_ended (u ∷ front) v = some_characters u (front ++ v ∷ [])

-- ---- one more character in front
in_front : (c : ℕ) (o : Option (List ℕ)) (k : ℕ) → (o ≡ Some [] → ⊥) → option_map (λ cs. c ∷ cs) (option_map (λ cs. counted_on cs k) o) ≡ option_map (λ cs. counted_on cs k) (option_map (λ cs. c ∷ cs) o)
in_front c None k some = refl
in_front c (Some []) k some = absurd (some refl)
in_front c (Some (d ∷ cs)) k some = refl

lone_in_front : (o : Option ℕ) (found after : List (Option ℕ)) (k : ℕ) → (all_some found ≡ Some [] → ⊥) → all_some after ≡ option_map (λ cs. counted_on cs k) (all_some found) → all_some (o ∷ after) ≡ option_map (λ cs. counted_on cs k) (all_some (o ∷ found))
lone_in_front None found after k some is = refl
lone_in_front (Some c) found after k some is = ap (option_map (λ cs. c ∷ cs)) is ∙ in_front c (all_some found) k some

-- ---- the last character
alone_counted : (o later : Option ℕ) (k : ℕ) → later ≡ option_map (λ c. c + k) o → all_some (later ∷ []) ≡ option_map (λ cs. counted_on cs k) (all_some (o ∷ []))
alone_counted None later k is = ap (λ l. all_some (l ∷ [])) is
alone_counted (Some c) later k is = ap (λ l. all_some (l ∷ [])) is

lone_counts_on : (v k : ℕ) → v % 1024 + k < 1024 → lone_unit_char (v + k) ≡ option_map (λ c. c + k) (lone_unit_char v)
lone_counts_on v k block = grind (arith, nat_tests, block)

one_counted : (v k : ℕ) → v % 1024 + k < 1024 → characters ((v + k) ∷ []) ≡ option_map (λ cs. counted_on cs k) (characters (v ∷ []))
unfolding utf16_chars
one_counted v k block = alone_counted (lone_unit_char v) (lone_unit_char (v + k)) k (lone_counts_on v k block)

low_same : (w k : ℕ) → w % 1024 + k < 1024 → is_low_surrogate (w + k) ≡ is_low_surrogate w
low_same w k block = grind (arith, nat_tests, block)

pair_on : (h w k : ℕ) → is_low_surrogate w ≡ true → surrogate_pair_char h (w + k) ≡ surrogate_pair_char h w + k
pair_on h w k low = grind (arith, nat_tests, low)

low_of : (a b : Bool) → a && b ≡ true → b ≡ true
low_of true b is = is
low_of false b is = cc

two_counted : (h w k : ℕ) → w % 1024 + k < 1024 → characters (h ∷ (w + k) ∷ []) ≡ option_map (λ cs. counted_on cs k) (characters (h ∷ w ∷ []))
unfolding utf16_chars
two_counted h w k block =
    elim (cases_Bool (is_high_surrogate h && is_low_surrogate w)) [
      | inl pair ↦ rw (low_same w k block, pair) (ap (λ c. Some (c ∷ [])) (pair_on h w k (low_of (is_high_surrogate h) (is_low_surrogate w) pair)))
      | inr lone ↦ rw (low_same w k block, lone) (lone_in_front (lone_unit_char h) (utf16_chars (w ∷ [])) (utf16_chars ((w + k) ∷ [])) k (some_characters w []) (one_counted w k block))
    ]

counted : (front : List ℕ) (value k : ℕ) → value % 1024 + k < 1024 → characters (front ++ (value + k) ∷ []) ≡ option_map (λ cs. counted_on cs k) (characters (front ++ value ∷ []))
unfolding utf16_chars
counted [] value k block = one_counted value k block
counted (h ∷ []) value k block = two_counted h value k block
counted (a ∷ b ∷ front) value k block =
    elim (cases_Bool (is_high_surrogate a && is_low_surrogate b)) [
      | inl pair ↦ rw pair (ap (option_map (λ cs. surrogate_pair_char a b ∷ cs)) (counted front value k block) ∙ in_front (surrogate_pair_char a b) (characters (front ++ value ∷ [])) k (some_ended front value))
      | inr lone ↦ rw lone (lone_in_front (lone_unit_char a) (utf16_chars (b ∷ front ++ value ∷ [])) (utf16_chars (b ∷ front ++ (value + k) ∷ [])) k (some_ended (b ∷ front) value) (counted (b ∷ front) value k block))
    ]

-- ---- the text at an offset
either : (b : Bool) (units : List ℕ) → option_and_then characters (if b then Some units else None) ≡ (if b then characters units else None)
either true units = refl
either false units = refl

at_offset : (units : List ℕ) (last offset : ℕ) → slice_get units (length units - 1) ≡ Some last → text_at units offset ≡ (if nat_lt (last + offset) (2 ^ 16) then characters (take (length units - 1) units ++ (last + offset) ∷ []) else None)
at_offset units last offset is = rw is (either (nat_lt (last + offset) (2 ^ 16)) (take (length units - 1) units ++ (last + offset) ∷ []))

pub counted_at : (units : List ℕ) (last offset k : ℕ) → slice_get units (length units - 1) ≡ Some last → (last + offset < 2 ^ 16 → (last + offset) % 1024 + k < 1024)
    → text_at units (offset + k) ≡ option_map (λ cs. counted_on cs k) (text_at units offset)
counted_at units last offset k is block =
    let front = take (length units - 1) units in
    let sum : last + (offset + k) ≡ last + offset + k = omega arith in
    at_offset units last (offset + k) is ∙ ap (λ n. if nat_lt n (2 ^ 16) then characters (front ++ n ∷ []) else None) sum
    ∙ elim (cases_lt (last + offset) (2 ^ 16)) [
      | inl below ↦
          let within : last + offset + k < 2 ^ 16 = omega (arith, block below, below) in
          rw (at_offset units last offset is, lt-ltb (last + offset) (2 ^ 16) below, lt-ltb (last + offset + k) (2 ^ 16) within) (counted front (last + offset) k (block below))
      | inr past ↦
          let later : 2 ^ 16 ≤ last + offset + k = omega (arith, past) in
          rw (at_offset units last offset is, le-ltb (last + offset) (2 ^ 16) past, le-ltb (last + offset + k) (2 ^ 16) later) refl
    ]

-- ---- texts that are just one character
only_counted : (o : Option (List ℕ)) (k : ℕ) → only_character (option_map (λ cs. counted_on cs k) o) ≡ option_map (λ c. c + k) (only_character o)
only_counted None k = refl
only_counted (Some []) k = refl
only_counted (Some (c ∷ [])) k = refl
only_counted (Some (c ∷ d ∷ [])) k = refl
only_counted (Some (c ∷ d ∷ e ∷ cs)) k = refl

-- the characters of codes from a first one on, by their offsets from the start of the declaration
pub counted_from : (units : List ℕ) (start first code more : ℕ) (o : Option ℕ) → start ≤ first → first ≤ code → code ≤ first + more → o ≡ only_character (text_at units (first - start))
    → ((k : ℕ) → k ≤ more → text_at units (first - start + k) ≡ option_map (λ cs. counted_on cs k) (text_at units (first - start)))
    → only_character (text_at units (code - start)) ≡ option_map (λ c. c + (code - first)) o
counted_from units start first code more o start_le le lt is on =
    let at : code - start ≡ first - start + (code - first) = omega arith in
    ap (λ n. only_character (text_at units n)) at ∙ ap only_character (on (code - first) (omega arith)) ∙ only_counted (text_at units (first - start)) (code - first)
    ∙ ap (option_map (λ c. c + (code - first))) (sym is)
