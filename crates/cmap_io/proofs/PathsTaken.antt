-- The bytes of a path, taken from its text one by one.
use Rattle.std.proofs.Common.{◌≡◌, ℕ, ◌<◌, Bool, false, if◌then◌else◌, List, [], ◌∷◌, ◌++◌, None, Some, inl, inr, ap, sym, ◌∙◌, append-nil, append_assoc, arith}
use Rattle.std.specs.Prelude.{◌==◌, IsUtf8, not}
use Rattle.std.specs.List.{list_any}
use Rattle.std.specs.Option.{option_map_or}
use Rattle.std.proofs.lemmas.List.Elements.{All-tail}
use Rattle.cmap_io.proofs.Absent.{absent}
use Rattle.cmap_io.specs.PathTexts.{AreBytes, AreSpelled, HasNoZero, IsTextOf, TakesFirst, marked}

-- the bytes that are taken already, and those that are left
abbrev pub IsTakenOf : List ℕ → List ℕ → List ℕ → Type 0
IsTakenOf taken text bytes = (left : List ℕ) × (taken ++ left ≡ bytes) × AreBytes left × AreSpelled left text

pub none_taken : (taken text rest bytes : List ℕ) → taken ≡ [] → rest ≡ text → AreBytes bytes → IsTextOf bytes text → IsTakenOf taken rest bytes
none_taken taken text rest bytes none is are (inl plain) = (bytes, ap (λ front. front ++ bytes) none, are, inl (plain.1, is ∙ plain.2))
none_taken taken text rest bytes none is are (inr other) = (bytes, ap (λ front. front ++ bytes) none, are, inr (is ∙ other.1))

-- one more
pub one_taken : (taken now text after bytes : List ℕ) (byte : ℕ) → ((left : List ℕ) → AreBytes left → AreSpelled left text → TakesFirst left (Some byte) after) → now ≡ taken ++ byte ∷ [] → IsTakenOf taken text bytes → IsTakenOf now after bytes
one_taken taken now text after bytes byte takes is ([], all, are, spelled) = absurd (omega (arith, ap {B = ℕ} (λ some. option_map_or (λ it. 1) some 0) (takes [] are spelled)))
one_taken taken now text after bytes byte takes is (first ∷ left, all, are, spelled) =
    let step = takes (first ∷ left) are spelled in (
      left,
      ap (λ front. front ++ left) is ∙ append_assoc taken (byte ∷ []) left ∙ ap (λ it. taken ++ it) (ap (λ some. option_map_or (λ it. it) some 0 ∷ left) step.0) ∙ all,
      All-tail (λ it. it < 0x100) first left are,
      step.1,
    )

-- all
pub all_taken : (taken text after bytes : List ℕ) → ((left : List ℕ) → AreBytes left → AreSpelled left text → TakesFirst left None after) → IsTakenOf taken text bytes → taken ≡ bytes
all_taken taken text after bytes takes ([], all, are, spelled) = sym (append-nil taken) ∙ all
all_taken taken text after bytes takes (first ∷ left, all, are, spelled) = absurd (omega (arith, ap {B = ℕ} (λ some. option_map_or (λ it. 1) some 0) (takes (first ∷ left) are spelled).0))

-- a path that isn't its text
pub is_marked : (path text : List ℕ) → ¬ (IsUtf8 path × HasNoZero path) → text ≡ marked path → IsTextOf path text
is_marked path text other is = inr (other, is)

-- one that is a text has a zero byte where one is found
pub no_plain_path : (path text : List ℕ) (is_plain : Bool) → text ≡ path → is_plain ≡ not (list_any (λ byte. byte == 0) text) → is_plain ≡ false → ¬ (IsUtf8 path × HasNoZero path)
no_plain_path path text is_plain is plain not_plain both =
    let none = ap (λ bytes. list_any (λ byte. byte == 0) bytes) is ∙ (absent 0 path).1 both.1 in
    let one_is_zero = sym (plain ∙ ap not none) ∙ not_plain in
    absurd (omega (arith, ap {B = ℕ} (λ (bit : Bool). if bit then 1 else 0) one_is_zero))
