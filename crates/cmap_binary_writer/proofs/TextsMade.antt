-- Codes with their texts that are taken segment by segment.
use Rattle.std.proofs.Common.{◌≡◌, ℕ, zero, suc, ◌+◌, ◌-◌, ◌^◌, ◌<◌, ◌≤◌, List, inl, inr, [], ◌∷◌, Option, Some, None, length, drop, get_or, map, take, refl, ap, ◌∙◌, sym, subst, arith}
use Rattle.std.specs.List.{All}
use Rattle.std.proofs.lemmas.Bool.{cases_lt}
use Rattle.std.proofs.lemmas.List.{drop-map, length-take-le, take-map}
use Rattle.std.proofs.lemmas.List.Elements.{All-cons, All-drop, All-head, All-nil, All-tail, All-take}
use Rattle.cmap_values.specs.DeclarationsSeen.{bf_entry_seen, bf_range_span}
use Rattle.cmap_values.specs.Files.{BfEntry}
use Rattle.cmap_values.specs.UnitsSeen.{units_seen}
use Rattle.cmap_values.specs.declared.declarations.BfRange.{BfRange}
use Rattle.cmap_binary.specs.BinaryEntries.{Shape, ranges, singles}
use Rattle.cmap_binary.specs.BinaryFiles.{Kind, texts}
use Rattle.cmap_binary_writer.specs.Held.{AreInOrder, AreShaped}
use Rattle.cmap_binary_writer.specs.Pieces.{CanBeSplitText, IsShortText}
use Rattle.cmap_binary_writer.specs.TextParts.{IsDecidedText}
use Rattle.cmap_binary_writer.specs.Texts.{AreHeldTexts, BeginsWithForm, FollowsText, HasForm, HasUnits, IsNumberOf}
use Rattle.cmap_binary_writer.proofs.SegmentsMade.{get_or_same}

-- ---- a type of segments has one form
shape_in : Option Kind → Shape
shape_in (Some (texts shape fixed)) = shape
shape_in kind = singles

fixed_in : Option Kind → Option ℕ
fixed_in (Some (texts shape fixed)) = fixed
fixed_in kind = None

pub one_form : (shape other : Shape) (fixed more : Option ℕ) (number : ℕ) (e : BfRange) → IsNumberOf shape fixed number → IsNumberOf other more number → HasForm other more e → HasForm shape fixed e
unfolding fixed_in shape_in
one_form shape other fixed more number e first second form =
    let same = sym second ∙ first in
    subst (λ s. HasForm s fixed e) (ap shape_in same) (subst (λ n. HasForm other n e) (ap fixed_in same) form)

-- ---- the type of ranges that fix a number of units
pub range_number : (n : ℕ) → 1 ≤ n → n ≤ 2 → IsNumberOf ranges (Some n) (20 + n)
range_number zero some few = absurd (omega arith)
range_number (suc zero) some few = refl
range_number (suc (suc zero)) some few = refl
range_number (suc (suc (suc n))) some few = absurd (omega arith)

-- the type of single codes that fix a number of units
pub single_number : (n : ℕ) → 1 ≤ n → n ≤ 4 → IsNumberOf singles (Some n) (16 + n)
single_number zero some few = absurd (omega arith)
single_number (suc zero) some few = refl
single_number (suc (suc zero)) some few = refl
single_number (suc (suc (suc zero))) some few = refl
single_number (suc (suc (suc (suc zero)))) some few = refl
single_number (suc (suc (suc (suc (suc n))))) some few = absurd (omega arith)

-- ---- short entries
pub short_units : (xs : List BfRange) (i : ℕ) (d : BfRange) → i < length xs → All IsShortText (map bf_entry_seen xs) → length (units_seen (get_or xs i d).units) < 2 ^ 8
short_units [] i d within short = absurd (omega arith)
short_units (x ∷ xs) zero d within short = (All-head IsShortText (bf_entry_seen x) (map bf_entry_seen xs) short).0.2
short_units (x ∷ xs) (suc i) d within short = short_units xs i d (omega arith) (All-tail IsShortText (bf_entry_seen x) (map bf_entry_seen xs) short)

short_front : (count : ℕ) (xs : List BfRange) → All IsShortText (map bf_entry_seen xs) → All IsShortText (map bf_entry_seen (take count xs))
short_front count xs short = subst (All IsShortText) (take-map bf_entry_seen count xs) (All-take IsShortText count (map bf_entry_seen xs) short)

pub short_back : (count : ℕ) (xs : List BfRange) → All IsShortText (map bf_entry_seen xs) → All IsShortText (map bf_entry_seen (drop count xs))
short_back count xs short = subst (All IsShortText) (drop-map bf_entry_seen count xs) (All-drop IsShortText count (map bf_entry_seen xs) short)

-- ---- the entries from the second one on follow those before
abbrev pub FollowTexts : Shape → Option ℕ → List BfRange → ℕ → Type 0
FollowTexts shape fixed xs count = (k : ℕ) (d : BfRange) → 1 ≤ k → k < count → k < length xs → FollowsText shape fixed (get_or xs (k - 1) d) (get_or xs k d)

form_at : (shape : Shape) (fixed : Option ℕ) (xs : List BfRange) (count k : ℕ) (d : BfRange) → BeginsWithForm shape fixed xs → FollowTexts shape fixed xs count → k < count → k < length xs → HasForm shape fixed (get_or xs k d)
form_at shape fixed xs count zero d first later h w = first.first d
form_at shape fixed xs count (suc k) d first later h w = (later (suc k) d (omega arith) h w).form

-- each of the first ones has this form
abbrev HaveForm : Shape → Option ℕ → List BfRange → ℕ → Type 0
HaveForm shape fixed xs n = (k : ℕ) (d : BfRange) → k < n → k < length xs → HasForm shape fixed (get_or xs k d)

in_order : (n base : ℕ) (xs : List BfRange) → All IsShortText (map bf_entry_seen xs) → ((d : BfRange) → 0 < length xs → base ≤ (get_or xs 0 d).range.start) → ((k : ℕ) (d : BfRange) → suc k < n → suc k < length xs → (get_or xs k d).range.end < (get_or xs (suc k) d).range.start) → AreInOrder base (map bf_range_span (take n xs))
in_order zero base xs short first later = tt
in_order (suc n) base [] short first later = tt
in_order (suc zero) base (x ∷ xs) short first later = let here = All-head IsShortText (bf_entry_seen x) (map bf_entry_seen xs) short in (first x (omega arith), here.0.0, here.0.1, tt)
in_order (suc (suc n)) base (x ∷ xs) short first later =
    let here = All-head IsShortText (bf_entry_seen x) (map bf_entry_seen xs) short in (
      first x (omega arith),
      here.0.0,
      here.0.1,
      in_order (suc n) (x.range.end + 1) xs (All-tail IsShortText (bf_entry_seen x) (map bf_entry_seen xs) short) (λ d filled. omega (arith, later 0 d (omega arith) (omega arith))) (λ k d h w. later (suc k) d (omega arith) (omega arith)),
    )

shaped : (shape : Shape) (fixed : Option ℕ) (n : ℕ) (xs : List BfRange) → All IsShortText (map bf_entry_seen xs) → HaveForm shape fixed xs n → AreShaped shape (map bf_range_span (take n xs))
shaped shape fixed zero xs short each = tt
shaped shape fixed (suc n) [] short each = tt
shaped shape fixed (suc n) (x ∷ xs) short each =
    let here = All-head IsShortText (bf_entry_seen x) (map bf_entry_seen xs) short in
    ((each 0 x (omega arith) (omega arith)).shaped here.0.0, shaped shape fixed n xs (All-tail IsShortText (bf_entry_seen x) (map bf_entry_seen xs) short) (λ k d h w. each (suc k) d (omega arith) (omega arith)))

counted : (shape : Shape) (fixed : Option ℕ) (n : ℕ) (xs : List BfRange) → HaveForm shape fixed xs n → All (HasUnits fixed) (take n xs)
counted shape fixed zero xs each = All-nil (HasUnits fixed)
counted shape fixed (suc n) [] each = All-nil (HasUnits fixed)
counted shape fixed (suc n) (x ∷ xs) each = All-cons (HasUnits fixed) x (take n xs) ((each 0 x (omega arith) (omega arith)).counted) (counted shape fixed n xs (λ k d h w. each (suc k) d (omega arith) (omega arith)))

pub held_texts : (shape : Shape) (fixed : Option ℕ) (count : ℕ) (xs : List BfRange) → count ≤ 65535 → count ≤ length xs → All IsShortText (map bf_entry_seen xs) → BeginsWithForm shape fixed xs → FollowTexts shape fixed xs count → AreHeldTexts shape fixed (take count xs)
held_texts shape fixed count xs few within short first later =
    let forms : HaveForm shape fixed xs count = λ k d h w. form_at shape fixed xs count k d first later h w in
    record {
      order = in_order count 0 xs short (λ d filled. omega arith) (λ k d h w. let e : suc k - 1 ≡ k = omega arith in rw e at ((later (suc k) d (omega arith) h w).after));
      shaped = shaped shape fixed count xs short forms;
      counted = counted shape fixed count xs forms;
      short = short_front count xs short;
      few = omega (arith, few, length-take-le count xs within);
    }

-- an entry that follows the last one is one more
pub follow_texts : (shape : Shape) (fixed : Option ℕ) (xs : List BfRange) (count : ℕ) (b e : BfRange) → count < length xs → b ≡ get_or xs (count - 1) b → e ≡ get_or xs count e → FollowsText shape fixed b e → FollowTexts shape fixed xs count → FollowTexts shape fixed xs (count + 1)
follow_texts shape fixed xs count b e inside b_is e_is here before k d one below within = elim (cases_lt k count) [
  | inl earlier ↦ before k d one earlier within
  | inr last ↦
      let at : count ≡ k = omega (arith, below, last) in
      let at_e = get_or_same (λ x. FollowsText shape fixed b x) xs count e d inside (subst (λ x. FollowsText shape fixed b x) e_is here) in
      let both : FollowsText shape fixed (get_or xs (count - 1) d) (get_or xs count d) = get_or_same (λ x. FollowsText shape fixed x (get_or xs count d)) xs (count - 1) b d (omega (arith, inside)) (subst (λ x. FollowsText shape fixed x (get_or xs count d)) b_is at_e) in
      rw at at both
]

-- ranges that can be split
pub can_split : (es : List BfEntry) → All IsDecidedText es → All (λ e. length e.units < 2 ^ 8) es → All CanBeSplitText es
can_split es decided counted k d within = let e = decided k d within in (e.0, e.1, counted k d within, e.3)
