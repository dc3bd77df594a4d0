-- Texts that stand in full segments.
use Rattle.std.proofs.Common.{◌≡◌, ℕ, zero, suc, ◌+◌, ◌-◌, ◌<◌, ◌≤◌, List, inl, inr, [], ◌∷◌, ◌++◌, Option, Some, None, length, drop, get_or, map, take, refl, ap, ◌∙◌, sym, subst, arith}
use Rattle.std.specs.Prelude.{Bool, true, false, ◌&&◌, nat_le, if◌then◌else◌}
use Rattle.std.specs.List.{All, flat_map}
use Rattle.std.proofs.lemmas.Simd.{map-map}
use Rattle.std.proofs.lemmas.Bool.{and_parts, cases_lt, leb-true}
use Rattle.std.proofs.lemmas.List.{length-take-le}
use Rattle.std.proofs.lemmas.List.Elements.{All-cons, All-head, All-nil, All-tail}
use Rattle.cmap_values.specs.DeclarationsSeen.{bf_entry_seen, bf_range_span}
use Rattle.cmap_values.specs.Files.{BfEntry, Declaration}
use Rattle.cmap_values.specs.declared.declarations.BfRange.{BfRange}
use Rattle.cmap_binary.specs.BinaryEntries.{Shape, ranges, singles}
use Rattle.cmap_binary.specs.BinaryFiles.{Kind, kind_of, texts}
use Rattle.cmap_binary_writer.specs.Arranged.{AreEnded, AreInOne, CanFollow, HoldsEntries, bf_type, most_fixed, segment_type, shape_of, text_type, units_fixed, value_of}
use Rattle.cmap_binary_writer.specs.EncodersSeen.{shape_seen}
use Rattle.cmap_binary_writer.specs.Held.{AreInOrder, AreShaped, counts_by, deltas_of}
use Rattle.cmap_binary_writer.specs.Texts.{AreHeldTexts, CanFix, destination, destinations}
use Rattle.cmap_binary_writer.specs.declared.segments.Segment.{Segment}
use Rattle.cmap_binary_writer.proofs.Arranged.{ended_here, holds}
use Rattle.cmap_binary_writer.proofs.SegmentNumbers.{text_spans}
use Rattle.cmap_binary_writer.proofs.TextsMade.{range_number, single_number}

-- ---- entries of one type
-- the first ones have this type
abbrev pub HaveType : ℕ → List BfRange → ℕ → Type 0
HaveType number xs count = (k : ℕ) (d : BfRange) → k < count → k < length xs → bf_type (bf_entry_seen (get_or xs k d)) ≡ number

pub type_first : (number : ℕ) (xs : List BfRange) → ((d : BfRange) → bf_type (bf_entry_seen (get_or xs 0 d)) ≡ number) → HaveType number xs 1
type_first number xs first zero d below within = first d
type_first number xs first (suc k) d below within = absurd (omega (arith, below))

pub type_more : (number : ℕ) (xs : List BfRange) (count : ℕ) (e : BfRange) → count < length xs → e ≡ get_or xs count e → bf_type (bf_entry_seen e) ≡ number → HaveType number xs count → HaveType number xs (count + 1)
type_more number xs count e within is typed before k d below inside = elim (cases_lt k count) [
  | inl earlier ↦ before k d earlier inside
  | inr last ↦
      let at : k ≡ count = omega (arith, below, last) in
      ap (λ n. bf_type (bf_entry_seen (get_or xs n d))) at ∙ ap (λ x. bf_type (bf_entry_seen x)) (same_within xs count d e within ∙ sym is) ∙ typed
]
  where
    same_within : (xs : List BfRange) (i : ℕ) (d e : BfRange) → i < length xs → get_or xs i d ≡ get_or xs i e
    same_within [] i d e h = absurd (omega (arith, h))
    same_within (x ∷ xs) zero d e h = refl
    same_within (x ∷ xs) (suc i) d e h = same_within xs i d e (omega (arith, h))

pub type_taken : (number : ℕ) (xs : List BfRange) (count : ℕ) → HaveType number xs count → All (λ e. bf_type e ≡ number) (map bf_entry_seen (take count xs))
type_taken number xs zero have = All-nil (λ e. bf_type e ≡ number)
type_taken number [] (suc count) have = All-nil (λ e. bf_type e ≡ number)
type_taken number (x ∷ xs) (suc count) have = All-cons (λ e. bf_type e ≡ number) (bf_entry_seen x) (map bf_entry_seen (take count xs)) (have 0 x (omega arith) (omega arith)) (type_taken number xs count (λ k d below within. have (suc k) d (omega (arith, below)) (omega (arith, within))))

-- ---- where a segment ends
abbrev pub said : BfRange → Declaration
said x = Declaration.bf (bf_entry_seen x)

-- the next entry doesn't follow
pub ended_texts : (number : ℕ) (xs : List BfRange) (count : ℕ) (b e : BfRange) → 1 ≤ count → count < length xs → b ≡ get_or xs (count - 1) b → e ≡ get_or xs count e → HaveType number xs count → (b.range.end < e.range.start → bf_type (bf_entry_seen e) ≡ number → ⊥) → AreEnded (map Declaration.bf (map bf_entry_seen (take count xs))) (map Declaration.bf (map bf_entry_seen (drop count xs)))
ended_texts number xs count b e one within b_is e_is typed never =
    let last : bf_type (bf_entry_seen b) ≡ number = ap (λ x. bf_type (bf_entry_seen x)) b_is ∙ typed (count - 1) b (omega (arith, one)) (omega (arith, within)) in
    let ended = ended_here said xs count b e one within (λ can.
    let follows = subst (λ x. CanFollow x (said e)) (ap said (sym b_is)) (subst (λ x. CanFollow (said (get_or xs (count - 1) b)) x) (ap said (sym e_is)) can) in
    never follows.after (follows.same ∙ last)) in
    subst (AreEnded (map Declaration.bf (map bf_entry_seen (take count xs)))) (sym (map-map Declaration.bf bf_entry_seen (drop count xs))) (subst (λ part. AreEnded part (map said (drop count xs))) (sym (map-map Declaration.bf bf_entry_seen (take count xs))) ended)

-- ---- entries in one segment
in_one : (number base : ℕ) (x : BfRange) (xs : List BfRange) → AreInOrder base (map bf_range_span (x ∷ xs)) → All (λ e. bf_type e ≡ number) (map bf_entry_seen (x ∷ xs)) → AreInOne (map Declaration.bf (map bf_entry_seen (x ∷ xs)))
in_one number base x [] order typed = tt
in_one number base x (y ∷ xs) (low, filled, small, order) typed =
    let later = All-tail (λ e. bf_type e ≡ number) (bf_entry_seen x) (map bf_entry_seen (y ∷ xs)) typed in (
      record {
        same = All-head (λ e. bf_type e ≡ number) (bf_entry_seen y) (map bf_entry_seen xs) later ∙ sym (All-head (λ e. bf_type e ≡ number) (bf_entry_seen x) (map bf_entry_seen (y ∷ xs)) typed);
        after = omega (arith, order.0);
        own = tt;
      },
      in_one number (x.range.end + 1) y xs order later,
    )

texts_in_one : (number : ℕ) (xs : List BfRange) → 0 < length xs → AreInOrder 0 (map bf_range_span xs) → All (λ e. bf_type e ≡ number) (map bf_entry_seen xs) → AreInOne (map Declaration.bf (map bf_entry_seen xs))
texts_in_one number [] some order typed = absurd (omega (arith, some))
texts_in_one number (x ∷ xs) some order typed = in_one number 0 x xs order typed

pub taken_texts_in_one : (shape : Shape) (fixed : Option ℕ) (number count : ℕ) (xs : List BfRange) → 1 ≤ count → count ≤ length xs → AreHeldTexts shape fixed (take count xs) → All (λ e. bf_type e ≡ number) (map bf_entry_seen (take count xs)) → AreInOne (map Declaration.bf (map bf_entry_seen (take count xs)))
taken_texts_in_one shape fixed number count xs some within held typed = texts_in_one number (take count xs) (omega (arith, some, length-take-le count xs within)) held.order typed

-- ---- what a segment holds
text_types : (number : ℕ) (es : List BfEntry) → All (λ e. bf_type e ≡ number) es → All (λ d. segment_type d ≡ number) (map Declaration.bf es)
text_types number [] typed = All-nil (λ d. segment_type d ≡ number)
text_types number (e ∷ es) typed = All-cons (λ d. segment_type d ≡ number) (Declaration.bf e) (map Declaration.bf es) (All-head (λ e. bf_type e ≡ number) e es typed) (text_types number es (All-tail (λ e. bf_type e ≡ number) e es typed))

-- the number of units that a type fixes
fixed_in : Option Kind → Option ℕ
fixed_in (Some (texts shape fixed)) = fixed
fixed_in kind = None

text_kind : (shape : Shape) (fixed : Option ℕ) → CanFix shape fixed → kind_of (text_type shape fixed) ≡ Some (texts shape fixed)
text_kind ranges None can = refl
text_kind singles None can = refl
text_kind ranges (Some n) can = range_number n can.0 can.1
text_kind singles (Some n) can = single_number n can.0 can.1

fixed_same : (shape other : Shape) (fixed more : Option ℕ) → CanFix shape fixed → CanFix other more → text_type shape fixed ≡ text_type other more → fixed ≡ more
unfolding fixed_in
fixed_same shape other fixed more can able same = ap fixed_in (sym (text_kind shape fixed can) ∙ ap kind_of same ∙ text_kind other more able)

can_fix_if : (shape : Shape) (count : ℕ) (b : Bool) → (nat_le 1 count && nat_le count (most_fixed shape)) ≡ b → CanFix shape (if b then Some count else None)
can_fix_if ranges count false is = tt
can_fix_if singles count false is = tt
can_fix_if ranges count true is = let both = and_parts (nat_le 1 count) (nat_le count 2) is in (leb-true 1 count both.0, leb-true count 2 both.1)
can_fix_if singles count true is = let both = and_parts (nat_le 1 count) (nat_le count 4) is in (leb-true 1 count both.0, leb-true count 4 both.1)

-- texts of one type are written with as many units as it fixes
pub text_values : (shape : Shape) (fixed : Option ℕ) (xs : List BfRange) → CanFix shape fixed → All (λ e. bf_type e ≡ text_type shape fixed) (map bf_entry_seen xs) → destinations fixed xs ≡ flat_map value_of (map Declaration.bf (map bf_entry_seen xs))
text_values shape fixed [] can typed = refl
text_values shape fixed (x ∷ xs) can typed =
    let e = bf_entry_seen x in
    let own = shape_of e.start e.end in
    let count = length e.units in
    let able : CanFix own (units_fixed own count) = can_fix_if own count (nat_le 1 count && nat_le count (most_fixed own)) refl in
    let same = fixed_same own shape (units_fixed own count) fixed able can (All-head (λ e. bf_type e ≡ text_type shape fixed) e (map bf_entry_seen xs) typed) in
    ap (λ f. destination f e.units ++ destinations fixed xs) (sym same) ∙ ap (λ bs. destination (units_fixed own count) e.units ++ bs) (text_values shape fixed xs can (All-tail (λ e. bf_type e ≡ text_type shape fixed) e (map bf_entry_seen xs) typed))

pub holds_texts : (segment : Segment) (fixed : Option ℕ) (xs : List BfRange) → AreHeldTexts (shape_seen segment.shape) fixed xs → All (λ e. bf_type e ≡ segment.number) (map bf_entry_seen xs) → segment.deltas.items ≡ deltas_of 0 (map bf_range_span xs) → segment.counts.items ≡ counts_by (shape_seen segment.shape) (map bf_range_span xs) → segment.values.items ≡ flat_map value_of (map Declaration.bf (map bf_entry_seen xs)) → HoldsEntries segment (map Declaration.bf (map bf_entry_seen xs))
holds_texts segment fixed xs held typed deltas counts values =
    let spans = text_spans xs in
    let shape = shape_seen segment.shape in
    holds segment (map Declaration.bf (map bf_entry_seen xs)) (text_types segment.number (map bf_entry_seen xs) typed) (subst (AreShaped shape) (sym spans) held.shaped) (deltas ∙ ap (deltas_of 0) (sym spans)) (counts ∙ ap (counts_by shape) (sym spans)) values
