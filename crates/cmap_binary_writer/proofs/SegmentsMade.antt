-- Codes that are taken segment by segment.
use Rattle.std.proofs.Common.{◌≡◌, ℕ, zero, suc, ◌+◌, ◌-◌, ◌<◌, ◌≤◌, List, inl, inr, [], ◌∷◌, ◌++◌, length, drop, get_or, take, refl, ap, ◌∙◌, sym, subst, arith}
use Rattle.std.specs.List.{All}
use Rattle.std.proofs.lemmas.Bool.{cases_lt}
use Rattle.std.proofs.lemmas.List.{length-map, length-take-le, map-append, take-append-drop}
use Rattle.std.proofs.lemmas.List.Elements.{All-head, All-tail}
use Rattle.cmap_values.specs.DeclarationsSeen.{cid_entry_seen, entries_seen}
use Rattle.cmap_values.specs.declared.declarations.CidRange.{CidRange}
use Rattle.cmap_binary.specs.BinaryEntries.{Shape}
use Rattle.cmap_binary.specs.EntryByEntry.{cid_from}
use Rattle.cmap_binary_writer.specs.Follows.{Follows, HasShapeOf}
use Rattle.cmap_binary_writer.specs.Held.{AreHeld, AreInOrder, AreOwnCids, AreShaped, HasShape, spans_of}
use Rattle.cmap_binary_writer.specs.Pieces.{IsShort}
use Rattle.cmap_binary_writer.proofs.Told.{All-back, All-front}

-- ---- CIDs that are not 0 stand for themselves
own_cid : (cid next : ℕ) → 0 < cid → cid_from cid next ≡ cid
own_cid zero next some = absurd (omega arith)
own_cid (suc n) next some = refl

own_later : (n next : ℕ) (xs : List CidRange) → ((k : ℕ) (d : CidRange) → k < n → k < length xs → 0 < (get_or xs k d).cid) → AreOwnCids next (entries_seen (take n xs))
own_later zero next xs some = tt
own_later (suc n) next [] some = tt
own_later (suc n) next (x ∷ xs) some = (own_cid x.cid next (some 0 x (omega arith) (omega arith)), own_later n _ xs (λ k d h w. some (suc k) d (omega arith) (omega arith)))

first_own : (cid : ℕ) → cid_from cid 0 ≡ cid
first_own zero = refl
first_own (suc n) = refl

pub own_segment : (count : ℕ) (xs : List CidRange) → 1 ≤ count → ((k : ℕ) (d : CidRange) → 1 ≤ k → k < count → k < length xs → 0 < (get_or xs k d).cid) → AreOwnCids 0 (entries_seen (take count xs))
own_segment zero xs some cids = tt
own_segment (suc n) [] some cids = tt
own_segment (suc n) (x ∷ xs) some cids = (first_own x.cid, own_later n _ xs (λ k d h w. cids (suc k) d (omega arith) (omega arith) (omega arith)))

-- ---- order in a part: each range comes after the one before
in_order : (n base : ℕ) (xs : List CidRange) → All IsShort (entries_seen xs) → ((d : CidRange) → 0 < length xs → base ≤ (get_or xs 0 d).range.start) → ((k : ℕ) (d : CidRange) → suc k < n → suc k < length xs → (get_or xs k d).range.end < (get_or xs (suc k) d).range.start) → AreInOrder base (spans_of (entries_seen (take n xs)))
in_order zero base xs short first later = tt
in_order (suc n) base [] short first later = tt
in_order (suc zero) base (x ∷ xs) short first later = let here = All-head IsShort (cid_entry_seen x) (entries_seen xs) short in (first x (omega arith), here.0, here.1, tt)
in_order (suc (suc n)) base (x ∷ xs) short first later =
    let here = All-head IsShort (cid_entry_seen x) (entries_seen xs) short in (
      first x (omega arith),
      here.0,
      here.1,
      in_order (suc n) (x.range.end + 1) xs (All-tail IsShort (cid_entry_seen x) (entries_seen xs) short) (λ d filled. omega (arith, later 0 d (omega arith) (omega arith))) (λ k d h w. later (suc k) d (omega arith) (omega arith)),
    )

-- ---- one shape
shaped : (shape : Shape) (n : ℕ) (xs : List CidRange) → ((k : ℕ) (d : CidRange) → k < n → k < length xs → HasShape shape (get_or xs k d).range.start (get_or xs k d).range.end) → AreShaped shape (spans_of (entries_seen (take n xs)))
shaped shape zero xs each = tt
shaped shape (suc n) [] each = tt
shaped shape (suc n) (x ∷ xs) each = (each 0 x (omega arith) (omega arith), shaped shape n xs (λ k d h w. each (suc k) d (omega arith) (omega arith)))

-- the entries from the second one on follow those before
abbrev pub Follow : Shape → List CidRange → ℕ → Type 0
Follow shape xs count = (k : ℕ) (d : CidRange) → 1 ≤ k → k < count → k < length xs → Follows shape (get_or xs (k - 1) d) (get_or xs k d)

pub follow_more : (shape : Shape) (xs : List CidRange) (count : ℕ) → 1 ≤ count → ((d : CidRange) → Follows shape (get_or xs (count - 1) d) (get_or xs count d)) → Follow shape xs count → Follow shape xs (count + 1)
follow_more shape xs count some here before k d one below within = elim (cases_lt k count) [
  | inl earlier ↦ before k d one earlier within
  | inr last ↦ let e : count ≡ k = omega arith in rw e at (here d)
]

pub shape_at : (shape : Shape) (xs : List CidRange) (count k : ℕ) (d : CidRange) → HasShapeOf shape xs 0 → Follow shape xs count → k < count → k < length xs → HasShape shape (get_or xs k d).range.start (get_or xs k d).range.end
shape_at shape xs count zero d first later h w = first.1 d
shape_at shape xs count (suc k) d first later h w = (later (suc k) d (omega arith) h w).shaped

pub held_segment : (shape : Shape) (count : ℕ) (xs : List CidRange) → 1 ≤ count → count ≤ 65535 → count ≤ length xs → All IsShort (entries_seen xs) → HasShapeOf shape xs 0 → Follow shape xs count → AreHeld shape (entries_seen (take count xs))
held_segment shape count xs some few within short first later =
    let parted : entries_seen (take count xs) ++ entries_seen (drop count xs) ≡ entries_seen xs = sym (map-append cid_entry_seen (take count xs) (drop count xs)) ∙ ap entries_seen (take-append-drop count xs) in
    let here : All IsShort (entries_seen (take count xs)) = All-front IsShort (entries_seen (take count xs)) (entries_seen (drop count xs)) (subst (All IsShort) (sym parted) short) in
    record {
      order = in_order count 0 xs short (λ d filled. omega arith) (λ k d h w. let e : suc k - 1 ≡ k = omega arith in rw e at ((later (suc k) d (omega arith) h w).after));
      shaped = shaped shape count xs (λ k d h w. shape_at shape xs count k d first later h w);
      short = here;
      own = own_segment count xs some (λ k d one h w. (later k d one h w).own);
      few = omega (arith, few, length-map (take count xs) cid_entry_seen, length-take-le count xs within);
    }

pub short_later : (count : ℕ) (xs : List CidRange) → All IsShort (entries_seen xs) → All IsShort (entries_seen (drop count xs))
short_later count xs short =
    let parted : entries_seen (take count xs) ++ entries_seen (drop count xs) ≡ entries_seen xs = sym (map-append cid_entry_seen (take count xs) (drop count xs)) ∙ ap entries_seen (take-append-drop count xs) in
    All-back IsShort (entries_seen (take count xs)) (entries_seen (drop count xs)) (subst (All IsShort) (sym parted) short)

pub first_short : (xs : List CidRange) (d : CidRange) → 0 < length xs → All IsShort (entries_seen xs) → (get_or xs 0 d).range.start ≤ (get_or xs 0 d).range.end
first_short [] d filled short = absurd (omega arith)
first_short (x ∷ xs) d filled short = (All-head IsShort (cid_entry_seen x) (entries_seen xs) short).0

-- what is left out of reach doesn't matter
pub get_or_same : {X : Type 0} (P : X → Type 0) (xs : List X) (i : ℕ) (d e : X) → i < length xs → P (get_or xs i d) → P (get_or xs i e)
get_or_same P [] i d e within p = absurd (omega arith)
get_or_same P (x ∷ xs) zero d e within p = p
get_or_same P (x ∷ xs) (suc i) d e within p = get_or_same P xs i d e (omega arith) p

-- an entry follows the one before, whatever stands for those out of reach
pub follow_next : (shape : Shape) (xs : List CidRange) (count : ℕ) (b e : CidRange) → count < length xs → Follows shape (get_or xs (count - 1) b) (get_or xs count e) → (d : CidRange) → Follows shape (get_or xs (count - 1) d) (get_or xs count d)
follow_next shape xs count b e within here d = get_or_same (λ x. Follows shape (get_or xs (count - 1) d) x) xs count e d within (get_or_same (λ x. Follows shape x (get_or xs count e)) xs (count - 1) b d (omega arith) here)
