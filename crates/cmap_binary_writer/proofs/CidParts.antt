-- Parts of ranges of CIDs, and ranges that go on.
use Rattle.std.proofs.Common.{◌≡◌, ℕ, suc, ◌+◌, ◌-◌, ◌^◌, ◌<◌, ◌≤◌, ◌⊎◌, inl, inr, List, [], ◌∷◌, ◌++◌, length, get_or, set, take, Some, None, refl, ap, ◌∙◌, sym, subst, arith}
use Rattle.std.specs.Prelude.{nat_le, nat_lt, if◌then◌else◌}
use Rattle.std.specs.List.{All, slice_get}
use Rattle.std.proofs.lemmas.Option.{get_or_from_slice_get, slice_get_within}
use Rattle.std.proofs.lemmas.Bool.{and_from, and_parts, cases_lt, le-leb, leb-true}
use Rattle.std.proofs.lemmas.List.{drop_all, get_or-map, length-map, map-append, set_split, take_all, take_more}
use Rattle.std.proofs.lemmas.List.Elements.{All-head, All-push}
use Rattle.cmap_values.specs.Files.{CidEntry}
use Rattle.cmap_layers.specs.Lookups.{cid_at, cid_span}
use Rattle.cmap_values.specs.DeclarationsSeen.{cid_entry_seen, entries_seen}
use Rattle.cmap_values.specs.declared.declarations.CidRange.{CidRange}
use Rattle.cmap_binary_writer.specs.Follows.{GoesOn}
use Rattle.cmap_binary_writer.specs.Pieces.{ArePieces, CanBeSplit, Cover, Has, IsShort, PushesPieces, SaysAs, Takes}
use Rattle.cmap_binary_writer.specs.Arranged.{KeepsWhole}
use Rattle.cmap_binary_writer.proofs.Cuts.{whole_first, whole_joined, whole_pushed}
use Rattle.cmap_binary_writer.proofs.Told.{All-back, All-front, Any-cases, Any-left, Any-one, Any-right, PiecesTo, pieces_more, to_end, to_more}

abbrev pub entry : ℕ → ℕ → ℕ → CidEntry
entry start end cid = record { start = start; end = end; cid = cid }

abbrev says : List CidEntry → CidEntry → Type 0
says es e = SaysAs cid_span cid_at es e

abbrev has : CidEntry → ℕ → Type 0
has e code = Has cid_span e code

pub has_from : (e : CidEntry) (code : ℕ) → e.start ≤ code → code ≤ e.end → Has cid_span e code
has_from e code low high = and_from (nat_le e.start code) (nat_le code e.end) (le-leb e.start code low) (le-leb code e.end high)

pub has_within : (e : CidEntry) (code : ℕ) → Has cid_span e code → (e.start ≤ code) × (code ≤ e.end)
has_within e code h = let both = and_parts (nat_le e.start code) (nat_le code e.end) h in (leb-true e.start code both.0, leb-true code e.end both.1)

pub same_cid : (e f : CidEntry) (code : ℕ) → e.cid + (code - e.start) ≡ f.cid + (code - f.start) → cid_at e code ≡ cid_at f code
same_cid e f code is = ap (λ n. if nat_lt n (2 ^ 32) then Some n else None) is

-- what a range says, its part says
pub part_says : (e part : CidEntry) (es : List CidEntry) → e.start ≤ part.start → part.end ≤ e.end → part.cid ≡ e.cid + (part.start - e.start) → SaysAs cid_span cid_at es e → SaysAs cid_span cid_at es part
part_says e part es low high cid whole code here =
    let within = has_within part code here in
    whole code (has_from e code (omega (arith, within.0)) (omega (arith, within.1))) ∙ ap Some (same_cid e part code (omega (arith, within.0, cid)))

-- ---- a range that goes on is one with the last
module _ (last next : CidEntry) (filled : last.start ≤ last.end) (after : next.start ≡ last.end + 1) (cids : next.cid ≡ last.cid + (next.start - last.start)) (some : next.start ≤ next.end) where
  whole : CidEntry
  whole = entry last.start next.end last.cid

  pub joined_says : (es : List CidEntry) → SaysAs cid_span cid_at es last → SaysAs cid_span cid_at es next → SaysAs cid_span cid_at es (entry last.start next.end last.cid)
  joined_says es first second code here =
      let within = has_within (entry last.start next.end last.cid) code here in
      elim (cases_lt last.end code) [
        | inl later ↦ second code (has_from next code (omega (arith, later, after)) within.1) ∙ ap Some (same_cid next (entry last.start next.end last.cid) code (omega (arith, later, after, cids, filled)))
        | inr before ↦ first code (has_from last code within.0 before)
      ]

  pub joined_has : (code : ℕ) → Has cid_span last code ⊎ Has cid_span next code → Has cid_span (entry last.start next.end last.cid) code
  joined_has code both = elim both [
    | inl here ↦ let within = has_within last code here in has_from (entry last.start next.end last.cid) code within.0 (omega (arith, within.1, after, some))
    | inr there ↦ let within = has_within next code there in has_from (entry last.start next.end last.cid) code (omega (arith, within.0, after, filled)) within.1
  ]

  pub takes_joined : (front old new : List CidEntry) → old ≡ front ++ last ∷ [] → new ≡ front ++ entry last.start next.end last.cid ∷ [] → Takes cid_span cid_at old new next
  takes_joined front old new old_is new_is =
      let joined = entry last.start next.end last.cid in (
        λ es all second.
            let P = SaysAs cid_span cid_at es in
            let parts = subst (All P) old_is all in
            subst (All P) (sym new_is) (All-push P front joined (All-front P front (last ∷ []) parts) (joined_says es (All-head P last [] (All-back P front (last ∷ []) parts)) second)),
        λ code any.
            let H : CidEntry → Type 0 = λ p. Has cid_span p code in
            subst (λ xs. Cover cid_span xs code) (sym new_is) (elim (Any-cases H old (next ∷ []) any) [
              | inl before ↦ elim (Any-cases H front (last ∷ []) (subst (λ xs. Cover cid_span xs code) old_is before)) [
                | inl early ↦ Any-left H front (joined ∷ []) early
                | inr at_last ↦ Any-right H front (joined ∷ []) (0, joined, omega arith, refl, joined_has code (inl (Any-one H last at_last)))
              ]
              | inr there ↦ Any-right H front (joined ∷ []) (0, joined, omega arith, refl, joined_has code (inr (Any-one H next there)))
            ]),
      )

pub takes_pushed : (old new : List CidEntry) (e : CidEntry) → new ≡ old ++ e ∷ [] → Takes cid_span cid_at old new e
takes_pushed old new e is = (
  λ es all here. let P = SaysAs cid_span cid_at es in subst (All P) (sym is) (All-push P old e all here),
  λ code any. subst (λ xs. Cover cid_span xs code) (sym is) any,
)

-- ---- a range in pieces
pub piece_more : (e : CidEntry) (s t cid : ℕ) (old now new : List CidEntry) → PiecesTo cid_span cid_at IsShort e (entry s t cid) old now → CanBeSplit (entry s t cid) → s + 256 < t → new ≡ now ++ entry s (s + 255) cid ∷ [] → PiecesTo cid_span cid_at IsShort e (entry (s + 256) t (cid + 256)) old new
piece_more e s t cid old now new h can long is =
    let left = entry s t cid in
    let first = entry s (s + 255) cid in
    let later = entry (s + 256) t (cid + 256) in
    to_more cid_span cid_at IsShort e left first later old now new h is (omega arith, omega (arith, can.1), omega arith, omega (arith, can.2))
    (λ es whole. (part_says left first es (omega arith) (omega arith) (omega arith) whole, part_says left later es (omega arith) (omega arith) (omega arith) whole))
    (λ code here. let within = has_within left code here in elim (cases_lt code (s + 256)) [
      | inl before ↦ inl (has_from first code within.0 (omega (arith, before)))
      | inr after ↦ inr (has_from later code after within.1)
    ])

pub piece_end : (e : CidEntry) (s t cid : ℕ) (old now new : List CidEntry) → PiecesTo cid_span cid_at IsShort e (entry s t cid) old now → CanBeSplit (entry s t cid) → t - s ≤ 256 → new ≡ now ++ entry s t cid ∷ [] → PushesPieces cid_span cid_at IsShort e old new
piece_end e s t cid old now new h can short is = let left = entry s t cid in to_end cid_span cid_at IsShort e left left old now new h is (can.0, can.1, short, omega (arith, can.2)) (λ es whole. whole) (λ code here. here)

pub can_be_split_later : (s t cid : ℕ) → CanBeSplit (entry s t cid) → s + 256 < t → CanBeSplit (entry (s + 256) t (cid + 256))
can_be_split_later s t cid can long = (omega (arith, long), can.1, omega (arith, can.2, long))

-- ---- the last range of a list, made longer
abbrev pub longer : CidRange → CidRange → CidRange
longer last range = record { range = record { start = last.range.start; end = range.range.end }; cid = last.cid }

pub last_split : {X : Type 0} (xs : List X) (d : X) → 0 < length xs → xs ≡ take (length xs - 1) xs ++ get_or xs (length xs - 1) d ∷ []
last_split xs d some =
    let n = length xs - 1 in
    let whole : n + 1 ≡ length xs = omega (arith, some) in
    sym (take_all (length xs) xs (omega arith)) ∙ ap (λ k. take k xs) (sym whole) ∙ take_more xs n d (omega (arith, some))

pub last_set : {X : Type 0} (xs : List X) (y : X) → 0 < length xs → set xs (length xs - 1) y ≡ take (length xs - 1) xs ++ y ∷ []
last_set xs y some =
    let n = length xs - 1 in
    set_split xs n y (omega (arith, some)) ∙ ap (λ zs. take n xs ++ y ∷ zs) (drop_all (suc n) xs (omega (arith, some)))

module _ (xs : List CidRange) (range last : CidRange) (some : 0 < length xs) (at : slice_get xs (length xs - 1) ≡ Some last) (all : All CanBeSplit (entries_seen xs)) (one : CanBeSplit (cid_entry_seen range)) (goes : (d : CidRange) → GoesOn (get_or xs (length xs - 1) d) range) where
  abbrev front : List CidRange
  front = take (length xs - 1) xs

  abbrev new : List CidRange
  new = set xs (length xs - 1) (longer last range)

  is_last : get_or xs (length xs - 1) last ≡ last
  is_last = get_or_from_slice_get xs (length xs - 1) last last at

  old_is : entries_seen xs ≡ entries_seen front ++ cid_entry_seen last ∷ []
  old_is = ap entries_seen (last_split xs last some ∙ ap (λ x. front ++ x ∷ []) is_last) ∙ map-append cid_entry_seen front (last ∷ [])

  new_is : entries_seen new ≡ entries_seen front ++ cid_entry_seen (longer last range) ∷ []
  new_is = ap entries_seen (last_set xs (longer last range) some) ∙ map-append cid_entry_seen front (longer last range ∷ [])

  parts : All CanBeSplit (entries_seen front ++ cid_entry_seen last ∷ [])
  parts = subst (All CanBeSplit) old_is all

  can : CanBeSplit (cid_entry_seen last)
  can = All-head CanBeSplit (cid_entry_seen last) [] (All-back CanBeSplit (entries_seen front) (cid_entry_seen last ∷ []) parts)

  on : GoesOn last range
  on = subst (λ x. GoesOn x range) is_last (goes last)

  pub longer_can : All CanBeSplit (entries_seen (set xs (length xs - 1) (longer last range)))
  longer_can = subst (All CanBeSplit) (sym new_is) (All-push CanBeSplit (entries_seen front) (cid_entry_seen (longer last range)) (All-front CanBeSplit (entries_seen front) (cid_entry_seen last ∷ []) parts) (omega (arith, can.0, one.0, on.next), one.1, omega (arith, one.2, on.cids, on.next, can.0, one.0)))

  pub longer_takes : Takes cid_span cid_at (entries_seen xs) (entries_seen (set xs (length xs - 1) (longer last range))) (cid_entry_seen range)
  longer_takes = takes_joined (cid_entry_seen last) (cid_entry_seen range) can.0 on.next on.cids one.0 (entries_seen front) (entries_seen xs) (entries_seen new) old_is new_is

  -- and the ranges stay whole
  pub longer_whole : KeepsWhole (entries_seen xs) (entries_seen (set xs (length xs - 1) (longer last range))) (cid_entry_seen range)
  longer_whole = whole_joined (entries_seen front) (cid_entry_seen last) (cid_entry_seen range) (entries_seen xs) (entries_seen new) old_is new_is one.0

-- a range that doesn't go on from the last one is pushed
pub pushed_whole : (xs new : List CidRange) (range : CidRange) → new ≡ xs ++ range ∷ [] → range.range.start ≤ range.range.end → ((d : CidRange) → 0 < length xs → GoesOn (get_or xs (length xs - 1) d) range → ⊥) → KeepsWhole (entries_seen xs) (entries_seen new) (cid_entry_seen range)
pushed_whole [] new range is filled apart = whole_first (cid_entry_seen range) [] (entries_seen new) refl (ap entries_seen is)
pushed_whole (x ∷ xs) new range is filled apart =
    let all = x ∷ xs in
    let last : CidRange = get_or all (length all - 1) x in
    let front = take (length all - 1) all in
    let parted : entries_seen all ≡ entries_seen front ++ cid_entry_seen last ∷ [] = ap entries_seen (last_split all x (omega arith)) ∙ map-append cid_entry_seen front (last ∷ []) in
    whole_pushed (entries_seen front) (cid_entry_seen last) (cid_entry_seen range) (entries_seen all) (entries_seen new) parted (ap entries_seen is ∙ map-append cid_entry_seen all (range ∷ [])) filled (λ can. apart x (omega arith) (record { next = can.after; cids = can.cids }))

pub last_filled : (xs : List CidRange) (last : CidRange) → All CanBeSplit (entries_seen xs) → slice_get xs (length xs - 1) ≡ Some last → last.range.start ≤ last.range.end
last_filled xs last all is =
    let n = length xs - 1 in
    let within = slice_get_within xs n last is in
    let same : get_or xs n last ≡ last = get_or_from_slice_get xs n last last is in
    let can : CanBeSplit (get_or (entries_seen xs) n (cid_entry_seen last)) = all n (cid_entry_seen last) (omega (arith, within, length-map xs cid_entry_seen)) in
    let seen : get_or (entries_seen xs) n (cid_entry_seen last) ≡ cid_entry_seen last = get_or-map cid_entry_seen xs n last (cid_entry_seen last) within ∙ ap cid_entry_seen same in
    subst (λ (e : CidEntry). e.start ≤ e.end) seen can.0

-- ---- ranges taken one after another
pub one_can : (xs : List CidRange) (i : ℕ) (d : CidRange) → i < length xs → All CanBeSplit (entries_seen xs) → CanBeSplit (cid_entry_seen (get_or xs i d))
one_can xs i d within all = subst CanBeSplit (get_or-map cid_entry_seen xs i d (cid_entry_seen d) within) (all i (cid_entry_seen d) (omega (arith, within, length-map xs cid_entry_seen)))

pub pieces_of_more : (xs : List CidRange) (i : ℕ) (d : CidRange) (old new : List CidEntry) → i < length xs → ArePieces cid_span cid_at IsShort (entries_seen (take i xs)) old → PushesPieces cid_span cid_at IsShort (cid_entry_seen (get_or xs i d)) old new → ArePieces cid_span cid_at IsShort (entries_seen (take (i + 1) xs)) new
pieces_of_more xs i d old new within h here =
    let parted : entries_seen (take (i + 1) xs) ≡ entries_seen (take i xs) ++ cid_entry_seen (get_or xs i d) ∷ [] = ap entries_seen (take_more xs i d within) ∙ map-append cid_entry_seen (take i xs) (get_or xs i d ∷ []) in
    subst (λ es. ArePieces cid_span cid_at IsShort es new) (sym parted) (pieces_more cid_span cid_at IsShort (entries_seen (take i xs)) old new (cid_entry_seen (get_or xs i d)) h here)

pub pieces_of_all : (xs : List CidRange) (i : ℕ) (pieces : List CidEntry) → length xs ≤ i → ArePieces cid_span cid_at IsShort (entries_seen (take i xs)) pieces → ArePieces cid_span cid_at IsShort (entries_seen xs) pieces
pieces_of_all xs i pieces all h = subst (λ ys. ArePieces cid_span cid_at IsShort (entries_seen ys) pieces) (take_all i xs all) h
