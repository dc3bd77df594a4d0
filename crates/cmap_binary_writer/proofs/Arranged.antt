-- Entries that stand in full segments.
use Rattle.std.proofs.Common.{◌≡◌, ℕ, zero, suc, ◌+◌, ◌-◌, ◌^◌, ◌<◌, ◌≤◌, inl, inr, List, [], ◌∷◌, ◌++◌, length, drop, get_or, map, take, refl, ap, ◌∙◌, sym, subst, arith}
use Rattle.std.specs.Prelude.{nat_lt, if◌then◌else◌}
use Rattle.std.specs.List.{All, flat_map}
use Rattle.std.proofs.lemmas.Simd.{map-map}
use Rattle.std.proofs.lemmas.Bool.{cases_lt, le-ltb, lt-ltb}
use Rattle.std.proofs.lemmas.List.{append_assoc, append-nil, drop_all, get_or-drop, get_or-map, get_or-take, length-drop, length-map, length-take-le}
use Rattle.std.proofs.lemmas.List.Concat.{flat_map-append}
use Rattle.std.proofs.lemmas.List.Elements.{All-cons, All-head, All-nil, All-tail}
use Rattle.cmap_runs.specs.Ranges.{Span}
use Rattle.cmap_values.specs.CodeLengths.{length_of}
use Rattle.cmap_values.specs.DeclarationsSeen.{cid_entry_seen, entries_seen}
use Rattle.cmap_values.specs.Files.{ByLength, CidEntry, Declaration, File}
use Rattle.cmap_values.specs.declared.code_length.CodeLength.{CodeLength}
use Rattle.cmap_values.specs.declared.code_length.CodeLength.TheVariants.{One, Two, Three, Four}
use Rattle.cmap_values.specs.declared.declarations.CidRange.{CidRange}
use Rattle.cmap_binary.specs.Bundles.{PrefixTables}
use Rattle.cmap_binary.specs.BinaryEntries.{Shape, ranges, singles}
use Rattle.cmap_binary.specs.EntryByEntry.{cid_from}
use Rattle.cmap_binary.specs.BinaryFiles.{IsSegment, declares}
use Rattle.cmap_binary_writer.specs.Arranged.{AddsByLength, AddsCidEntries, AddsFull, AddsInTurn, AddsTextEntries, AreEnded, AreFull, AreInOne, CanFollow, HoldsEntries, HoldEach, IsArranged, StandInTurn, lists_by_length, cid_type, count_of, segment_type, shape_of, value_of}
use Rattle.cmap_binary_writer.specs.EncodersSeen.{shape_seen}
use Rattle.cmap_binary_writer.specs.Follows.{Follows, HasShapeOf}
use Rattle.cmap_binary_writer.specs.Fields.{fields_of}
use Rattle.cmap_binary_writer.specs.Held.{AreHeld, AreInOrder, AreOwnCids, AreShaped, HasShape, counts_by, deltas_of, spans_of}
use Rattle.cmap_binary_writer.specs.Pieces.{IsShort}
use Rattle.cmap_binary_writer.specs.Segments.{declared_span}
use Rattle.cmap_binary_writer.specs.Written.{bytes_of}
use Rattle.cmap_binary_writer.specs.declared.prepared.Prepared.{Prepared}
use Rattle.cmap_binary_writer.specs.declared.segments.Segment.{Segment}
use Rattle.cmap_binary_writer.proofs.CidsWritten.{CidEntriesIn, IsSegment-ranges, IsSegment-singles, cids}
use Rattle.cmap_binary_writer.proofs.SegmentNumbers.{cid_spans}
use Rattle.cmap_binary_writer.proofs.SegmentsMade.{Follow, shape_at}

-- ---- shapes and types
pub shape_has : (start end : ℕ) → start ≤ end → HasShape (shape_of start end) start end
shape_has start end filled = elim (cases_lt start end) [
  | inl less ↦ subst (λ b. HasShape (if b then ranges else singles) start end) (sym (lt-ltb start end less)) less
  | inr none ↦ subst (λ b. HasShape (if b then ranges else singles) start end) (sym (le-ltb start end none)) (omega (arith, filled, none))
]

pub shape_is : (shape : Shape) (start end : ℕ) → HasShape shape start end → shape_of start end ≡ shape
shape_is ranges start end has = ap (λ b. if b then ranges else singles) (lt-ltb start end has)
shape_is singles start end has = ap (λ b. if b then ranges else singles) (le-ltb start end (omega (arith, has)))

shape_from_type : (len : ℕ) (shape other : Shape) → 1 ≤ len → cid_type len shape ≡ cid_type len other → shape ≡ other
shape_from_type len ranges ranges some same = refl
shape_from_type len singles singles some same = refl
shape_from_type len ranges singles some same = absurd (omega (arith, some, same))
shape_from_type len singles ranges some same = absurd (omega (arith, some, same))

pub some_bytes : (len : CodeLength) → 1 ≤ length_of len
some_bytes One = omega arith
some_bytes Two = omega arith
some_bytes Three = omega arith
some_bytes Four = omega arith

pub segment_said : (tables : PrefixTables) (shape : Shape) (len : CodeLength) (payload : List ℕ) (es : List CidEntry) → CidEntriesIn tables shape payload es → IsSegment tables (cid_type (length_of len) shape) payload (declares (map (Declaration.cid (length_of len)) es))
segment_said tables ranges len payload es within = IsSegment-ranges tables len payload es within
segment_said tables singles len payload es within = IsSegment-singles tables len payload es within

-- ---- what a segment holds
counts_are : (shape : Shape) (spans : List Span) (count : Span → List ℕ) → ((s : Span) → HasShape shape s.start s.end → count s ≡ counts_by shape (s ∷ [])) → AreShaped shape spans → flat_map count spans ≡ counts_by shape spans
counts_are ranges [] count each shaped = refl
counts_are singles [] count each shaped = refl
counts_are ranges (s ∷ spans) count each (here, later) = ap (λ ns. ns ++ flat_map count spans) (each s here) ∙ ap (λ ns. (s.end - s.start - 1) ∷ ns) (counts_are ranges spans count each later)
counts_are singles (s ∷ spans) count each (here, later) = ap (λ ns. ns ++ flat_map count spans) (each s here) ∙ counts_are singles spans count each later

abbrev pub count_in : Span → List ℕ
count_in s = if nat_lt s.start s.end then (s.end - s.start - 1) ∷ [] else []

one_count : (shape : Shape) (s : Span) → HasShape shape s.start s.end → count_in s ≡ counts_by shape (s ∷ [])
one_count ranges s has = ap (λ b. if b then (s.end - s.start - 1) ∷ [] else []) (lt-ltb s.start s.end has)
one_count singles s has = ap (λ b. if b then (s.end - s.start - 1) ∷ [] else []) (le-ltb s.start s.end (omega (arith, has)))

counts_spanned : (ds : List Declaration) → flat_map count_of ds ≡ flat_map count_in (map declared_span ds)
counts_spanned [] = refl
counts_spanned (d ∷ ds) = ap (λ ns. count_of d ++ ns) (counts_spanned ds)

shapes_are : (shape : Shape) (ds : List Declaration) → AreShaped shape (map declared_span ds) → All (λ d. shape_of (declared_span d).start (declared_span d).end ≡ shape) ds
shapes_are shape [] shaped = All-nil (λ d. shape_of (declared_span d).start (declared_span d).end ≡ shape)
shapes_are shape (d ∷ ds) (here, later) = All-cons (λ d. shape_of (declared_span d).start (declared_span d).end ≡ shape) d ds (shape_is shape (declared_span d).start (declared_span d).end here) (shapes_are shape ds later)

pub holds : (segment : Segment) (ds : List Declaration) → All (λ d. segment_type d ≡ segment.number) ds → AreShaped (shape_seen segment.shape) (map declared_span ds) → segment.deltas.items ≡ deltas_of 0 (map declared_span ds) → segment.counts.items ≡ counts_by (shape_seen segment.shape) (map declared_span ds) → segment.values.items ≡ flat_map value_of ds → HoldsEntries segment ds
holds segment ds type shaped deltas counts values = let shape = shape_seen segment.shape in record {
  shape = shapes_are shape ds shaped;
  values = values;
  type = type;
  deltas = deltas;
  counts = counts ∙ sym (counts_are shape (map declared_span ds) count_in (one_count shape) shaped) ∙ sym (counts_spanned ds);
}

cid_types : (len n : ℕ) (shape : Shape) (es : List CidEntry) → cid_type len shape ≡ n → AreShaped shape (spans_of es) → All (λ d. segment_type d ≡ n) (map (Declaration.cid len) es)
cid_types len n shape [] is shaped = All-nil (λ d. segment_type d ≡ n)
cid_types len n shape (e ∷ es) is (here, later) = All-cons (λ d. segment_type d ≡ n) (Declaration.cid len e) (map (Declaration.cid len) es) (ap (cid_type len) (shape_is shape e.start e.end here) ∙ is) (cid_types len n shape es is later)

cid_values : (len : ℕ) (es : List CidEntry) → cids es ≡ flat_map value_of (map (Declaration.cid len) es)
cid_values len [] = refl
cid_values len (e ∷ es) = ap (λ bs. bytes_of 2 e.cid ++ bs) (cid_values len es)

pub holds_cids : (segment : Segment) (len : ℕ) (es : List CidEntry) → segment.number ≡ cid_type len (shape_seen segment.shape) → AreHeld (shape_seen segment.shape) es → segment.deltas.items ≡ deltas_of 0 (spans_of es) → segment.counts.items ≡ counts_by (shape_seen segment.shape) (spans_of es) → segment.values.items ≡ cids es → HoldsEntries segment (map (Declaration.cid len) es)
holds_cids segment len es number held deltas counts values =
    let spans = cid_spans len es in
    let shape = shape_seen segment.shape in
    holds segment (map (Declaration.cid len) es) (cid_types len segment.number shape es (sym number) held.shaped) (subst (AreShaped shape) (sym spans) held.shaped) (deltas ∙ ap (deltas_of 0) (sym spans)) (counts ∙ ap (counts_by shape) (sym spans)) (values ∙ cid_values len es)

-- ---- entries in one segment
no_zero : (cid next : ℕ) → 0 < next → cid_from cid next ≡ cid → 0 < cid
no_zero zero next some is = absurd (omega (arith, some, is))
no_zero (suc n) next some is = omega arith

in_one : (len : ℕ) (shape : Shape) (base next : ℕ) (e : CidEntry) (es : List CidEntry) → AreInOrder base (spans_of (e ∷ es)) → AreShaped shape (spans_of (e ∷ es)) → AreOwnCids next (e ∷ es) → AreInOne (map (Declaration.cid len) (e ∷ es))
in_one len shape base next e [] order shaped own = tt
in_one len shape base next e (f ∷ es) (low, filled, small, order) (here, shaped) (is, own) = (
  record {
    same = ap (cid_type len) (shape_is shape f.start f.end shaped.0 ∙ sym (shape_is shape e.start e.end here));
    after = omega (arith, order.0);
    own = no_zero f.cid (e.cid + (e.end - e.start) + 1) (omega arith) own.0;
  },
  in_one len shape (e.end + 1) (e.cid + (e.end - e.start) + 1) f es order shaped own,
)

pub held_in_one : (len : ℕ) (shape : Shape) (es : List CidEntry) → 0 < length es → AreHeld shape es → AreInOne (map (Declaration.cid len) es)
held_in_one len shape [] some held = absurd (omega (arith, some))
held_in_one len shape (e ∷ es) some held = in_one len shape 0 0 e es held.order held.shaped held.own

pub taken_in_one : (len : ℕ) (shape : Shape) (count : ℕ) (xs : List CidRange) → 1 ≤ count → count ≤ length xs → AreHeld shape (entries_seen (take count xs)) → AreInOne (map (Declaration.cid len) (entries_seen (take count xs)))
taken_in_one len shape count xs some within held = held_in_one len shape (entries_seen (take count xs)) (omega (arith, some, length-map (take count xs) cid_entry_seen, length-take-le count xs within)) held

-- ---- where a segment ends
module _ {X : Type 0} (say : X → Declaration) where
  pub ended_last : (xs : List X) (count : ℕ) → length xs ≤ count → AreEnded (map say (take count xs)) (map say (drop count xs))
  ended_last xs count all d short some follows = absurd (omega (arith, some, ap (λ ys. length (map say ys)) (drop_all count xs all)))

  pub ended_most : (xs : List X) (count : ℕ) → count ≤ length xs → 65535 ≤ count → AreEnded (map say (take count xs)) (map say (drop count xs))
  ended_most xs count within most d short some follows = absurd (omega (arith, short, most, length-map (take count xs) say, length-take-le count xs within))

  pub ended_here : (xs : List X) (count : ℕ) (b e : X) → 1 ≤ count → count < length xs → (CanFollow (say (get_or xs (count - 1) b)) (say (get_or xs count e)) → ⊥) → AreEnded (map say (take count xs)) (map say (drop count xs))
  ended_here xs count b e one within ends d short some follows =
      let size : length (map say (take count xs)) ≡ count = length-map (take count xs) say ∙ length-take-le count xs (omega (arith, within)) in
      let left : 0 < length (drop count xs) = omega (arith, within, length-drop count xs) in
      let last : get_or (map say (take count xs)) (length (map say (take count xs)) - 1) d ≡ say (get_or xs (count - 1) b) =
      ap (λ n. get_or (map say (take count xs)) (n - 1) d) size ∙ get_or-map say (take count xs) (count - 1) b d (omega (arith, one, size, length-map (take count xs) say)) ∙ ap say (get_or-take count xs (count - 1) b (omega (arith, one))) in
      let next : get_or (map say (drop count xs)) 0 d ≡ say (get_or xs count e) =
      get_or-map say (drop count xs) 0 e d left ∙ ap say (get_or-drop count xs 0 e ∙ ap (λ n. get_or xs n e) (omega arith)) in
      ends (subst (λ x. CanFollow x (say (get_or xs count e))) last (subst (CanFollow (get_or (map say (take count xs)) (length (map say (take count xs)) - 1) d)) next follows))

-- an entry of codes that can follow in a segment of its shape follows
pub follows_from : (len : ℕ) (shape : Shape) (before e : CidRange) → 1 ≤ len → HasShape shape before.range.start before.range.end → e.range.start ≤ e.range.end → CanFollow (Declaration.cid len (cid_entry_seen before)) (Declaration.cid len (cid_entry_seen e)) → Follows shape before e
follows_from len shape before e some has filled can = record {
  own = can.own;
  after = can.after;
  shaped = subst (λ s. HasShape s e.range.start e.range.end) (shape_from_type len (shape_of e.range.start e.range.end) (shape_of before.range.start before.range.end) some can.same ∙ shape_is shape before.range.start before.range.end has) (shape_has e.range.start e.range.end filled);
}

filled_at : (xs : List CidRange) (i : ℕ) (d : CidRange) → i < length xs → All IsShort (entries_seen xs) → (get_or xs i d).range.start ≤ (get_or xs i d).range.end
filled_at [] i d within short = absurd (omega (arith, within))
filled_at (x ∷ xs) zero d within short = (All-head IsShort (cid_entry_seen x) (entries_seen xs) short).0
filled_at (x ∷ xs) (suc i) d within short = filled_at xs i d (omega (arith, within)) (All-tail IsShort (cid_entry_seen x) (entries_seen xs) short)

-- the next entry doesn't follow
pub ended_cids : (len : ℕ) (shape : Shape) (xs : List CidRange) (count : ℕ) (b e : CidRange) → 1 ≤ len → 1 ≤ count → count < length xs → All IsShort (entries_seen xs) → HasShapeOf shape xs 0 → Follow shape xs count → (Follows shape (get_or xs (count - 1) b) (get_or xs count e) → ⊥) → AreEnded (map (Declaration.cid len) (entries_seen (take count xs))) (map (Declaration.cid len) (entries_seen (drop count xs)))
ended_cids len shape xs count b e some one within short first follow never =
    let say : CidRange → Declaration = λ x. Declaration.cid len (cid_entry_seen x) in
    let ended = ended_here say xs count b e one within (λ can. never (follows_from len shape (get_or xs (count - 1) b) (get_or xs count e) some (shape_at shape xs count (count - 1) b first follow (omega (arith, one)) (omega (arith, within))) (filled_at xs count e within short) can)) in
    subst (AreEnded (map (Declaration.cid len) (entries_seen (take count xs)))) (sym (map-map (Declaration.cid len) cid_entry_seen (drop count xs))) (subst (λ part. AreEnded part (map say (drop count xs))) (sym (map-map (Declaration.cid len) cid_entry_seen (take count xs))) ended)

-- ---- segments that are added one after another
abbrev pub id_part : List Declaration → List Declaration
id_part part = part

-- these parts, before later entries
abbrev pub AreFullBefore : List (List Declaration) → List Declaration → Type 0
AreFullBefore [] later = Unit {0}
AreFullBefore (part ∷ parts) later = AreInOne part × (length part < 2 ^ 16) × AreEnded part (flat_map id_part parts ++ later) × AreFullBefore parts later

full_push : (parts : List (List Declaration)) (part later : List Declaration) → AreFullBefore parts (part ++ later) → AreInOne part → length part < 2 ^ 16 → AreEnded part later → AreFullBefore (parts ++ part ∷ []) later
full_push [] part later none one few ended = (one, few, ended, tt)
full_push (p ∷ parts) part later (a, b, ends, more) one few ended =
    let same : flat_map id_part parts ++ (part ++ later) ≡ flat_map id_part (parts ++ part ∷ []) ++ later =
    sym (append_assoc (flat_map id_part parts) part later) ∙ ap (λ ds. ds ++ later) (ap (λ ds. flat_map id_part parts ++ ds) (sym (append-nil part)) ∙ sym (flat_map-append id_part parts (part ∷ []))) in
    (a, b, subst (AreEnded p) same ends, full_push parts part later more one few ended)

full_at_end : (parts : List (List Declaration)) → AreFullBefore parts [] → AreFull parts
full_at_end [] none = tt
full_at_end (p ∷ parts) (a, b, ends, more) = (a, b, subst (AreEnded p) (append-nil (flat_map id_part parts)) ends, full_at_end parts more)

held_push : (a : List Segment) (s : Segment) (parts : List (List Declaration)) (part : List Declaration) → HoldEach a parts → HoldsEntries s part → HoldEach (a ++ s ∷ []) (parts ++ part ∷ [])
held_push [] s [] part none here = (here, tt)
held_push [] s (p ∷ parts) part none here = absurd none
held_push (x ∷ a) s [] part none here = absurd none
held_push (x ∷ a) s (p ∷ parts) part (first, later) here = (first, held_push a s parts part later here)

module _ {X : Type 0} (say : List X → List Declaration) where
  -- segments of these are added, and those are left
  pub record FullTo (all left : List X) (old now : List Segment) : Type 0 where
    pub done : List X
    pub cut : all ≡ done ++ left
    pub parts : List (List Declaration)
    pub added : List Segment
    pub now_is : now ≡ old ++ added
    pub held : HoldEach added parts
    pub flat : flat_map id_part parts ≡ say done
    pub full : AreFullBefore parts (say left)

  pub full_none : say [] ≡ [] → (all : List X) (old : List Segment) → FullTo all all old old
  full_none none all old = record { done = []; cut = refl; parts = []; added = []; now_is = sym (append-nil old); held = tt; flat = sym none; full = tt }

  pub full_more : ((a b : List X) → say (a ++ b) ≡ say a ++ say b) → (all left here later : List X) (old now new : List Segment) (s : Segment) → FullTo all left old now → left ≡ here ++ later → new ≡ now ++ s ∷ [] → HoldsEntries s (say here) → AreInOne (say here) → length (say here) < 2 ^ 16 → AreEnded (say here) (say later) → FullTo all later old new
  full_more both all left here later old now new s h cut is holds one few ended = record {
    done = h.done ++ here;
    cut = h.cut ∙ ap (λ xs. h.done ++ xs) cut ∙ sym (append_assoc h.done here later);
    parts = h.parts ++ say here ∷ [];
    added = h.added ++ s ∷ [];
    now_is = is ∙ ap (λ ss. ss ++ s ∷ []) h.now_is ∙ append_assoc old h.added (s ∷ []);
    held = held_push h.added s h.parts (say here) h.held holds;
    flat = flat_map-append id_part h.parts (say here ∷ []) ∙ ap (λ ds. flat_map id_part h.parts ++ ds) (append-nil (say here)) ∙ ap (λ ds. ds ++ say here) h.flat ∙ sym (both h.done here);
    full = full_push h.parts (say here) (say later) (subst (AreFullBefore h.parts) (ap say cut ∙ both here later) h.full) one few ended;
  }

  pub full_all : say [] ≡ [] → (all : List X) (old now : List Segment) → FullTo all [] old now → AddsFull old now (say all)
  full_all none all old now h = (
    h.added,
    h.now_is,
    record {
      parts = h.parts;
      held = h.held;
      all = h.flat ∙ ap say (sym (h.cut ∙ append-nil h.done));
      full = full_at_end h.parts (subst (AreFullBefore h.parts) none h.full);
    },
  )

-- ---- lists in turn
stand_both : (x y : List Segment) (a b : List (List Declaration)) → StandInTurn x a → StandInTurn y b → StandInTurn (x ++ y) (a ++ b)
stand_both x y [] b none more = subst (λ ss. StandInTurn ss b) (ap (λ ss. ss ++ y) (sym none)) more
stand_both x y (ds ∷ a) b (here, later, is, stand, all) more = (here, later ++ y, ap (λ ss. ss ++ y) is ∙ append_assoc here later y, stand, stand_both later y a b all more)

turn_one : (old new : List Segment) (ds : List Declaration) → AddsFull old new ds → AddsInTurn old new (ds ∷ [])
turn_one old new ds (added, is, stand) = (added, is, (added, [], sym (append-nil added), stand, refl))

turn_both : (old mid new : List Segment) (a b : List (List Declaration)) → AddsInTurn old mid a → AddsInTurn mid new b → AddsInTurn old new (a ++ b)
turn_both old mid new a b (x, x_is, first) (y, y_is, second) = (x ++ y, y_is ∙ ap (λ ss. ss ++ y) x_is ∙ append_assoc old x y, stand_both x y a b first second)

pub by_lengths : (lists : ByLength) (o a b d e : List Segment) → AddsCidEntries 1 lists.one o a → AddsCidEntries 2 lists.two a b → AddsCidEntries 3 lists.three b d → AddsCidEntries 4 lists.four d e → AddsByLength lists o e
by_lengths lists o a b d e (one, one_are, first) (two, two_are, second) (three, three_are, third) (four, four_are, last) =
    let says : ℕ → List CidEntry → List Declaration = λ len es. map (Declaration.cid len) es in (
      record { one = one; two = two; three = three; four = four },
      record { one = one_are; two = two_are; three = three_are; four = four_are },
      turn_both o a e (says 1 one ∷ []) (says 2 two ∷ says 3 three ∷ says 4 four ∷ []) (turn_one o a (says 1 one) first)
          (turn_both a b e (says 2 two ∷ []) (says 3 three ∷ says 4 four ∷ []) (turn_one a b (says 2 two) second) (turn_both b d e (says 3 three ∷ []) (says 4 four ∷ []) (turn_one b d (says 3 three) third) (turn_one d e (says 4 four) last))),
    )

pub arranged_is : (file : File) (prepared : Prepared) (some : List Segment) → prepared.fields.items ≡ fields_of file → AddsByLength file.lists.cids [] some → AddsTextEntries file.lists.bfs some prepared.segments.items → IsArranged file prepared
arranged_is file prepared some fields (cids, cids_are, turn) (texts, texts_are, full) =
    let all = prepared.segments.items in
    let (added, is, stand) = turn_both [] some all (lists_by_length cids) (map Declaration.bf texts ∷ []) turn (turn_one some all (map Declaration.bf texts) full) in
    record {
      fields = fields;
      cids = cids;
      texts = texts;
      cid_entries = cids_are;
      text_entries = texts_are;
      segments = subst (λ ss. StandInTurn ss (lists_by_length cids ++ map Declaration.bf texts ∷ [])) (sym is) stand;
    }
