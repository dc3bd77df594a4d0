-- Segments that are added one after another, and those that are written then.
use Rattle.std.proofs.Common.{◌≡◌, ℕ, ◌+◌, ◌<◌, List, [], ◌∷◌, ◌++◌, get_or, length, map, take, refl, ap, ◌∙◌, sym, subst}
use Rattle.std.specs.List.{flat_map}
use Rattle.std.proofs.lemmas.List.{append_assoc, append-nil, map-append, take_more}
use Rattle.std.proofs.lemmas.List.Concat.{flat_map-append}
use Rattle.cmap_values.specs.Files.{Declaration}
use Rattle.cmap_binary.specs.BinaryFiles.{Content, IsSegment, SegmentAt, declares}
use Rattle.cmap_binary.specs.Bundles.{PrefixTables}
use Rattle.cmap_binary_writer.specs.Segments.{AddsSegments, AreSegmentBytes, DeclareEach, DeclareInOrder, DeclaresAll, IsPayloadOf, IsSegmentOf}
use Rattle.cmap_binary_writer.specs.Written.{Appends, IsFramed, Writes, WritesAll}
use Rattle.cmap_binary_writer.proofs.FilesWritten.{appended_more, appended_none}
use Rattle.cmap_binary_writer.specs.declared.segments.Segment.{Segment}

-- ---- segments after others
each_both : (a b : List Segment) (p q : List (List Declaration)) → DeclareEach a p → DeclareEach b q → DeclareEach (a ++ b) (p ++ q)
each_both [] b [] q none more = more
each_both [] b (x ∷ p) q none more = absurd none
each_both (s ∷ a) b [] q none more = absurd none
each_both (s ∷ a) b (x ∷ p) q (first, later) more = (first, each_both a b p q later more)

abbrev id_part : List Declaration → List Declaration
id_part part = part

in_order_both : (a b : List Segment) (ds es : List Declaration) → DeclareInOrder a ds → DeclareInOrder b es → DeclareInOrder (a ++ b) (ds ++ es)
in_order_both a b ds es (parts, each, flat) (others, each_too, flat_too) = (parts ++ others, each_both a b parts others each each_too, flat_map-append id_part parts others ∙ ap (λ xs. xs ++ flat_map id_part others) flat ∙ ap (λ xs. ds ++ xs) flat_too)

pub adds_none : (old : List Segment) → AddsSegments old old []
adds_none old = ([], sym (append-nil old), ([], tt, refl))

pub adds_both : (ds es : List Declaration) (old mid new : List Segment) → AddsSegments old mid ds → AddsSegments mid new es → AddsSegments old new (ds ++ es)
adds_both ds es old mid new (a, a_is, first) (b, b_is, second) = (a ++ b, b_is ∙ ap (λ xs. xs ++ b) a_is ∙ append_assoc old a b, in_order_both a b ds es first second)

pub adds_one : (ds : List Declaration) (old new : List Segment) (s : Segment) → new ≡ old ++ s ∷ [] → IsSegmentOf s ds → AddsSegments old new ds
adds_one ds old new s is says = (s ∷ [], is, (ds ∷ [], (says, tt), append-nil ds))

pub adds_four : (a b c d : List Declaration) (old one two three new : List Segment) → AddsSegments old one a → AddsSegments one two b → AddsSegments two three c → AddsSegments three new d → AddsSegments old new (a ++ (b ++ (c ++ d)))
adds_four a b c d old one two three new first second third last = adds_both a (b ++ (c ++ d)) old one new first (adds_both b (c ++ d) one two new second (adds_both c d two three new third last))

-- ---- a list, part by part
module _ {X : Type 0} (say : List X → List Declaration) where
  -- segments of these are added, and those are left
  pub record AddedTo (all left : List X) (old now : List Segment) : Type 0 where
    pub done : List X
    pub parts : all ≡ done ++ left
    pub added : AddsSegments old now (say done)

  pub added_none : say [] ≡ [] → (all : List X) (old : List Segment) → AddedTo all all old old
  added_none none all old = record { done = []; parts = refl; added = subst (AddsSegments old old) (sym none) (adds_none old) }

  pub added_more : ((a b : List X) → say (a ++ b) ≡ say a ++ say b) → (all left here later : List X) (old now new : List Segment) (s : Segment) → AddedTo all left old now → left ≡ here ++ later → new ≡ now ++ s ∷ [] → IsSegmentOf s (say here) → AddedTo all later old new
  added_more both all left here later old now new s h cut is says = record {
    done = h.done ++ here;
    parts = h.parts ∙ ap (λ xs. h.done ++ xs) cut ∙ sym (append_assoc h.done here later);
    added = subst (AddsSegments old new) (sym (both h.done here)) (adds_both (say h.done) (say here) old now new h.added (adds_one (say here) now new s is says));
  }

  pub added_all : (all : List X) (old now : List Segment) → AddedTo all [] old now → AddsSegments old now (say all)
  added_all all old now h = subst (λ xs. AddsSegments old now (say xs)) (sym (h.parts ∙ append-nil h.done)) h.added

-- ---- segments that are written, one more
each_split : (a : List Segment) (s : Segment) (parts : List (List Declaration)) → DeclareEach (a ++ s ∷ []) parts → (front : List (List Declaration)) × (last : List Declaration) × (parts ≡ front ++ last ∷ []) × DeclareEach a front × IsSegmentOf s last
each_split [] s [] h = absurd h
each_split [] s (p ∷ []) (says, none) = ([], p, refl, tt, says)
each_split [] s (p ∷ q ∷ parts) (says, more) = absurd more
each_split (x ∷ a) s [] h = absurd h
each_split (x ∷ a) s (p ∷ parts) (says, later) = let (front, last, is, each, here) = each_split a s parts later in (p ∷ front, last, ap (λ ps. p ∷ ps) is, (says, each), here)

-- what is written where segments declare parts
abbrev pub WrittenWhere : PrefixTables → List Segment → List ℕ → List ℕ → Type 0
WrittenWhere tables segments old now = (parts : List (List Declaration)) → DeclareEach segments parts → Appends old now (WritesAll (SegmentAt tables) (map declares parts))

pub written_none : (tables : PrefixTables) (old : List ℕ) → WrittenWhere tables [] old old
written_none tables old [] each = appended_none (SegmentAt tables) old
written_none tables old (p ∷ parts) each = absurd each

pub written_more : (tables : PrefixTables) (segments : List Segment) (i : ℕ) (s : Segment) (old now new payload : List ℕ) → i < length segments → s ≡ get_or segments i s → WrittenWhere tables (take i segments) old now → IsPayloadOf tables s payload
    → Appends now new (λ bytes. (tables : PrefixTables) (content : Content) → IsSegment tables s.number payload content → Writes (SegmentAt tables) content bytes) → WrittenWhere tables (take (i + 1) segments) old new
written_more tables segments i s old now new payload within here h is_payload (bytes, is, writes) parts each =
    let (front, last, parts_are, each_front, says) = each_split (take i segments) (get_or segments i s) parts (subst (λ ss. DeclareEach ss parts) (take_more segments i s within) each) in
    let contents : map declares parts ≡ map declares front ++ declares last ∷ [] = ap (map declares) parts_are ∙ map-append declares front (last ∷ []) in
    let says_too = subst (λ x. DeclaresAll x last) (sym here) says.declares in
    subst (λ cs. Appends old new (WritesAll (SegmentAt tables) cs)) (sym contents) (appended_more (SegmentAt tables) old now new (map declares front) (declares last) (h front each_front) (bytes, is, writes tables (declares last) (says_too tables payload is_payload)))

-- ---- the bytes of segments, one more
bytes_push : (tables : PrefixTables) (segments : List Segment) (s : Segment) (payload before here : List ℕ) → AreSegmentBytes tables segments before → IsPayloadOf tables s payload → IsFramed (s.number ∷ []) payload here → AreSegmentBytes tables (segments ++ s ∷ []) (before ++ here)
bytes_push tables [] s payload before here none is framed = (payload, here, [], is, framed, ap (λ bs. bs ++ here) none ∙ sym (append-nil here), refl)
bytes_push tables (x ∷ segments) s payload before here (p, first, later, is_first, framed_first, parts, all) is framed = (p, first, later ++ here, is_first, framed_first, ap (λ bs. bs ++ here) parts ∙ append_assoc first later here, bytes_push tables segments s payload later here all is framed)

pub bytes_none : (tables : PrefixTables) (old : List ℕ) → Appends old old (AreSegmentBytes tables [])
bytes_none tables old = ([], sym (append-nil old), refl)

pub bytes_more : (tables : PrefixTables) (segments : List Segment) (i : ℕ) (s : Segment) (old now new payload : List ℕ) → i < length segments → s ≡ get_or segments i s → Appends old now (AreSegmentBytes tables (take i segments)) → IsPayloadOf tables s payload
    → Appends now new (IsFramed (s.number ∷ []) payload) → Appends old new (AreSegmentBytes tables (take (i + 1) segments))
bytes_more tables segments i s old now new payload within here (before, is, all) is_payload (bytes, more, framed) = (
  before ++ bytes,
  more ∙ ap (λ bs. bs ++ bytes) is ∙ append_assoc old before bytes,
  subst (λ ss. AreSegmentBytes tables ss (before ++ bytes)) (sym (take_more segments i s within ∙ ap (λ x. take i segments ++ x ∷ []) (sym here))) (bytes_push tables (take i segments) s payload before bytes all is_payload framed),
)
