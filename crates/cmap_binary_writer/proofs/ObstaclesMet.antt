-- Obstacles of parts of a file, and of the whole.
use Rattle.std.proofs.Common.{◌≡◌, ◌∙◌, ℕ, ◌<◌, ◌≤◌, ◌^◌, ◌⊎◌, inl, inr, List, Ok, Err, ◌++◌, Some, None, get_or, length, map, ap, sym, subst, arith}
use Rattle.std.specs.Prelude.{All, Any, Contains, IfErr, IfOk, IsErrAnd, IsSomeAnd, Option, Result, option_map}
use Rattle.std.proofs.lemmas.List.{get_or-map, length-map, map-append}
use Rattle.std.proofs.lemmas.Option.{none-some, same_Some}
use Rattle.cmap_runs.specs.Ranges.{runs_of}
use Rattle.cmap_values.specs.DeclarationsSeen.{bf_entry_seen, bf_range_span, cid_entry_seen, codespace_seen, entries_seen}
use Rattle.cmap_values.specs.Files as files
use Rattle.std.proofs.Common.{zero, suc, ◌+◌, ◌*◌, [], ◌∷◌}
use Rattle.std.proofs.lemmas.Bool.{cases_lt}
use Rattle.cmap_values.specs.Files.{ByLength, BfEntry, CidEntry, Declaration, File}
use Rattle.cmap_values.specs.Outcomes.{Outcome, RefusesWith}
use Rattle.cmap_values.proofs.Outcomes.{refused_as}
use Rattle.cmap_values.proofs.ElementsSeen.{any_at}
use Rattle.cmap_values.specs.declared.declarations.BfRange.{BfRange}
use Rattle.cmap_values.specs.declared.declarations.CidRange.{CidRange}
use Rattle.cmap_values.specs.declared.declarations.Codespace.{Codespace}
use Rattle.cmap_values.specs.declared.fault.Fault.TheVariants.{Memory, Refused}
use Rattle.cmap_values.specs.declared.fault.Fault.{Fault}
use Rattle.cmap_values.specs.Metadata.{Collection, FileMetadata}
use Rattle.cmap_values.specs.Names.{ordering_of, registry_of}
use Rattle.cmap_layers.specs.Lookups.{bf_span, last_bf}
use Rattle.cmap_binary.specs.Bundles.{PrefixTables}
use Rattle.cmap_binary_writer.specs.Obstacles.{GivesLargeCid, HasLongText, HasManyTexts, IsCidListsObstacle, IsCidObstacle, IsCodeObstacle, IsCollectionObstacle, IsColumnObstacle, IsFamilyObstacle, IsGivenCollectionObstacle, IsLarge, IsLargeEnd, IsLargeNotdef, IsLongName, IsMetadataObstacle, IsNotdefListsObstacle, IsNotdefObstacle, IsNotdefsObstacle, IsObstacle, IsPreparedFor, IsPreparedObstacle, IsSegmentObstacle, IsSegmentsObstacle, IsSpaceObstacle, IsSpacesObstacle, IsTerminatedObstacle, IsTextObstacle, IsWriteObstacle}
use Rattle.cmap_binary_writer.specs.Failures.{IsTooLongIf}
use Rattle.cmap_binary_writer.specs.EncodersSeen.{shape_seen}
use Rattle.cmap_binary_writer.specs.Segments.{DeclareEach, IsSegmentOf, declared_span}
use Rattle.cmap_binary_writer.specs.Spelled.{IsNoSymbol}
use Rattle.cmap_binary_writer.specs.Pieces.{AllSayAs, SaysAs}
use Rattle.cmap_binary_writer.specs.TextParts.{IsDecidedText, units_at, units_from}
use Rattle.cmap_binary_writer.specs.Texts.{IsLongTextIn}
use Rattle.cmap_binary_writer.specs.Weights.{run_span}
use Rattle.cmap_binary_writer.specs.declared.obstacle.Obstacle.TheVariants.{CustomFamily, LargeCid, LargeCode, NoWord, Supplement, Text, TooLong, ZeroByte}
use Rattle.cmap_binary_writer.specs.declared.obstacle.Obstacle.{Obstacle}
use Rattle.cmap_binary_writer.specs.declared.prepared.Prepared.{Prepared}
use Rattle.cmap_binary_writer.specs.declared.segments.Segment.{Segment}
use Rattle.cmap_binary_writer.proofs.NumbersWritten.{length_counts_by, length_deltas_of}
use Rattle.cmap_binary_writer.proofs.TextParts.{text_has, units_first}
use Rattle.cmap_binary_writer.proofs.TextPartsSeen.{run_of_range}
use Rattle.cmap_binary_writer.proofs.Told.{Any-left, Any-right}

-- what holds of an element of a part
pub any_in : {X E : Type 0} (P : E → Type 0) (seen : X → E) (all done left here later : List X) → all ≡ done ++ left → left ≡ here ++ later → Any P (map seen here) → Any P (map seen all)
any_in P seen all done left here later whole cut h =
    let of_left : Any P (map seen left) = subst (λ xs. Any P xs) (sym (ap (map seen) cut ∙ map-append seen here later)) (Any-left P (map seen here) (map seen later) h) in
    subst (λ xs. Any P xs) (sym (ap (map seen) whole ∙ map-append seen done left)) (Any-right P (map seen done) (map seen left) of_left)

-- ---- notdef declarations
pub notdef_among : (len : ℕ) (entries : List CidRange) (i : ℕ) (d : CidRange) → i < length entries → (o : Obstacle) → IsNotdefObstacle len (cid_entry_seen (get_or entries i d)) o → IsNotdefsObstacle len (entries_seen entries) o
notdef_among len entries i d within (LargeCid range) h = any_at (IsLargeNotdef range) cid_entry_seen entries i d within h
notdef_among len entries i d within (LargeCode code) h = any_at (λ e. IsLargeEnd code len e.start e.end) cid_entry_seen entries i d within h
notdef_among len entries i d within other h = absurd h

pub notdefs_among : (len : ℕ) (all done left here later : List CidRange) → all ≡ done ++ left → left ≡ here ++ later → (o : Obstacle) → IsNotdefsObstacle len (entries_seen here) o → IsNotdefsObstacle len (entries_seen all) o
notdefs_among len all done left here later whole cut (LargeCid range) h = any_in (IsLargeNotdef range) cid_entry_seen all done left here later whole cut h
notdefs_among len all done left here later whole cut (LargeCode code) h = any_in (λ e. IsLargeEnd code len e.start e.end) cid_entry_seen all done left here later whole cut h
notdefs_among len all done left here later whole cut other h = absurd h

pub by_notdef_list : (lists : ByLength) (len : ℕ) (xs : List CidRange) → entries_seen xs ≡ files.of_length lists len → (o : Obstacle) → IsNotdefsObstacle len (entries_seen xs) o → IsNotdefListsObstacle lists o
by_notdef_list lists len xs is (LargeCid range) h = (len, subst (λ es. Any (IsLargeNotdef range) es) is h)
by_notdef_list lists len xs is (LargeCode code) h = (len, subst (λ es. Any (λ e. IsLargeEnd code len e.start e.end) es) is h)
by_notdef_list lists len xs is other h = absurd h

-- a start that is too large is an obstacle of the declaration
pub by_start : (len : ℕ) (e : CidEntry) (o : Obstacle) → IsCodeObstacle len e.start o → IsNotdefObstacle len e o
by_start len e (LargeCode code) (is, past) = (inl is, subst (λ n. 256 ^ len ≤ n) (sym is) past)
by_start len e other h = absurd h

-- so is an end
pub by_end : (len : ℕ) (e : CidEntry) (o : Obstacle) → IsCodeObstacle len e.end o → IsNotdefObstacle len e o
by_end len e (LargeCode code) (is, past) = (inr is, subst (λ n. 256 ^ len ≤ n) (sym is) past)
by_end len e other h = absurd h

-- ---- codespace ranges
-- a low end that is too large is an obstacle of the range
pub by_low : (space : files.Codespace) (o : Obstacle) → IsCodeObstacle space.len space.low o → IsSpaceObstacle space o
by_low space (LargeCode code) (is, past) = (inl is, subst (λ n. 256 ^ space.len ≤ n) (sym is) past)
by_low space other h = absurd h

-- so is a high end
pub by_high : (space : files.Codespace) (o : Obstacle) → IsCodeObstacle space.len space.high o → IsSpaceObstacle space o
by_high space (LargeCode code) (is, past) = (inr is, subst (λ n. 256 ^ space.len ≤ n) (sym is) past)
by_high space other h = absurd h

pub space_among : (spaces : List Codespace) (i : ℕ) (d : Codespace) → i < length spaces → (o : Obstacle) → IsSpaceObstacle (codespace_seen (get_or spaces i d)) o → IsSpacesObstacle (map codespace_seen spaces) o
space_among spaces i d within (LargeCode code) h = any_at (λ space. IsLargeEnd code space.len space.low space.high) codespace_seen spaces i d within h
space_among spaces i d within other h = absurd h

pub spaces_among : (all done left here later : List Codespace) → all ≡ done ++ left → left ≡ here ++ later → (o : Obstacle) → IsSpacesObstacle (map codespace_seen here) o → IsSpacesObstacle (map codespace_seen all) o
spaces_among all done left here later whole cut (LargeCode code) h = any_in (λ space. IsLargeEnd code space.len space.low space.high) codespace_seen all done left here later whole cut h
spaces_among all done left here later whole cut other h = absurd h

-- ---- the whole file
pub by_cid_list : (lists : ByLength) (len : ℕ) (xs : List CidRange) → entries_seen xs ≡ files.of_length lists len → (o : Obstacle) → IsCidObstacle (entries_seen xs) o → IsCidListsObstacle lists o
by_cid_list lists len xs is (LargeCid range) h = (len, subst (λ es. GivesLargeCid es range) is h)
by_cid_list lists len xs is other h = absurd h

-- ---- texts
some_told : {A B : Type 0} (f : A → B) (P : B → Type 0) (o : Option A) (b : B) → option_map f o ≡ Some b → P b → IsSomeAnd o (λ a. P (f a))
some_told f P None b is p = absurd (none-some b is)
some_told f P (Some a) b is p = subst P (sym (same_Some (f a) b is)) p

element : (P : BfEntry → Type 0) (ranges : List BfRange) (k : ℕ) (e : BfRange) → k < length ranges → get_or ranges k e ≡ e → All P (map bf_entry_seen ranges) → P (bf_entry_seen e)
element P ranges k e within is all = subst (λ r. P (bf_entry_seen r)) is (subst P (get_or-map bf_entry_seen ranges k e (bf_entry_seen e) within) (all k (bf_entry_seen e) (omega (arith, within, length-map ranges bf_entry_seen))))

pub long_text : (es : List BfEntry) (ranges : List BfRange) → All IsDecidedText (map bf_entry_seen ranges) → AllSayAs bf_span units_at es (map bf_entry_seen ranges) → map bf_range_span ranges ≡ map run_span (runs_of (map bf_span es)) → (fault : Fault Obstacle) → IsLongTextIn ranges fault → RefusesWith (IsTextObstacle es) fault
long_text es ranges small say runs (Refused (Text range)) (k, e, within, is, (range_is, long)) =
    let part = bf_entry_seen e in
    let decided = element IsDecidedText ranges k e within is small in
    let first : units_at part part.start ≡ part.units = ap (units_from part.units) (omega arith) ∙ units_first part.units decided.3 in
    let told = element (SaysAs bf_span units_at es) ranges k e within is say part.start (text_has part part.start (omega arith) decided.0) ∙ ap Some first in
    inl (subst (λ r. HasLongText es r) range_is (run_of_range ranges (runs_of (map bf_span es)) runs k e within is, some_told (λ d. units_at d part.start) (λ units. 2 ^ 8 ≤ length units) (last_bf es part.start) part.units told long))
long_text es ranges small say runs (Refused other) h = absurd h
long_text es ranges small say runs Memory h = tt

-- ---- numbers without code words
pub segment_among : (tables : PrefixTables) (segments : List Segment) (i : ℕ) (s : Segment) → i < length segments → s ≡ get_or segments i s → (o : Obstacle) → IsSegmentObstacle tables s o → IsSegmentsObstacle tables segments o
segment_among tables segments i s within is NoWord h = (i, s, within, sym is, h)
segment_among tables segments i s within is TooLong h = (i, s, within, sym is, inl h)
segment_among tables segments i s within is other h = absurd h

-- a payload that is too long is that of a large segment
pub large_payload : (segment : Segment) (len : ℕ) → len ≤ 10 + 4 * (length segment.deltas.items + length segment.counts.items) + length segment.values.items → 2 ^ 32 ≤ 5 + len → IsLarge segment
large_payload segment len most long = elim (cases_lt (length segment.deltas.items) (2 ^ 16)) [
  | inr many ↦ inl (inl many)
  | inl few ↦
      elim (cases_lt (length segment.counts.items) (2 ^ 16)) [
        | inr many ↦ inl (inr many)
        | inl fewer ↦ inr (omega (arith, most, long, few, fewer))
      ]
]

pub large_among : (segments : List Segment) (i : ℕ) (s : Segment) → i < length segments → s ≡ get_or segments i s → IsLarge s → Any IsLarge segments
large_among segments i s within is large = (i, s, within, sym is, large)

-- segments of a file aren't large
pub not_large : (s : Segment) (ds : List Declaration) → IsSegmentOf s ds → IsLarge s → ⊥
not_large s ds is (inl (inl many)) = omega (arith, many, is.few, ap length is.deltas, length_deltas_of 0 (map declared_span ds), length-map ds declared_span)
not_large s ds is (inl (inr many)) = omega (arith, many, is.few, ap length is.counts, length_counts_by (shape_seen s.shape) (map declared_span ds), length-map ds declared_span)
not_large s ds is (inr long) = omega (arith, long, is.few, is.values)

pub none_large : (segments : List Segment) (parts : List (List Declaration)) → DeclareEach segments parts → Any IsLarge segments → ⊥
none_large [] parts each (k, s, within, is, large) = omega (arith, within)
none_large (x ∷ segments) [] each any = absurd each
none_large (x ∷ segments) (p ∷ parts) (first, each) (zero, s, within, is, large) = not_large x p first (subst IsLarge (sym is) large)
none_large (x ∷ segments) (p ∷ parts) (first, each) (suc k, s, within, is, large) = none_large segments parts each (k, s, omega (arith, within), is, large)

-- what stops segments stops what is prepared
pub by_segments : (tables : PrefixTables) (prepared : Prepared) (o : Obstacle) → IsSegmentsObstacle tables prepared.segments.items o → IsPreparedObstacle tables prepared o
by_segments tables prepared NoWord h = h
by_segments tables prepared TooLong h = inl h
by_segments tables prepared other h = absurd h

pub unspelled : (tables : PrefixTables) (file : File) (prepared : Prepared) → IsPreparedFor file prepared → (o : Obstacle) → IsPreparedObstacle tables prepared o → IsWriteObstacle tables file o
unspelled tables file prepared is NoWord h = (prepared, is, h)
unspelled tables file prepared is TooLong (inl large) = absurd (none_large prepared.segments.items is.says.parts is.says.segments large)
unspelled tables file prepared is TooLong (inr long) = inr (prepared, is, long)
unspelled tables file prepared is other h = absurd h

-- what stops a file
pub by_file : (tables : PrefixTables) (file : File) (o : Obstacle) → IsObstacle file o → IsWriteObstacle tables file o
by_file tables file NoWord h = absurd h
by_file tables file TooLong h = inl h
by_file tables file other h = h

-- ---- a column of a segment
-- a delta without a code word is an obstacle of the segment
pub by_deltas : (tables : PrefixTables) (segment : Segment) (symbols : List ℕ) → symbols ≡ segment.deltas.items → (o : Obstacle) → IsColumnObstacle tables.delta symbols o → IsSegmentObstacle tables segment o
by_deltas tables segment symbols is NoWord h = inl (subst (Any (IsNoSymbol tables.delta)) is h)
by_deltas tables segment symbols is TooLong h = let size = ap length is in inl (omega (arith, size, h))
by_deltas tables segment symbols is other h = absurd h

-- so is a count
pub by_counts : (tables : PrefixTables) (segment : Segment) (symbols : List ℕ) → symbols ≡ segment.counts.items → (o : Obstacle) → IsColumnObstacle tables.count symbols o → IsSegmentObstacle tables segment o
by_counts tables segment symbols is NoWord h = inr (subst (Any (IsNoSymbol tables.count)) is h)
by_counts tables segment symbols is TooLong h = let size = ap length is in inr (omega (arith, size, h))
by_counts tables segment symbols is other h = absurd h

-- ---- a character collection
-- what is wrong with the family is wrong with the collection
pub by_family : (collection : Collection) (o : Obstacle) → IsFamilyObstacle collection.family o → IsCollectionObstacle collection o
by_family collection CustomFamily h = h
by_family collection other h = absurd h

-- a zero byte in the registry is an obstacle of the collection
pub by_registry : (collection : Collection) (text : List ℕ) → text ≡ registry_of collection.family → (o : Obstacle) → IsTerminatedObstacle text o → IsCollectionObstacle collection o
by_registry collection text is ZeroByte h = inl (subst (λ t. Contains t 0) is h)
by_registry collection text is other h = absurd h

-- so is one in the ordering
pub by_ordering : (collection : Collection) (text : List ℕ) → text ≡ ordering_of collection.family → (o : Obstacle) → IsTerminatedObstacle text o → IsCollectionObstacle collection o
by_ordering collection text is ZeroByte h = inr (subst (λ t. Contains t 0) is h)
by_ordering collection text is other h = absurd h

-- what is wrong with the collection, where there is one
pub by_collection : (said : Option Collection) (collection : Collection) → said ≡ Some collection → (o : Obstacle) → IsCollectionObstacle collection o → IsGivenCollectionObstacle said o
by_collection said collection is ZeroByte h = rw is h
by_collection said collection is CustomFamily h = rw is h
by_collection said collection is (Supplement n) h = rw is h
by_collection said collection is other h = absurd h

-- so it is wrong with the metadata
pub by_given : (m : FileMetadata) (o : Obstacle) → IsGivenCollectionObstacle m.collection o → IsMetadataObstacle m o
by_given m TooLong h = inl h
by_given m ZeroByte h = h
by_given m CustomFamily h = h
by_given m (Supplement n) h = h
by_given m other h = absurd h

-- and so is what is wrong with the name
pub by_name : (m : FileMetadata) (o : Obstacle) → (o ≡ TooLong) × IsSomeAnd m.name IsLongName → IsMetadataObstacle m o
by_name m o (is, long) = rw is (inr long)

-- ---- parts of a file
-- an obstacle of the metadata is one of the file
pub by_metadata : (file : File) (o : Obstacle) → IsMetadataObstacle file.metadata o → IsObstacle file o
by_metadata file ZeroByte h = h
by_metadata file CustomFamily h = h
by_metadata file (Supplement n) h = h
by_metadata file TooLong h = inl h
by_metadata file other h = absurd h

-- so is a name of a file that it uses
pub by_uses : (file : File) (names : List (List ℕ)) → names ≡ file.uses → (o : Obstacle) → (o ≡ TooLong) × Any IsLongName names → IsObstacle file o
by_uses file names same o (is, long) = rw is (inr (subst (Any IsLongName) same long))

-- and one of its codespace ranges
pub by_spaces : (file : File) (spaces : List files.Codespace) → spaces ≡ file.lists.spaces → (o : Obstacle) → IsSpacesObstacle spaces o → IsObstacle file o
by_spaces file spaces is (LargeCode code) h = inl (subst (Any (λ space. IsLargeEnd code space.len space.low space.high)) is h)
by_spaces file spaces is other h = absurd h

-- and one of its notdef declarations
pub by_notdefs : (file : File) (o : Obstacle) → IsNotdefListsObstacle file.lists.notdefs o → IsObstacle file o
by_notdefs file (LargeCid range) h = inr h
by_notdefs file (LargeCode code) h = inr h
by_notdefs file other h = absurd h

-- and one of its CIDs
pub by_cids : (file : File) (o : Obstacle) → IsCidListsObstacle file.lists.cids o → IsObstacle file o
by_cids file (LargeCid range) h = inl h
by_cids file other h = absurd h

-- and one of its texts
pub by_texts : (file : File) (es : List BfEntry) → es ≡ file.lists.bfs → (o : Obstacle) → IsTextObstacle es o → IsObstacle file o
by_texts file es is (Text range) h = subst (λ es. HasLongText es range ⊎ HasManyTexts es range) is h
by_texts file es is other h = absurd h

-- ---- what is too long
-- a call that is refused as too long, passed on by `?` for another reason to be so
pub long_on : {A : Type 0} (long more : Type 0) (result : Result A (Fault Obstacle)) (fault : Fault Obstacle) → IsErrAnd result (λ e. e ≡ fault) → IsTooLongIf long fault → (long → more) → IfErr result (IsTooLongIf more)
long_on long more (Ok x) fault is h gives = absurd is
long_on long more (Err error) (Refused TooLong) is h gives = rw is (gives h)
long_on long more (Err error) (Refused other) is h gives = absurd h
long_on long more (Err error) Memory is h gives = rw is tt

-- and one whose result is handed on
pub long_of : {A : Type 0} (long more : Type 0) (result : Result A (Fault Obstacle)) → IfErr result (IsTooLongIf long) → (long → more) → IfErr result (IsTooLongIf more)
long_of long more (Ok x) h gives = tt
long_of long more (Err (Refused TooLong)) h gives = gives h
long_of long more (Err (Refused other)) h gives = absurd h
long_of long more (Err Memory) h gives = tt

-- nothing is too long
pub never_long : {A : Type 0} (long : Type 0) (P : Obstacle → Type 0) (result : Result A (Fault Obstacle)) (fault : Fault Obstacle) → IsErrAnd result (λ e. e ≡ fault) → IsTooLongIf long fault → (long → ⊥) → IfErr result (RefusesWith P)
never_long long P (Ok x) fault is h none = absurd is
never_long long P (Err error) (Refused TooLong) is h none = absurd (none h)
never_long long P (Err error) (Refused other) is h none = absurd h
never_long long P (Err error) Memory is h none = rw is tt

-- what is too long is refused as this, passed on by `?`
pub too_long : {A : Type 0} (long : Type 0) (P : Obstacle → Type 0) (result : Result A (Fault Obstacle)) (fault : Fault Obstacle) → IsErrAnd result (λ e. e ≡ fault) → IsTooLongIf long fault → (long → P TooLong) → IfErr result (RefusesWith P)
too_long long P (Ok x) fault is h p = absurd is
too_long long P (Err error) (Refused TooLong) is h p = rw is (p h)
too_long long P (Err error) (Refused other) is h p = absurd h
too_long long P (Err error) Memory is h p = rw is tt

-- and where the result is handed on
pub too_long_of : {A : Type 0} (long : Type 0) (P : Obstacle → Type 0) (result : Result A (Fault Obstacle)) → IfErr result (IsTooLongIf long) → (long → P TooLong) → IfErr result (RefusesWith P)
too_long_of long P (Ok x) h p = tt
too_long_of long P (Err (Refused TooLong)) h p = p h
too_long_of long P (Err (Refused other)) h p = absurd h
too_long_of long P (Err Memory) h p = tt

-- ---- what a call comes to
pub both_ok : {A E : Type 0} {P Q S : A → Type 0} (result : Result A E) → IfOk result P → IfOk result Q → ((x : A) → P x → Q x → S x) → IfOk result S
both_ok (Ok x) first second both = both x first second
both_ok (Err error) first second both = tt

-- a result that is handed on
pub handed_on : {A R : Type 0} {S T : A → Type 0} {P Q : R → Type 0} (result : Result A (Fault R)) → Outcome S P result → ((x : A) → S x → T x) → ((o : R) → P o → Q o) → Outcome T Q result
handed_on (Ok x) done more gives = (more x done.0, tt)
handed_on (Err fault) done more gives = (tt, refused_as fault done.1 gives)

-- one that is refused only as too long
pub long_handed_on : {A : Type 0} (long : Type 0) {S T : A → Type 0} (Q : Obstacle → Type 0) (result : Result A (Fault Obstacle)) → IfOk result S → IfErr result (IsTooLongIf long) → ((x : A) → S x → T x) → (long → Q TooLong) → Outcome T Q result
long_handed_on long Q (Ok x) done refused more gives = (more x done, tt)
long_handed_on long Q (Err (Refused TooLong)) done refused more gives = (tt, gives refused)
long_handed_on long Q (Err (Refused other)) done refused more gives = absurd refused
long_handed_on long Q (Err Memory) done refused more gives = (tt, tt)

-- and its error, passed on by `?`
pub long_passed_on : {A : Type 0} (long : Type 0) (T : A → Type 0) (Q : Obstacle → Type 0) (result : Result A (Fault Obstacle)) (fault : Fault Obstacle) → IsErrAnd result (λ e. e ≡ fault) → IsTooLongIf long fault → (long → Q TooLong) → Outcome T Q result
long_passed_on long T Q (Ok x) fault is refused gives = absurd is
long_passed_on long T Q (Err error) (Refused TooLong) is refused gives = (tt, rw is (gives refused))
long_passed_on long T Q (Err error) (Refused other) is refused gives = absurd refused
long_passed_on long T Q (Err error) Memory is refused gives = (tt, rw is tt)

-- ---- a want of memory
-- nor is something too long
pub memory_long : {A : Type 0} (long : Type 0) (result : Result A (Fault Obstacle)) → IsErrAnd result (λ e. e ≡ Memory) → IfErr result (IsTooLongIf long)
memory_long long (Ok x) is = absurd is
memory_long long (Err error) is = rw is tt

pub memory_passed_on : {A R : Type 0} (T : A → Type 0) (Q : R → Type 0) (result : Result A (Fault R)) → IsErrAnd result (λ e. e ≡ Memory) → Outcome T Q result
memory_passed_on T Q (Ok x) is = absurd is
memory_passed_on T Q (Err error) is = (tt, rw is tt)
