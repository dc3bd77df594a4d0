-- A binary file that is read past its faults: of a file just what it says, of other bytes a fault, and one answer.
use Rattle.std.proofs.Common.{◌≡◌, ◌≢◌, ℕ, ◌+◌, ◌≤◌, refl, sym, ap, ◌∙◌, subst, List, [], ◌∷◌, ◌++◌, length, map, arith, inl, inr}
use Rattle.std.proofs.lemmas.List.{map-append}
use Rattle.cmap_values.specs.Faults.{Ascend}
use Rattle.cmap_values.specs.Files.{File}
use Rattle.cmap_values.specs.Only.{IsOnly, HoldsOfNone}
use Rattle.cmap_values.specs.declared.fault.Stop.{Stop}
use Rattle.cmap_binary.specs.Bundles.{PrefixTables}
use Rattle.cmap_binary.specs.BinaryFiles.{BodyOf, Content, IsBinaryFile, SegmentAt, file_of}
use Rattle.cmap_binary.specs.BinarySalvage.{BeginsWithin, BodyRead, SalvagesBinary, SegmentSays, SegmentsFrom, at_fault, cut_short, ended, no_header, said, whole, wrong_length}
use Rattle.cmap_binary.specs.BinaryFaults.{IsBinaryFault, SegmentFault, after_segment, no_segment, says_nothing}
use Rattle.cmap_binary.specs.Fronts.{AllOf, FramedAt}
use Rattle.cmap_binary.proofs.Bodies.{after_alone, after_within, body_alone, body_follows, body_within}
use Rattle.cmap_binary.proofs.Fronts.{framed_alone, no_frame}

abbrev pub offsets : List Stop → List ℕ
offsets faults = map (λ stop. stop.offset) faults

-- ---- faults in order
ascend_least : {low high : ℕ} (faults : List Stop) → Ascend low faults high → low ≤ high
ascend_least [] up = up
ascend_least (stop ∷ stops) (least, up) = omega (arith, least, ascend_least stops up)

-- within wider bounds
ascend_within : {low high : ℕ} (least most : ℕ) (faults : List Stop) → least ≤ low → high ≤ most → Ascend low faults high → Ascend least faults most
ascend_within least most [] below above up = omega (arith, below, above, up)
ascend_within least most (stop ∷ stops) below above (first, up) = (omega (arith, below, first), ascend_within stop.offset most stops (omega arith) above up)

-- ---- segments
module _ (tables : PrefixTables) where
  -- those without a fault say it all
  all_say : {offset : ℕ} {bytes : List ℕ} {contents : List Content} → SegmentsFrom tables offset bytes contents [] → AllOf (SegmentAt tables) bytes contents
  all_say ended = refl
  all_say (said {segment = segment} {rest = rest} framed only from) = (rest, (segment, rest, framed, (only.holds, refl)), all_say from)

  -- what is left after a whole segment is what is left of all
  rest_says : {bytes segment rest : List ℕ} (all : List Content) → FramedAt 1 bytes (segment, rest) → AllOf (SegmentAt tables) bytes all → (first : Content) × (more : List Content) × (all ≡ first ∷ more) × SegmentSays tables segment first × AllOf (SegmentAt tables) rest more
  rest_says {segment = segment} {rest = rest} [] framed is = absurd (no_frame 1 (segment, rest) (subst (λ b. FramedAt 1 b (segment, rest)) is framed))
  rest_says (x ∷ xs) framed (left, (other, after, at, (says, same)), all) =
      let alone = framed_alone 1 _ _ framed at in
      (x, xs, refl, subst (λ p. SegmentSays tables p.0 x) (sym alone) says, subst (λ r. AllOf (SegmentAt tables) r xs) (same ∙ ap (λ p. p.1) (sym alone)) all)

  -- where all segments say something there is no fault, and they say just that
  alone_say : {offset : ℕ} {bytes : List ℕ} {contents : List Content} {faults : List Stop} (all : List Content) → SegmentsFrom tables offset bytes contents faults → AllOf (SegmentAt tables) bytes all → (all ≡ contents) × (faults ≡ [])
  alone_say [] ended is = (refl, refl)
  alone_say (x ∷ xs) ended (left, (other, after, at, says), all) = absurd (no_frame 1 _ at)
  alone_say [] (cut_short some wrong) is = absurd (some is)
  alone_say (x ∷ xs) (cut_short some wrong) (left, (other, after, at, says), all) = absurd (wrong _ at)
  alone_say all (said {content = content} framed only from) is =
      let (first, more, are, says, later) = rest_says all framed is in
      let (same, none) = alone_say more from later in
      (are ∙ ap (λ x. x ∷ more) (only.alone first says) ∙ ap (λ xs. content ∷ xs) same, none)
  alone_say all (at_fault reason framed wrong from) is = let (first, more, are, says, later) = rest_says all framed is in absurd (wrong.0 first says)

  -- nothing stands in no bytes
  nothing_said : {offset : ℕ} {contents : List Content} {faults : List Stop} → SegmentsFrom tables offset [] contents faults → (contents ≡ []) × (faults ≡ [])
  nothing_said ended = (refl, refl)
  nothing_said (cut_short some wrong) = absurd (some refl)
  nothing_said (said framed only from) = absurd (no_frame 1 _ framed)
  nothing_said (at_fault reason framed wrong from) = absurd (no_frame 1 _ framed)

  -- what follows a segment is read on from there
  from_alone : (offset : ℕ) {bytes segment rest other after : List ℕ} {contents : List Content} {faults : List Stop} → FramedAt 1 bytes (segment, rest) → FramedAt 1 bytes (other, after)
      → SegmentsFrom tables (offset + length other) after contents faults → SegmentsFrom tables (offset + length segment) rest contents faults
  from_alone offset {bytes} {segment} {rest} {other} {after} {contents} {faults} framed also from = subst (λ p. SegmentsFrom tables (offset + length p.0) p.1 contents faults) (framed_alone 1 (other, after) (segment, rest) also framed) from

  -- bytes that are no segment have one fault
  cut_alone : {offset : ℕ} {bytes : List ℕ} {contents : List Content} {faults : List Stop} → bytes ≢ [] → HoldsOfNone (FramedAt 1 bytes) → SegmentsFrom tables offset bytes contents faults → (contents ≡ []) × (offsets faults ≡ offset ∷ [])
  cut_alone some wrong ended = absurd (some refl)
  cut_alone some wrong (cut_short also none) = (refl, refl)
  cut_alone some wrong (said framed only from) = absurd (wrong _ framed)
  cut_alone some wrong (at_fault reason framed none from) = absurd (wrong _ framed)

  -- a segment says what it says
  said_alone : {offset : ℕ} {bytes segment rest : List ℕ} {content : Content} {contents : List Content} {faults : List Stop} → FramedAt 1 bytes (segment, rest) → IsOnly (SegmentSays tables segment) content → SegmentsFrom tables offset bytes contents faults
      → (later : List Content) × (contents ≡ content ∷ later) × SegmentsFrom tables (offset + length segment) rest later faults
  said_alone framed only ended = absurd (no_frame 1 _ framed)
  said_alone framed only (cut_short some wrong) = absurd (wrong _ framed)
  said_alone {segment = segment} framed only (said {segment = other} {content = content} {contents = later} also says from) =
      let same = framed_alone 1 _ _ also framed in
      (later, ap (λ x. x ∷ later) (only.alone content (subst (λ p. SegmentSays tables p.0 content) same says.holds)), from_alone _ framed also from)
  said_alone {content = content} framed only (at_fault reason also wrong from) = let same = framed_alone 1 _ _ framed also in absurd (wrong.0 content (subst (λ p. SegmentSays tables p.0 content) same only.holds))

  -- a segment at fault is a fault
  fault_alone : {offset : ℕ} {bytes segment rest : List ℕ} {contents : List Content} {faults : List Stop} → FramedAt 1 bytes (segment, rest) → HoldsOfNone (SegmentSays tables segment) → SegmentsFrom tables offset bytes contents faults
      → (stops : List Stop) × (offsets faults ≡ offset ∷ offsets stops) × SegmentsFrom tables (offset + length segment) rest contents stops
  fault_alone framed wrong ended = absurd (no_frame 1 _ framed)
  fault_alone framed wrong (cut_short some none) = absurd (none _ framed)
  fault_alone framed wrong (said {content = content} also only from) = let same = framed_alone 1 _ _ also framed in absurd (wrong content (subst (λ p. SegmentSays tables p.0 content) same only.holds))
  fault_alone framed wrong (at_fault {faults = stops} reason also none from) = (stops, refl, from_alone _ framed also from)

  -- the same bytes have one answer, but for the reasons of faults
  alike : {offset : ℕ} {bytes : List ℕ} {contents others : List Content} {faults stops : List Stop} → SegmentsFrom tables offset bytes contents faults → SegmentsFrom tables offset bytes others stops → (contents ≡ others) × (offsets faults ≡ offsets stops)
  alike ended other = let (says, none) = nothing_said other in (sym says, sym (ap offsets none))
  alike (cut_short some wrong) other = let (says, faults) = cut_alone some wrong other in (sym says, sym faults)
  alike (said {content = content} framed only from) other =
      let (later, says, rest) = said_alone framed only other in
      let (same, at) = alike from rest in
      (ap (λ xs. content ∷ xs) same ∙ sym says, at)
  alike {offset} (at_fault reason framed wrong from) other =
      let (stops, faults, rest) = fault_alone framed wrong.0 other in
      let (same, at) = alike from rest in
      (same, ap (λ xs. offset ∷ xs) at ∙ sym faults)

  -- the faults are in order
  segments_ascend : {offset : ℕ} {bytes : List ℕ} {contents : List Content} {faults : List Stop} → SegmentsFrom tables offset bytes contents faults → Ascend offset faults (offset + length bytes)
  segments_ascend ended = omega arith
  segments_ascend (cut_short some wrong) = (omega arith, omega arith)
  segments_ascend (said {faults = faults} (size, after, field, (filled, split)) only from) = ascend_within _ _ faults (omega arith) (omega (arith, split.3, split.4)) (segments_ascend from)
  segments_ascend (at_fault {faults = faults} reason (size, after, field, (filled, split)) wrong from) = (omega arith, ascend_within _ _ faults (omega arith) (omega (arith, split.3, split.4)) (segments_ascend from))

  -- the first fault comes first
  first_fault_from : {offset : ℕ} {bytes : List ℕ} {contents : List Content} (stop : Stop) (more : List Stop) → SegmentsFrom tables offset bytes contents (stop ∷ more) → SegmentFault tables offset bytes stop
  first_fault_from stop more (cut_short some wrong) = no_segment some wrong
  first_fault_from stop more (said framed only from) = after_segment framed only (first_fault_from stop more from)
  first_fault_from stop more (at_fault reason framed wrong from) = says_nothing reason framed wrong

first_same : {A : Type 0} {x y : A} {xs ys : List A} → x ∷ xs ≡ y ∷ ys → x ≡ y
first_same same = cc

-- ---- the whole file
module _ {tables : PrefixTables} {bytes : List ℕ} {found : File} {faults : List Stop} (salvages : SalvagesBinary tables bytes found faults) where
  -- without a fault the bytes are a file
  whole_without_fault : faults ≡ [] → IsBinaryFile tables bytes found
  unfolding IsBinaryFile
  whole_without_fault none =
      let (body, first, read, (contents, later, from, says, are)) = salvages in
      let (at, no_more) = body_is read later (sym none ∙ are) in
      (body, contents, at, all_say tables (subst (SegmentsFrom tables 10 body contents) no_more from), says)
    where
      body_is : {body : List ℕ} {first : List Stop} → BodyRead bytes body first → (later : List Stop) → [] ≡ first ++ later → BodyOf bytes body × (later ≡ [])
      body_is (whole at) later is = (at, sym is)
      body_is (wrong_length wrong at) later is = absurd (cc)
      body_is (no_header wrong) later is = absurd (cc)

  -- of a file it is that file, and no fault
  pub whole_salvaged : (file : File) → IsBinaryFile tables bytes file → (found ≡ file) × (faults ≡ [])
  unfolding IsBinaryFile
  whole_salvaged file (other, all, at, all_at, is) = let (body, first, read, (contents, later, from, says, are)) = salvages in by read later contents from says are
    where
      by : {body : List ℕ} {first : List Stop} → BodyRead bytes body first → (later : List Stop) (contents : List Content) → SegmentsFrom tables 10 body contents later → found ≡ file_of contents → faults ≡ first ++ later → (found ≡ file) × (faults ≡ [])
      by {body} (whole also) later contents from says are =
          let (same, none) = alone_say tables all from (subst (λ b. AllOf (SegmentAt tables) b all) (body_alone bytes other body at also) all_at) in
          (says ∙ ap file_of (sym same) ∙ sym is, are ∙ none)
      by (wrong_length wrong after) later contents from says are = absurd (wrong other at)
      by (no_header wrong) later contents from says are = absurd (body_follows bytes other at wrong)

  -- the faults are in order, and in the bytes
  pub salvage_ascends : Ascend 0 faults (length bytes)
  salvage_ascends = let (body, first, read, (contents, later, from, says, are)) = salvages in subst (λ all. Ascend 0 all (length bytes)) (sym are) (by read later contents from)
    where
      by : {body : List ℕ} {first : List Stop} → BodyRead bytes body first → (later : List Stop) (contents : List Content) → SegmentsFrom tables 10 body contents later → Ascend 0 (first ++ later) (length bytes)
      by {body} (whole at) later contents from = ascend_within 0 (length bytes) later (omega arith) (body_within bytes body at) (segments_ascend tables from)
      by {body} (wrong_length wrong at) later contents from = (omega arith, ascend_within 0 (length bytes) later (omega arith) (after_within bytes body at) (segments_ascend tables from))
      by (no_header wrong) later contents from = (omega arith, subst (λ all. Ascend 0 all (length bytes)) (sym (nothing_said tables from).1) (omega arith))

  -- there is a fault where the bytes are no file, and it lies within them
  pub fault_without_file : HoldsOfNone (IsBinaryFile tables bytes) → BeginsWithin (length bytes) faults
  fault_without_file none = by faults salvage_ascends (λ no_fault. none found (whole_without_fault no_fault))
    where
      by : (all : List Stop) → Ascend 0 all (length bytes) → all ≢ [] → BeginsWithin (length bytes) all
      by [] up some = absurd (some refl)
      by (stop ∷ more) (least, up) some = (stop, more, refl, ascend_least more up)

-- ---- what the crate above needs
module _ {tables : PrefixTables} {bytes : List ℕ} where
  -- without a fault the bytes are a file
  pub file_where_no_fault : {file : File} → SalvagesBinary tables bytes file [] → IsBinaryFile tables bytes file
  file_where_no_fault salvages = whole_without_fault salvages refl

  -- with a fault they are none, and the first one lies within them
  pub no_file_where_fault : {file : File} {stop : Stop} {more : List Stop} → SalvagesBinary tables bytes file (stop ∷ more) → HoldsOfNone (IsBinaryFile tables bytes) × (stop.offset ≤ length bytes)
  no_file_where_fault {more = more} salvages = (λ file is. let none = (whole_salvaged salvages file is).1 in absurd (cc), ascend_least more (salvage_ascends salvages).1)

  -- and it is the one for which they are refused
  pub first_binary_fault : {file : File} {stop : Stop} {more : List Stop} → SalvagesBinary tables bytes file (stop ∷ more) → IsBinaryFault tables bytes stop
  first_binary_fault {stop = stop} {more = more} (body, first, read, (contents, later, from, says, are)) = by read later from are
    where
      by : {body : List ℕ} {first : List Stop} → BodyRead bytes body first → (later : List Stop) → SegmentsFrom tables 10 body contents later → stop ∷ more ≡ first ++ later → IsBinaryFault tables bytes stop
      by {body} (whole at) later from is = inr (body, at, first_fault_from tables stop more (subst (SegmentsFrom tables 10 body contents) (sym is) from))
      by (wrong_length wrong after) later from is = inl (wrong, first_same is)
      by (no_header wrong) later from is = inl (λ body at. body_follows bytes body at wrong, first_same is)

  -- there is one answer, but for the reasons of faults
  pub one_salvage : {f g : File} {faults stops : List Stop} → SalvagesBinary tables bytes f faults → SalvagesBinary tables bytes g stops → (f ≡ g) × (offsets faults ≡ offsets stops)
  one_salvage (body, first, read, (contents, later, from, says, are)) (other, first_too, read_too, (others, later_too, from_too, says_too, are_too)) =
      let (same_body, same_first) = bodies_alike read read_too in
      let (same, at) = alike tables from (subst (λ b. SegmentsFrom tables 10 b others later_too) (sym same_body) from_too) in (
        says ∙ ap file_of same ∙ sym says_too,
        ap offsets are ∙ map-append (λ stop. stop.offset) first later ∙ ap (λ f. offsets f ++ offsets later) same_first ∙ ap (λ l. offsets first_too ++ l) at ∙ sym (ap offsets are_too ∙ map-append (λ stop. stop.offset) first_too later_too),
      )
    where
      bodies_alike : {body other : List ℕ} {first stops : List Stop} → BodyRead bytes body first → BodyRead bytes other stops → (body ≡ other) × (first ≡ stops)
      bodies_alike {body} {other} (whole at) (whole also) = (body_alone bytes body other at also, refl)
      bodies_alike (whole at) (wrong_length wrong after) = absurd (wrong _ at)
      bodies_alike {body} (whole at) (no_header wrong) = absurd (body_follows bytes body at wrong)
      bodies_alike (wrong_length wrong after) (whole at) = absurd (wrong _ at)
      bodies_alike {body} {other} (wrong_length wrong after) (wrong_length also too) = (after_alone bytes body other after too, refl)
      bodies_alike (wrong_length wrong after) (no_header none) = absurd (none _ after)
      bodies_alike {other = other} (no_header wrong) (whole at) = absurd (body_follows bytes other at wrong)
      bodies_alike (no_header none) (wrong_length wrong after) = absurd (none _ after)
      bodies_alike (no_header none) (no_header wrong) = (refl, refl)
