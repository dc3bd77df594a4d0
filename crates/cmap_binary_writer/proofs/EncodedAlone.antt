-- A file is written in one way where each symbol has one code word, and then it has no obstacle.
use Rattle.std.proofs.Common.{◌≡◌, ◌⊎◌, ℕ, suc, zero, ◌+◌, ◌*◌, ◌<◌, ◌^◌, inl, inr, List, [], ◌∷◌, ◌++◌, drop, get_or, length, map, replicate, take, refl, ap, ◌∙◌, sym, subst, arith}
use Rattle.std.specs.List.{All, Any, slice_get}
use Rattle.std.specs.Int.Digits.{number_from_digits, number_from_digits_after}
use Rattle.std.proofs.lemmas.List.{length-append}
use Rattle.std.proofs.lemmas.List.Elements.{All-head, All-tail}
use Rattle.std.proofs.lemmas.Option.{get_or_from_slice_get, same_Some, slice_get_within}
use Rattle.cmap_runs.specs.Ranges.{Span}
use Rattle.cmap_values.specs.Files.{Declaration, File}
use Rattle.cmap_binary.specs.Bundles.{PrefixTables}
use Rattle.cmap_binary.specs.PrefixWords.{BeginWithWordsOf, CodeWord, Decodes, bits, bits_of, lengths_of, number_after}
use Rattle.cmap_binary.specs.WordsByLength.{AreBits}
use Rattle.cmap_binary.proofs.BitsOfBytes.{length-bits, length-bits_of}
use Rattle.cmap_binary.specs.BinaryEntries.{Shape, ranges, singles}
use Rattle.cmap_binary_writer.specs.Arranged.{SegmentSeen, segment_seen}
use Rattle.cmap_binary_writer.specs.ColumnsWritten.{WritesColumn}
use Rattle.cmap_binary_writer.specs.Encoded.{HasOneWordEach, HaveOneWordEach, IsEncodedFor}
use Rattle.cmap_binary_writer.specs.EncodersSeen.{shape_seen}
use Rattle.cmap_binary_writer.specs.Held.{counts_by}
use Rattle.cmap_binary_writer.specs.Obstacles.{HasNoWord, IsWriteObstacle}
use Rattle.cmap_binary_writer.specs.Segments.{AreSegmentBytes, DeclareEach, IsPayloadOf, WritesNumbers, declared_span}
use Rattle.cmap_binary_writer.specs.Spelled.{IsNoSymbol, IsSpelled, IsSpelledIn}
use Rattle.cmap_binary_writer.specs.Written.{bytes_of}
use Rattle.cmap_binary_writer.specs.declared.obstacle.Obstacle.TheVariants.{NoWord, TooLong}
use Rattle.cmap_binary_writer.specs.declared.obstacle.Obstacle.{Obstacle}
use Rattle.cmap_binary_writer.specs.declared.segments.Segment.{Segment}
use Rattle.cmap_binary_writer.proofs.EntriesAlone.{arranged_alone}
use Rattle.cmap_binary_writer.proofs.FileKept.{head}
use Rattle.cmap_binary_writer.proofs.Spelling.{number-bits_of}

-- ---- lists of which the fronts are equally long
same_fronts : (a b x y : List ℕ) → length a ≡ length b → a ++ x ≡ b ++ y → (a ≡ b) × (x ≡ y)
same_fronts [] [] x y size same = (refl, same)
same_fronts [] (c ∷ b) x y size same = absurd (omega (arith, size))
same_fronts (c ∷ a) [] x y size same = absurd (omega (arith, size))
same_fronts (c ∷ a) (d ∷ b) x y size same =
    let first : c ≡ d = ap (λ zs. get_or zs 0 0) same in
    let later = same_fronts a b x y (omega (arith, size)) (ap (drop 1) same) in
    (ap (λ n. n ∷ a) first ∙ ap (λ zs. d ∷ zs) later.0, later.1)

-- ---- bits that write one number
same_bits : (m n : ℕ) (xs ys : List ℕ) → length xs ≡ length ys → AreBits xs → AreBits ys → number_from_digits_after 2 m xs ≡ number_from_digits_after 2 n ys → (m ≡ n) × (xs ≡ ys)
same_bits m n [] [] size first second same = (same, refl)
same_bits m n [] (y ∷ ys) size first second same = absurd (omega (arith, size))
same_bits m n (x ∷ xs) [] size first second same = absurd (omega (arith, size))
same_bits m n (x ∷ xs) (y ∷ ys) size first second same =
    let below = All-head (λ d. d < 2) x xs first in
    let under = All-head (λ d. d < 2) y ys second in
    let later = same_bits (m * 2 + x) (n * 2 + y) xs ys (omega (arith, size)) (All-tail (λ d. d < 2) x xs first) (All-tail (λ d. d < 2) y ys second) same in
    let bit : x ≡ y = omega (arith, below, under, later.0) in
    (omega (arith, below, under, later.0), ap (λ b. b ∷ xs) bit ∙ ap (λ bs. y ∷ bs) later.1)

-- bytes by their bits
same_bytes : (xs ys : List ℕ) → All (λ b. b < 2 ^ 8) xs → All (λ b. b < 2 ^ 8) ys → bits xs ≡ bits ys → xs ≡ ys
same_bytes [] [] first second same = refl
same_bytes [] (y ∷ ys) first second same = absurd (omega (arith, ap length same, length-bits (y ∷ ys)))
same_bytes (x ∷ xs) [] first second same = absurd (omega (arith, ap length same, length-bits (x ∷ xs)))
same_bytes (x ∷ xs) (y ∷ ys) first second same =
    let parts = same_fronts (bits_of 8 x) (bits_of 8 y) (bits xs) (bits ys) (length-bits_of 8 x ∙ sym (length-bits_of 8 y)) same in
    let byte : x ≡ y = sym (number-bits_of 8 x (All-head (λ b. b < 2 ^ 8) x xs first)) ∙ ap (number_from_digits 2) parts.0 ∙ number-bits_of 8 y (All-head (λ b. b < 2 ^ 8) y ys second) in
    ap (λ b. b ∷ xs) byte ∙ ap (λ bs. y ∷ bs) (same_bytes xs ys (All-tail (λ b. b < 2 ^ 8) x xs first) (All-tail (λ b. b < 2 ^ 8) y ys second) parts.1)

-- ---- symbols that are spelled
module _ (table : List CodeWord) where
  has_word : (symbol len : ℕ) (stream rest : List ℕ) → Decodes table stream symbol len rest → IsNoSymbol table symbol → ⊥
  has_word symbol len stream rest d none = none d.index (record { len = len; symbol = symbol }) (slice_get_within table d.index _ d.word_is.entry_is) (ap (λ (w : CodeWord). w.symbol) (get_or_from_slice_get table d.index _ (record { len = len; symbol = symbol }) d.word_is.entry_is))

  have_words : (symbols stream : List ℕ) → BeginWithWordsOf table symbols stream → Any (IsNoSymbol table) symbols → ⊥
  have_words [] stream begun (k, s, within, is, none) = omega (arith, within)
  have_words (symbol ∷ symbols) stream (len, rest, d, later) (zero, s, within, is, none) = has_word symbol len stream rest d (subst (IsNoSymbol table) (sym is) none)
  have_words (symbol ∷ symbols) stream (len, rest, d, later) (suc k, s, within, is, none) = have_words symbols rest later (k, s, omega (arith, within), is, none)

  one_word : HasOneWordEach table → (symbol m n : ℕ) (x y a b : List ℕ) → (d : Decodes table x symbol m a) (e : Decodes table y symbol n b) → d.word ≡ e.word
  one_word alone symbol m n x y a b d e =
      let index : d.index ≡ e.index = alone d.index e.index (record { len = m; symbol = symbol }) (record { len = n; symbol = symbol }) d.word_is.entry_is e.word_is.entry_is refl in
      let len : m ≡ n = ap (λ (w : CodeWord). w.len) (same_Some _ _ (sym d.word_is.entry_is ∙ ap (slice_get table) index ∙ e.word_is.entry_is)) in
      let number : number_after (take d.index (lengths_of table)) m ≡ number_after (take e.index (lengths_of table)) n = ap (λ i. number_after (take i (lengths_of table)) m) index ∙ ap (number_after (take e.index (lengths_of table))) len in
      (same_bits 0 0 d.word e.word (d.word_is.length_is ∙ len ∙ sym e.word_is.length_is) d.word_is.are_bits e.word_is.are_bits (d.word_is.number_is ∙ number ∙ sym e.word_is.number_is)).1

  one_stream : HasOneWordEach table → (symbols x y : List ℕ) → IsSpelled table symbols x → IsSpelled table symbols y → x ≡ y
  one_stream alone [] x y first second = first ∙ sym second
  one_stream alone (symbol ∷ symbols) x y (m, a, d, first) (n, b, e, second) =
      d.bits_are ∙ ap (λ word. word ++ a) (one_word alone symbol m n x y a b d e) ∙ ap (λ rest. e.word ++ rest) (one_stream alone symbols a b first second) ∙ sym e.bits_are

  one_text : HasOneWordEach table → (symbols x y : List ℕ) → All (λ b. b < 2 ^ 8) x → All (λ b. b < 2 ^ 8) y → IsSpelledIn table symbols x → IsSpelledIn table symbols y → x ≡ y
  one_text alone symbols x y are are_too h k =
      let stream = one_stream alone symbols h.stream k.stream h.spelled k.spelled in
      let left : length h.rest ≡ length k.rest = omega (arith, h.few, k.few, ap length stream, ap length h.bits_are, ap length k.bits_are, length-append h.stream h.rest, length-append k.stream k.rest, length-bits x, length-bits y) in
      let rest : h.rest ≡ k.rest = h.zeros ∙ ap (λ n. replicate n 0) left ∙ sym k.zeros in
      same_bytes x y are are_too (h.bits_are ∙ ap (λ s. s ++ h.rest) stream ∙ ap (λ r. k.stream ++ r) rest ∙ sym k.bits_are)

  one_column : HasOneWordEach table → (symbols x y : List ℕ) → WritesColumn table symbols x → WritesColumn table symbols y → x ≡ y
  one_column alone symbols x y (text, sized, begun, spelled) (other, sized_too, begun_too, spelled_too) = sized.bytes_are ∙ ap (λ t. bytes_of 4 (length t) ++ t) (one_text alone symbols text other sized.are_bytes sized_too.are_bytes spelled spelled_too) ∙ sym sized_too.bytes_are

-- ---- segments
module _ (tables : PrefixTables) where
  one_columns : HaveOneWordEach tables → (shape : Shape) (deltas counts x y : List ℕ) → WritesNumbers tables shape deltas counts x → WritesNumbers tables shape deltas counts y → x ≡ y
  one_columns alone ranges deltas counts x y (a, b, is, first, second) (c, d, is_too, first_too, second_too) = is ∙ ap (λ bs. bs ++ b) (one_column tables.delta alone.deltas deltas a c first first_too) ∙ ap (λ bs. c ++ bs) (one_column tables.count alone.counts counts b d second second_too) ∙ sym is_too
  one_columns alone singles deltas counts x y first second = one_column tables.delta alone.deltas deltas x y first second

  one_payload : HaveOneWordEach tables → (s t : Segment) (x y : List ℕ) → segment_seen s ≡ segment_seen t → IsPayloadOf tables s x → IsPayloadOf tables t y → x ≡ y
  one_payload alone s t x y same (columns, numbers, is) (others, numbers_too, is_too) =
      let moved = subst (λ (seen : SegmentSeen). WritesNumbers tables seen.shape seen.deltas seen.counts others) (sym same) numbers_too in
      is ∙ ap (λ cs. bytes_of 2 (length s.deltas.items) ++ (cs ++ s.values.items)) (one_columns alone (shape_seen s.shape) s.deltas.items s.counts.items columns others numbers moved) ∙ ap (λ (seen : SegmentSeen). bytes_of 2 (length seen.deltas) ++ (others ++ seen.values)) same ∙ sym is_too

  one_body : HaveOneWordEach tables → (a b : List Segment) (x y : List ℕ) → map segment_seen a ≡ map segment_seen b → AreSegmentBytes tables a x → AreSegmentBytes tables b y → x ≡ y
  one_body alone [] [] x y same first second = first ∙ sym second
  one_body alone [] (t ∷ b) x y same first second = absurd (omega (arith, ap length same))
  one_body alone (s ∷ a) [] x y same first second = absurd (omega (arith, ap length same))
  one_body alone (s ∷ a) (t ∷ b) x y same (payload, front, later, is, framed, parts, more) (other, front_too, later_too, is_too, framed_too, parts_too, more_too) =
      let head : segment_seen s ≡ segment_seen t = ap (λ seen. get_or seen 0 (segment_seen s)) same in
      let here = one_payload alone s t payload other head is is_too in
      let type = ap (λ (seen : SegmentSeen). seen.type) head in
      let fronts : front ≡ front_too = framed.bytes_are ∙ ap (λ n. (n ∷ bytes_of 4 (5 + length payload)) ++ payload) type ∙ ap (λ p. (t.number ∷ bytes_of 4 (5 + length p)) ++ p) here ∙ sym framed_too.bytes_are in
      parts ∙ ap (λ f. f ++ later) fronts ∙ ap (λ l. front_too ++ l) (one_body alone a b later later_too (ap (drop 1) same) more more_too) ∙ sym parts_too

  -- each number of a segment that is written has a word
  numbers_spelled : (shape : Shape) (deltas counts columns : List ℕ) (spans : List Span) → counts ≡ counts_by shape spans → WritesNumbers tables shape deltas counts columns → Any (IsNoSymbol tables.delta) deltas ⊎ Any (IsNoSymbol tables.count) counts → ⊥
  numbers_spelled ranges deltas counts columns spans is (a, b, parts, (text, sized, begun, spelled), second) (inl none) = have_words tables.delta deltas (bits text) begun none
  numbers_spelled ranges deltas counts columns spans is (a, b, parts, first, (text, sized, begun, spelled)) (inr none) = have_words tables.count counts (bits text) begun none
  numbers_spelled singles deltas counts columns spans is (text, sized, begun, spelled) (inl none) = have_words tables.delta deltas (bits text) begun none
  numbers_spelled singles deltas counts columns spans is written (inr (k, n, within, at, none)) = omega (arith, within, ap length is)

  all_spelled : (a b : List Segment) (parts : List (List Declaration)) (x : List ℕ) → map segment_seen a ≡ map segment_seen b → AreSegmentBytes tables a x → DeclareEach b parts → Any (HasNoWord tables) b → ⊥
  all_spelled a [] parts x same written each (k, s, within, is, none) = omega (arith, within)
  all_spelled [] (t ∷ b) parts x same written each any = absurd (omega (arith, ap length same))
  all_spelled (s ∷ a) (t ∷ b) [] x same written each any = absurd each
  all_spelled (s ∷ a) (t ∷ b) (part ∷ parts) x same (payload, front, later, (columns, numbers, is), framed, cut, more) (first, each) (zero, u, within, at, none) =
      let head : segment_seen s ≡ segment_seen t = ap (λ seen. get_or seen 0 (segment_seen s)) same in
      let moved = subst (λ (seen : SegmentSeen). WritesNumbers tables seen.shape seen.deltas seen.counts columns) head numbers in
      numbers_spelled (shape_seen t.shape) t.deltas.items t.counts.items columns (map declared_span part) first.counts moved (subst (HasNoWord tables) (sym at) none)
  all_spelled (s ∷ a) (t ∷ b) (part ∷ parts) x same (payload, front, later, written, framed, cut, more) (first, each) (suc k, u, within, at, none) = all_spelled a b parts later (ap (drop 1) same) more each (k, u, omega (arith, within), at, none)

-- ---- files
module _ (tables : PrefixTables) (file : File) where
  -- a file is written in one way
  pub encoded_alone : HaveOneWordEach tables → (x y : List ℕ) → IsEncodedFor tables file x → IsEncodedFor tables file y → x ≡ y
  encoded_alone alone x y (p, for, is) (q, for_too, is_too) =
      let body = one_body tables alone p.segments.items q.segments.items is.segments is_too.segments (arranged_alone file p q for.arranged for_too.arranged) is.are is_too.are in
      let fields = for.arranged.fields ∙ sym for_too.arranged.fields in
      let all : p.fields.items ++ is.segments ≡ q.fields.items ++ is_too.segments = ap (λ bs. bs ++ is.segments) fields ∙ ap (λ bs. q.fields.items ++ bs) body in
      is.framed.bytes_are ∙ ap (λ bs. (head ++ bytes_of 4 (length head + 4 + length bs)) ++ bs) all ∙ sym is_too.framed.bytes_are

  -- and one that is written has no obstacle, but where a symbol has two code words it may have another length
  pub no_obstacle : (x : List ℕ) → IsEncodedFor tables file x → (obstacle : Obstacle) → IsWriteObstacle tables file obstacle → (obstacle ≡ TooLong) × (HaveOneWordEach tables → ⊥)
  no_obstacle x (p, for, is) NoWord (q, for_too, none) = absurd (all_spelled tables p.segments.items q.segments.items for_too.says.parts is.segments (arranged_alone file p q for.arranged for_too.arranged) is.are for_too.says.segments none)
  no_obstacle x (p, for, is) TooLong (inl long) = absurd (for.sayable TooLong long)
  no_obstacle x (p, for, is) TooLong (inr (q, for_too, long)) = (
    refl,
    λ alone.
        let body = one_body tables alone p.segments.items q.segments.items is.segments long.bytes (arranged_alone file p q for.arranged for_too.arranged) is.are long.are in
        let fields = for.arranged.fields ∙ sym for_too.arranged.fields in
        omega (arith, long.long, is.framed.small, ap length body, ap length fields, length-append p.fields.items is.segments),
  )
  no_obstacle x (p, for, is) other h = absurd (for.sayable other h)
