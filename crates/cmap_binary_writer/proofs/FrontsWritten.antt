-- What a reader finds in bytes that were written.
use Rattle.std.proofs.Common.{◌≡◌, ℕ, suc, ◌+◌, ◌*◌, ◌^◌, ◌<◌, List, [], ◌∷◌, ◌++◌, length, get_or, drop, refl, ap, ◌∙◌, sym, subst, arith}
use Rattle.std.specs.List.{All, flat_map}
use Rattle.std.proofs.lemmas.List.Elements.{All-head, All-tail}
use Rattle.std.proofs.lemmas.List.{append_assoc, drop_at, length-append, take_at}
use Rattle.cmap_binary.specs.Bundles.{PrefixTables}
use Rattle.cmap_binary.specs.BinaryFiles.{Content, IsSegment, SegmentAt}
use Rattle.cmap_binary.specs.Fronts.{BytesAt, FieldAt, FramedAt, RowOf, SizedAt}
use Rattle.cmap_binary_writer.specs.Written.{bytes_of, Appends, Writes, IsFramed, IsSized}
use Rattle.cmap_binary_writer.proofs.BytesWritten.{big_endian-bytes_of, length-bytes_of}

pub BytesAt-written : (bytes rest : List ℕ) → BytesAt (length bytes) (bytes ++ rest) (bytes, rest)
BytesAt-written bytes rest = (
  omega (arith, length-append bytes rest),
  sym (take_at bytes rest (length bytes) refl),
  sym (drop_at bytes rest (length bytes) refl),
  refl,
  omega (arith, length-append bytes rest),
)

pub FieldAt-written : (width n : ℕ) (rest : List ℕ) → n < 2 ^ (8 * width) → FieldAt width (bytes_of width n ++ rest) (n, rest)
FieldAt-written width n rest small =
    let split = subst (λ len. BytesAt len (bytes_of width n ++ rest) (bytes_of width n, rest)) (length-bytes_of width n) (BytesAt-written (bytes_of width n) rest) in
    (bytes_of width n, rest, split, ap (λ m. (m, rest)) (sym (big_endian-bytes_of width n small)))

-- numbers of so many bytes each, one after another
abbrev pub fields : ℕ → List ℕ → List ℕ
fields width xs = flat_map (λ n. bytes_of width n) xs

pub fields_written : (width : ℕ) (xs rest : List ℕ) → All (λ n. n < 2 ^ (8 * width)) xs → RowOf (FieldAt width) (length xs) (fields width xs ++ rest) (xs, rest)
fields_written width [] rest small = refl
fields_written width (x ∷ xs) rest small =
    let first = All-head (λ n. n < 2 ^ (8 * width)) x xs small in
    let later = fields_written width xs rest (All-tail (λ n. n < 2 ^ (8 * width)) x xs small) in
    subst (λ bs. RowOf (FieldAt width) (suc (length xs)) bs (x ∷ xs, rest)) (sym (append_assoc (bytes_of width x) (fields width xs) rest)) (x, fields width xs ++ rest, FieldAt-written width x (fields width xs ++ rest) first, (xs, rest, later, refl))

pub SizedAt-written : (piece rest : List ℕ) → length piece < 2 ^ 32 → SizedAt (bytes_of 4 (length piece) ++ (piece ++ rest)) (piece, rest)
SizedAt-written piece rest small = (length piece, piece ++ rest, FieldAt-written 4 (length piece) (piece ++ rest) small, BytesAt-written piece rest)

-- a piece after its length
pub sized_written : (old mid new piece : List ℕ) (size : ℕ) → mid ≡ old ++ bytes_of 4 size → new ≡ mid ++ piece → size ≡ length piece → size < 2 ^ 32 → All (λ b. b < 2 ^ 8) piece → Appends old new (IsSized piece)
sized_written old mid new piece size first second is small are = (
  bytes_of 4 (length piece) ++ piece,
  second ∙ ap (λ bs. bs ++ piece) (first ∙ ap (λ n. old ++ bytes_of 4 n) is) ∙ append_assoc old (bytes_of 4 (length piece)) piece,
  record { bytes_are = refl; small = subst (λ n. n < 2 ^ 32) is small; are_bytes = are },
)

pub sized_read : (piece bytes : List ℕ) → IsSized piece bytes → Writes SizedAt piece bytes
sized_read piece bytes h rest =
    let parts : bytes ++ rest ≡ bytes_of 4 (length piece) ++ (piece ++ rest) = ap (λ bs. bs ++ rest) h.bytes_are ∙ append_assoc (bytes_of 4 (length piece)) piece rest in
    subst (λ bs. SizedAt bs (piece, rest)) (sym parts) (SizedAt-written piece rest h.small)

pub framed_written : (old a b new front payload : List ℕ) (size : ℕ) → a ≡ old ++ front → b ≡ a ++ bytes_of 4 size → new ≡ b ++ payload → size ≡ length front + 4 + length payload → size < 2 ^ 32 → Appends old new (IsFramed front payload)
framed_written old a b new front payload size first second third is small = (
  (front ++ bytes_of 4 (length front + 4 + length payload)) ++ payload,
  third ∙ ap (λ bs. bs ++ payload) (second ∙ ap (λ bs. bs ++ bytes_of 4 size) first ∙ ap (λ n. (old ++ front) ++ bytes_of 4 n) is) ∙ simp append_assoc,
  record { bytes_are = refl; small = subst (λ n. n < 2 ^ 32) is small },
)

-- a reader takes the whole piece
pub FramedAt-written : (front payload bytes rest : List ℕ) → IsFramed front payload bytes → FramedAt (length front) (bytes ++ rest) (bytes, rest)
FramedAt-written front payload bytes rest h =
    let size = length front + 4 + length payload in
    let n = length front in
    let parts : bytes ++ rest ≡ front ++ (bytes_of 4 size ++ (payload ++ rest)) = ap (λ bs. bs ++ rest) h.bytes_are ∙ simp append_assoc in
    let after : drop n (bytes ++ rest) ≡ bytes_of 4 size ++ (payload ++ rest) = ap (drop n) parts ∙ drop_at front (bytes_of 4 size ++ (payload ++ rest)) n refl in
    let whole : length bytes ≡ size = ap length h.bytes_are ∙ omega (arith, length-append (front ++ bytes_of 4 size) payload, length-append front (bytes_of 4 size), length-bytes_of 4 size) in (
      size,
      payload ++ rest,
      subst (λ bs. FieldAt 4 bs (size, payload ++ rest)) (sym after) (FieldAt-written 4 size (payload ++ rest) h.small),
      (omega arith, subst (λ k. BytesAt k (bytes ++ rest) (bytes, rest)) whole (BytesAt-written bytes rest)),
    )

-- what stands in it
pub payload-written : (front payload bytes : List ℕ) → IsFramed front payload bytes → drop (length front + 4) bytes ≡ payload
payload-written front payload bytes h =
    let size = length front + 4 + length payload in
    ap (drop (length front + 4)) h.bytes_are ∙ drop_at (front ++ bytes_of 4 size) payload (length front + 4) (length-append front (bytes_of 4 size) ∙ ap (λ n. length front + n) (length-bytes_of 4 size))

pub SegmentAt-written : (number : ℕ) (payload bytes : List ℕ) → IsFramed (number ∷ []) payload bytes → (tables : PrefixTables) (content : Content) → IsSegment tables number payload content → Writes (SegmentAt tables) content bytes
SegmentAt-written number payload bytes h tables content says rest =
    let front = number ∷ [] in
    let kind : number ≡ get_or bytes 0 0 = sym (ap (λ bs. get_or bs 0 0) h.bytes_are) in (
      bytes,
      rest,
      FramedAt-written front payload bytes rest h,
      (subst (λ k. IsSegment tables k (drop 5 bytes) content) kind (subst (λ p. IsSegment tables number p content) (sym (payload-written front payload bytes h)) says), refl),
    )

-- what is written of one segment where its payload says a thing by any tables
abbrev pub SaysSegment : ℕ → List ℕ → List ℕ → Type 0
SaysSegment number payload bytes = (tables : PrefixTables) (content : Content) → IsSegment tables number payload content → Writes (SegmentAt tables) content bytes

pub said : (old new : List ℕ) (number : ℕ) (payload : List ℕ) (tables : PrefixTables) (content : Content) → IsSegment tables number payload content → Appends old new (SaysSegment number payload) → Appends old new (Writes (SegmentAt tables) content)
said old new number payload tables content is (bytes, written, says) = (bytes, written, says tables content is)
