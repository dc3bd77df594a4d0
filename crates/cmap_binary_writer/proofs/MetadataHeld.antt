-- Metadata that is written, and read back.
use Rattle.std.proofs.Common.{◌≡◌, ℕ, zero, suc, pos, ◌+◌, ◌^◌, ◌<◌, true, false, List, inl, inr, [], ◌∷◌, ◌++◌, None, Option, Some, length, drop, map, take, refl, ap, ◌∙◌, sym, subst, arith}
use Rattle.std.specs.Prelude.{IfSome, ◌==◌, nat_abs}
use Rattle.std.specs.List.{All, Contains, list_any, slice_index}
use Rattle.std.proofs.lemmas.Bool.{cases_Bool, eqb-false, eqb-true}
use Rattle.std.proofs.lemmas.List.Elements.{All-cons, All-head, All-nil, All-tail}
use Rattle.std.proofs.lemmas.List.{append_assoc, append-nil, length-append, take_at}
use Rattle.cmap_values.specs.Metadata.{Collection, FileMetadata, Mode, horizontal, mode_numbered, vertical}
use Rattle.cmap_values.specs.Names.{family_of, ordering_of, registry_of}
use Rattle.cmap_binary.specs.BinaryFiles as files
use Rattle.cmap_binary.specs.BinaryFiles.{CollectionIn, Content, IsSegment}
use Rattle.cmap_binary.specs.Bundles.{PrefixTables}
use Rattle.cmap_binary.specs.Fronts.{FieldAt, TerminatedAt}
use Rattle.cmap_binary_writer.specs.Fields.{CollectionFits, IsSayableCollection, MetadataFits, NameFits, collection_bytes, collection_payload, metadata_bytes, mode_bytes, mode_number, name_bytes, option_bytes, segment_bytes, terminated_bytes, uses_bytes}
use Rattle.cmap_binary_writer.specs.MetadataWritten.{collection_len, from_option, metadata_contents}
use Rattle.cmap_binary_writer.specs.SegmentsWritten.{SegmentByAny}
use Rattle.cmap_binary_writer.specs.Written.{bytes_of, Writes, WritesAll}
use Rattle.cmap_binary_writer.proofs.BytesWritten.{length-bytes_of}
use Rattle.cmap_binary_writer.proofs.FilesWritten.{joined}
use Rattle.cmap_binary_writer.proofs.FrontsWritten.{FieldAt-written, SegmentAt-written}

-- ---- a text that ends at the first zero byte
at_end : (text rest : List ℕ) → slice_index (text ++ 0 ∷ rest) (length text) ≡ 0
at_end [] rest = refl
at_end (x ∷ text) rest = at_end text rest

before_end : (text later : List ℕ) (k : ℕ) → k < length text → slice_index (text ++ later) k ≡ slice_index text k
before_end [] later k h = absurd (omega arith)
before_end (x ∷ text) later zero h = refl
before_end (x ∷ text) later (suc k) h = before_end text later k (omega arith)

after_end : (text rest : List ℕ) → drop (length text + 1) (text ++ 0 ∷ rest) ≡ rest
after_end [] rest = refl
after_end (x ∷ text) rest = let e : length (x ∷ text) + 1 ≡ suc (length text + 1) = omega arith in ap (λ k. drop k ((x ∷ text) ++ 0 ∷ rest)) e ∙ after_end text rest

pub TerminatedAt-written : (text : List ℕ) → All (λ b. b ≡ 0 → ⊥) text → Writes TerminatedAt text (text ++ 0 ∷ [])
TerminatedAt-written text filled rest =
    let parts : (text ++ 0 ∷ []) ++ rest ≡ text ++ 0 ∷ rest = append_assoc text (0 ∷ []) rest in
    subst (λ bs. TerminatedAt bs (text, rest)) (sym parts) (
      length text,
      omega (arith, length-append text (0 ∷ rest)),
      at_end text rest,
      λ k h is. filled k 0 h (sym (before_end text (0 ∷ rest) k h) ∙ is),
      ap (λ t. (t, rest)) (sym (take_at text (0 ∷ rest) (length text) refl)) ∙ ap (λ r. (take (length text) (text ++ 0 ∷ rest), r)) (sym (after_end text rest)),
    )

-- a text without a zero byte
pub no_zero : (text : List ℕ) → list_any (λ y. y == 0) text ≡ false → All (λ b. b ≡ 0 → ⊥) text
no_zero [] is = All-nil (λ b. b ≡ 0 → ⊥)
no_zero (x ∷ text) is = elim (cases_Bool (x == 0)) [
  | inl zero_here ↦ let e : false ≡ true = sym (rw zero_here at is) in cc
  | inr other ↦ All-cons (λ b. b ≡ 0 → ⊥) x text (eqb-false x 0 other) (no_zero text (rw other at is))
]

-- a text with a zero byte
pub has_zero : (text : List ℕ) → list_any (λ y. y == 0) text ≡ true → Contains text 0
has_zero [] is = cc
has_zero (x ∷ text) is = elim (cases_Bool (x == 0)) [
  | inl here ↦ (0, omega arith, eqb-true x 0 here)
  | inr other ↦ let (k, within, at) = has_zero text (rw other at is) in (suc k, omega (arith, within), at)
]

-- registry, ordering, supplement
pub seen_as : (collection : Collection) (registry ordering : List ℕ) (number : ℕ) → family_of registry ordering ≡ collection.family → pos number ≡ collection.supplement → collection ≡ record { family = family_of registry ordering; supplement = pos number }
seen_as collection registry ordering number family supplement = rw (family, supplement) refl

pub collection_read : (collection : Collection) → IsSayableCollection collection → CollectionIn (collection_payload collection) collection
collection_read collection fits =
    let registry = registry_of collection.family in
    let ordering = ordering_of collection.family in
    let same : nat_abs collection.supplement ≡ fits.number = ap nat_abs (sym fits.supplement) in
    let tail = bytes_of 2 (nat_abs collection.supplement) in
    let tail_is : bytes_of 2 fits.number ≡ tail = ap (bytes_of 2) (sym same) in
    let field : FieldAt 2 tail (fits.number, []) = subst (λ bs. FieldAt 2 bs (fits.number, [])) (append-nil (bytes_of 2 fits.number) ∙ tail_is) (FieldAt-written 2 fits.number [] fits.narrow) in
    (registry, terminated_bytes ordering ++ tail, TerminatedAt-written registry fits.registry (terminated_bytes ordering ++ tail), (ordering, tail, TerminatedAt-written ordering fits.ordering tail, (fits.number, [], field, seen_as collection registry ordering fits.number fits.named fits.supplement)))

-- ---- segments
-- a segment that says this by any tables
pub segment_written : (number : ℕ) (payload : List ℕ) (content : Content) → 5 + length payload < 2 ^ 32 → ((tables : PrefixTables) → IsSegment tables number payload content) → Writes SegmentByAny content (segment_bytes number payload)
segment_written number payload content small says rest tables = SegmentAt-written number payload (segment_bytes number payload) (record { bytes_are = refl; small = small }) tables content (says tables) rest

option_written : {A : Type 0} (say : A → Content) (bytes : A → List ℕ) (fits : A → Type 0) → ((x : A) → fits x → Writes SegmentByAny (say x) (bytes x)) → (o : Option A) → IfSome o fits → WritesAll SegmentByAny (from_option say o) (option_bytes bytes o)
option_written say bytes fits one None h = refl
option_written say bytes fits one (Some x) h = (bytes x, [], sym (append-nil (bytes x)), one x h, refl)

pub length-payload : (collection : Collection) → length (collection_payload collection) ≡ collection_len collection
length-payload collection =
    let registry = registry_of collection.family in
    let ordering = ordering_of collection.family in
    let tail = bytes_of 2 (nat_abs collection.supplement) in
    omega (arith, length-append (terminated_bytes registry) (terminated_bytes ordering ++ tail), length-append (terminated_bytes ordering) tail, length-append registry (0 ∷ []), length-append ordering (0 ∷ []), length-bytes_of 2 (nat_abs collection.supplement))

one_collection : (collection : Collection) → CollectionFits collection → Writes SegmentByAny (files.sets_collection collection) (segment_bytes 14 (collection_payload collection))
one_collection collection (fits, small) = segment_written 14 (collection_payload collection) (files.sets_collection collection) (omega (arith, small, length-payload collection)) (λ tables. (files.collection, refl, (collection, collection_read collection fits, refl)))

one_name : (name : List ℕ) → NameFits name → Writes SegmentByAny (files.sets_name name) (segment_bytes 13 name)
one_name name small = segment_written 13 name (files.sets_name name) small (λ tables. (files.name, refl, refl))

numbered : (mode : Mode) → mode_numbered (mode_number mode) ≡ Some mode
numbered horizontal = refl
numbered vertical = refl

one_mode : (mode : Mode) → Unit {0} → Writes SegmentByAny (files.sets_mode (Some mode)) (segment_bytes 11 (mode_number mode ∷ []))
one_mode mode h = segment_written 11 (mode_number mode ∷ []) (files.sets_mode (Some mode)) (omega arith) (λ tables. (files.mode, refl, ((mode_number mode, []), refl, ap files.sets_mode (sym (numbered mode)))))

any_mode : (o : Option Mode) → IfSome o (λ mode. Unit {0})
any_mode None = tt
any_mode (Some mode) = tt

pub metadata_written : (m : FileMetadata) → MetadataFits m → WritesAll SegmentByAny (metadata_contents m) (metadata_bytes m)
metadata_written m fits =
    let sets : Mode → Content = λ mode. files.sets_mode (Some mode) in
    let collection = option_written files.sets_collection (λ c. segment_bytes 14 (collection_payload c)) CollectionFits one_collection m.collection fits.collection in
    let name = option_written files.sets_name (λ name. segment_bytes 13 name) NameFits one_name m.name fits.name in
    let mode = option_written sets (λ mode. segment_bytes 11 (mode_number mode ∷ [])) (λ mode. Unit {0}) one_mode m.mode (any_mode m.mode) in
    joined SegmentByAny (from_option files.sets_collection m.collection) (from_option files.sets_name m.name ++ from_option sets m.mode) (collection_bytes m.collection) (name_bytes m.name ++ mode_bytes m.mode) collection
    (joined SegmentByAny (from_option files.sets_name m.name) (from_option sets m.mode) (name_bytes m.name) (mode_bytes m.mode) name mode)

one_use : (name : List ℕ) → NameFits name → Writes SegmentByAny (files.uses name) (segment_bytes 9 name)
one_use name small = segment_written 9 name (files.uses name) small (λ tables. (files.base, refl, refl))

pub uses_written : (names : List (List ℕ)) → All NameFits names → WritesAll SegmentByAny (map files.uses names) (uses_bytes names)
uses_written [] all = refl
uses_written (name ∷ names) all = (segment_bytes 9 name, uses_bytes names, refl, one_use name (All-head NameFits name names all), uses_written names (All-tail NameFits name names all))
