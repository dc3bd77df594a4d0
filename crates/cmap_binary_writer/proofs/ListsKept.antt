-- The lists of a file whose declarations are written kind by kind.
use Rattle.std.proofs.Common.{◌≡◌, ℕ, ◌+◌, ◌*◌, ◌<◌, ◌≤◌, ◌^◌, List, [], ◌∷◌, ◌++◌, length, map, refl, ap, ◌∙◌, sym, subst, arith}
use Rattle.std.specs.List.{All, flat_map}
use Rattle.std.proofs.lemmas.List.{map-append}
use Rattle.std.proofs.lemmas.List.Concat.{flat_map-append}
use Rattle.std.proofs.lemmas.List.Elements.{All-head, All-tail}
use Rattle.std.proofs.lemmas.List.{length-append}
use Rattle.cmap_values.specs.Files.{ByLength, CidEntry, Codespace, Declaration}
use Rattle.cmap_values.specs.ListsByKind.{by_length}
use Rattle.cmap_binary.specs.BinaryFiles as files
use Rattle.cmap_binary.specs.BinaryFiles.{Content, SegmentAt, declares}
use Rattle.cmap_binary.specs.Bundles.{PrefixTables}
use Rattle.cmap_binary_writer.specs.Fields.{NotdefFits, NotdefsFit, SpaceFits, notdef_bytes, notdef_lists_bytes, notdefs_bytes, notdefs_payload, part_segments, parts_of, segment_bytes, space_bytes, spaces_bytes, spaces_payload}
use Rattle.cmap_binary_writer.specs.SegmentsWritten.{DeclareAll, SegmentByAny}
use Rattle.cmap_binary_writer.specs.Written.{Writes, WritesAll, bytes_of}
use Rattle.cmap_binary_writer.proofs.BytesWritten.{length-bytes_of}
use Rattle.cmap_binary_writer.proofs.FilesWritten.{joined}
use Rattle.cmap_binary_writer.proofs.MetadataHeld.{segment_written}
use Rattle.cmap_binary_writer.proofs.PartsMade.{parts_each, parts_flat}
use Rattle.cmap_binary_writer.proofs.RowsWritten.{notdefs_read, spaces_read}

-- ---- segments after others
pub all_by_any : (tables : PrefixTables) (contents : List Content) (bytes : List ℕ) → WritesAll SegmentByAny contents bytes → WritesAll (SegmentAt tables) contents bytes
all_by_any tables [] bytes none = none
all_by_any tables (c ∷ contents) bytes (first, later, parts, at, all) = (first, later, parts, (λ rest. at rest tables), all_by_any tables contents later all)

pub declared_both : (item : List ℕ → Content × List ℕ → Type 0) (a b : List Declaration) (first second : List ℕ) → DeclareAll item a first → DeclareAll item b second → DeclareAll item (a ++ b) (first ++ second)
declared_both item a b first second (parts, flat, all) (others, flat_too, all_too) = (
  parts ++ others,
  flat_map-append (λ part. part) parts others ∙ ap (λ ds. ds ++ flat_map (λ part. part) others) flat ∙ ap (λ ds. a ++ ds) flat_too,
  subst (λ cs. WritesAll item cs (first ++ second)) (sym (map-append declares parts others)) (joined item (map declares parts) (map declares others) first second all all_too),
)

-- ---- a segment for each part of a list
module _ {E : Type 0} (say : E → Declaration) where
  said_flat : (parts : List (List E)) → flat_map (λ part. part) (map (map say) parts) ≡ map say (flat_map (λ part. part) parts)
  said_flat [] = refl
  said_flat (part ∷ parts) = ap (λ ds. map say part ++ ds) (said_flat parts) ∙ sym (map-append say part (flat_map (λ part. part) parts))

module _ {E : Type 0} (say : E → Declaration) (number : ℕ) (payload : List E → List ℕ) (most : ℕ) (fits : E → Type 0)
    (one : (part : List E) → length part ≤ most → All fits part → Writes SegmentByAny (declares (map say part)) (segment_bytes number (payload part))) where
  each_written : (parts : List (List E)) → All (λ part. (length part ≤ most) × All fits part) parts → WritesAll SegmentByAny (map declares (map (map say) parts)) (flat_map (λ part. segment_bytes number (payload part)) parts)
  each_written [] all = refl
  each_written (part ∷ parts) all =
      let first = All-head (λ part. (length part ≤ most) × All fits part) part parts all in
      (segment_bytes number (payload part), flat_map (λ part. segment_bytes number (payload part)) parts, refl, one part first.0 first.1, each_written parts (All-tail (λ part. (length part ≤ most) × All fits part) part parts all))

  parts_written : 0 < most → (es : List E) → All fits es → DeclareAll SegmentByAny (map say es) (part_segments number payload most es)
  parts_written some es fit = (map (map say) (parts_of most es), said_flat say (parts_of most es) ∙ ap (map say) (parts_flat (length es) most es some (omega arith)), each_written (parts_of most es) (parts_each fits (length es) most es fit))

-- ---- codespace ranges
spaces_short : (spaces : List Codespace) → All SpaceFits spaces → length (flat_map space_bytes spaces) ≤ 9 * length spaces
spaces_short [] all = omega arith
spaces_short (space ∷ spaces) all =
    let fits = All-head SpaceFits space spaces all in
    let low = bytes_of space.len space.low in
    let high = bytes_of space.len space.high in
    omega (arith, fits.0.length.1, length-append (space_bytes space) (flat_map space_bytes spaces), length-append low high, length-bytes_of space.len space.low, length-bytes_of space.len space.high, spaces_short spaces (All-tail SpaceFits space spaces all))

pub short_spaces : (spaces : List Codespace) → length spaces ≤ 255 → All SpaceFits spaces → 5 + length (spaces_payload spaces) < 2 ^ 32
short_spaces spaces few all = omega (arith, few, spaces_short spaces all)

one_spaces : (spaces : List Codespace) → length spaces ≤ 255 → All SpaceFits spaces → Writes SegmentByAny (declares (map Declaration.codespace spaces)) (segment_bytes 12 (spaces_payload spaces))
one_spaces spaces few all = segment_written 12 (spaces_payload spaces) (declares (map Declaration.codespace spaces)) (short_spaces spaces few all) (λ tables. (files.codespaces, refl, (spaces, spaces_read spaces all, refl)))

pub spaces_written : (spaces : List Codespace) → All SpaceFits spaces → DeclareAll SegmentByAny (map Declaration.codespace spaces) (spaces_bytes spaces)
spaces_written spaces all = parts_written Declaration.codespace 12 spaces_payload 255 SpaceFits one_spaces (omega arith) spaces all

-- ---- notdef declarations
notdefs_short : (len : ℕ) (es : List CidEntry) → All (NotdefFits len) es → length (flat_map (notdef_bytes len) es) ≤ 10 * length es
notdefs_short len [] all = omega arith
notdefs_short len (e ∷ es) all =
    let fits = All-head (NotdefFits len) e es all in
    let start = bytes_of len e.start in
    let end = bytes_of len e.end in
    let cid = bytes_of 2 e.cid in
    omega (arith, fits.0.length.1, length-append (notdef_bytes len e) (flat_map (notdef_bytes len) es), length-append start (end ++ cid), length-append end cid, length-bytes_of len e.start, length-bytes_of len e.end, length-bytes_of 2 e.cid, notdefs_short len es (All-tail (NotdefFits len) e es all))

pub short_notdefs : (len : ℕ) (es : List CidEntry) → length es ≤ 65535 → All (NotdefFits len) es → 5 + length (notdefs_payload len es) < 2 ^ 32
short_notdefs len es few all =
    let rows = flat_map (notdef_bytes len) es in
    omega (arith, few, notdefs_short len es all, length-append (bytes_of 2 (length es)) rows, length-bytes_of 2 (length es))

one_notdefs : (len : ℕ) (es : List CidEntry) → length es ≤ 65535 → All (NotdefFits len) es → Writes SegmentByAny (declares (map (Declaration.notdef len) es)) (segment_bytes 10 (notdefs_payload len es))
one_notdefs len es few all = segment_written 10 (notdefs_payload len es) (declares (map (Declaration.notdef len) es)) (short_notdefs len es few all) (λ tables. (files.notdefs, refl, ((len, es), notdefs_read len es (omega (arith, few)) all, refl)))

notdefs_written : (len : ℕ) (es : List CidEntry) → All (NotdefFits len) es → DeclareAll SegmentByAny (map (Declaration.notdef len) es) (notdefs_bytes len es)
notdefs_written len es all = parts_written (Declaration.notdef len) 10 (notdefs_payload len) 65535 (NotdefFits len) (one_notdefs len) (omega arith) es all

pub notdef_lists_written : (lists : ByLength) → NotdefsFit lists → DeclareAll SegmentByAny (by_length Declaration.notdef lists.one lists.two lists.three lists.four) (notdef_lists_bytes lists)
notdef_lists_written lists fit =
    let declared : ℕ → List CidEntry → List Declaration = λ len es. map (Declaration.notdef len) es in
    let later = declared_both SegmentByAny (declared 3 lists.three) (declared 4 lists.four) (notdefs_bytes 3 lists.three) (notdefs_bytes 4 lists.four) (notdefs_written 3 lists.three fit.three) (notdefs_written 4 lists.four fit.four) in
    let some = declared_both SegmentByAny (declared 2 lists.two) (declared 3 lists.three ++ declared 4 lists.four) (notdefs_bytes 2 lists.two) (notdefs_bytes 3 lists.three ++ notdefs_bytes 4 lists.four) (notdefs_written 2 lists.two fit.two) later in
    declared_both SegmentByAny (declared 1 lists.one) (declared 2 lists.two ++ (declared 3 lists.three ++ declared 4 lists.four)) (notdefs_bytes 1 lists.one) (notdefs_bytes 2 lists.two ++ (notdefs_bytes 3 lists.three ++ notdefs_bytes 4 lists.four)) (notdefs_written 1 lists.one fit.one) some
