-- A file that is prepared, and one that is written.
use Rattle.std.proofs.Common.{◌≡◌, ℕ, ◌+◌, List, [], ◌∷◌, ◌++◌, arith, drop, length, map, take, refl, ap, ◌∙◌, sym, subst}
use Rattle.std.specs.List.{flat_map}
use Rattle.std.proofs.lemmas.List.{append_assoc, append-nil, length-append, length-map, map-append}
use Rattle.std.proofs.lemmas.List.Concat.{flat_map-append}
use Rattle.cmap_values.specs.Files.{BfEntry, ByLength, Declaration, File, Lists, lists_of}
use Rattle.cmap_binary.specs.BinaryFiles.{BodyOf, IsBinaryFile, SegmentAt, declares, file_of, magic}
use Rattle.cmap_binary.specs.BinaryFiles as files
use Rattle.cmap_binary.specs.Bundles.{PrefixTables}
use Rattle.cmap_binary_writer.specs.Fields.{FieldsFit, fields_of, metadata_bytes, notdef_lists_bytes, spaces_bytes, uses_bytes}
use Rattle.cmap_binary_writer.specs.Keeps.{HaveSameCids, HaveSameTexts, IsWritten, KeepLists, Keeps}
use Rattle.cmap_values.specs.ListsByKind.{by_length}
use Rattle.cmap_binary_writer.specs.MetadataWritten.{metadata_contents}
use Rattle.std.specs.Global.{Vec}
use Rattle.cmap_values.specs.DeclarationsSeen.{entries_seen}
use Rattle.cmap_values.specs.declared.declarations.ByLength.{ByLength as HeldByLength}
use Rattle.cmap_values.specs.declared.declarations.CidRange.{CidRange}
use Rattle.cmap_binary_writer.specs.PreparedFiles.{AddsCidLists, AddsSameCids, IsPrepared}
use Rattle.cmap_binary_writer.specs.Segments.{AddsSegments, DeclareEach}
use Rattle.cmap_layers.specs.Lookups.{bf_span, cid_span}
use Rattle.cmap_binary_writer.specs.Weights.{AreFew}
use Rattle.cmap_binary_writer.specs.SegmentsWritten.{SegmentByAny}
use Rattle.cmap_binary_writer.specs.Written.{Appends, IsFramed, WritesAll, IsFramedFile}
use Rattle.cmap_binary_writer.specs.declared.prepared.Prepared.{Prepared}
use Rattle.cmap_binary_writer.specs.declared.segments.Segment.{Segment}
use Rattle.cmap_binary_writer.proofs.FileKept.{file_said, head, keeps}
use Rattle.cmap_binary_writer.proofs.FilesWritten.{AllOf-written, joined}
use Rattle.cmap_binary_writer.proofs.FrontsWritten.{FramedAt-written, payload-written}
use Rattle.cmap_values.proofs.KindsMade.{all_kinds}
use Rattle.cmap_binary_writer.proofs.ListsKept.{all_by_any, declared_both, notdef_lists_written, spaces_written}
use Rattle.cmap_binary_writer.proofs.MetadataHeld.{metadata_written, uses_written}
use Rattle.cmap_binary_writer.proofs.SegmentsAdded.{WrittenWhere, adds_both, adds_four}

-- what is added to none
from_none : (segments : List Segment) (ds : List Declaration) → AddsSegments [] segments ds → (parts : List (List Declaration)) × DeclareEach segments parts × (flat_map (λ part. part) parts ≡ ds)
from_none segments ds (added, is, (parts, each, flat)) = (parts, subst (λ ss. DeclareEach ss parts) (sym is) each, flat)

-- how many declarations these are
length_declared : (made : ByLength) (texts : List BfEntry) → length (by_length Declaration.cid made.one made.two made.three made.four ++ map Declaration.bf texts) ≡ length made.one + (length made.two + (length made.three + (length made.four + length texts)))
length_declared made texts =
    let one = map (Declaration.cid 1) made.one in
    let two = map (Declaration.cid 2) made.two in
    let three = map (Declaration.cid 3) made.three in
    let four = map (Declaration.cid 4) made.four in
    omega (arith, length-append (one ++ (two ++ (three ++ four))) (map Declaration.bf texts), length-append one (two ++ (three ++ four)), length-append two (three ++ four), length-append three four, length-map made.one (Declaration.cid 1), length-map made.two (Declaration.cid 2), length-map made.three (Declaration.cid 3), length-map made.four (Declaration.cid 4), length-map texts Declaration.bf)

module _ (file : File) (prepared : Prepared) (made : ByLength) (texts : List BfEntry) where
  pub prepared_is : (some : List Segment) → FieldsFit file → prepared.fields.items ≡ fields_of file → AddsSegments [] some (by_length Declaration.cid made.one made.two made.three made.four) → AddsSegments some prepared.segments.items (map Declaration.bf texts)
      → HaveSameCids file.lists.cids.one made.one → HaveSameCids file.lists.cids.two made.two → HaveSameCids file.lists.cids.three made.three → HaveSameCids file.lists.cids.four made.four → HaveSameTexts file.lists.bfs texts
      → AreFew (map cid_span file.lists.cids.one) (length made.one) → AreFew (map cid_span file.lists.cids.two) (length made.two) → AreFew (map cid_span file.lists.cids.three) (length made.three) → AreFew (map cid_span file.lists.cids.four) (length made.four) → AreFew (map bf_span file.lists.bfs) (length texts) → IsPrepared file prepared
  prepared_is some fit bytes cids bfs one_same two_same three_same four_same texts_same one_few two_few three_few four_few texts_few =
      let ds = map Declaration.codespace file.lists.spaces in
      let ns = by_length Declaration.notdef file.lists.notdefs.one file.lists.notdefs.two file.lists.notdefs.three file.lists.notdefs.four in
      let cs = by_length Declaration.cid made.one made.two made.three made.four in
      let ts = map Declaration.bf texts in
      let meta = metadata_bytes file.metadata in
      let uses = uses_bytes file.uses in
      let rest = spaces_bytes file.lists.spaces ++ notdef_lists_bytes file.lists.notdefs in
      let (fronts, fronts_flat, all) = declared_both SegmentByAny ds ns (spaces_bytes file.lists.spaces) (notdef_lists_bytes file.lists.notdefs) (spaces_written file.lists.spaces fit.spaces) (notdef_lists_written file.lists.notdefs fit.notdefs) in
      let (parts, each, parts_flat) = from_none prepared.segments.items (cs ++ ts) (adds_both cs ts [] some prepared.segments.items cids bfs) in
      let names = map files.uses file.uses in
      let contents = metadata_contents file.metadata ++ (names ++ map declares fronts) in
      let written : WritesAll SegmentByAny contents (meta ++ (uses ++ rest)) = joined SegmentByAny (metadata_contents file.metadata) (names ++ map declares fronts) meta (uses ++ rest) (metadata_written file.metadata fit.metadata) (joined SegmentByAny names (map declares fronts) uses rest (uses_written file.uses fit.uses) all) in
      let flat : flat_map (λ part. part) (fronts ++ parts) ≡ (ds ++ ns) ++ (cs ++ ts) = flat_map-append (λ part. part) fronts parts ∙ ap (λ xs. xs ++ flat_map (λ part. part) parts) fronts_flat ∙ ap (λ xs. (ds ++ ns) ++ xs) parts_flat in
      let all_contents : contents ++ map declares parts ≡ metadata_contents file.metadata ++ (names ++ map declares (fronts ++ parts)) = append_assoc (metadata_contents file.metadata) (names ++ map declares fronts) (map declares parts) ∙ ap (λ cs. metadata_contents file.metadata ++ cs) (append_assoc names (map declares fronts) (map declares parts) ∙ ap (λ cs. names ++ cs) (sym (map-append declares fronts parts))) in
      let lists : Lists = record { cids = made; notdefs = file.lists.notdefs; bfs = texts; spaces = file.lists.spaces } in
      let says : file_of (contents ++ map declares parts) ≡ record { metadata = file.metadata; lists = lists; uses = file.uses } =
      ap file_of all_contents ∙ file_said file.metadata file.uses (fronts ++ parts) ∙ ap (λ l. record { metadata = file.metadata; lists = l; uses = file.uses }) (ap lists_of flat ∙ all_kinds file.lists.spaces file.lists.notdefs made texts) in
      let kept : KeepLists file.lists lists = record { spaces = refl; notdefs = refl; bfs = texts_same; one = one_same; two = two_same; three = three_same; four = four_same } in
      record {
        contents = contents;
        parts = parts;
        fields = subst (WritesAll SegmentByAny contents) (sym bytes) written;
        segments = each;
        keeps = subst (Keeps file) (sym says) (keeps file lists kept);
        few = omega (arith, ap length parts_flat, length_declared made texts, one_few, two_few, three_few, four_few, texts_few);
      }

-- ---- the file
pub file_framed : (body bytes : List ℕ) → Appends [] bytes (IsFramed head body) → IsFramedFile bytes
file_framed body bytes (framed, is, at) more = FramedAt-written head body bytes more (subst (IsFramed head body) (sym is) at)

pub file_written : (tables : PrefixTables) (file : File) (prepared : Prepared) (body bytes : List ℕ) → IsPrepared file prepared → WrittenWhere tables prepared.segments.items prepared.fields.items body → Appends [] bytes (IsFramed head body) → IsWritten tables file bytes
unfolding IsBinaryFile
file_written tables file prepared body bytes h written (framed, bytes_are, at) =
    let (last, body_is, all) = written h.parts h.segments in
    let contents = h.contents ++ map declares h.parts in
    let whole : WritesAll (SegmentAt tables) contents body = subst (WritesAll (SegmentAt tables) contents) (sym body_is) (joined (SegmentAt tables) h.contents (map declares h.parts) prepared.fields.items last (all_by_any tables h.contents prepared.fields.items h.fields) all) in
    let frame = subst (IsFramed head body) (sym bytes_are) at in
    let none = append-nil bytes in
    let front : take 6 bytes ≡ magic ++ 1 ∷ [] = ap (take 6) frame.bytes_are in
    let rest : drop 10 bytes ≡ body = payload-written head body bytes frame in
    record {
      made = file_of contents;
      is = (
        body,
        contents,
        subst (λ bs. BodyOf bs body) none (bytes, [], FramedAt-written head body bytes [] frame, (front, sym rest)),
        AllOf-written (SegmentAt tables) contents body whole,
        refl,
      );
      keeps = h.keeps;
      framed = λ more. FramedAt-written head body bytes more frame;
    }

-- ---- CIDs of codes of each length
pub cid_lists : (held : HeldByLength (Vec CidRange)) (old a b c new : List Segment) → AddsSameCids 1 (entries_seen held.one.items) old a → AddsSameCids 2 (entries_seen held.two.items) a b → AddsSameCids 3 (entries_seen held.three.items) b c → AddsSameCids 4 (entries_seen held.four.items) c new → AddsCidLists held old new
cid_lists held old a b c new (m1, first, s1, f1) (m2, second, s2, f2) (m3, third, s3, f3) (m4, fourth, s4, f4) = record {
  one = m1;
  two = m2;
  three = m3;
  four = m4;
  added = adds_four (map (Declaration.cid 1) m1) (map (Declaration.cid 2) m2) (map (Declaration.cid 3) m3) (map (Declaration.cid 4) m4) old a b c new first second third fourth;
  one_same = s1;
  two_same = s2;
  three_same = s3;
  four_same = s4;
  one_few = f1;
  two_few = f2;
  three_few = f3;
  four_few = f4;
}
