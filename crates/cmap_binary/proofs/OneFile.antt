-- The bytes of a binary file say one thing, where no code word of its tables begins another one.
use Rattle.std.proofs.Common.{ℕ, zero, suc, ◌+◌, sym, ap, ◌∙◌, subst, List, [], drop, Some, None}
use Rattle.std.specs.Prelude.{Option, slice_index}
use Rattle.std.proofs.lemmas.Option.{same_Some}
use Rattle.cmap_binary.specs.Bundles.{PrefixTables}
use Rattle.cmap_binary.specs.Fronts.{AllOf, ByteAt, CodeAt, FieldAt, RowOf, SizedAt, TerminatedAt, Then}
use Rattle.cmap_binary.specs.PrefixWords.{CodeWord, IsPrefixFree, bits}
use Rattle.cmap_binary.proofs.Fronts.{framed_alone, no_frame, pair_is}
use Rattle.cmap_binary.proofs.FrontsAlone.{Alone, ArePrefixFree, all_alone, byte_alone, code_alone, field_alone, gives_alone, gives_if_alone, list_alone, row_alone, sized_alone, symbol_alone, terminated_alone, then_alone}
use Rattle.cmap_binary.specs.BinaryEntries.{BfEntriesOf, CidEntriesOf, DestinationAt, Shape, SymbolAt, ranges, singles}
use Rattle.cmap_binary.specs.EntryByEntry.{BfEntryAt, BfsByEntry, CidColumns, CidEntryAt, CidsByEntry, Columns, ColumnsAfter, ColumnsAt, CountsAt, SpanAt, WidthAt}
use Rattle.cmap_binary.specs.BinaryFiles as files
use Rattle.cmap_binary.specs.BinaryFiles.{CodespaceAt, CodespacesIn, CollectionIn, Content, IsBinaryFile, IsSegment, Kind, Made, NotdefAt, NotdefsIn, SaysAs, SegmentAt, file_of}
use Rattle.cmap_binary.proofs.Bodies.{body_alone}
use Rattle.cmap_binary.proofs.EntriesByColumns.{bfs_same, cids_same}

-- ---- columns
counts_alone : (shape : Shape) (text : List ℕ) → Alone (CountsAt shape text)
counts_alone ranges text = then_alone (SizedAt text) _ (sized_alone text) (λ counts rest. gives_alone (Some (bits counts), rest))
counts_alone singles text = gives_alone (None, text)

pub columns_alone : (shape : Shape) (text : List ℕ) → Alone (ColumnsAt shape text)
columns_alone shape text =
    then_alone (SizedAt text) (ColumnsAfter shape) (sized_alone text) (λ deltas rest. then_alone (CountsAt shape rest) _ (counts_alone shape rest) (λ counts left. gives_alone (record { deltas = bits deltas; counts = counts; base = 0 }, left)))

-- ---- entries
pub symbols_alone : (table : List CodeWord) → IsPrefixFree table → (stream : List ℕ) → Alone (SymbolAt table stream)
symbols_alone table free stream p q (len, one) (size, two) = let same = symbol_alone table free stream p.0 q.0 len size p.1 q.1 one two in pair_is p q same.0 same.1

module _ (tables : PrefixTables) (free : ArePrefixFree tables) where
  pub width_alone : (counts : Option (List ℕ)) → Alone (WidthAt tables.count counts)
  width_alone None = gives_alone (0, None)
  width_alone (Some counts) = then_alone (SymbolAt tables.count counts) _ (symbols_alone tables.count free.count counts) (λ count rest. gives_alone (count + 1, Some rest))

  pub span_alone : (columns : Columns) → Alone (SpanAt tables columns)
  span_alone columns = then_alone (SymbolAt tables.delta columns.deltas) _ (symbols_alone tables.delta free.delta columns.deltas) (λ delta deltas. then_alone (WidthAt tables.count columns.counts) _ (width_alone columns.counts) (λ width counts. gives_if_alone _ _))

  pub cid_alone : (left : CidColumns) → Alone (CidEntryAt tables left)
  cid_alone left = then_alone (SpanAt tables left.columns) _ (span_alone left.columns) (λ span columns. then_alone (FieldAt 2 left.raws) _ (field_alone 2 left.raws) (λ raw raws. gives_if_alone _ _))

  cids_by_entry_alone : (shape : Shape) (n : ℕ) (text : List ℕ) → Alone (CidsByEntry tables shape n text)
  cids_by_entry_alone shape zero text = gives_alone []
  cids_by_entry_alone shape (suc m) text = then_alone (ColumnsAt shape text) _ (columns_alone shape text) (λ columns raws. list_alone (CidEntryAt tables) cid_alone (suc m) (record { columns = columns; raws = raws; next = 0 }))

  cids_alone : (shape : Shape) (payload : List ℕ) → Alone (Then (FieldAt 2 payload) (CidEntriesOf tables shape))
  cids_alone shape payload = then_alone (FieldAt 2 payload) (CidEntriesOf tables shape) (field_alone 2 payload) (λ n text x y is also.
      cids_by_entry_alone shape n text x y ((cids_same tables shape n text x).0 is) ((cids_same tables shape n text y).0 also))

  destination_alone : (fixed : Option ℕ) (text : List ℕ) → Alone (DestinationAt fixed text)
  destination_alone (Some n) text = row_alone (FieldAt 2) (field_alone 2) n text
  destination_alone None text = then_alone (ByteAt text) (RowOf (FieldAt 2)) (byte_alone text) (λ n rest. row_alone (FieldAt 2) (field_alone 2) n rest)

  pub bf_alone : (fixed : Option ℕ) (left : Columns × List ℕ) → Alone (BfEntryAt tables fixed left)
  bf_alone fixed left = then_alone (SpanAt tables left.0) _ (span_alone left.0) (λ span columns. then_alone (DestinationAt fixed left.1) _ (destination_alone fixed left.1) (λ units rest. gives_alone (record { start = span.start; end = span.end; units = units }, (columns, rest))))

  bfs_by_entry_alone : (shape : Shape) (fixed : Option ℕ) (n : ℕ) (text : List ℕ) → Alone (BfsByEntry tables shape fixed n text)
  bfs_by_entry_alone shape fixed n text = then_alone (ColumnsAt shape text) _ (columns_alone shape text) (λ columns rest. list_alone (BfEntryAt tables fixed) (bf_alone fixed) n (columns, rest))

  bfs_alone : (shape : Shape) (fixed : Option ℕ) (payload : List ℕ) → Alone (Then (FieldAt 2 payload) (BfEntriesOf tables shape fixed))
  bfs_alone shape fixed payload = then_alone (FieldAt 2 payload) (BfEntriesOf tables shape fixed) (field_alone 2 payload) (λ n text x y is also.
      bfs_by_entry_alone shape fixed n text x y ((bfs_same tables shape fixed n text x).0 is) ((bfs_same tables shape fixed n text y).0 also))

-- ---- plain fields
pub notdef_alone : (width : ℕ) (text : List ℕ) → Alone (NotdefAt width text)
notdef_alone width text =
    then_alone (CodeAt width text) _ (code_alone width text) (λ start mid. then_alone (CodeAt width mid) _ (code_alone width mid) (λ end tail. then_alone (FieldAt 2 tail) _ (field_alone 2 tail) (λ cid rest. gives_alone (record { start = start; end = end; cid = cid }, rest))))

notdefs_alone : (payload : List ℕ) → Alone (NotdefsIn payload)
notdefs_alone payload = then_alone (ByteAt payload) _ (byte_alone payload) (λ width mid. then_alone (FieldAt 2 mid) _ (field_alone 2 mid) (λ n text. then_alone (RowOf (NotdefAt width) n text) _ (row_alone (NotdefAt width) (notdef_alone width) n text) (λ entries ignored. gives_alone (width, entries))))

pub space_alone : (text : List ℕ) → Alone (CodespaceAt text)
space_alone text =
    then_alone (ByteAt text) _ (byte_alone text) (λ len mid. then_alone (CodeAt len mid) _ (code_alone len mid) (λ low tail. then_alone (CodeAt len tail) _ (code_alone len tail) (λ high rest. gives_alone (record { len = len; low = low; high = high }, rest))))

spaces_alone : (payload : List ℕ) → Alone (CodespacesIn payload)
spaces_alone payload = then_alone (ByteAt payload) _ (byte_alone payload) (λ n text. list_alone CodespaceAt space_alone n text)

collection_alone : (payload : List ℕ) → Alone (CollectionIn payload)
collection_alone payload =
    then_alone (TerminatedAt payload) _ (terminated_alone payload) (λ registry mid. then_alone (TerminatedAt mid) _ (terminated_alone mid) (λ ordering tail. then_alone (FieldAt 2 tail) _ (field_alone 2 tail) (λ supplement ignored. gives_alone _)))

-- ---- segments
made_alone : {A : Type 0} (reads : A → Type 0) (make : A → Content) → Alone reads → Alone (Made reads make)
made_alone reads make one x y (value, at, is) (other, also, same) = is ∙ ap make (one value other at also) ∙ sym same

module _ (tables : PrefixTables) (free : ArePrefixFree tables) where
  says_alone : (kind : Kind) (payload : List ℕ) → Alone (SaysAs tables kind payload)
  says_alone (files.cids shape len) payload = made_alone (Then (FieldAt 2 payload) (CidEntriesOf tables shape)) _ (cids_alone tables free shape payload)
  says_alone (files.texts shape fixed) payload = made_alone (Then (FieldAt 2 payload) (BfEntriesOf tables shape fixed)) _ (bfs_alone tables free shape fixed payload)
  says_alone files.base payload = gives_alone (files.uses payload)
  says_alone files.notdefs payload = made_alone (NotdefsIn payload) _ (notdefs_alone payload)
  says_alone files.mode payload = made_alone (ByteAt payload) _ (byte_alone payload)
  says_alone files.codespaces payload = made_alone (CodespacesIn payload) _ (spaces_alone payload)
  says_alone files.name payload = gives_alone (files.sets_name payload)
  says_alone files.collection payload = made_alone (CollectionIn payload) files.sets_collection (collection_alone payload)

  kind_alone : (number : ℕ) (payload : List ℕ) → Alone (IsSegment tables number payload)
  kind_alone number payload x y (kind, is, says) (other, same, also) = says_alone other payload x y (subst (λ k. SaysAs tables k payload x) (same_Some kind other (sym is ∙ same)) says) also

  segment_alone : (bytes : List ℕ) → Alone (SegmentAt tables bytes)
  segment_alone bytes p q (segment, rest, framed, (says, is)) (other, left, also, (too, same)) =
      let one = framed_alone 1 (segment, rest) (other, left) framed also in
      pair_is p q (kind_alone (slice_index other 0) (drop 5 other) p.0 q.0 (subst (λ f. IsSegment tables (slice_index f.0 0) (drop 5 f.0) p.0) one says) too) (is ∙ ap (λ f. f.1) one ∙ sym same)

  no_segment : (said : Content × List ℕ) → SegmentAt tables [] said → ⊥
  no_segment said (segment, rest, framed, says) = no_frame 1 (segment, rest) framed

  pub one_file : (bytes : List ℕ) → Alone (IsBinaryFile tables bytes)
  unfolding IsBinaryFile
  one_file bytes x y (body, contents, at, all, is) (other, more, also, others, same) =
      let here = subst (λ b. AllOf (SegmentAt tables) b contents) (body_alone bytes body other at also) all in
      is ∙ ap file_of (all_alone (SegmentAt tables) no_segment segment_alone other contents more here others) ∙ sym same
