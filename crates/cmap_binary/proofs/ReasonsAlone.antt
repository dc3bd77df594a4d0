-- What is wrong with a segment has one reason, where no code word of the tables begins another one.
use Rattle.std.proofs.Common.{◌≡◌, ℕ, zero, suc, ◌+◌, ◌≤◌, ◌^◌, sym, ◌∙◌, subst, List, Some, None, inl, inr, arith}
use Rattle.std.specs.Prelude.{Option, slice_get}
use Rattle.cmap_binary.specs.Bundles.{PrefixTables}
use Rattle.cmap_binary.specs.Fronts.{ByteAt, FieldAt, RowOf, Then}
use Rattle.cmap_binary.proofs.FrontsAlone.{Alone, ArePrefixFree, byte_alone, field_alone}
use Rattle.cmap_values.specs.declared.fault.Reason.{Reason}
use Rattle.cmap_values.specs.declared.fault.Reason.TheVariants.{CidTooLarge, CodeTooLarge, Entry, Field}
use Rattle.cmap_values.specs.declared.fault.Segment.{Segment}
use Rattle.cmap_values.specs.declared.fault.Segment.TheVariants as segment
use Rattle.cmap_binary.specs.BinaryEntries.{DestinationAt, Shape, SymbolAt}
use Rattle.cmap_binary.specs.EntryByEntry.{BfEntryAt, CidColumns, CidEntryAt, Columns, ColumnsAt, SpanAt, WidthAt, cid_from}
use Rattle.cmap_binary.specs.BinaryFiles as files
use Rattle.cmap_binary.specs.BinaryFiles.{CodespaceAt, CollectionIn, Kind, NotdefAt, kind_of}
use Rattle.cmap_binary.specs.WrongSegments.{Misses, MissesThen, WrongAs, WrongBfEntry, WrongCidEntries, WrongCidEntry, WrongCids, WrongCodespace, WrongCodespaces, WrongIfKind, WrongInRow, WrongLength, WrongNotdefEntries, WrongNotdefs, WrongSegment, WrongSpan, WrongTexts, WrongThen}
use Rattle.cmap_binary.proofs.OneFile.{bf_alone, cid_alone, columns_alone, notdef_alone, space_alone, span_alone, symbols_alone, width_alone}

-- where the one holds of something, nothing is wrong
abbrev Apart : {B : Type 0} → (B → Type 0) → (Reason → Type 0) → Type 0
Apart {B = B} reads wrong = (x : B) → reads x → (reason : Reason) → wrong reason → ⊥

misses_alone : {A : Type 0} (first : A → Type 0) (told : Reason) → Alone (Misses first told)
misses_alone first told a b one two = one.1 ∙ sym two.1

misses_apart : {A : Type 0} (first : A → Type 0) (told : Reason) → Apart first (Misses first told)
misses_apart first told x at reason wrong = wrong.0 x at

-- a reason under a condition
told_alone : (C : Type 0) (told : Reason) → Alone (λ reason. C × (reason ≡ told))
told_alone C told a b one two = one.1 ∙ sym two.1

module _ {A S : Type 0} (first : A × S → Type 0) (wrong : Reason → Type 0) (later : A → S → Reason → Type 0) (one : Alone first) (apart : Apart first wrong) where
  then_wrong : Alone wrong → ((x : A) (rest : S) → Alone (later x rest)) → Alone (WrongThen first wrong later)
  then_wrong sole each a b (inl w) (inl v) = sole a b w v
  then_wrong sole each a b (inl w) (inr (x, rest, at, l)) = absurd (apart (x, rest) at a w)
  then_wrong sole each a b (inr (x, rest, at, l)) (inl w) = absurd (apart (x, rest) at b w)
  then_wrong sole each a b (inr (x, rest, at, l)) (inr (y, mid, also, m)) = each x rest a b l (subst (λ p. later p.0 p.1 b) (one (y, mid) (x, rest) also at) m)

  then_apart : {B : Type 0} (second : A → S → B → Type 0) → ((x : A) (rest : S) → Apart (second x rest) (later x rest)) → Apart (Then first second) (WrongThen first wrong later)
  then_apart second each v (x, rest, at, more) reason (inl w) = apart (x, rest) at reason w
  then_apart second each v (x, rest, at, more) reason (inr (y, mid, also, l)) = each x rest v more reason (subst (λ p. later p.0 p.1 reason) (one (y, mid) (x, rest) also at) l)

module _ {A S : Type 0} (first : A × S → Type 0) (told : Reason) (later : A → S → Reason → Type 0) (one : Alone first) where
  misses_then : ((x : A) (rest : S) → Alone (later x rest)) → Alone (MissesThen first told later)
  misses_then each = then_wrong first (Misses first told) later one (misses_apart first told) (misses_alone first told) each

module _ {A S : Type 0} (item : S → A × S → Type 0) (wrong : S → Reason → Type 0) (each : (s : S) → Alone (item s)) (sole : (s : S) → Alone (wrong s)) (apart : (s : S) → Apart (item s) (wrong s)) where
  -- the first that isn't there is one
  row_reason : (k l : ℕ) (start : S) (row other : List A × S) (a b : Reason) → RowOf item k start row → wrong row.1 a → RowOf item l start other → wrong other.1 b → a ≡ b
  row_reason zero zero start row other a b at w also v = sole start a b (subst (λ p. wrong p.1 a) at w) (subst (λ p. wrong p.1 b) also v)
  row_reason zero (suc l) start row other a b at w (x, rest, item_at, more) v = absurd (apart start (x, rest) item_at a (subst (λ p. wrong p.1 a) at w))
  row_reason (suc k) zero start row other a b (x, rest, item_at, more) w also v = absurd (apart start (x, rest) item_at b (subst (λ p. wrong p.1 b) also v))
  row_reason (suc k) (suc l) start row other a b (x, rest, item_at, (xs, end, row_at, is)) w (y, mid, item_also, (ys, stop, row_also, same)) v =
      let one = each start (y, mid) (x, rest) item_also item_at in
      row_reason k l rest (xs, end) (ys, stop) a b row_at (subst (λ p. wrong p.1 a) is w) (subst (λ p. RowOf item l p.1 (ys, stop)) one row_also) (subst (λ p. wrong p.1 b) same v)

  in_row : (n : ℕ) (start : S) → Alone (WrongInRow item wrong n start)
  in_row n start a b (k, row, few, at, w) (l, other, less, also, v) = row_reason k l start row other a b at w also v

-- ---- plain fields
notdef_entries : (width n : ℕ) (text : List ℕ) → Alone (WrongNotdefEntries width n text)
notdef_entries width n text a b (some, inl (not, is)) (also, inl (never, same)) = is ∙ sym same
notdef_entries width n text a b (some, inl (not, is)) (also, inr (length, row)) = absurd (not length)
notdef_entries width n text a b (some, inr (length, row)) (also, inl (not, is)) = absurd (not length)
notdef_entries width n text a b (some, inr (length, row)) (also, inr (long, other)) =
    in_row (NotdefAt width) (λ rest. Misses (NotdefAt width rest) (Entry segment.Notdefs)) (notdef_alone width) (λ rest. misses_alone (NotdefAt width rest) (Entry segment.Notdefs)) (λ rest. misses_apart (NotdefAt width rest) (Entry segment.Notdefs)) n text a b row other

notdefs_wrong : (payload : List ℕ) → Alone (WrongNotdefs payload)
notdefs_wrong payload =
    misses_then (ByteAt payload) (Field segment.Notdefs) _ (byte_alone payload) (λ width mid. misses_then (FieldAt 2 mid) (Field segment.Notdefs) (WrongNotdefEntries width) (field_alone 2 mid) (notdef_entries width))

length_alone : (width : Option ℕ) → Alone (WrongLength width)
length_alone None a b is same = is ∙ sym same
length_alone (Some width) a b (inl (not, is)) (inl (never, same)) = is ∙ sym same
length_alone (Some width) a b (inl (not, is)) (inr (length, same)) = absurd (not length)
length_alone (Some width) a b (inr (length, is)) (inl (not, same)) = absurd (not length)
length_alone (Some width) a b (inr (length, is)) (inr (long, same)) = is ∙ sym same

codespaces_wrong : (payload : List ℕ) → Alone (WrongCodespaces payload)
codespaces_wrong payload =
    misses_then (ByteAt payload) (Field segment.Codespaces) (WrongInRow CodespaceAt WrongCodespace) (byte_alone payload) (
    in_row CodespaceAt WrongCodespace space_alone (λ text a b one two. length_alone (slice_get text 0) a b one.1 two.1) (λ text x at reason wrong. wrong.0 x at)
    )

-- ---- entries
module _ (tables : PrefixTables) (free : ArePrefixFree tables) where
  module _ (within : Segment) (columns : Columns) where
    span_wrong : Alone (WrongSpan tables within columns)
    span_wrong =
        misses_then (SymbolAt tables.delta columns.deltas) (Entry within) _ (symbols_alone tables.delta free.delta columns.deltas) (λ delta deltas. misses_then (WidthAt tables.count columns.counts) (Entry within) _ (width_alone tables free columns.counts) (
        λ width counts. told_alone (2 ^ 32 ≤ columns.base + delta + width) (CodeTooLarge within)
        ))

    span_apart : Apart (SpanAt tables columns) (WrongSpan tables within columns)
    span_apart =
        then_apart (SymbolAt tables.delta columns.deltas) _ _ (symbols_alone tables.delta free.delta columns.deltas) (misses_apart (SymbolAt tables.delta columns.deltas) (Entry within)) _ (
        λ delta deltas.
        then_apart (WidthAt tables.count columns.counts) _ _ (width_alone tables free columns.counts) (misses_apart (WidthAt tables.count columns.counts) (Entry within)) _ (
        λ width counts x given reason wrong. omega (arith, given.0, wrong.0)
        )
        )

  module _ (left : CidColumns) where
    cid_wrong : Alone (WrongCidEntry tables left)
    cid_wrong =
        then_wrong (SpanAt tables left.columns) (WrongSpan tables segment.Cids left.columns) _ (span_alone tables free left.columns) (span_apart segment.Cids left.columns) (span_wrong segment.Cids left.columns) (
        λ span columns. misses_then (FieldAt 2 left.raws) (Entry segment.Cids) _ (field_alone 2 left.raws) (λ raw raws. told_alone (2 ^ 32 ≤ cid_from raw left.next) CidTooLarge)
        )

    cid_apart : Apart (CidEntryAt tables left) (WrongCidEntry tables left)
    cid_apart =
        then_apart (SpanAt tables left.columns) (WrongSpan tables segment.Cids left.columns) _ (span_alone tables free left.columns) (span_apart segment.Cids left.columns) _ (
        λ span columns. then_apart (FieldAt 2 left.raws) _ _ (field_alone 2 left.raws) (misses_apart (FieldAt 2 left.raws) (Entry segment.Cids)) _ (λ raw raws x given reason wrong. omega (arith, given.0, wrong.0))
        )

  module _ (fixed : Option ℕ) (left : Columns × List ℕ) where
    bf_wrong : Alone (WrongBfEntry tables fixed left)
    bf_wrong =
        then_wrong (SpanAt tables left.0) (WrongSpan tables segment.Texts left.0) _ (span_alone tables free left.0) (span_apart segment.Texts left.0) (span_wrong segment.Texts left.0) (λ span columns. misses_alone (DestinationAt fixed left.1) (Entry segment.Texts))

    bf_apart : Apart (BfEntryAt tables fixed left) (WrongBfEntry tables fixed left)
    bf_apart =
        then_apart (SpanAt tables left.0) (WrongSpan tables segment.Texts left.0) _ (span_alone tables free left.0) (span_apart segment.Texts left.0) _ (λ span columns x given reason wrong. let (units, rest, at, is) = given in wrong.0 (units, rest) at)

  cid_entries : (shape : Shape) (n : ℕ) (text : List ℕ) → Alone (WrongCidEntries tables shape n text)
  cid_entries shape zero text = λ a b one two. absurd one
  cid_entries shape (suc m) text = misses_then (ColumnsAt shape text) (Field segment.Cids) _ (columns_alone shape text) (
      λ columns raws. in_row (CidEntryAt tables) (WrongCidEntry tables) (cid_alone tables free) cid_wrong cid_apart (suc m) (record { columns = columns; raws = raws; next = 0 })
      )

  cids_wrong : (shape : Shape) (payload : List ℕ) → Alone (WrongCids tables shape payload)
  cids_wrong shape payload = misses_then (FieldAt 2 payload) (Field segment.Cids) (WrongCidEntries tables shape) (field_alone 2 payload) (cid_entries shape)

  texts_wrong : (shape : Shape) (fixed : Option ℕ) (payload : List ℕ) → Alone (WrongTexts tables shape fixed payload)
  texts_wrong shape fixed payload =
      misses_then (FieldAt 2 payload) (Field segment.Texts) _ (field_alone 2 payload) (λ n text. misses_then (ColumnsAt shape text) (Field segment.Texts) _ (columns_alone shape text) (
      λ columns rest. in_row (BfEntryAt tables fixed) (WrongBfEntry tables fixed) (bf_alone tables free fixed) (bf_wrong fixed) (bf_apart fixed) n (columns, rest)
      ))

  -- ---- segments
  as_wrong : (kind : Kind) (payload : List ℕ) → Alone (WrongAs tables kind payload)
  as_wrong (files.cids shape len) payload = cids_wrong shape payload
  as_wrong (files.texts shape fixed) payload = texts_wrong shape fixed payload
  as_wrong files.base payload = λ a b one two. absurd one
  as_wrong files.notdefs payload = notdefs_wrong payload
  as_wrong files.mode payload = misses_alone (ByteAt payload) (Field segment.WritingMode)
  as_wrong files.codespaces payload = codespaces_wrong payload
  as_wrong files.name payload = λ a b one two. absurd one
  as_wrong files.collection payload = misses_alone (CollectionIn payload) (Field segment.Collection)

  if_kind_wrong : (kind : Option Kind) (payload : List ℕ) → Alone (WrongIfKind tables kind payload)
  if_kind_wrong None payload = λ a b is same. is ∙ sym same
  if_kind_wrong (Some kind) payload = as_wrong kind payload

  pub segment_wrong : (number : ℕ) (payload : List ℕ) → Alone (WrongSegment tables number payload)
  segment_wrong number payload = if_kind_wrong (kind_of number) payload
