-- The reason why a segment can't be read: its first fault, in the order in which it is read.
use Rattle.std.specs.Prelude.{◌≡◌, ◌⊎◌, ℕ, zero, suc, ◌+◌, ◌<◌, ◌≤◌, ◌^◌, List, Option, Some, None, slice_get}
use Rattle.cmap_values.specs.CodeLengths.{IsCodeLength}
use Rattle.cmap_values.specs.Only.{HoldsOfNone}
use Rattle.cmap_values.specs.declared.fault.Reason.{Reason}
use Rattle.cmap_values.specs.declared.fault.Reason.TheVariants.{CidTooLarge, CodeLength, CodeTooLarge, Entry, Field, SegmentType}
use Rattle.cmap_values.specs.declared.fault.Segment.{Segment}
use Rattle.cmap_values.specs.declared.fault.Segment.TheVariants as segment
use Rattle.cmap_binary.specs.Bundles.{PrefixTables}
use Rattle.cmap_binary.specs.Fronts.{ByteAt, FieldAt, RowOf}
use Rattle.cmap_binary.specs.BinaryEntries.{DestinationAt, Shape, SymbolAt}
use Rattle.cmap_binary.specs.EntryByEntry.{CidColumns, CidEntryAt, Columns, ColumnsAt, BfEntryAt, SpanAt, WidthAt, cid_from}
use Rattle.cmap_binary.specs.BinaryFiles.{CodespaceAt, CollectionIn, Kind, NotdefAt, base, cids, codespaces, collection, kind_of, mode, name, notdefs, texts}

-- the item can't be read, and this is the reason
abbrev pub Misses : {A : Type 0} → (A → Type 0) → Reason → Reason → Type 0
Misses first told reason = HoldsOfNone first × (reason ≡ told)

-- the first item is at fault, or else the part after it is
abbrev pub WrongThen : {A S : Type 0} → (A × S → Type 0) → (Reason → Type 0) → (A → S → Reason → Type 0) → Reason → Type 0
WrongThen first wrong later reason = wrong reason ⊎ ((x : _) × (rest : _) × first (x, rest) × later x rest reason)

-- the first item can't be read, or else the part after it is at fault
abbrev pub MissesThen : {A S : Type 0} → (A × S → Type 0) → Reason → (A → S → Reason → Type 0) → Reason → Type 0
MissesThen first told = WrongThen first (Misses first told)

-- fewer than n items can be read in a row, and the next one is at fault
abbrev pub WrongInRow : {A S : Type 0} → (S → A × S → Type 0) → (S → Reason → Type 0) → ℕ → S → Reason → Type 0
WrongInRow {A = A} {S = S} item wrong n start reason = (k : ℕ) × (row : List A × S) × (k < n) × RowOf item k start row × wrong row.1 reason

-- a fault of the codes of an entry
abbrev pub WrongSpan : PrefixTables → Segment → Columns → Reason → Type 0
WrongSpan tables within columns =
    MissesThen (SymbolAt tables.delta columns.deltas) (Entry within) (λ delta deltas. MissesThen (WidthAt tables.count columns.counts) (Entry within) (λ width counts reason.
    (2 ^ 32 ≤ columns.base + delta + width) × (reason ≡ CodeTooLarge within)))

abbrev pub WrongCidEntry : PrefixTables → CidColumns → Reason → Type 0
WrongCidEntry tables left =
    WrongThen (SpanAt tables left.columns) (WrongSpan tables segment.Cids left.columns) (λ span columns. MissesThen (FieldAt 2 left.raws) (Entry segment.Cids) (λ raw raws reason.
    (2 ^ 32 ≤ cid_from raw left.next) × (reason ≡ CidTooLarge)))

abbrev pub WrongBfEntry : PrefixTables → Option ℕ → Columns × List ℕ → Reason → Type 0
WrongBfEntry tables fixed left = WrongThen (SpanAt tables left.0) (WrongSpan tables segment.Texts left.0) (λ span columns. Misses (DestinationAt fixed left.1) (Entry segment.Texts))

-- a fault after the number of entries, n, in a segment of CIDs
abbrev pub WrongCidEntries : PrefixTables → Shape → ℕ → List ℕ → Reason → Type 0
WrongCidEntries tables shape zero text reason = ⊥
WrongCidEntries tables shape (suc m) text reason =
    MissesThen (ColumnsAt shape text) (Field segment.Cids) (λ columns raws. WrongInRow (CidEntryAt tables) (WrongCidEntry tables) (suc m) (record { columns = columns; raws = raws; next = 0 })) reason

abbrev pub WrongCids : PrefixTables → Shape → List ℕ → Reason → Type 0
WrongCids tables shape payload = MissesThen (FieldAt 2 payload) (Field segment.Cids) (WrongCidEntries tables shape)

abbrev pub WrongTexts : PrefixTables → Shape → Option ℕ → List ℕ → Reason → Type 0
WrongTexts tables shape fixed payload =
    MissesThen (FieldAt 2 payload) (Field segment.Texts) (λ n text. MissesThen (ColumnsAt shape text) (Field segment.Texts) (λ columns rest. WrongInRow (BfEntryAt tables fixed) (WrongBfEntry tables fixed) n (columns, rest)))

-- a fault of n notdef entries for codes of this width
abbrev pub WrongNotdefEntries : ℕ → ℕ → List ℕ → Reason → Type 0
WrongNotdefEntries width n text reason = (0 < n) × (((IsCodeLength width → ⊥) × (reason ≡ CodeLength)) ⊎ (IsCodeLength width × WrongInRow (NotdefAt width) (λ rest. Misses (NotdefAt width rest) (Entry segment.Notdefs)) n text reason))

abbrev pub WrongNotdefs : List ℕ → Reason → Type 0
WrongNotdefs payload = MissesThen (ByteAt payload) (Field segment.Notdefs) (λ width mid. MissesThen (FieldAt 2 mid) (Field segment.Notdefs) (WrongNotdefEntries width))

-- a fault of a codespace range, which begins with the length of its codes, if there is a byte
abbrev pub WrongLength : Option ℕ → Reason → Type 0
WrongLength None reason = reason ≡ Entry segment.Codespaces
WrongLength (Some width) reason = ((IsCodeLength width → ⊥) × (reason ≡ CodeLength)) ⊎ (IsCodeLength width × (reason ≡ Entry segment.Codespaces))

abbrev pub WrongCodespace : List ℕ → Reason → Type 0
WrongCodespace text reason = HoldsOfNone (CodespaceAt text) × WrongLength (slice_get text 0) reason

abbrev pub WrongCodespaces : List ℕ → Reason → Type 0
WrongCodespaces payload = MissesThen (ByteAt payload) (Field segment.Codespaces) (WrongInRow CodespaceAt WrongCodespace)

-- a fault of a payload of this type
abbrev pub WrongAs : PrefixTables → Kind → List ℕ → Reason → Type 0
WrongAs tables (cids shape len) payload reason = WrongCids tables shape payload reason
WrongAs tables (texts shape fixed) payload reason = WrongTexts tables shape fixed payload reason
WrongAs tables base payload reason = ⊥
WrongAs tables notdefs payload reason = WrongNotdefs payload reason
WrongAs tables mode payload reason = Misses (ByteAt payload) (Field segment.WritingMode) reason
WrongAs tables codespaces payload reason = WrongCodespaces payload reason
WrongAs tables name payload reason = ⊥
WrongAs tables collection payload reason = Misses (CollectionIn payload) (Field segment.Collection) reason

-- a segment of an unknown type is at fault because of its type
abbrev pub WrongIfKind : PrefixTables → Option Kind → List ℕ → Reason → Type 0
WrongIfKind tables None payload reason = reason ≡ SegmentType
WrongIfKind tables (Some kind) payload reason = WrongAs tables kind payload reason

-- a fault of a segment of this type with this payload
abbrev pub WrongSegment : PrefixTables → ℕ → List ℕ → Reason → Type 0
WrongSegment tables number payload = WrongIfKind tables (kind_of number) payload
