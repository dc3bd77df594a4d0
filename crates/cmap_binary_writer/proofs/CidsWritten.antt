-- Codes with their CIDs that are written in a segment.
use Rattle.std.proofs.Common.{◌≡◌, ℕ, suc, ◌+◌, ◌-◌, ◌*◌, ◌^◌, ◌<◌, List, [], ◌∷◌, ◌++◌, length, map, refl, ap, ◌∙◌, sym, subst, arith}
use Rattle.std.specs.List.{All, flat_map}
use Rattle.std.proofs.lemmas.List.{append_assoc, append-nil}
use Rattle.std.proofs.lemmas.List.Elements.{All-head, All-tail, All-weaker}
use Rattle.cmap_values.specs.CodeLengths.{length_of}
use Rattle.cmap_values.specs.Files.{CidEntry, Declaration}
use Rattle.cmap_values.specs.declared.code_length.CodeLength.{CodeLength}
use Rattle.cmap_values.specs.declared.code_length.CodeLength.TheVariants.{One, Two, Three, Four}
use Rattle.cmap_binary.specs.Bundles.{PrefixTables}
use Rattle.cmap_binary.specs.BinaryEntries.{CidEntriesOf, Shape, ranges, singles}
use Rattle.cmap_binary.specs.EntryByEntry.{CidColumns, CidEntryAt, CidsByEntry, Columns}
use Rattle.cmap_binary.specs.BinaryFiles as files
use Rattle.cmap_binary.specs.BinaryFiles.{IsSegment, declares}
use Rattle.cmap_binary.proofs.EntriesByColumns.{cids_same}
use Rattle.cmap_binary.specs.Fronts.{FieldAt, RowOf, Then}
use Rattle.cmap_binary_writer.specs.ColumnsWritten.{HaveSpans, WritesColumns}
use Rattle.cmap_binary_writer.specs.Held.{AreHeld, AreOwnCids, entry_span, spans_of}
use Rattle.cmap_binary_writer.specs.Pieces.{IsShort}
use Rattle.cmap_binary_writer.specs.Written.{bytes_of, Appends}
use Rattle.cmap_binary_writer.proofs.FrontsWritten.{FieldAt-written}

abbrev left : Columns → List ℕ → ℕ → CidColumns
left columns raws next = record { columns = columns; raws = raws; next = next }

abbrev entry : ℕ → ℕ → ℕ → CidEntry
entry start end cid = record { start = start; end = end; cid = cid }

abbrev pub cids : List CidEntry → List ℕ
cids es = flat_map (λ e. bytes_of 2 e.cid) es

row_written : (tables : PrefixTables) (es : List CidEntry) (columns : Columns) (next : ℕ) (tail : List ℕ) → HaveSpans tables (spans_of es) columns → All (λ e. e.cid < 2 ^ 16) es → AreOwnCids next es → (last : CidColumns) × RowOf (CidEntryAt tables) (length es) (left columns (cids es ++ tail) next) (es, last)
row_written tables [] columns next tail spans small own = (left columns tail next, refl)
row_written tables (e ∷ es) columns next tail (later, span, spans) small (first, own) =
    let after = e.cid + (e.end - e.start) + 1 in
    let raws = cids es ++ tail in
    let (last, row) = row_written tables es later after tail spans (All-tail (λ e. e.cid < 2 ^ 16) e es small) own in
    let fits = All-head (λ e. e.cid < 2 ^ 16) e es small in
    let here : CidEntryAt tables (left columns (bytes_of 2 e.cid ++ raws) next) (e, left later raws after) = (
      entry_span e,
      later,
      span,
      (e.cid, raws, FieldAt-written 2 e.cid raws fits, (omega (arith, first), sym (ap (λ n. (entry e.start e.end n, left later raws (n + (e.end - e.start) + 1))) first))),
    ) in (
      last,
      subst (λ bs. RowOf (CidEntryAt tables) (suc (length es)) (left columns bs next) (e ∷ es, last)) (sym (append_assoc (bytes_of 2 e.cid) (cids es) tail)) (e, left later raws after, here, (es, last, row, refl)),
    )

entries_written : (tables : PrefixTables) (shape : Shape) (es : List CidEntry) (bytes : List ℕ) → AreHeld shape es → WritesColumns tables shape (spans_of es) bytes → CidsByEntry tables shape (length es) (bytes ++ cids es) es
entries_written tables shape [] bytes h columns = refl
entries_written tables shape (e ∷ es) bytes h (columns, at, spans) =
    let (last, row) = row_written tables (e ∷ es) columns 0 [] spans (All-weaker IsShort (λ e. e.cid < 2 ^ 16) (λ e s. s.3) (e ∷ es) h.short) h.own in
    let all = subst (λ raws. RowOf (CidEntryAt tables) (suc (length es)) (left columns raws 0) (e ∷ es, last)) (append-nil (cids (e ∷ es))) row in
    (columns, cids (e ∷ es), at (cids (e ∷ es)), (e ∷ es, last, all, refl))

-- the entries of a segment, after their number
abbrev pub CidEntriesIn : PrefixTables → Shape → List ℕ → List CidEntry → Type 0
CidEntriesIn tables shape payload = Then (FieldAt 2 payload) (CidEntriesOf tables shape)

pub payload_written : (tables : PrefixTables) (shape : Shape) (es : List CidEntry) (a b d : List ℕ) (n : ℕ) → a ≡ bytes_of 2 n → n ≡ length es → Appends a b (WritesColumns tables shape (spans_of es)) → d ≡ b ++ cids es → AreHeld shape es → CidEntriesIn tables shape d es
payload_written tables shape es a b d n begins size (bytes, second, columns) last h =
    let tail = bytes ++ cids es in
    let whole : d ≡ bytes_of 2 (length es) ++ tail = last ∙ ap (λ bs. bs ++ cids es) (second ∙ ap (λ bs. bs ++ bytes) (begins ∙ ap (bytes_of 2) size)) ∙ append_assoc (bytes_of 2 (length es)) bytes (cids es) in
    subst (λ bs. CidEntriesIn tables shape bs es) (sym whole) (length es, tail, FieldAt-written 2 (length es) tail h.few, (cids_same tables shape (length es) tail es).1 (entries_written tables shape es bytes h columns))

-- the type of a segment of ranges, and of one of single codes
pub IsSegment-ranges : (tables : PrefixTables) (len : CodeLength) (payload : List ℕ) (es : List CidEntry) → CidEntriesIn tables ranges payload es → IsSegment tables (2 * length_of len - 1) payload (declares (map (Declaration.cid (length_of len)) es))
IsSegment-ranges tables One payload es h = (files.cids ranges 1, refl, (es, h, refl))
IsSegment-ranges tables Two payload es h = (files.cids ranges 2, refl, (es, h, refl))
IsSegment-ranges tables Three payload es h = (files.cids ranges 3, refl, (es, h, refl))
IsSegment-ranges tables Four payload es h = (files.cids ranges 4, refl, (es, h, refl))

pub IsSegment-singles : (tables : PrefixTables) (len : CodeLength) (payload : List ℕ) (es : List CidEntry) → CidEntriesIn tables singles payload es → IsSegment tables (2 * length_of len) payload (declares (map (Declaration.cid (length_of len)) es))
IsSegment-singles tables One payload es h = (files.cids singles 1, refl, (es, h, refl))
IsSegment-singles tables Two payload es h = (files.cids singles 2, refl, (es, h, refl))
IsSegment-singles tables Three payload es h = (files.cids singles 3, refl, (es, h, refl))
IsSegment-singles tables Four payload es h = (files.cids singles 4, refl, (es, h, refl))
