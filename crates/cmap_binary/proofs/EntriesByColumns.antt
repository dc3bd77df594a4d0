-- The entries that columns give are those that are read one after another.
use Rattle.std.proofs.Common.{◌≡◌, ℕ, zero, suc, ◌+◌, ◌-◌, ◌<◌, ◌^◌, List, [], ◌∷◌, Some, None, map, refl, sym, ap, ◌∙◌, subst}
use Rattle.std.specs.Prelude.{◌↔◌, ◌==◌, Option, All, replicate, zip, if◌then◌else◌}
use Rattle.std.proofs.Math.Dec.{eqb-suc-zero}
use Rattle.std.proofs.lemmas.List.Elements.{All-cons, All-head, All-nil, All-tail}
use Rattle.cmap_values.specs.Files.{BfEntry, CidEntry}
use Rattle.cmap_values.specs.Spans.{Span}
use Rattle.cmap_binary.specs.Bundles.{PrefixTables}
use Rattle.cmap_binary.specs.Fronts.{FieldAt, RowOf, SizedAt}
use Rattle.cmap_binary.specs.PrefixWords.{CodeWord, bits}
use Rattle.cmap_binary.proofs.Fronts.{pair, pair_is}
use Rattle.cmap_binary.specs.BinaryEntries.{BfEntriesOf, CidEntriesOf, DestinationAt, Shape, SpansAt, SymbolAt, SymbolsAt, cid_entries, ranges, singles, spans_from}
use Rattle.cmap_binary.specs.EntryByEntry.{BfEntryAt, BfsByEntry, CidColumns, CidEntryAt, CidsByEntry, Columns, ColumnsAt, SpanAt, WidthAt, cid_from}

-- ---- widths
abbrev pub widened : List ℕ → List ℕ
widened counts = map (λ count. count + 1) counts

-- the widths of n entries, of the bits of their counts, or without counts
abbrev pub AreWidths : List CodeWord → ℕ → Option (List ℕ) → List ℕ × Option (List ℕ) → Type 0
AreWidths table n None r = r ≡ (replicate n 0, None)
AreWidths table n (Some stream) r = (counts rest : List ℕ) × RowOf (SymbolAt table) n stream (counts, rest) × (r ≡ (widened counts, Some rest))

module _ (table : List CodeWord) where
  no_widths : (n : ℕ) (r : List ℕ × Option (List ℕ)) → RowOf (WidthAt table) n None r → r ≡ (replicate n 0, None)
  no_widths zero r is = is
  no_widths (suc n) r (width, mid, at, (widths, end, more, is)) =
      let later = no_widths n (widths, end) (subst (λ q. RowOf (WidthAt table) n q.1 (widths, end)) at more) in
      is ∙ ap (λ q. pair (q.0 ∷ widths) end) at ∙ ap (λ q. pair (0 ∷ q.0) q.1) later

  some_widths : (n : ℕ) (stream : List ℕ) (r : List ℕ × Option (List ℕ)) → RowOf (WidthAt table) n (Some stream) r → AreWidths table n (Some stream) r
  some_widths zero stream r is = ([], stream, refl, is)
  some_widths (suc n) stream r (width, mid, (count, left, at, one), (widths, end, more, is)) =
      let (counts, rest, row, same) = some_widths n left (widths, end) (subst (λ q. RowOf (WidthAt table) n q.1 (widths, end)) one more) in
      (count ∷ counts, rest, (count, left, at, (counts, rest, row, refl)), is ∙ ap (λ q. pair (q.0 ∷ widths) end) one ∙ ap (λ q. pair ((count + 1) ∷ q.0) q.1) same)

  none_wide : (n : ℕ) → RowOf (WidthAt table) n None (replicate n 0, None)
  none_wide zero = refl
  none_wide (suc n) = (0, None, refl, (replicate n 0, None, none_wide n, refl))

  each_wide : (n : ℕ) (stream : List ℕ) (r : List ℕ × List ℕ) → RowOf (SymbolAt table) n stream r → RowOf (WidthAt table) n (Some stream) (widened r.0, Some r.1)
  each_wide zero stream r is = ap (λ q. pair (widened q.0) (Some q.1)) is
  each_wide (suc n) stream r (count, left, at, (counts, rest, more, is)) =
      (count + 1, Some left, (count, left, at, refl), (widened counts, Some rest, each_wide n left (counts, rest) more, ap (λ q. pair (widened q.0) (Some q.1)) is))

  pub widths_read : (n : ℕ) (counts : Option (List ℕ)) (r : List ℕ × Option (List ℕ)) → RowOf (WidthAt table) n counts r ↔ AreWidths table n counts r
  widths_read n None r = (no_widths n r, λ is. subst (RowOf (WidthAt table) n None) (sym is) (none_wide n))
  widths_read n (Some stream) r = (some_widths n stream r, λ (counts, rest, row, is). subst (RowOf (WidthAt table) n (Some stream)) (sym is) (each_wide n stream (counts, rest) row))

-- ---- codes
abbrev Fits : Span → Type 0
Fits span = span.end < 2 ^ 32

module _ (tables : PrefixTables) where
  -- the two columns of n spans, and what is left of them
  pub record HaveColumns (n : ℕ) (left : Columns) (row : List Span × Columns) : Type 0 where
    pub deltas : List ℕ
    pub widths : List ℕ
    pub are_deltas : RowOf (SymbolAt tables.delta) n left.deltas (deltas, row.1.deltas)
    pub are_widths : RowOf (WidthAt tables.count) n left.counts (widths, row.1.counts)
    pub spans_are : row.0 ≡ spans_from left.base deltas widths
    pub fit : All Fits row.0

  pub columns_of : (n : ℕ) (left : Columns) (row : List Span × Columns) → RowOf (SpanAt tables) n left row → HaveColumns n left row
  columns_of zero left row is = subst (HaveColumns zero left) (sym is) (record { deltas = []; widths = []; are_deltas = refl; are_widths = refl; spans_are = refl; fit = All-nil Fits })
  columns_of (suc n) left row (span, mid, (delta, ds, delta_at, (width, ws, width_at, (fits, one))), (spans, end, more, is)) =
      let start = left.base + delta in
      let here : Span = record { start = start; end = start + width } in
      let next : Columns = record { deltas = ds; counts = ws; base = start + width + 1 } in
      let later = columns_of n next (spans, end) (subst (λ q. RowOf (SpanAt tables) n q.1 (spans, end)) one more) in
      subst (HaveColumns (suc n) left) (sym (is ∙ ap (λ q. pair (q.0 ∷ spans) end) one)) (record {
        deltas = delta ∷ later.deltas;
        widths = width ∷ later.widths;
        are_deltas = (delta, ds, delta_at, (later.deltas, end.deltas, later.are_deltas, refl));
        are_widths = (width, ws, width_at, (later.widths, end.counts, later.are_widths, refl));
        spans_are = ap (λ ss. here ∷ ss) later.spans_are;
        fit = All-cons Fits here spans fits later.fit;
      })

  -- the spans of two columns are in a row
  abbrev pub AreSpans : ℕ → Columns → List ℕ × List ℕ → List ℕ × Option (List ℕ) → Type 0
  AreSpans n left ds ws = All Fits (spans_from left.base ds.0 ws.0) → (base : ℕ) × RowOf (SpanAt tables) n left (spans_from left.base ds.0 ws.0, record { deltas = ds.1; counts = ws.1; base = base })

  pub spans_of : (n : ℕ) (left : Columns) (ds : List ℕ × List ℕ) (ws : List ℕ × Option (List ℕ)) → RowOf (SymbolAt tables.delta) n left.deltas ds → RowOf (WidthAt tables.count) n left.counts ws → AreSpans n left ds ws
  spans_of zero left ds ws is also = subst (λ d. AreSpans zero left d ws) (sym is) (subst (AreSpans zero left ([], left.deltas)) (sym also) (λ fit. (left.base, refl)))
  spans_of (suc n) left ds ws (delta, dmid, delta_at, (deltas, dend, dmore, is)) (width, wmid, width_at, (widths, wend, wmore, also)) =
      let start = left.base + delta in
      let here : Span = record { start = start; end = start + width } in
      let next : Columns = record { deltas = dmid; counts = wmid; base = start + width + 1 } in
      let spans = spans_from next.base deltas widths in
      let all : AreSpans (suc n) left (delta ∷ deltas, dend) (width ∷ widths, wend) = λ fit.
      let (base, row) = spans_of n next (deltas, dend) (widths, wend) dmore wmore (All-tail Fits here spans fit) in
      (base, (here, next, (delta, dmid, delta_at, (width, wmid, width_at, (All-head Fits here spans fit, refl))), (spans, record { deltas = dend; counts = wend; base = base }, row, refl)))
      in subst (λ d. AreSpans (suc n) left d ws) (sym is) (subst (AreSpans (suc n) left (delta ∷ deltas, dend)) (sym also) all)

  -- ---- CIDs
  -- raw CID 0 is the next one
  cid_is : (raw next : ℕ) → cid_from raw next ≡ (if raw == 0 then next else raw)
  cid_is zero next = refl
  cid_is (suc raw) next = rw (eqb-suc-zero raw) refl

  abbrev Small : CidEntry → Type 0
  Small entry = entry.cid < 2 ^ 32

  -- the spans and the raw CIDs of n entries, and what is left of them
  record HaveCids (n : ℕ) (left : CidColumns) (row : List CidEntry × CidColumns) : Type 0 where
    spans : List Span
    raws : List ℕ
    are_spans : RowOf (SpanAt tables) n left.columns (spans, row.1.columns)
    are_raws : RowOf (FieldAt 2) n left.raws (raws, row.1.raws)
    entries_are : row.0 ≡ cid_entries left.next spans raws
    small : All Small row.0

  cids_of : (n : ℕ) (left : CidColumns) (row : List CidEntry × CidColumns) → RowOf (CidEntryAt tables) n left row → HaveCids n left row
  cids_of zero left row is = subst (HaveCids zero left) (sym is) (record { spans = []; raws = []; are_spans = refl; are_raws = refl; entries_are = refl; small = All-nil Small })
  cids_of (suc n) left row (entry, mid, (span, columns, span_at, (raw, rest, raw_at, (fits, one))), (entries, end, more, is)) =
      let cid = cid_from raw left.next in
      let here : CidEntry = record { start = span.start; end = span.end; cid = cid } in
      let next : CidColumns = record { columns = columns; raws = rest; next = cid + (span.end - span.start) + 1 } in
      let later = cids_of n next (entries, end) (subst (λ q. RowOf (CidEntryAt tables) n q.1 (entries, end)) one more) in
      subst (HaveCids (suc n) left) (sym (is ∙ ap (λ q. pair (q.0 ∷ entries) end) one)) (record {
        spans = span ∷ later.spans;
        raws = raw ∷ later.raws;
        are_spans = (span, columns, span_at, (later.spans, end.columns, later.are_spans, refl));
        are_raws = (raw, rest, raw_at, (later.raws, end.raws, later.are_raws, refl));
        entries_are = ap (λ es. here ∷ es) later.entries_are ∙ ap (λ c. record { start = span.start; end = span.end; cid = c } ∷ cid_entries (c + (span.end - span.start) + 1) later.spans later.raws) (cid_is raw left.next);
        small = All-cons Small here entries fits later.small;
      })

  -- the entries of these spans and raw CIDs are in a row
  abbrev AreCids : ℕ → CidColumns → List Span × Columns → List ℕ × List ℕ → Type 0
  AreCids n left ss rs = All Small (cid_entries left.next ss.0 rs.0) → (next : ℕ) × RowOf (CidEntryAt tables) n left (cid_entries left.next ss.0 rs.0, record { columns = ss.1; raws = rs.1; next = next })

  cids_in : (n : ℕ) (left : CidColumns) (ss : List Span × Columns) (rs : List ℕ × List ℕ) → RowOf (SpanAt tables) n left.columns ss → RowOf (FieldAt 2) n left.raws rs → AreCids n left ss rs
  cids_in zero left ss rs is also = subst (λ s. AreCids zero left s rs) (sym is) (subst (AreCids zero left ([], left.columns)) (sym also) (λ small. (left.next, refl)))
  cids_in (suc n) left ss rs (span, columns, span_at, (spans, send, smore, is)) (raw, rest, raw_at, (raws, rend, rmore, also)) =
      let cid = if raw == 0 then left.next else raw in
      let here : CidEntry = record { start = span.start; end = span.end; cid = cid } in
      let next : CidColumns = record { columns = columns; raws = rest; next = cid + (span.end - span.start) + 1 } in
      let entries = cid_entries next.next spans raws in
      let entry : cid < 2 ^ 32 → CidEntryAt tables left (here, next) =
      subst (λ c. c < 2 ^ 32 → CidEntryAt tables left (record { start = span.start; end = span.end; cid = c }, record { columns = columns; raws = rest; next = c + (span.end - span.start) + 1 })) (cid_is raw left.next)
      (λ fits. (span, columns, span_at, (raw, rest, raw_at, (fits, refl))))
      in
      let all : AreCids (suc n) left (span ∷ spans, send) (raw ∷ raws, rend) = λ small.
      let (last, row) = cids_in n next (spans, send) (raws, rend) smore rmore (All-tail Small here entries small) in
      (last, (here, next, entry (All-head Small here entries small), (entries, record { columns = send; raws = rend; next = last }, row, refl)))
      in subst (λ s. AreCids (suc n) left s rs) (sym is) (subst (AreCids (suc n) left (span ∷ spans, send)) (sym also) all)

  -- ---- texts
  abbrev bf_entries : List Span → List (List ℕ) → List BfEntry
  bf_entries spans texts = map (λ p. record { start = p.0.start; end = p.0.end; units = p.1 }) (zip spans texts)

  module _ (fixed : Option ℕ) where
    -- the spans and the destinations of n entries, and what is left of them
    record HaveTexts (n : ℕ) (left : Columns × List ℕ) (row : List BfEntry × (Columns × List ℕ)) : Type 0 where
      spans : List Span
      texts : List (List ℕ)
      are_spans : RowOf (SpanAt tables) n left.0 (spans, row.1.0)
      are_texts : RowOf (DestinationAt fixed) n left.1 (texts, row.1.1)
      entries_are : row.0 ≡ bf_entries spans texts

    texts_of : (n : ℕ) (left : Columns × List ℕ) (row : List BfEntry × (Columns × List ℕ)) → RowOf (BfEntryAt tables fixed) n left row → HaveTexts n left row
    texts_of zero left row is = subst (HaveTexts zero left) (sym is) (record { spans = []; texts = []; are_spans = refl; are_texts = refl; entries_are = refl })
    texts_of (suc n) left row (entry, mid, (span, columns, span_at, (units, rest, units_at, one)), (entries, end, more, is)) =
        let here : BfEntry = record { start = span.start; end = span.end; units = units } in
        let later = texts_of n (columns, rest) (entries, end) (subst (λ q. RowOf (BfEntryAt tables fixed) n q.1 (entries, end)) one more) in
        subst (HaveTexts (suc n) left) (sym (is ∙ ap (λ q. pair (q.0 ∷ entries) end) one)) (record {
          spans = span ∷ later.spans;
          texts = units ∷ later.texts;
          are_spans = (span, columns, span_at, (later.spans, end.0, later.are_spans, refl));
          are_texts = (units, rest, units_at, (later.texts, end.1, later.are_texts, refl));
          entries_are = ap (λ es. here ∷ es) later.entries_are;
        })

    texts_in : (n : ℕ) (left : Columns × List ℕ) (ss : List Span × Columns) (ts : List (List ℕ) × List ℕ) → RowOf (SpanAt tables) n left.0 ss → RowOf (DestinationAt fixed) n left.1 ts → RowOf (BfEntryAt tables fixed) n left (bf_entries ss.0 ts.0, (ss.1, ts.1))
    texts_in zero left ss ts is also = ap (λ q. pair (bf_entries q.0 ts.0) (pair q.1 ts.1)) is ∙ ap (λ q. pair (bf_entries [] q.0) (pair left.0 q.1)) also
    texts_in (suc n) left ss ts (span, columns, span_at, (spans, send, smore, is)) (units, rest, units_at, (texts, tend, tmore, also)) = (
      record { start = span.start; end = span.end; units = units },
      (columns, rest),
      (span, columns, span_at, (units, rest, units_at, refl)),
      (
        bf_entries spans texts,
        (send, tend),
        texts_in n (columns, rest) (spans, send) (texts, tend) smore tmore,
        ap (λ q. pair (bf_entries q.0 ts.0) (pair q.1 ts.1)) is ∙ ap (λ q. pair (bf_entries (span ∷ spans) q.0) (pair send q.1)) also,
      ),
    )

  -- ---- columns
  symbols_of : (table : List CodeWord) (n : ℕ) (text : List ℕ) (r : List ℕ × List ℕ) → SymbolsAt table n text r → (column end : List ℕ) × SizedAt text (column, r.1) × RowOf (SymbolAt table) n (bits column) (r.0, end)
  symbols_of table n text r (column, rest, sized, (symbols, end, row, is)) = subst (λ q. (column end : List ℕ) × SizedAt text (column, q.1) × RowOf (SymbolAt table) n (bits column) (q.0, end)) (sym is) (column, end, sized, row)

  abbrev columns_with : List ℕ → Option (List ℕ) → Columns
  columns_with column counts = record { deltas = bits column; counts = counts; base = 0 }

  -- columns are read, and n spans in a row by them
  abbrev ReadsSpans : Shape → ℕ → List ℕ → List Span × List ℕ → Type 0
  ReadsSpans shape n text r = (columns end : Columns) × ColumnsAt shape text (columns, r.1) × RowOf (SpanAt tables) n columns (r.0, end)

  spans_in : (shape : Shape) (n : ℕ) (text : List ℕ) (r : List Span × List ℕ) → SpansAt tables shape n text r → All Fits r.0 → ReadsSpans shape n text r
  spans_in ranges n text r (deltas, mid, deltas_at, (counts, rest, counts_at, is)) fit =
      let (first, dend, sized, drow) = symbols_of tables.delta n text (deltas, mid) deltas_at in
      let (second, cend, also, crow) = symbols_of tables.count n mid (counts, rest) counts_at in
      let columns : Columns = record { deltas = bits first; counts = Some (bits second); base = 0 } in
      let wrow = (widths_read tables.count n (Some (bits second)) (widened counts, Some cend)).1 (counts, cend, crow, refl) in
      let (base, row) = spans_of n columns (deltas, dend) (widened counts, Some cend) drow wrow (subst (λ q. All Fits q.0) is fit) in
      subst (ReadsSpans ranges n text) (sym is) (columns, record { deltas = dend; counts = Some cend; base = base }, (first, mid, sized, (Some (bits second), rest, (second, rest, also, refl), refl)), row)
  spans_in singles n text r (deltas, rest, deltas_at, is) fit =
      let (first, dend, sized, drow) = symbols_of tables.delta n text (deltas, rest) deltas_at in
      let columns : Columns = record { deltas = bits first; counts = None; base = 0 } in
      let wrow = (widths_read tables.count n None (replicate n 0, None)).1 refl in
      let (base, row) = spans_of n columns (deltas, dend) (replicate n 0, None) drow wrow (subst (λ q. All Fits q.0) is fit) in
      subst (ReadsSpans singles n text) (sym is) (columns, record { deltas = dend; counts = None; base = base }, (first, rest, sized, (None, rest, refl, refl)), row)

  spans_out : (shape : Shape) (n : ℕ) (text : List ℕ) (r : List Span × List ℕ) → ReadsSpans shape n text r → SpansAt tables shape n text r × All Fits r.0
  spans_out ranges n text r (columns, end, (first, mid, sized, (counts, left, (second, rest, also, both), is)), row) =
      let start = is ∙ ap (λ q. pair (columns_with first q.0) q.1) both in
      let have = columns_of n (columns_with first (Some (bits second))) (r.0, end) (subst (λ q. RowOf (SpanAt tables) n q.0 (r.0, end)) start row) in
      let (counted, cend, crow, wide) = (widths_read tables.count n (Some (bits second)) (have.widths, end.counts)).0 have.are_widths in (
        (
          have.deltas,
          mid,
          (first, mid, sized, (have.deltas, end.deltas, have.are_deltas, refl)),
          (counted, rest, (second, rest, also, (counted, cend, crow, refl)), pair_is r (spans_from 0 have.deltas (widened counted), rest) (have.spans_are ∙ ap (λ q. spans_from 0 have.deltas q.0) wide) (ap (λ q. q.1) start)),
        ),
        have.fit,
      )
  spans_out singles n text r (columns, end, (first, mid, sized, (counts, left, both, is)), row) =
      let start = is ∙ ap (λ q. pair (columns_with first q.0) q.1) both in
      let have = columns_of n (columns_with first None) (r.0, end) (subst (λ q. RowOf (SpanAt tables) n q.0 (r.0, end)) start row) in
      let wide = (widths_read tables.count n None (have.widths, end.counts)).0 have.are_widths in (
        (
          have.deltas,
          mid,
          (first, mid, sized, (have.deltas, end.deltas, have.are_deltas, refl)),
          pair_is r (spans_from 0 have.deltas (replicate n 0), mid) (have.spans_are ∙ ap (λ q. spans_from 0 have.deltas q.0) wide) (ap (λ q. q.1) start),
        ),
        have.fit,
      )

  -- ---- entries
  pub cids_same : (shape : Shape) (n : ℕ) (text : List ℕ) (entries : List CidEntry) → CidEntriesOf tables shape n text entries ↔ CidsByEntry tables shape n text entries
  cids_same shape zero text entries = (λ is. is, λ is. is)
  cids_same shape (suc m) text entries = (
    λ (spans, mid, spans_at, (raws, rest, raws_at, (is, fit, small))).
        let (columns, end, columns_at, row) = spans_in shape (suc m) text (spans, mid) spans_at fit in
        let (last, all) = cids_in (suc m) (record { columns = columns; raws = mid; next = 0 }) (spans, end) (raws, rest) row raws_at (subst (All Small) is small) in
        (columns, mid, columns_at, (cid_entries 0 spans raws, record { columns = end; raws = rest; next = last }, all, is)),
    λ (columns, raws, columns_at, (read, end, row, is)).
        let have = cids_of (suc m) (record { columns = columns; raws = raws; next = 0 }) (read, end) row in
        let (spans_at, fit) = spans_out shape (suc m) text (have.spans, raws) (columns, end.columns, columns_at, have.are_spans) in
        (have.spans, raws, spans_at, (have.raws, end.raws, have.are_raws, (is ∙ have.entries_are, fit, subst (All Small) (sym is) have.small))),
  )

  pub bfs_same : (shape : Shape) (fixed : Option ℕ) (n : ℕ) (text : List ℕ) (entries : List BfEntry) → BfEntriesOf tables shape fixed n text entries ↔ BfsByEntry tables shape fixed n text entries
  bfs_same shape fixed n text entries = (
    λ (spans, mid, spans_at, (texts, rest, texts_at, (is, fit))).
        let (columns, end, columns_at, row) = spans_in shape n text (spans, mid) spans_at fit in
        (columns, mid, columns_at, (bf_entries spans texts, (end, rest), texts_in fixed n (columns, mid) (spans, end) (texts, rest) row texts_at, is)),
    λ (columns, rest, columns_at, (read, end, row, is)).
        let have = texts_of fixed n (columns, rest) (read, end) row in
        let (spans_at, fit) = spans_out shape n text (have.spans, rest) (columns, end.0, columns_at, have.are_spans) in
        (have.spans, rest, spans_at, (have.texts, end.1, have.are_texts, (is ∙ have.entries_are, fit))),
  )
