-- Spans of codes that are written in columns.
use Rattle.std.proofs.Common.{◌≡◌, ℕ, ◌+◌, ◌-◌, List, [], ◌∷◌, ◌++◌, Some, None, Option, refl, ap, ◌∙◌, sym, subst, arith}
use Rattle.std.proofs.lemmas.List.{append_assoc}
use Rattle.cmap_runs.specs.Ranges.{Span}
use Rattle.cmap_binary.specs.PrefixWords.{BeginWithWordsOf, CodeWord, bits}
use Rattle.cmap_binary.specs.Bundles.{PrefixTables}
use Rattle.cmap_binary.specs.BinaryEntries.{ranges, singles}
use Rattle.cmap_binary.specs.EntryByEntry.{Columns, ColumnsAt, WidthAt}
use Rattle.cmap_binary_writer.specs.ColumnsWritten.{HaveSpans, WritesColumn, WritesColumns}
use Rattle.cmap_binary_writer.specs.Held.{AreInOrder, AreShaped, counts_of, deltas_of}
use Rattle.cmap_binary_writer.specs.Written.{Appends}
use Rattle.cmap_binary_writer.proofs.FrontsWritten.{sized_read}

-- how far each span ends after its start, as the counts have it
HaveWidths : List CodeWord → List Span → Option (List ℕ) → Type 0
HaveWidths table [] counts = Unit {0}
HaveWidths table (s ∷ spans) counts = (rest : Option (List ℕ)) × WidthAt table counts (s.end - s.start, rest) × HaveWidths table spans rest

widths_counted : (table : List CodeWord) (spans : List Span) (counts : List ℕ) → AreShaped ranges spans → BeginWithWordsOf table (counts_of spans) counts → HaveWidths table spans (Some counts)
unfolding HaveWidths
widths_counted table [] counts shaped spelled = tt
widths_counted table (s ∷ spans) counts (some, shaped) (len, rest, word, spelled) =
    let width : s.end - s.start ≡ s.end - s.start - 1 + 1 = omega arith in
    (Some rest, (s.end - s.start - 1, rest, (len, word), ap (λ n. (n, Some rest)) width), widths_counted table spans rest shaped spelled)

widths_none : (table : List CodeWord) (spans : List Span) → AreShaped singles spans → HaveWidths table spans None
unfolding HaveWidths
widths_none table [] shaped = tt
widths_none table (s ∷ spans) (one, shaped) =
    let width : s.end - s.start ≡ 0 = omega (arith, one) in
    (None, ap (λ n. (n, None)) width, widths_none table spans shaped)

abbrev columns : List ℕ → Option (List ℕ) → ℕ → Columns
columns deltas counts base = record { deltas = deltas; counts = counts; base = base }

abbrev span : ℕ → ℕ → Span
span start end = record { start = start; end = end }

have_spans : (tables : PrefixTables) (spans : List Span) (base : ℕ) (deltas : List ℕ) (counts : Option (List ℕ)) → AreInOrder base spans → BeginWithWordsOf tables.delta (deltas_of base spans) deltas → HaveWidths tables.count spans counts → HaveSpans tables spans (columns deltas counts base)
unfolding HaveWidths
have_spans tables [] base deltas counts order spelled widths = tt
have_spans tables (s ∷ spans) base deltas counts (low, some, high, order) (len, rest, word, spelled) (left, width, widths) =
    let delta = s.start - base in
    let far = s.end - s.start in
    let start : base + delta ≡ s.start = omega arith in
    let end : base + delta + far ≡ s.end = omega arith in (
      columns rest left (s.end + 1),
      (
        delta,
        rest,
        (len, word),
        (far, left, width, (omega (arith, end), sym (ap (λ n. (span n (base + delta + far), columns rest left (base + delta + far + 1))) start ∙ ap (λ n. (span s.start n, columns rest left (n + 1))) end))),
      ),
      have_spans tables spans (s.end + 1) rest left order spelled widths,
    )

module _ (tables : PrefixTables) (spans : List Span) (order : AreInOrder 0 spans) where
  pub range_columns : (old mid new : List ℕ) → AreShaped ranges spans → Appends old mid (WritesColumn tables.delta (deltas_of 0 spans)) → Appends mid new (WritesColumn tables.count (counts_of spans)) → Appends old new (WritesColumns tables ranges spans)
  range_columns old mid new shaped (first, first_is, (deltas, sized, spelled, tight)) (second, second_is, (counts, sized_too, spelled_too, tight_too)) = (
    first ++ second,
    second_is ∙ ap (λ bs. bs ++ second) first_is ∙ append_assoc old first second,
    (
      columns (bits deltas) (Some (bits counts)) 0,
      λ rest. subst (λ bs. ColumnsAt ranges bs (columns (bits deltas) (Some (bits counts)) 0, rest)) (sym (append_assoc first second rest)) (deltas, second ++ rest, sized_read deltas first sized (second ++ rest), (Some (bits counts), rest, (counts, rest, sized_read counts second sized_too rest, refl), refl)),
      have_spans tables spans 0 (bits deltas) (Some (bits counts)) order spelled (widths_counted tables.count spans (bits counts) shaped spelled_too),
    ),
  )

  pub single_columns : (old new : List ℕ) → AreShaped singles spans → Appends old new (WritesColumn tables.delta (deltas_of 0 spans)) → Appends old new (WritesColumns tables singles spans)
  single_columns old new shaped (first, first_is, (deltas, sized, spelled, tight)) = (
    first,
    first_is,
    (
      columns (bits deltas) None 0,
      λ rest. (deltas, rest, sized_read deltas first sized rest, (None, rest, refl, refl)),
      have_spans tables spans 0 (bits deltas) None order spelled (widths_none tables.count spans shaped),
    ),
  )
