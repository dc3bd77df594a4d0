-- The bytes of columns.
use Rattle.std.specs.Prelude.{ℕ, List, [], ◌∷◌}
use Rattle.cmap_runs.specs.Ranges.{Span}
use Rattle.cmap_binary.specs.BinaryEntries.{Shape}
use Rattle.cmap_binary.specs.EntryByEntry.{Columns, ColumnsAt, SpanAt}
use Rattle.cmap_binary.specs.Bundles.{PrefixTables}
use Rattle.cmap_binary.specs.PrefixWords.{BeginWithWordsOf, CodeWord, bits}
use Rattle.cmap_binary_writer.specs.Spelled.{IsSpelledIn}
use Rattle.cmap_binary_writer.specs.Written.{IsSized, Writes}

-- a sized piece whose bits are the code words of these symbols, and zeros up to the end of the last byte
abbrev pub WritesColumn : List CodeWord → List ℕ → List ℕ → Type 0
WritesColumn table symbols bytes = (text : List ℕ) × IsSized text bytes × BeginWithWordsOf table symbols (bits text) × IsSpelledIn table symbols text

-- these spans come next in the columns
abbrev pub HaveSpans : PrefixTables → List Span → Columns → Type 0
HaveSpans tables [] columns = Unit {0}
HaveSpans tables (s ∷ spans) columns = (rest : Columns) × SpanAt tables columns (s, rest) × HaveSpans tables spans rest

-- columns that have these spans
abbrev pub WritesColumns : PrefixTables → Shape → List Span → List ℕ → Type 0
WritesColumns tables shape spans bytes = (columns : Columns) × Writes (ColumnsAt shape) columns bytes × HaveSpans tables spans columns
