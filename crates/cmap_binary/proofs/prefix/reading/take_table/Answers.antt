use Rattle.std.proofs.Common.{ℕ, List, length}
use Rattle.std.proofs.lemmas.Result.{IfOk-from_err}
use Rattle.cmap_values.specs.Only.{IsOnly}
use Rattle.cmap_binary.specs.Fronts.{FieldAt, RowOf}
use Rattle.cmap_binary.specs.PrefixWords.{AreWordLengths, lengths_from}
use Rattle.cmap_binary.specs.WordsByLength.{IsTable}
use Rattle.cmap_binary.proofs.Fronts.{gives_if, then_none, then_next, then_only}
use Rattle.cmap_binary.proofs.TablesTaken.{fields_after}
use Rattle.cmap_binary.proofs.prefix.reading.take_table.Goals as goal

IsTable-taken : (width : ℕ) (counts mid symbols rest : List ℕ) → AreWordLengths (lengths_from 1 counts) → IsOnly (RowOf (FieldAt width) (length (lengths_from 1 counts)) mid) (symbols, rest) → IsTable counts symbols
IsTable-taken width counts mid symbols rest sound row = record { a_symbol_each = (fields_after width _ mid (symbols, rest) row.holds).1; sound = sound }

pub returns-in_default : goal.returns-in_default
returns-in_default c = then_none _ _ (rw c.in_default.is at c.in_ok-counts.ensures)

pub returns-in_default-count_words : goal.returns-in_default-count_words
returns-in_default-count_words c =
    then_next _ (rw c.in-Some.is at c.in_ok-counts.ensures) (λ other (symbols, rest, row, is). (rw c.deref.ensures.value at c.in_default-count_words.ensures) is.0)

pub returns-in_default-2 : goal.returns-in_default-2
returns-in_default-2 c =
    let made = rw c.deref.ensures.value at c.in-Some-count_words.ensures in
    then_next _ (rw c.in-Some.is at c.in_ok-counts.ensures) (then_none _ _ (rw (c.in_default-2.is, made.0) at c.in_ok-symbols.ensures))

pub search_bytes-requires : goal.search_bytes-requires
search_bytes-requires c =
    let made = rw c.deref.ensures.value at c.in-Some-count_words.ensures in
    rw (c.deref-2.ensures.value, c.deref-3.ensures.value) (IsTable-taken _ _ _ _ _ made.1 (rw (c.in-Some-2.is, made.0) at c.in_ok-symbols.ensures))

pub invariant_of-result : goal.invariant_of-result
invariant_of-result c =
    let made = rw c.deref.ensures.value at c.in-Some-count_words.ensures in
    record {
      table = IsTable-taken _ _ _ _ _ made.1 (rw (c.in-Some-2.is, made.0) at c.in_ok-symbols.ensures);
      knows = rw (c.deref-2.ensures.value, c.deref-3.ensures.value) at c.in_ok-known.ensures;
    }

pub returns : goal.returns
returns c =
    let made = rw c.deref.ensures.value at c.in-Some-count_words.ensures in
    then_only _ (rw c.in-Some.is at c.in_ok-counts.ensures) (then_only _ (rw (c.in-Some-2.is, made.0) at c.in_ok-symbols.ensures) (gives_if made.1))

pub returns-in_err-counts : goal.returns-in_err-counts
returns-in_err-counts c = IfOk-from_err _ _ c.from_residual.ensures.0

pub returns-in_err-symbols : goal.returns-in_err-symbols
returns-in_err-symbols c = IfOk-from_err _ _ c.from_residual-in_err-symbols.ensures.0

pub returns-in_err-known : goal.returns-in_err-known
returns-in_err-known c = IfOk-from_err _ _ c.from_residual-in_err-known.ensures.0
