-- Where a prefix table ends that a text begins with.
use Rattle.std.proofs.Common.{◌≡◌, ℕ, zero, suc, ◌+◌, ◌-◌, ◌*◌, ◌≤◌, List, length, get_or, drop, refl, ap, ◌∙◌, sym, arith}
use Rattle.std.specs.Prelude.{slice_index}
use Rattle.std.proofs.lemmas.List.{drop-drop, get_or-drop, length-drop, length-map}
use Rattle.std.proofs.Math.Nat.{mul-suc}
use Rattle.cmap_values.specs.Only.{IsOnly}
use Rattle.cmap_binary.specs.Fronts.{FieldAt, RowOf}
use Rattle.cmap_binary.specs.PrefixWords.{CodeWord, lengths_from}
use Rattle.cmap_binary.specs.Reader.{Reading, IsAtByte, after_bytes, bytes_left}
use Rattle.cmap_binary.specs.TableFronts.{MostAt, TableAt}
use Rattle.cmap_binary.specs.TableTaken.{TakesTable, counted, table_end}
use Rattle.cmap_binary.specs.WordsByLength.{IsTable, words_of}
use Rattle.cmap_binary.proofs.BytesTaken.{bytes_left-moved}
use Rattle.cmap_binary.proofs.Fronts.{field_is}
use Rattle.cmap_binary.proofs.TablesDecoded.{IsPrefixFree-table, IsSound-table, lens_are}

-- what follows so many bytes, which are there
pub record IsAfter (text : List ℕ) (count : ℕ) (rest : List ℕ) : Type 0 where
  pub enough : count ≤ length text
  pub rest_is : rest ≡ drop count text

IsAfter-more : (text mid rest : List ℕ) (a b : ℕ) → IsAfter text a mid → IsAfter mid b rest → IsAfter text (a + b) rest
IsAfter-more text mid rest a b first second = record {
  enough = omega (arith, first.enough, second.enough, ap length first.rest_is, length-drop a text);
  rest_is = second.rest_is ∙ ap (drop b) first.rest_is ∙ drop-drop b a text;
}

pub fields_after : (width count : ℕ) (text : List ℕ) (r : List ℕ × List ℕ) → RowOf (FieldAt width) count text r → IsAfter text (width * count) r.1 × (length r.0 ≡ count)
fields_after width zero text r is = let none : width * 0 ≡ 0 = omega arith in rw (is, none) (record { enough = omega arith; rest_is = refl }, refl)
fields_after width (suc count) text r (x, mid, field, (xs, end, row, is)) =
    let (enough, number, next) = field_is width text (x, mid) field in
    let (more, size) = fields_after width count mid (xs, end) row in
    let up : width + width * count ≡ width * suc count = omega (arith, mul-suc width count) in
    rw is (rw up at (IsAfter-more text mid end width (width * count) (record { enough = enough; rest_is = next }) more), ap suc size)

most_after : (text : List ℕ) (r : ℕ × List ℕ) → MostAt text r → IsAfter text 3 r.1 × (r.0 ≡ counted text)
most_after text r (filled, tail, field, (most, rest, byte, is)) =
    let (enough, filled_is, next) = field_is 2 text (filled, tail) field in
    let third : most ≡ slice_index text 2 = ap (λ bs. get_or bs 0 0) (sym (sym next ∙ byte)) ∙ get_or-drop 2 text 0 0 in
    let second : IsAfter tail 1 rest = record { enough = omega (arith, ap length byte); rest_is = ap (drop 1) (sym byte) } in
    rw (is, third, filled_is) (IsAfter-more text tail rest 2 1 (record { enough = enough; rest_is = next }) second, refl)

-- what the bytes of a table say, and where it ends
pub record Ends (width : ℕ) (text rest : List ℕ) (table : List CodeWord) : Type 0 where
  pub counts : List ℕ
  pub symbols : List ℕ
  pub is_table : IsTable counts symbols
  pub table_is : table ≡ words_of counts symbols
  pub after : IsAfter text (table_end width text table) rest

pub TableAt-ends : (width : ℕ) (text rest : List ℕ) (table : List CodeWord) → TableAt width text (table, rest) → Ends width text rest table
TableAt-ends width text rest table (counts, mid, (most, tail, third, row), (symbols, end, fields, (sound, is))) =
    let lens = lengths_from 1 counts in
    let (first, most_is) = most_after text (most, tail) third in
    let (last, each) = fields_after width (length lens) mid (symbols, end) fields in
    let holds : IsTable counts symbols = record { a_symbol_each = each; sound = sound } in
    let all = IsAfter-more text mid end (3 + 2 * most) (width * length lens) (IsAfter-more text tail mid 3 (2 * most) first (fields_after 2 most tail (counts, mid) row).0) last in
    let size : length lens ≡ length (words_of counts symbols) = omega (arith, ap length (lens_are holds), length-map (words_of counts symbols) (λ (w : CodeWord). w.len)) in
    record { counts = counts; symbols = symbols; is_table = holds; table_is = ap (λ r. r.0) is; after = rw (ap (λ r. r.0) is, ap (λ r. r.1) is) (rw (most_is, size) at all) }

pub rest_within : (width : ℕ) (text rest : List ℕ) (table : List CodeWord) → TableAt width text (table, rest) → length rest ≤ length text
rest_within width text rest table at = omega (arith, ap length (TableAt-ends width text rest table at).after.rest_is, length-drop (table_end width text table) text)

-- so a reader moves past it
pub TakesTable-passed : (width : ℕ) (old new : Reading) (rest : List ℕ) (table : List CodeWord) → IsAtByte old → IsOnly (TableAt width (bytes_left old)) (table, rest) → new ≡ after_bytes old (length (bytes_left old) - length rest) → TakesTable width old table new
TakesTable-passed width old new rest table h only moves =
    let text = bytes_left old in
    let ends = TableAt-ends width text rest table only.holds in
    let size : length text - length rest ≡ table_end width text table = omega (arith, ends.after.enough, ap length ends.after.rest_is, length-drop (table_end width text table) text) in
    let moved = moves ∙ ap (after_bytes old) size in
    let left : rest ≡ bytes_left new = ends.after.rest_is ∙ sym (ap bytes_left moved ∙ bytes_left-moved old (table_end width text table) h) in
    record { front = rw left at only; sound = rw ends.table_is (IsSound-table ends.is_table); prefix_free = rw ends.table_is (IsPrefixFree-table ends.is_table); moves = moved }
