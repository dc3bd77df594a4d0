-- What contracts see of a reader that takes a prefix table.
use Rattle.std.specs.Prelude.{◌≡◌, ◌+◌, ◌*◌, ◌==◌, ℕ, List, length, take, Option, Result, slice_index, IfOk, MatchOption, OnErr, if◌then◌else◌}
use Rattle.cmap_values.specs.BigEndian.{big_endian}
use Rattle.cmap_values.specs.Only.{IsOnly, HoldsOfNone}
use Rattle.cmap_binary.specs.Reader.{Reading, after_bytes, bytes_left}
use Rattle.cmap_binary.specs.PrefixWords.{CodeWord, IsSound, IsPrefixFree}
use Rattle.cmap_binary.specs.TableFronts.{TableAt}

-- the number of lengths that are counted by a table at the start of a text
abbrev pub counted : List ℕ → ℕ
counted text = if big_endian (take 2 text) == 0 then 0 else slice_index text 2

-- the offset at which the table ends: after three bytes, the counts and the symbols
abbrev pub table_end : ℕ → List ℕ → List CodeWord → ℕ
table_end width text table = 3 + 2 * counted text + width * length table

-- the bytes that were left begin with this table and with no other, and the reader has moved past it
pub record TakesTable (width : ℕ) (old : Reading) (table : List CodeWord) (new : Reading) : Type 0 where
  pub front : IsOnly (TableAt width (bytes_left old)) (table, bytes_left new)
  pub sound : IsSound table
  pub prefix_free : IsPrefixFree table
  pub moves : new ≡ after_bytes old (table_end width (bytes_left old) table)

-- the table that comes next is taken; the reader doesn't move if there is no table, or if memory runs out
pub record ParsesTable {E : Type 0} (width : ℕ) (old new : Reading) (result : Result (Option (List CodeWord)) E) : Type 0 where
  pub ok : IfOk result (λ found. MatchOption found (HoldsOfNone (TableAt width (bytes_left old)) × (new ≡ old)) (λ table. TakesTable width old table new))
  pub err : OnErr result (new ≡ old)
