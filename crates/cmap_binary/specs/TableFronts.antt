-- Prefix tables as bytes.
use Rattle.std.specs.Prelude.{◌==◌, ℕ, List, length, if◌then◌else◌}
use Rattle.cmap_binary.specs.Fronts.{Then, Gives, GivesIf, RowOf, ByteAt, FieldAt}
use Rattle.cmap_binary.specs.PrefixWords.{CodeWord, AreWordLengths, lengths_from, zip_words}

-- the number of lengths that are counted: 0 if the first two bytes are 0, or else the third byte
abbrev pub MostAt : List ℕ → ℕ × List ℕ → Type 0
MostAt text = Then (FieldAt 2 text) (λ filled tail. Then (ByteAt tail) (λ most rest. Gives (if filled == 0 then 0 else most, rest)))

-- a table: the number of code words of each length from 1 on, in two bytes each, and a symbol of `width` bytes for each code word
abbrev pub TableAt : ℕ → List ℕ → List CodeWord × List ℕ → Type 0
TableAt width text =
    Then (Then (MostAt text) (RowOf (FieldAt 2))) (λ counts mid.
    let lens = lengths_from 1 counts in
    Then (RowOf (FieldAt width) (length lens) mid) (λ symbols rest. GivesIf (AreWordLengths lens) (zip_words lens symbols, rest)))
