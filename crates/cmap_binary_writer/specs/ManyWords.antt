-- The tables that have too many code words to be written again.
use Rattle.std.specs.Prelude.{ℕ, ◌≤◌, ◌^◌, ◌==◌, List, count_by}
use Rattle.cmap_binary.specs.PrefixWords.{CodeWord, lengths_of}

-- 2^16 code words or more have one length
abbrev pub HasManyWords : List CodeWord → Type 0
HasManyWords table = (len : ℕ) × (2 ^ 16 ≤ count_by (λ l. l == len) (lengths_of table))
