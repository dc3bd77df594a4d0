-- Codespace ranges by bits. A block has bits for 64 ranges in a row: each row of the block has a bit for each range that is in the row.
use Rattle.std.specs.Prelude.{◌≡◌, ◌≢◌, ◌↔◌, ℕ, ◌+◌, ◌-◌, ◌*◌, ◌/◌, ◌%◌, ◌<◌, ◌≤◌, List, length, take, get_or, slice_get, slice_index, nat_lt, if◌then◌else◌, IsSomeAnd}
use Rattle.std.specs.Global.{Vec}
use Rattle.std.specs.Int.{bit_at}
use Rattle.cmap_values.specs.DeclarationsSeen.{codespace_seen}
use Rattle.cmap_values.specs.CodeLengths.{length_of}
use Rattle.cmap_values.specs.Files.{Codespace}
use Rattle.cmap_values.specs.declared.declarations.Codespace as declared
use Rattle.cmap_codespaces.specs.CodesWithin.{Begins, IsAt}
use Rattle.cmap_codespaces.specs.declared.query.Query.{Query}

-- a block has rows for values, 256 for each of four places, and then a row for each length
abbrev pub value_row_count : ℕ
value_row_count = 1024

abbrev pub row_count : ℕ
row_count = 1028

-- the row of a value at a place of codes, and the row of a length of codes
abbrev pub row_of_value : ℕ → ℕ → ℕ
row_of_value place value = 256 * place + value

abbrev pub row_of_length : ℕ → ℕ
row_of_length len = 1023 + len

-- the range is in the row
abbrev pub InRow : ℕ → Codespace → Type 0
InRow row space = (row < value_row_count → IsAt space (row / 256) (row % 256)) × (value_row_count ≤ row → row ≡ row_of_length space.len)

-- the bits of the first `count` items of a list from `first` on: the bit of an item is set in the rows that the item has, and no other bit is set
pub record HaveBitsOf {A : Type 0} (HasRow : ℕ → A → Type 0) (items : List A) (first count : ℕ) (rows : List ℕ) : Type 0 where
  pub size : length rows ≡ row_count
  pub bits : (row i : ℕ) → row < row_count → (bit_at (get_or rows row 0) i ≡ 1) ↔ ((i < count) × IsSomeAnd (slice_get items (first + i)) (HasRow row))

-- the rows of ranges
abbrev pub IsInRow : ℕ → declared.Codespace → Type 0
IsInRow row space = InRow row (codespace_seen space)

abbrev pub HaveBits : List declared.Codespace → ℕ → ℕ → List ℕ → Type 0
HaveBits = HaveBitsOf IsInRow

-- each block has the bits of 64 ranges; the last block may have fewer
pub record AreBlocks (spaces : List declared.Codespace) (blocks : List (Vec ℕ)) : Type 0 where
  pub each : (b : ℕ) (d : Vec ℕ) → b < length blocks → HaveBits spaces (64 * b) 64 (get_or blocks b d).items
  pub all : length spaces ≤ 64 * length blocks

-- the rows of blocks: a block has the rows in which it has a range
abbrev pub HasRange : ℕ → Vec ℕ → Type 0
HasRange row block = get_or block.items row 0 ≢ 0

abbrev pub HasGroup : List (Vec ℕ) → ℕ → ℕ → List ℕ → Type 0
HasGroup = HaveBitsOf HasRange

-- each group has the bits of 64 blocks; the last group may have fewer
pub record AreGroups (blocks groups : List (Vec ℕ)) : Type 0 where
  pub each : (g : ℕ) (d : Vec ℕ) → g < length groups → HasGroup blocks (64 * g) 64 (get_or groups g d).items
  pub all : length blocks ≤ 64 * length groups
  pub few : 64 * length groups < length blocks + 64

-- the number of rows for the first bytes of codes: one row for no byte, one for each first byte, and one for each pair of bytes
abbrev pub front_row_count : ℕ
front_row_count = 65793

-- the row of the first two bytes, or of all bytes if there are fewer
abbrev pub row_of_front : List ℕ → ℕ
row_of_front front = if nat_lt 0 (length front) then (if nat_lt 1 (length front) then 257 + 256 * slice_index front 0 + slice_index front 1 else 1 + slice_index front 0) else 0

-- a code of the range may have this value at this place, if it has the place
abbrev pub MayBeAt : Codespace → ℕ → ℕ → Type 0
MayBeAt space place value = place < space.len → IsAt space place value

-- a code of the range may begin with the bytes of a row, or, if it has fewer bytes, be equal to the first of them
abbrev pub BeginsInRow : ℕ → Codespace → Type 0
BeginsInRow row space = (1 ≤ row → row < 257 → MayBeAt space 0 (row - 1)) × (257 ≤ row → MayBeAt space 0 ((row - 257) / 256) × MayBeAt space 1 ((row - 257) % 256))

abbrev pub HasLength : ℕ → ℕ → declared.Codespace → Type 0
HasLength row i space = (i ≡ length_of space.len) × BeginsInRow row (codespace_seen space)

-- the rows for the first `count` ranges of a list: each row has a bit for each length of the codes that may begin with the row's bytes
pub record HaveLengths (spaces : List declared.Codespace) (count : ℕ) (rows : List ℕ) : Type 0 where
  pub size : length rows ≡ front_row_count
  pub bits : (row i : ℕ) → row < front_row_count → (bit_at (get_or rows row 0) i ≡ 1) ↔ ((k : ℕ) × (k < count) × IsSomeAnd (slice_get spaces k) (HasLength row i))

-- ranges with their blocks, the groups of blocks, the top groups of groups, and the lengths by first bytes; if there are few blocks, there are no groups and no lengths; if ranges are wide, there are no lengths either
pub record AreFoundBy (spaces : List declared.Codespace) (blocks groups tops : List (Vec ℕ)) (lengths : List ℕ) : Type 0 where
  pub by_blocks : AreBlocks spaces blocks
  pub by_groups : 0 < length groups → AreGroups blocks groups
  pub by_tops : AreGroups groups tops
  pub by_lengths : 0 < length lengths → HaveLengths spaces (length spaces) lengths

-- the row of the byte at a place of a prefix, or `otherwise` if the prefix is shorter
abbrev pub front_row : List ℕ → ℕ → ℕ → ℕ
front_row front otherwise place = if nat_lt place (length front) then row_of_value place (slice_index front place) else otherwise

-- the query for the ranges that have codes of this length which may begin with these bytes
abbrev pub query_of : ℕ → List ℕ → Query
query_of len front = record { length = row_of_length len; first = front_row front (row_of_length len) 0; second = front_row front (row_of_length len) 1; third = front_row front (row_of_length len) 2; fourth = front_row front (row_of_length len) 3 }

-- a block has the rows of the query
pub record AreRows (query : Query) : Type 0 where
  pub length : query.length < row_count
  pub first : query.first < row_count
  pub second : query.second < row_count
  pub third : query.third < row_count
  pub fourth : query.fourth < row_count

-- Holds is true of each row of the query
abbrev pub EachRow : (ℕ → Type 0) → Query → Type 0
EachRow Holds query = Holds query.length × Holds query.first × Holds query.second × Holds query.third × Holds query.fourth

-- the range is in each row of the query
abbrev pub InRows : Query → Codespace → Type 0
InRows query space = EachRow (λ row. InRow row space) query

-- the bit is set in a row, and in each row of a query
abbrev pub IsSet : List ℕ → ℕ → ℕ → Type 0
IsSet rows i row = bit_at (get_or rows row 0) i ≡ 1

abbrev pub AreSet : List ℕ → Query → ℕ → Type 0
AreSet rows query i = EachRow (IsSet rows i) query

-- a range of the block is in all rows of the query
abbrev pub IsFound : List ℕ → Query → Type 0
IsFound rows query = (i : ℕ) × AreSet rows query i

-- a range of the block at this index is in all rows of the query
abbrev pub IsFoundAt : List (Vec ℕ) → Query → ℕ → Type 0
IsFoundAt blocks query index = IsSomeAnd (slice_get blocks index) (λ rows. IsFound rows.items query)

-- a range of some block is in all rows of the query
abbrev pub IsFoundAmong : List (Vec ℕ) → Query → Type 0
IsFoundAmong blocks query = (index : ℕ) × IsFoundAt blocks query index

-- each block has all rows
abbrev pub HaveRows : List (Vec ℕ) → Type 0
HaveRows blocks = (b : ℕ) (d : Vec ℕ) → b < length blocks → length (get_or blocks b d).items ≡ row_count

-- a range of one of `count` blocks from `first` on is in all rows of the query
abbrev pub IsFoundWithin : List (Vec ℕ) → Query → ℕ → ℕ → Type 0
IsFoundWithin blocks query first count = (k : ℕ) × (first ≤ k) × (k < first + count) × IsFoundAt blocks query k

-- the text begins with a code of n bytes that a range contains: a range of one block, or of one of `count` blocks from `first` on
abbrev pub IsInside : List ℕ → List ℕ → ℕ → Type 0
IsInside text rows n = Begins text n × IsFound rows (query_of n (take n text))

abbrev pub IsInsideWithin : List ℕ → List (Vec ℕ) → ℕ → ℕ → ℕ → Type 0
IsInsideWithin text blocks first count n = Begins text n × IsFoundWithin blocks (query_of n (take n text)) first count

-- the text begins with no code of at most `count` bytes that a range of the block contains; `bits` has a bit for each range that may begin with the first `count` bytes of the text
pub record MayBegin (rows text : List ℕ) (count bits : ℕ) : Type 0 where
  pub set : (i : ℕ) → bit_at bits i ≡ 1 → (k : ℕ) → k < count → IsSet rows i (row_of_value k (slice_index text k))
  pub all : (i : ℕ) → i < 64 → ((k : ℕ) → k < count → IsSet rows i (row_of_value k (slice_index text k))) → bit_at bits i ≡ 1
  pub none : (n : ℕ) → n ≤ count → IsInside text rows n → ⊥
