-- Codespace ranges that are asked for: the rows of a query, and whether a range is in all of them.
use Rattle.std.proofs.Common.{◌≡◌, ◌≢◌, ℕ, zero, suc, ◌+◌, ◌-◌, ◌*◌, ◌/◌, ◌%◌, ◌^◌, ◌<◌, ◌≤◌, ◌⊎◌, Bool, List, [], ◌∷◌, length, map, max, min, take, drop, get_or, get_or-take, Option, Some, None, refl, sym, ap, ◌∙◌, subst, inl, inr, lt-ltb, le-ltb, div-one, slice_get, bit_and, All, Any, arith}
use Rattle.std.specs.Prelude.{◌↔◌, IsSomeAnd, slice_index, unwrap_or, if◌then◌else◌}
use Rattle.std.specs.Int.{bit_at, bytes_high_first}
use Rattle.std.specs.Int as int
use Rattle.std.specs.Global.{Vec}
use Rattle.std.proofs.lemmas.Bool.{cases_lt, ne_eqb}
use Rattle.std.proofs.lemmas.Nat.Bits.{bit_at-zero}
use Rattle.std.proofs.lemmas.List.{length-take-le}
use Rattle.std.proofs.lemmas.Nat.{and_le_l, shr-shr}
use Rattle.std.proofs.lemmas.Option.{slice_get_cases}
use Rattle.cmap_values.specs.CodeLengths.{IsCodeLength, length_of}
use Rattle.cmap_values.specs.DeclarationsSeen.{codespace_seen}
use Rattle.cmap_values.specs.Files.{Codespace}
use Rattle.cmap_values.specs.declared.code_length.CodeLength.{CodeLength}
use Rattle.cmap_values.specs.declared.code_length.CodeLength.TheVariants.{One, Two, Three, Four}
use Rattle.cmap_values.specs.declared.declarations.Codespace as declared
use Rattle.cmap_codespaces.specs.CodesWithin.{Begins, HasFront, IsInsideRanges, IsLeast, IsWithin, byte_at, lesser, some_count}
use Rattle.cmap_codespaces.specs.SpaceBits.{AreBlocks, AreGroups, AreRows, AreSet, EachRow, HasGroup, HasRange, HaveBits, HaveRows, InRow, InRows, IsFound, IsFoundAmong, IsFoundAt, IsInside, IsInsideWithin, IsSet, front_row, query_of, row_count, row_of_length, row_of_value}
use Rattle.cmap_codespaces.specs.declared.query.Query.{Query}
use Rattle.cmap_codespaces.proofs.RowBits.{both_set, item_within, length_in_row, some_bit, value_in_row}

-- ---- the rows of the first bytes
front_row-byte : (front : List ℕ) (otherwise k : ℕ) → k < length front → front_row front otherwise k ≡ row_of_value k (slice_index front k)
front_row-byte front otherwise k within = ap (λ b. if b then row_of_value k (slice_index front k) else otherwise) (lt-ltb k (length front) within)

front_row-past : (front : List ℕ) (otherwise k : ℕ) → length front ≤ k → front_row front otherwise k ≡ otherwise
front_row-past front otherwise k past = ap (λ b. if b then row_of_value k (slice_index front k) else otherwise) (le-ltb k (length front) past)

abbrev pub AreBytes : List ℕ → Type 0
AreBytes front = (k : ℕ) → slice_index front k < 256

pub front_row-fits : (front : List ℕ) (len k : ℕ) → AreBytes front → len ≤ 4 → k < 4 → front_row front (row_of_length len) k < row_count
front_row-fits front len k bytes few place =
    elim (cases_lt k (length front)) [
      | inl within ↦ omega (arith, front_row-byte front (row_of_length len) k within, bytes k)
      | inr past ↦ omega (arith, front_row-past front (row_of_length len) k past)
    ]

row_of_each : (Holds : ℕ → Type 0) (len : ℕ) (front : List ℕ) → length front ≤ 4 → EachRow Holds (query_of len front) → (k : ℕ) → k < length front → Holds (row_of_value k (slice_index front k))
row_of_each Holds len front few all zero within = subst Holds (front_row-byte front (row_of_length len) 0 within) all.1
row_of_each Holds len front few all (suc zero) within = subst Holds (front_row-byte front (row_of_length len) 1 within) all.2
row_of_each Holds len front few all (suc (suc zero)) within = subst Holds (front_row-byte front (row_of_length len) 2 within) all.3
row_of_each Holds len front few all (suc (suc (suc zero))) within = subst Holds (front_row-byte front (row_of_length len) 3 within) all.4
row_of_each Holds len front few all (suc (suc (suc (suc k)))) within = absurd (omega arith)

each_of_row : (Holds : ℕ → Type 0) (len : ℕ) (front : List ℕ) → Holds (row_of_length len) → ((j : ℕ) → j < length front → Holds (row_of_value j (slice_index front j))) → (k : ℕ) → Holds (front_row front (row_of_length len) k)
each_of_row Holds len front has each k =
    elim (cases_lt k (length front)) [
      | inl within ↦ subst Holds (sym (front_row-byte front (row_of_length len) k within)) (each k within)
      | inr past ↦ subst Holds (sym (front_row-past front (row_of_length len) k past)) has
    ]

-- what holds of each row of a query holds of that of the length, and of those of the bytes
pub each_row : (Holds : ℕ → Type 0) (len : ℕ) (front : List ℕ) → length front ≤ 4 → EachRow Holds (query_of len front) ↔ (Holds (row_of_length len) × ((k : ℕ) → k < length front → Holds (row_of_value k (slice_index front k))))
each_row Holds len front few =
    let row = each_of_row Holds len front in
    (λ all. (all.0, row_of_each Holds len front few all), λ has. (has.0, row has.0 has.1 0, row has.0 has.1 1, row has.0 has.1 2, row has.0 has.1 3))

pub query-rows : (len : ℕ) (front : List ℕ) → AreBytes front → len ≤ 4 → AreRows (query_of len front)
query-rows len front bytes few = record {
  length = omega arith;
  first = front_row-fits front len 0 bytes few (omega arith);
  second = front_row-fits front len 1 bytes few (omega arith);
  third = front_row-fits front len 2 bytes few (omega arith);
  fourth = front_row-fits front len 3 bytes few (omega arith);
}

-- a range is in all rows just where it has the length and the bytes
pub front_rows : (len : ℕ) (front : List ℕ) (space : Codespace) → AreBytes front → 1 ≤ len → length front ≤ 4 → InRows (query_of len front) space ↔ HasFront len front space
front_rows len front space bytes some few =
    let rows = each_row (λ row. InRow row space) len front few in
    let of_length = length_in_row space len some in
    let value = λ (k : ℕ) (within : k < length front). value_in_row space k (slice_index front k) (omega arith) (bytes k) in
    (λ all. let (one, each) = rows.0 all in (of_length.0 one, λ k within. (value k within).0 (each k within)), λ has. rows.1 (of_length.1 has.0, λ k within. (value k within).1 (has.1 k within)))

-- ---- the bytes of a code
same_byte : (n k : ℕ) → int.byte_at k n ≡ byte_at n k
same_byte n zero = ap (λ m. m % 256) (sym (div-one n))
same_byte n (suc k) = refl

pub code_bytes : (len : CodeLength) (code k : ℕ) → k < length_of len → slice_index (drop (4 - length_of len) (bytes_high_first 4 code)) k ≡ byte_at code (length_of len - suc k)
code_bytes One code zero within = same_byte code 0
code_bytes One code (suc k) within = absurd (omega arith)
code_bytes Two code zero within = same_byte code 1
code_bytes Two code (suc zero) within = same_byte code 0
code_bytes Two code (suc (suc k)) within = absurd (omega arith)
code_bytes Three code zero within = same_byte code 2
code_bytes Three code (suc zero) within = same_byte code 1
code_bytes Three code (suc (suc zero)) within = same_byte code 0
code_bytes Three code (suc (suc (suc k))) within = absurd (omega arith)
code_bytes Four code zero within = same_byte code 3
code_bytes Four code (suc zero) within = same_byte code 2
code_bytes Four code (suc (suc zero)) within = same_byte code 1
code_bytes Four code (suc (suc (suc zero))) within = same_byte code 0
code_bytes Four code (suc (suc (suc (suc k)))) within = absurd (omega arith)

pub bytes_of_code : (len : CodeLength) (code : ℕ) → length (drop (4 - length_of len) (bytes_high_first 4 code)) ≡ length_of len
bytes_of_code One code = refl
bytes_of_code Two code = refl
bytes_of_code Three code = refl
bytes_of_code Four code = refl

-- a range contains a code where it has all its bytes
pub code_within : (len : CodeLength) (code : ℕ) (space : Codespace) → HasFront (length_of len) (drop (4 - length_of len) (bytes_high_first 4 code)) space ↔ IsWithin space code (length_of len)
code_within len code space =
    let bytes = drop (4 - length_of len) (bytes_high_first 4 code) in
    let size = bytes_of_code len code in (
      λ has. (
        has.0,
        λ k within.
            let place = length_of len - suc k in
            let there = code_bytes len code place (omega arith) in
            let (below, least, most) = has.1 place (omega arith) in
            let at : space.len - suc place ≡ k = omega (arith, has.0) in
            let its : length_of len - suc place ≡ k = omega arith in
            let is : slice_index bytes place ≡ byte_at code k = there ∙ ap (byte_at code) its in
            (omega (arith, ap (byte_at space.low) at, is), omega (arith, ap (byte_at space.high) at, is)),
      ),
      λ within. (
        within.0,
        λ place lt.
            let few : place < length_of len = omega arith in
            let there = code_bytes len code place few in
            let at : space.len - suc place ≡ length_of len - suc place = ap (λ n. n - suc place) within.0 in
            let (least, most) = within.1 (length_of len - suc place) (omega arith) in
            (omega (arith, within.0), omega (arith, ap (byte_at space.low) at, there), omega (arith, ap (byte_at space.high) at, there)),
      ),
    )

pub code_found : (len given : CodeLength) (code : ℕ) (query : Query) (front : List ℕ) (space : Codespace) → given ≡ len → front ≡ drop (4 - length_of len) (bytes_high_first 4 code) → InRows query space ↔ HasFront (length_of len) front space
    → InRows query space ↔ IsWithin space code (length_of given)
code_found len given code query front space is front_is asked =
    let held = subst (λ bytes. InRows query space ↔ HasFront (length_of len) bytes space) front_is asked in
    let within = code_within len code space in
    subst (λ n. InRows query space ↔ IsWithin space code (length_of n)) (sym is) (λ in_rows. within.0 (held.0 in_rows), λ holds. held.1 (within.1 holds))

-- ---- a block
all_in : (o : Option declared.Codespace) (query : Query) → IsSomeAnd o (λ space. InRow query.length (codespace_seen space)) → IsSomeAnd o (λ space. InRow query.first (codespace_seen space)) → IsSomeAnd o (λ space. InRow query.second (codespace_seen space))
    → IsSomeAnd o (λ space. InRow query.third (codespace_seen space)) → IsSomeAnd o (λ space. InRow query.fourth (codespace_seen space)) → IsSomeAnd o (λ space. InRows query (codespace_seen space))
all_in None query one two three four five = one
all_in (Some space) query one two three four five = (one, two, three, four, five)

each_in : (o : Option declared.Codespace) (query : Query) → IsSomeAnd o (λ space. InRows query (codespace_seen space)) → IsSomeAnd o (λ space. InRow query.length (codespace_seen space)) × IsSomeAnd o (λ space. InRow query.first (codespace_seen space))
    × IsSomeAnd o (λ space. InRow query.second (codespace_seen space)) × IsSomeAnd o (λ space. InRow query.third (codespace_seen space)) × IsSomeAnd o (λ space. InRow query.fourth (codespace_seen space))
each_in None query all = absurd all
each_in (Some space) query all = all

-- of 64 ranges those whose bits are set in each row are in all rows
pub found_in : (spaces : List declared.Codespace) (first : ℕ) (rows : List ℕ) (query : Query) (i : ℕ) → HaveBits spaces first 64 rows → AreRows query
    → AreSet rows query i ↔ ((i < 64) × IsSomeAnd (slice_get spaces (first + i)) (λ space. InRows query (codespace_seen space)))
found_in spaces first rows query i have fits =
    let of_length = have.bits query.length i fits.length in
    let of_first = have.bits query.first i fits.first in
    let of_second = have.bits query.second i fits.second in
    let of_third = have.bits query.third i fits.third in
    let of_fourth = have.bits query.fourth i fits.fourth in (
      λ set. let (within, one) = of_length.0 set.0 in (within, all_in (slice_get spaces (first + i)) query one (of_first.0 set.1).1 (of_second.0 set.2).1 (of_third.0 set.3).1 (of_fourth.0 set.4).1),
      λ found. let (one, two, three, four, five) = each_in (slice_get spaces (first + i)) query found.1 in
          (of_length.1 (found.0, one), of_first.1 (found.0, two), of_second.1 (found.0, three), of_third.1 (found.0, four), of_fourth.1 (found.0, five)),
    )

-- ---- all blocks
pub any_at : {A B : Type 0} (f : A → B) (P : B → Type 0) (xs : List A) (k : ℕ) → IsSomeAnd (slice_get xs k) (λ x. P (f x)) → Any P (map f xs)
any_at f P [] k holds = absurd holds
any_at f P (x ∷ xs) zero holds = (zero, f x, omega arith, refl, holds)
any_at f P (x ∷ xs) (suc k) holds = let (j, y, within, is, found) = any_at f P xs k holds in (suc j, y, omega arith, is, found)

pub at_any : {A B : Type 0} (f : A → B) (P : B → Type 0) (xs : List A) → Any P (map f xs) → (k : ℕ) × (k < length xs) × IsSomeAnd (slice_get xs k) (λ x. P (f x))
at_any f P [] (k, y, within, is, holds) = absurd (omega arith)
at_any f P (x ∷ xs) (zero, y, within, is, holds) = (zero, omega arith, subst P (sym is) holds)
at_any f P (x ∷ xs) (suc k, y, within, is, holds) = let (j, below, found) = at_any f P xs (k, y, omega arith, is, holds) in (suc j, omega arith, found)

-- ---- what is found among blocks, and among groups of them
set_somewhere : (n i : ℕ) → bit_at n i ≡ 1 → n ≢ 0
set_somewhere n i set none = omega (arith, ap (λ m. bit_at m i) none, bit_at-zero i, set)

pub found_within : (blocks : List (Vec ℕ)) (query : Query) (index : ℕ) → IsFoundAt blocks query index → index < length blocks
found_within blocks query index found = item_within (λ block. IsFound block.items query) blocks index found

pub found_here : (blocks : List (Vec ℕ)) (query : Query) (index : ℕ) (block : Vec ℕ) → slice_get blocks index ≡ Some block → IsFoundAt blocks query index → IsFound block.items query
found_here blocks query index block at found = subst (λ o. IsSomeAnd o (λ rows. IsFound rows.items query)) at found

-- a bit after a shift
pub shifted : (n by i : ℕ) → bit_at (n / 2 ^ by) i ≡ bit_at n (by + i)
shifted n by i = ap (λ m. m % 2) (shr-shr n by i)

pub set_below : (n i : ℕ) → n < 2 ^ 64 → bit_at n i ≡ 1 → i < 64
set_below n i fits set =
    elim (cases_lt i 64) [
      | inl below ↦ below
      | inr past ↦
          let none : n / 2 ^ 64 ≡ 0 = omega arith in
          let at : 64 + (i - 64) ≡ i = omega arith in
          let clear : bit_at n i ≡ 0 = ap (bit_at n) (sym at) ∙ sym (shifted n 64 (i - 64)) ∙ ap (λ m. bit_at m (i - 64)) none ∙ bit_at-zero (i - 64) in
          absurd (omega arith)
    ]

-- a block with a range in all rows has its bit in all rows of its group
pub group_found : (blocks : List (Vec ℕ)) (first b : ℕ) (rows : List ℕ) (query : Query) → HasGroup blocks first 64 rows → AreRows query → b < 64 → IsFoundAt blocks query (first + b) → AreSet rows query b
group_found blocks first b rows query has fits below found =
    elim (slice_get_cases blocks (first + b)).1 [
      | inl (block, within, at, is) ↦
          let (i, (one, two, three, four, five)) = subst (λ o. IsSomeAnd o (λ rows. IsFound rows.items query)) at found in
          let mark = λ (row : ℕ) (fit : row < row_count) (set : bit_at (get_or block.items row 0) i ≡ 1). (has.bits row b fit).1 (below, subst (λ o. IsSomeAnd o (HasRange row)) (sym at) (set_somewhere (get_or block.items row 0) i set)) in
          (mark query.length fits.length one, mark query.first fits.first two, mark query.second fits.second three, mark query.third fits.third four, mark query.fourth fits.fourth five)
      | inr past ↦ absurd (subst (λ o. IsSomeAnd o (λ rows. IsFound rows.items query)) past.1 found)
    ]

-- the group of a block in which a range is found has a bit in all rows
pub group_has : (blocks groups : List (Vec ℕ)) (index : ℕ) (query : Query) → AreGroups blocks groups → AreRows query → IsFoundAt blocks query index → IsFoundAt groups query (index / 64)
group_has blocks groups index query are fits found =
    let within = found_within blocks query index found in
    let g = index / 64 in
    let inside : g < length groups = omega (arith, are.all) in
    elim (slice_get_cases groups g).1 [
      | inl (rows, lt, at, is) ↦
          let bit = index % 64 in
          let has = subst (λ (list : Vec ℕ). HasGroup blocks (64 * g) 64 list.items) is (are.each g rows lt) in
          let place : index ≡ 64 * g + bit = omega arith in
          let here = subst (IsFoundAt blocks query) place found in
          subst (λ o. IsSomeAnd o (λ rows. IsFound rows.items query)) (sym at) (bit, group_found blocks (64 * g) bit rows.items query has fits (omega arith) here)
      | inr past ↦ let beyond = past.0 in absurd (omega arith)
    ]

pub have_rows : (spaces : List declared.Codespace) (blocks : List (Vec ℕ)) → AreBlocks spaces blocks → HaveRows blocks
have_rows spaces blocks are = λ b d within. (are.each b d within).size

-- a range is found among blocks just where one is in all rows
pub blocks_find : (spaces : List declared.Codespace) (blocks : List (Vec ℕ)) (query : Query) → AreBlocks spaces blocks → AreRows query → IsFoundAmong blocks query ↔ Any (InRows query) (map codespace_seen spaces)
blocks_find spaces blocks query are fits = (
  λ some.
      let (b, found) = some in
      elim (slice_get_cases blocks b).1 [
        | inl (block, within, at, is) ↦
            let (i, set) = subst (λ o. IsSomeAnd o (λ rows. IsFound rows.items query)) at found in
            let have = subst (λ (list : Vec ℕ). HaveBits spaces (64 * b) 64 list.items) is (are.each b block within) in
            any_at codespace_seen (InRows query) spaces (64 * b + i) ((found_in spaces (64 * b) block.items query i have fits).0 set).1
        | inr past ↦ absurd (subst (λ o. IsSomeAnd o (λ rows. IsFound rows.items query)) past.1 found)
      ],
  λ some.
      let (index, within, found) = at_any codespace_seen (InRows query) spaces some in
      let b = index / 64 in
      let i = index % 64 in
      let at : index ≡ 64 * b + i = omega arith in
      let inside : b < length blocks = omega (arith, are.all) in
      elim (slice_get_cases blocks b).1 [
        | inl (block, lt, get, is) ↦
            let have = subst (λ (list : Vec ℕ). HaveBits spaces (64 * b) 64 list.items) is (are.each b block lt) in
            let there = subst (λ k. IsSomeAnd (slice_get spaces k) (λ space. InRows query (codespace_seen space))) at found in
            let set = (found_in spaces (64 * b) block.items query i have fits).1 (omega arith, there) in
            (b, subst (λ o. IsSomeAnd o (λ rows. IsFound rows.items query)) (sym get) (i, set))
        | inr past ↦ let beyond = past.0 in absurd (omega arith)
      ],
)

only_found : (block : Vec ℕ) (query : Query) → IsFoundAmong (block ∷ []) query → IsFound block.items query
only_found block query (zero, found) = found
only_found block query (suc k, found) = absurd found

-- the ranges of one block alone
pub block_finds : (spaces : List declared.Codespace) (block : Vec ℕ) (query : Query) → AreBlocks spaces (block ∷ []) → AreRows query → IsFound block.items query ↔ Any (InRows query) (map codespace_seen spaces)
block_finds spaces block query are fits =
    let found = blocks_find spaces (block ∷ []) query are fits in
    (λ here. found.0 (0, here), λ some. only_found block query (found.1 some))

-- ---- the shortest code that a text begins with
first_byte : (byte : ℕ) (text : List ℕ) → byte < 256 → AreBytes text → AreBytes (byte ∷ text)
first_byte byte text fits bytes zero = fits
first_byte byte text fits bytes (suc k) = bytes k

pub taken_bytes : (text : List ℕ) (n : ℕ) → AreBytes text → AreBytes (take n text)
taken_bytes [] zero bytes = bytes
taken_bytes [] (suc n) bytes = bytes
taken_bytes (byte ∷ text) zero bytes = λ k. omega arith
taken_bytes (byte ∷ text) (suc n) bytes = first_byte byte (take n text) (bytes 0) (taken_bytes text n (λ k. bytes (suc k)))

-- a bit is set in all rows of a front just where it is in that of its length and in those of its bytes
pub set_front : (rows text : List ℕ) (n i : ℕ) → n ≤ 4 → n ≤ length text → AreSet rows (query_of n (take n text)) i ↔ (IsSet rows i (row_of_length n) × ((k : ℕ) → k < n → IsSet rows i (row_of_value k (slice_index text k))))
set_front rows text n i few within =
    let front = take n text in
    let size = length-take-le n text within in
    let each = each_row (IsSet rows i) n front (omega arith) in
    let same = λ (k : ℕ) (lt : k < n). ap (λ value. row_of_value k value) (get_or-take n text k 0 lt) in (
      λ all. let (one, set) = each.0 all in (one, λ k lt. subst (IsSet rows i) (same k lt) (set k (omega arith))),
      λ has. each.1 (has.0, λ k lt. let below : k < n = omega arith in subst (IsSet rows i) (sym (same k below)) (has.1 k below)),
    )

-- the bits that are set in the rows of all bytes so far, and of one more
pub set_more : (rows text : List ℕ) (found row p : ℕ) → row ≡ row_of_value p (slice_index text p) → ((i : ℕ) → bit_at found i ≡ 1 → (k : ℕ) → k < p → IsSet rows i (row_of_value k (slice_index text k)))
    → (i : ℕ) → bit_at (bit_and found (get_or rows row 0)) i ≡ 1 → (k : ℕ) → k < p + 1 → IsSet rows i (row_of_value k (slice_index text k))
set_more rows text found row p is before i set k below =
    let (old, new) = (both_set found (get_or rows row 0) i).0 set in
    elim (cases_lt k p) [
      | inl less ↦ before i old k less
      | inr last ↦ let same : p ≡ k = omega arith in subst (λ j. IsSet rows i (row_of_value j (slice_index text j))) same (subst (IsSet rows i) is new)
    ]

pub all_more : (rows text : List ℕ) (found row p : ℕ) → row ≡ row_of_value p (slice_index text p) → ((i : ℕ) → i < 64 → ((k : ℕ) → k < p → IsSet rows i (row_of_value k (slice_index text k))) → bit_at found i ≡ 1)
    → (i : ℕ) → i < 64 → ((k : ℕ) → k < p + 1 → IsSet rows i (row_of_value k (slice_index text k))) → bit_at (bit_and found (get_or rows row 0)) i ≡ 1
all_more rows text found row p is before i small each = (both_set found (get_or rows row 0) i).1 (before i small (λ k below. each k (omega arith)), subst (IsSet rows i) (sym is) (each p (omega arith)))

-- no bit is set that a row doesn't have
pub none_inside : (rows text : List ℕ) (found p : ℕ) → ((row : ℕ) → get_or rows row 0 < 2 ^ 64) → ((i : ℕ) → i < 64 → ((k : ℕ) → k < p → IsSet rows i (row_of_value k (slice_index text k))) → bit_at found i ≡ 1) → bit_and found (get_or rows (row_of_length p) 0) ≡ 0
    → IsInside text rows p → ⊥
none_inside rows text found p fits all none (begins, (i, set)) =
    let (some, few, within) = begins in
    let (length, each) = (set_front rows text p i few within).0 set in
    let small = set_below (get_or rows (row_of_length p) 0) i (fits (row_of_length p)) length in
    let bit = (both_set found (get_or rows (row_of_length p) 0) i).1 (all i small each, length) in
    omega (arith, ap (λ n. bit_at n i) none, bit_at-zero i, bit)

pub some_inside : (rows text : List ℕ) (found p : ℕ) → found < 2 ^ 64 → 1 ≤ p → p ≤ 4 → p ≤ length text → ((i : ℕ) → bit_at found i ≡ 1 → (k : ℕ) → k < p → IsSet rows i (row_of_value k (slice_index text k))) → bit_and found (get_or rows (row_of_length p) 0) ≢ 0 → IsInside text rows p
some_inside rows text found p fits some few within set is =
    let least = and_le_l found (get_or rows (row_of_length p) 0) in
    let (i, bit) = some_bit (bit_and found (get_or rows (row_of_length p) 0)) (omega arith) is in
    let (all, length) = (both_set found (get_or rows (row_of_length p) 0) i).0 bit in
    ((some, few, within), (i, (set_front rows text p i few within).1 (length, set i all)))

pub least_of_both : (P Q R : ℕ → Type 0) (one other : Option ℕ) → ((n : ℕ) → P n → R n) → ((n : ℕ) → Q n → R n) → ((n : ℕ) → R n → P n ⊎ Q n) → IsLeast P one → IsLeast Q other → IsLeast R (lesser one other)
least_of_both P Q R None None p q r none no_other = λ n holds. elim (r n holds) [ inl is ↦ none n is | inr is ↦ no_other n is ]
least_of_both P Q R None (Some m) p q r none (is, least) = (q m is, λ n below holds. elim (r n holds) [ inl its ↦ none n its | inr its ↦ least n below its ])
least_of_both P Q R (Some n) None p q r (is, least) none = (p n is, λ m below holds. elim (r m holds) [ inl its ↦ least m below its | inr its ↦ none m its ])
least_of_both P Q R (Some n) (Some m) p q r (is, least) (other_is, other_least) =
    elim (cases_lt m n) [
      | inl less ↦
          let lesser_is : min n m ≡ m = omega arith in
          (subst R (sym lesser_is) (q m other_is), λ k below holds. elim (r k holds) [ inl its ↦ least k (omega arith) its | inr its ↦ other_least k (omega arith) its ])
      | inr more ↦
          let lesser_is : min n m ≡ n = omega arith in
          (subst R (sym lesser_is) (p n is), λ k below holds. elim (r k holds) [ inl its ↦ least k (omega arith) its | inr its ↦ other_least k (omega arith) its ])
    ]

pub least_same : (P Q : ℕ → Type 0) (least : Option ℕ) → ((n : ℕ) → P n ↔ Q n) → IsLeast P least → IsLeast Q least
least_same P Q None same none = λ n holds. none n ((same n).1 holds)
least_same P Q (Some n) same (is, least) = ((same n).0 is, λ m below holds. least m below ((same m).1 holds))

-- ---- of blocks one after another, and of groups
more_blocks : (blocks : List (Vec ℕ)) (text : List ℕ) (first count more all n : ℕ) → first + count ≡ more → IsInsideWithin text blocks first count n → more ≤ all → IsInsideWithin text blocks 0 all n
more_blocks blocks text first count more all n is (begins, (k, from, below, there)) fits = (begins, (k, omega arith, omega arith, there))

either_block : (blocks : List (Vec ℕ)) (text : List ℕ) (first count n : ℕ) → IsInsideWithin text blocks 0 (first + count) n → IsInsideWithin text blocks 0 first n ⊎ IsInsideWithin text blocks first count n
either_block blocks text first count n (begins, (k, from, below, there)) =
    elim (cases_lt k first) [ inl before ↦ inl (begins, (k, from, omega arith, there)) | inr after ↦ inr (begins, (k, after, omega arith, there)) ]

pub least_more : (blocks : List (Vec ℕ)) (text : List ℕ) (first count : ℕ) (before here : Option ℕ) → IsLeast (IsInsideWithin text blocks 0 first) before → IsLeast (IsInsideWithin text blocks first count) here → IsLeast (IsInsideWithin text blocks 0 (first + count)) (lesser before here)
least_more blocks text first count before here old new =
    least_of_both (IsInsideWithin text blocks 0 first) (IsInsideWithin text blocks first count) (IsInsideWithin text blocks 0 (first + count)) before here
    (λ n inside. more_blocks blocks text 0 first first (first + count) n (omega arith) inside (omega arith)) (λ n inside. more_blocks blocks text first count (first + count) (first + count) n (omega arith) inside (omega arith))
    (either_block blocks text first count) old new

one_block : (blocks : List (Vec ℕ)) (text : List ℕ) (at : ℕ) (block : Vec ℕ) (n : ℕ) → slice_get blocks at ≡ Some block → IsInside text block.items n ↔ IsInsideWithin text blocks at 1 n
one_block blocks text at block n is = (
  λ inside. (inside.0, (at, omega arith, omega arith, subst (λ o. IsSomeAnd o (λ rows. IsFound rows.items (query_of n (take n text)))) (sym is) inside.1)),
  λ within. let (begins, (k, from, below, there)) = within in
      let same : k ≡ at = omega arith in
      (begins, found_here blocks (query_of n (take n text)) at block is (subst (IsFoundAt blocks (query_of n (take n text))) same there)),
)

pub least_block : (blocks : List (Vec ℕ)) (text : List ℕ) (at : ℕ) (block : Vec ℕ) (before here : Option ℕ) → slice_get blocks at ≡ Some block → IsLeast (IsInsideWithin text blocks 0 at) before → IsLeast (IsInside text block.items) here → IsLeast (IsInsideWithin text blocks 0 (at + 1)) (lesser before here)
least_block blocks text at block before here is old new = least_more blocks text at 1 before here old (least_same (IsInside text block.items) (IsInsideWithin text blocks at 1) here (λ n. one_block blocks text at block n is) new)

asked_ranges : (spaces : List declared.Codespace) (blocks : List (Vec ℕ)) (text : List ℕ) (n : ℕ) → AreBytes text → Begins text n → AreBlocks spaces blocks → IsFoundAmong blocks (query_of n (take n text)) ↔ Any (HasFront n (take n text)) (map codespace_seen spaces)
asked_ranges spaces blocks text n bytes (some, few, within) are =
    let front = take n text in
    let taken = taken_bytes text n bytes in
    let size = length-take-le n text within in
    let found = blocks_find spaces blocks (query_of n front) are (query-rows n front taken few) in
    let rows = λ (space : Codespace). front_rows n front space taken some (omega arith) in (
      λ among. let (k, space, below, is, all) = found.0 among in (k, space, below, is, (rows space).0 all),
      λ ranges. let (k, space, below, is, has) = ranges in found.1 (k, space, below, is, (rows space).1 has),
    )

-- the ranges of all blocks are those of the list
pub least_ranges : (spaces : List declared.Codespace) (blocks : List (Vec ℕ)) (text : List ℕ) (least : Option ℕ) → AreBytes text → AreBlocks spaces blocks → IsLeast (IsInsideWithin text blocks 0 (length blocks)) least → IsLeast (IsInsideRanges text (map codespace_seen spaces)) least
least_ranges spaces blocks text least bytes are is =
    least_same (IsInsideWithin text blocks 0 (length blocks)) (IsInsideRanges text (map codespace_seen spaces)) least
    (λ n. (
      λ inside. let (begins, (k, from, below, there)) = inside in (begins, (asked_ranges spaces blocks text n bytes begins are).0 (k, there)),
      λ inside. let (begins, some) = inside in let (k, there) = (asked_ranges spaces blocks text n bytes begins are).1 some in (begins, (k, omega arith, omega (arith, found_within blocks (query_of n (take n text)) k there), there)),
    )) is

pub only_item : {A : Type 0} (xs : List A) (x : A) → length xs ≡ 1 → x ≡ get_or xs 0 x → xs ≡ x ∷ []
only_item [] x one is = absurd (omega arith)
only_item (y ∷ []) x one is = ap (λ z. z ∷ []) (sym is)
only_item (y ∷ z ∷ zs) x one is = absurd (omega arith)

-- the ranges of one block alone
none_before : (blocks : List (Vec ℕ)) (text : List ℕ) → IsLeast (IsInsideWithin text blocks 0 0) None
none_before blocks text = λ n inside. let (begins, (k, from, below, there)) = inside in omega arith

pub least_only : (spaces : List declared.Codespace) (block : Vec ℕ) (text : List ℕ) (least : Option ℕ) → AreBytes text → AreBlocks spaces (block ∷ []) → IsLeast (IsInside text block.items) least → IsLeast (IsInsideRanges text (map codespace_seen spaces)) least
least_only spaces block text least bytes are is = least_ranges spaces (block ∷ []) text least bytes are (least_block (block ∷ []) text 0 block None least refl (none_before (block ∷ []) text) is)

-- ---- from the fewest bytes on
abbrev pub NoneBelow : List (Vec ℕ) → List ℕ → ℕ → Type 0
NoneBelow blocks text n = (m : ℕ) → 1 ≤ m → m < n → IsFoundAmong blocks (query_of m (take m text)) → ⊥

pub least_from : (blocks : List (Vec ℕ)) (text : List ℕ) (n : ℕ) → Begins text n → NoneBelow blocks text n → IsFoundAmong blocks (query_of n (take n text)) → IsLeast (IsInsideWithin text blocks 0 (length blocks)) (Some n)
least_from blocks text n begins none (k, there) = (
  (begins, (k, omega arith, omega (arith, found_within blocks (query_of n (take n text)) k there), there)),
  λ m below inside. let (fits, (j, from, upto, found)) = inside in none m fits.0 below (j, found),
)

pub none_from : (blocks : List (Vec ℕ)) (text : List ℕ) (n : ℕ) → min (length text) 4 < n → NoneBelow blocks text n → IsLeast (IsInsideWithin text blocks 0 (length blocks)) None
none_from blocks text n past none = λ m inside. let (fits, (j, from, upto, found)) = inside in let (some, few, within) = fits in none m some (omega arith) (j, found)

-- no range has codes of fewer bytes
pub none_shorter : (spaces : List declared.Codespace) (blocks : List (Vec ℕ)) (text : List ℕ) (fewest : ℕ) → AreBytes text → AreBlocks spaces blocks → All (λ space. fewest ≤ length_of space.len) spaces → fewest ≤ 4 → NoneBelow blocks text fewest
none_shorter spaces blocks text fewest bytes are least few n some short found =
    let query = query_of n (take n text) in
    let fits = query-rows n (take n text) (taken_bytes text n bytes) (omega arith) in
    let (k, below, all) = at_any codespace_seen (InRows query) spaces ((blocks_find spaces blocks query are fits).0 found) in
    elim (slice_get_cases spaces k).1 [
      | inl (space, within, at, is) ↦
          let rows = subst (λ o. IsSomeAnd o (λ space. InRows query (codespace_seen space))) at all in
          let len : length_of space.len ≡ n = (length_in_row (codespace_seen space) n some).0 rows.0 in
          omega (arith, least k space within, ap (λ (s : declared.Codespace). length_of s.len) is)
      | inr past ↦ absurd (subst (λ o. IsSomeAnd o (λ space. InRows query (codespace_seen space))) past.1 all)
    ]

-- ---- the fewest bytes of ranges that begin with a front
pub found_with_front : (rows front : List ℕ) (n bits : ℕ) → length front ≤ 4 → bits < 2 ^ 64 → ((i : ℕ) → bit_at bits i ≡ 1 → (k : ℕ) → k < length front → IsSet rows i (row_of_value k (slice_index front k))) → bit_and bits (get_or rows (row_of_length n) 0) ≢ 0 → IsFound rows (query_of n front)
found_with_front rows front n bits few fits set some =
    let least = and_le_l bits (get_or rows (row_of_length n) 0) in
    let (i, bit) = some_bit (bit_and bits (get_or rows (row_of_length n) 0)) (omega arith) some in
    let (all, length) = (both_set bits (get_or rows (row_of_length n) 0) i).0 bit in
    (i, (each_row (IsSet rows i) n front few).1 (length, set i all))

pub none_with_front : (rows front : List ℕ) (n bits : ℕ) → length front ≤ 4 → ((row : ℕ) → get_or rows row 0 < 2 ^ 64) → ((i : ℕ) → i < 64 → ((k : ℕ) → k < length front → IsSet rows i (row_of_value k (slice_index front k))) → bit_at bits i ≡ 1) → bit_and bits (get_or rows (row_of_length n) 0) ≡ 0
    → IsFound rows (query_of n front) → ⊥
none_with_front rows front n bits few fits all none (i, set) =
    let (length, each) = (each_row (IsSet rows i) n front few).0 set in
    let small = set_below (get_or rows (row_of_length n) 0) i (fits (row_of_length n)) length in
    let bit = (both_set bits (get_or rows (row_of_length n) 0) i).1 (all i small each, length) in
    omega (arith, ap (λ m. bit_at m i) none, bit_at-zero i, bit)

any_ranges : (P Q : Codespace → Type 0) (spaces : List Codespace) → ((space : Codespace) → P space → Q space) → Any P spaces → Any Q spaces
any_ranges P Q spaces weaker (k, space, below, is, holds) = (k, space, below, is, weaker space holds)

pub any_same : (P Q : Codespace → Type 0) (spaces : List Codespace) → ((space : Codespace) → P space ↔ Q space) → Any P spaces ↔ Any Q spaces
any_same P Q spaces same = (any_ranges P Q spaces (λ space. (same space).0), any_ranges Q P spaces (λ space. (same space).1))

pub fewest_ranges : (spaces : List declared.Codespace) (block : Vec ℕ) (front : List ℕ) (least : Option ℕ) → AreBytes front → length front ≤ 4 → AreBlocks spaces (block ∷ []) → IsLeast (λ n. IsCodeLength n × IsFound block.items (query_of n front)) least
    → IsLeast (λ n. IsCodeLength n × Any (HasFront n front) (map codespace_seen spaces)) least
fewest_ranges spaces block front least bytes few are is =
    let same = λ (n : ℕ) (fits : IsCodeLength n). block_finds spaces block (query_of n front) are (query-rows n front bytes fits.1) in
    let ranges = λ (n : ℕ) (fits : IsCodeLength n). any_same (InRows (query_of n front)) (HasFront n front) (map codespace_seen spaces) (λ space. front_rows n front space bytes fits.0 few) in
    least_same (λ n. IsCodeLength n × IsFound block.items (query_of n front)) (λ n. IsCodeLength n × Any (HasFront n front) (map codespace_seen spaces)) least
    (λ n. (λ holds. (holds.0, (ranges n holds.0).0 ((same n holds.0).0 holds.1)), λ holds. (holds.0, (same n holds.0).1 ((ranges n holds.0).1 holds.1)))) is

-- no code is shorter than a front of it, or than those of all ranges
pub too_few : (spaces : List declared.Codespace) (front : List ℕ) (fewest n : ℕ) → All (λ space. fewest ≤ length_of space.len) spaces → n < max (length front) fewest → Any (HasFront n front) (map codespace_seen spaces) → ⊥
too_few spaces front fewest n least short some =
    let (k, below, has) = at_any codespace_seen (HasFront n front) spaces some in
    elim (slice_get_cases spaces k).1 [
      | inl (space, within, at, is) ↦
          let front_has = subst (λ o. IsSomeAnd o (λ space. HasFront n front (codespace_seen space))) at has in
          let same = front_has.0 in
          elim (cases_lt n (length front)) [
            | inl part ↦ let its = front_has.1 n part in let fits = its.0 in omega arith
            | inr whole ↦ omega (arith, least k space within, ap (λ (s : declared.Codespace). length_of s.len) is)
          ]
      | inr past ↦ absurd (subst (λ o. IsSomeAnd o (λ space. HasFront n front (codespace_seen space))) past.1 has)
    ]

-- a count that stands for the least number, or for none
pub least_counted : (Holds : ℕ → Type 0) (least : Option ℕ) → ((n : ℕ) → Holds n → 1 ≤ n) → IsLeast Holds least → IsLeast Holds (some_count (unwrap_or least 0))
least_counted Holds None some is = is
least_counted Holds (Some n) some is = subst (IsLeast Holds) (ap (λ (b : Bool). if b then None else Some n) (sym (ne_eqb n 0 (λ zero. omega (arith, zero, some n is.0))))) is
