-- Whether a codespace range contains a code, byte by byte and not as a number, and whether its codes may begin with given bytes. ISO 32000-1, 9.7.6.2.
use Rattle.std.specs.Prelude.{◌≡◌, MatchOption, Option, Some, None, Any, min, ℕ, suc, ◌-◌, ◌/◌, ◌%◌, ◌^◌, ◌<◌, ◌≤◌, List, length, take, slice_index, nat_eq, if◌then◌else◌}
use Rattle.cmap_values.specs.Files.{Codespace}

-- the byte of a number at k bytes before its last byte
abbrev pub byte_at : ℕ → ℕ → ℕ
byte_at n k = n / 256 ^ k % 256

-- the range contains the code of len bytes: each byte of the code lies between the bytes of low and high at the same place
abbrev pub IsWithin : Codespace → ℕ → ℕ → Type 0
IsWithin space code len = (space.len ≡ len) × ((k : ℕ) → k < len → (byte_at space.low k ≤ byte_at code k) × (byte_at code k ≤ byte_at space.high k))

-- a code of the range may have this value at this place, counted from its first byte
abbrev pub IsAt : Codespace → ℕ → ℕ → Type 0
IsAt space place value = (place < space.len) × (byte_at space.low (space.len - suc place) ≤ value) × (value ≤ byte_at space.high (space.len - suc place))

-- the range has codes of this length, and they may begin with these bytes
abbrev pub HasFront : ℕ → List ℕ → Codespace → Type 0
HasFront len front space = (space.len ≡ len) × ((k : ℕ) → k < length front → IsAt space k (slice_index front k))

-- a code may consist of the first n bytes of the text
abbrev pub Begins : List ℕ → ℕ → Type 0
Begins text n = (1 ≤ n) × (n ≤ 4) × (n ≤ length text)

-- the text begins with a code of n bytes that one of these ranges contains
abbrev pub IsInsideRanges : List ℕ → List Codespace → ℕ → Type 0
IsInsideRanges text spaces n = Begins text n × Any (HasFront n (take n text)) spaces

-- the least number for which Holds is true; None if there is no such number
abbrev pub IsLeast : (ℕ → Type 0) → Option ℕ → Type 0
IsLeast Holds least = MatchOption least ((n : ℕ) → Holds n → ⊥) (λ n. Holds n × ((m : ℕ) → m < n → Holds m → ⊥))

-- a count, or None for 0
abbrev pub some_count : ℕ → Option ℕ
some_count count = if nat_eq count 0 then None else Some count

-- the lesser of two numbers, or the other number if one is None
abbrev pub lesser : Option ℕ → Option ℕ → Option ℕ
lesser None other = other
lesser (Some one) None = Some one
lesser (Some one) (Some other) = Some (min one other)
