-- Values at the start of bytes: a value, and the bytes after it.
use Rattle.std.specs.Prelude.{◌≡◌, ℕ, zero, suc, ◌+◌, ◌<◌, ◌≤◌, List, [], ◌∷◌, length, take, drop, slice_index}
use Rattle.std.specs.List.{IsSplitAt}
pub use Rattle.cmap_values.specs.CodeLengths.{IsCodeLength}
use Rattle.cmap_values.specs.BigEndian.{big_endian}

-- first one item, then a second item from the part that the first item leaves
abbrev pub Then : {A S B : Type 0} → (A × S → Type 0) → (A → S → B → Type 0) → B → Type 0
Then first second value = (x : _) × (rest : _) × first (x, rest) × second x rest value

-- a value under a condition
abbrev pub GivesIf : {A : Type 0} → Type 0 → A → A → Type 0
GivesIf condition x value = condition × (value ≡ x)

abbrev pub Gives : {A : Type 0} → A → A → Type 0
Gives x value = value ≡ x

-- n items in a row, each from the part that the item before leaves
abbrev pub RowOf : {A S : Type 0} → (S → A × S → Type 0) → ℕ → S → List A × S → Type 0
RowOf item zero start row = Gives ([], start) row
RowOf item (suc n) start row = Then (item start) (λ x rest. Then (RowOf item n rest) (λ xs end. Gives (x ∷ xs, end))) row

-- items in a row up to the end of the bytes
abbrev pub AllOf : {A : Type 0} → (List ℕ → A × List ℕ → Type 0) → List ℕ → List A → Type 0
AllOf item bytes [] = bytes ≡ []
AllOf item bytes (x ∷ xs) = (rest : List ℕ) × item bytes (x, rest) × AllOf item rest xs

abbrev pub ByteAt : List ℕ → ℕ × List ℕ → Type 0
ByteAt bytes r = bytes ≡ r.0 ∷ r.1

-- `len` bytes
abbrev pub BytesAt : ℕ → List ℕ → List ℕ × List ℕ → Type 0
BytesAt len bytes r = IsSplitAt bytes len r.0 r.1

-- a number of `width` bytes
abbrev pub FieldAt : ℕ → List ℕ → ℕ × List ℕ → Type 0
FieldAt width bytes = Then (BytesAt width bytes) (λ field rest. Gives (big_endian field, rest))

-- the number of a code of this width
abbrev pub CodeAt : ℕ → List ℕ → ℕ × List ℕ → Type 0
CodeAt width bytes r = IsCodeLength width × FieldAt width bytes r

-- a length in four bytes, and that many bytes
abbrev pub SizedAt : List ℕ → List ℕ × List ℕ → Type 0
SizedAt bytes = Then (FieldAt 4 bytes) BytesAt

-- a piece that declares its whole length in four bytes, after its first `before` bytes
abbrev pub FramedAt : ℕ → List ℕ → List ℕ × List ℕ → Type 0
FramedAt before bytes r = Then (FieldAt 4 (drop before bytes)) (λ size rest piece. (before + 4 ≤ size) × BytesAt size bytes piece) r

-- the bytes up to the first zero byte, which is at `end`, and the bytes after it
abbrev pub TerminatedAt : List ℕ → List ℕ × List ℕ → Type 0
TerminatedAt bytes r = (end : ℕ) × (end < length bytes) × (slice_index bytes end ≡ 0) × ((k : ℕ) → k < end → slice_index bytes k ≡ 0 → ⊥) × (r ≡ (take end bytes, drop (end + 1) bytes))
