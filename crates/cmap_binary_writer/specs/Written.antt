-- Written bytes, and the values that a reader finds in them.
use Rattle.std.specs.Prelude.{◌≡◌, ℕ, zero, suc, length, ◌+◌, ◌<◌, ◌*◌, ◌/◌, ◌%◌, ◌^◌, List, [], ◌∷◌, ◌++◌, All}
use Rattle.cmap_binary.specs.Fronts.{FramedAt}

-- the last count bytes of a number, with the high byte first
abbrev pub bytes_of : ℕ → ℕ → List ℕ
bytes_of zero n = []
bytes_of (suc count) n = n / 2 ^ (8 * count) % 2 ^ 8 ∷ bytes_of count n

-- the new bytes are the old ones and bytes for which P holds
abbrev pub Appends : List ℕ → List ℕ → (List ℕ → Type 0) → Type 0
Appends old new P = (bytes : List ℕ) × (new ≡ old ++ bytes) × P bytes

-- whatever follows these bytes, a reader finds this value in them and leaves the rest
abbrev pub Writes : {A : Type 0} → (List ℕ → A × List ℕ → Type 0) → A → List ℕ → Type 0
Writes item x bytes = (rest : List ℕ) → item (bytes ++ rest) (x, rest)

-- a piece: a prefix, the length of the whole piece, and a payload
pub record IsFramed (front payload bytes : List ℕ) : Type 0 where
  pub bytes_are : bytes ≡ (front ++ bytes_of 4 (length front + 4 + length payload)) ++ payload
  pub small : length front + 4 + length payload < 2 ^ 32

-- a piece after its length in four bytes
pub record IsSized (piece bytes : List ℕ) : Type 0 where
  pub bytes_are : bytes ≡ bytes_of 4 (length piece) ++ piece
  pub small : length piece < 2 ^ 32
  pub are_bytes : All (λ b. b < 2 ^ 8) piece

-- the bytes have these values in order, each as `Writes` has it
abbrev pub WritesAll : {A : Type 0} → (List ℕ → A × List ℕ → Type 0) → List A → List ℕ → Type 0
WritesAll item [] bytes = bytes ≡ []
WritesAll item (x ∷ xs) bytes = (first : List ℕ) × (later : List ℕ) × (bytes ≡ first ++ later) × Writes item x first × WritesAll item xs later

-- a file that states its own length, whatever follows it
abbrev pub IsFramedFile : List ℕ → Type 0
IsFramedFile file = Writes (FramedAt 6) file file
