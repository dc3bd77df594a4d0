-- Private aid: codes outside of codespace ranges, by their first bytes.
use Rattle.std.specs.Prelude.{◌≡◌, ℕ, ◌<◌, ◌≤◌, List, Any}
use Rattle.cmap_codespaces.specs.CodesWithin.{IsWithin, byte_at}
use Rattle.cmap_values.specs.Files.{Codespace}
use Rattle.cmap_layers.specs.Layers.{Layer}

-- a codespace range of some layer contains the number as a code of len bytes
abbrev pub IsInside : List Layer → ℕ → ℕ → Type 0
IsInside layers len number = Any (λ layer. Any (λ space. IsWithin space number len) layer.lists.spaces) layers

-- the bytes of the number before its last bytes, after of them, lie between the bytes of the range
abbrev pub BeginsSo : ℕ → ℕ → ℕ → Codespace → Type 0
BeginsSo len number after space = (space.len ≡ len) × ((k : ℕ) → after ≤ k → k < len → (byte_at space.low k ≤ byte_at number k) × (byte_at number k ≤ byte_at space.high k))

abbrev pub MayBegin : List Layer → ℕ → ℕ → ℕ → Type 0
MayBegin layers len number after = Any (λ layer. Any (BeginsSo len number after) layer.lists.spaces) layers
