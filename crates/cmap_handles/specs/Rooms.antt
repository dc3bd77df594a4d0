-- Items that go to a buffer that C hands in.
use Rattle.std.specs.Prelude.{◌≡◌, ℕ, ◌<◌, ◌≤◌, List, ◌++◌, ◌⊎◌, drop, length, map}
use Rattle.std.specs.List.{concat}
use Rattle.cmap_handles.specs.Statuses.{number}
use Rattle.cmap_handles.specs.declared.status.Status.TheVariants.{Done, NoRoom}

-- `needed` is the number of items; the items stand at the head of the buffer where it is long enough for all of them, otherwise
-- the buffer is unchanged
abbrev pub IsPut : {A : Type 0} → List A → List A → List A → ℕ → ℕ → Type 0
IsPut items old new needed status = (needed ≡ length items)
    × (((length items ≤ length old) × (status ≡ number Done) × (new ≡ items ++ drop (length items) old))
    ⊎ ((length old < length items) × (status ≡ number NoRoom) × (new ≡ old)))

-- names go to two buffers, their lengths to one and their bytes to the other: both buffers begin with them, or both are unchanged
abbrev pub AreBothPut : List (List ℕ) → List ℕ → List ℕ → ℕ → List ℕ → List ℕ → ℕ → ℕ → Type 0
AreBothPut names old_lengths new_lengths count old new needed status = (count ≡ length names) × (needed ≡ length (concat names))
    × (((length names ≤ length old_lengths) × (length (concat names) ≤ length old) × (status ≡ number Done)
    × (new_lengths ≡ map length names ++ drop (length names) old_lengths) × (new ≡ concat names ++ drop (length (concat names)) old))
    ⊎ (((length old_lengths < length names) ⊎ (length old < length (concat names))) × (status ≡ number NoRoom)
    × (new_lengths ≡ old_lengths) × (new ≡ old)))
