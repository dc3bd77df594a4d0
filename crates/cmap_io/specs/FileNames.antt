-- Names of files in a folder.
use Rattle.std.specs.Prelude.{◌≡◌, ℕ, List, [], ◌∷◌, All}

-- a file in a folder may have this name: the name doesn't begin with a dot, so the file isn't hidden, and has no slash
-- and no zero byte, so the name leads to no other folder
abbrev pub IsFileName : List ℕ → Type 0
IsFileName [] = ⊥
IsFileName (first ∷ rest) = ¬ (first ≡ 0x2E) × All (λ byte. ¬ (byte ≡ 0x2F)) (first ∷ rest) × All (λ byte. ¬ (byte ≡ 0)) (first ∷ rest)
