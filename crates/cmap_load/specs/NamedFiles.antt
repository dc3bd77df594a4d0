-- Files by their names.
use Rattle.std.specs.Prelude.{ℕ, List, [], ◌∷◌, bytes_eq, Option, Some, None, option_map, if◌then◌else◌}
use Rattle.std.specs.Borrow.{Bor}
use Rattle.std.specs.Option.{option_or}
use Rattle.cmap_binary.specs.Bundles.{Bundle}
use Rattle.cmap_load.specs.Answers.{embedded}
use Rattle.cmap_load.specs.Identity.{identity_text}

module _ {N : Type 0} (name_of bytes_of : N → List ℕ) where
  -- the bytes of the first file of this name
  abbrev pub first_named : List N → List ℕ → Option (List ℕ)
  first_named [] name = None
  first_named (file ∷ files) name = if bytes_eq (name_of file) name then Some (bytes_of file) else first_named files name

module _ {N B : Type 0} (name_of bytes_of : N → List ℕ) (bundle_of : B → Bundle) where
  -- the bytes of the first file of this name, else the bytes of the bundle's file
  abbrev pub file_named : List N → Option (Bor B) → List ℕ → Option (List ℕ)
  file_named files bundle name = option_or (first_named name_of bytes_of files name) (embedded (option_map (λ b. bundle_of b.now) bundle) name)

  -- the bytes of the file of this name, else the text of Identity-H or Identity-V, which need no file. ISO 32000-1, 9.7.5.2
  abbrev pub text_named : List N → Option (Bor B) → List ℕ → Option (List ℕ)
  text_named files bundle name = option_or (file_named files bundle name) (identity_text name)
