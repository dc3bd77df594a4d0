-- The answers of a caller's function and of a bundle to a name.
use Rattle.std.specs.Prelude.{◌≡◌, ℕ, List, Option, Some, None, bytes_eq, option_and_then, slice_get, if◌then◌else◌}
use Rattle.std.specs.Borrow.{Bor}
use Rattle.std.specs.Option.{option_copied}
use Rattle.std.specs.Fn.{Shared}
use Rattle.cmap_values.specs.declared.names.CMapName.{CMapName}
use Rattle.cmap_binary.specs.Bundles.{Bundle, no_file_bytes}
use Rattle.cmap_values.specs.CMapNames.{IsNameOf, IsSameName}
use Rattle.cmap_values.specs.Names.{index_of_text}

module _ {F : Type 0} (calls : Shared F (CMapName × Unit {0}) (Option (Bor (List ℕ)))) (get_cmap : F) where
  -- the function may answer the name of this text with these bytes
  abbrev pub Answers : List ℕ → Option (List ℕ) → Type 0
  Answers text bytes = (name : CMapName) × (answered : Option (Bor (List ℕ))) × IsNameOf text name × calls.post get_cmap (name, tt) answered × (bytes ≡ option_copied answered)

  -- the answer of the function depends on the name alone
  abbrev pub AnswersByName : Type 0
  AnswersByName = (name other : CMapName) (first second : Option (Bor (List ℕ))) → IsSameName name other
      → calls.post get_cmap (name, tt) first → calls.post get_cmap (other, tt) second → option_copied first ≡ option_copied second

-- a text has at most one answer
abbrev pub IsByName : (List ℕ → Option (List ℕ) → Type 0) → Type 0
IsByName answer = (text : List ℕ) (first second : Option (List ℕ)) → answer text first → answer text second → first ≡ second

-- the bytes at the index of this name in a bundle, if the bundle has a file at this index
abbrev pub stored : Option Bundle → List ℕ → Option (List ℕ)
stored bundle name = option_and_then (λ b. option_and_then (λ at. slice_get b.files at) (index_of_text name)) bundle

-- these bytes, unless they stand for an absent file
abbrev pub unless_absent : List ℕ → Option (List ℕ)
unless_absent bytes = if bytes_eq bytes no_file_bytes then None else Some bytes

-- the file of this name in a bundle, if there is one
abbrev pub embedded : Option Bundle → List ℕ → Option (List ℕ)
embedded bundle name = option_and_then unless_absent (stored bundle name)
