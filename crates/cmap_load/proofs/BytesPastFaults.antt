-- What the faults of bytes say of them: without one they mean a file; else the first is what is wrong with them.
use Rattle.std.proofs.Common.{◌≤◌, ◌∷◌, [], refl, inl, inr, ℕ, List, length}
use Rattle.std.specs.Prelude.{Option, Some, None}
use Rattle.cmap_values.specs.Files.{File}
use Rattle.cmap_values.specs.Only.{HoldsOfNone}
use Rattle.cmap_values.specs.declared.fault.Stop.{Stop}
use Rattle.cmap_binary.specs.Bundles.{PrefixTables}
use Rattle.cmap_binary.proofs.BinarySalvaged.{file_where_no_fault, first_binary_fault, no_file_where_fault}
use Rattle.cmap_text.proofs.TextFaults as text
use Rattle.cmap_load.specs.Layers.{Means}
use Rattle.cmap_load.specs.Refusals.{IsDecidedAsText, IsFirstFault}
use Rattle.cmap_load.specs.Salvage.{IsFirstOfBytes, SalvagesBytes}

module _ (bytes : List ℕ) (file : File) where
  pub no_fault : (tables : Option PrefixTables) → SalvagesBytes tables bytes file [] → Means tables bytes file
  no_fault None salvages = text.no_fault bytes file salvages
  no_fault (Some tables) salvages = elim salvages [
    | inl (marked, is) ↦ inl (marked, file_where_no_fault is)
    | inr (unmarked, is) ↦ inr (unmarked, text.no_fault bytes file is)
  ]

  -- bytes that mean no file have a fault, and are refused for one, within them; of a text, that is decided by the bytes up to there
  abbrev Refused : Option PrefixTables → Stop → Type 0
  Refused tables fault = (refusal : Stop) × IsFirstOfBytes tables bytes fault refusal × (refusal.offset ≤ length bytes) × IsDecidedAsText tables bytes refusal × IsFirstFault tables bytes refusal

  pub first_fault : (tables : Option PrefixTables) (fault : Stop) (more : List Stop) → HoldsOfNone (Means tables bytes) → SalvagesBytes tables bytes file (fault ∷ more) → Refused tables fault
  first_fault None fault more none salvages = let (refusal, no_text, within, decided, stops, first) = text.first_fault bytes file fault more salvages in (refusal, first, within, λ as_text. decided, stops)
  first_fault (Some tables) fault more none salvages = elim salvages [
    | inl (marked, is) ↦ (fault, inl (marked, refl), (no_file_where_fault is).1, λ unmarked. absurd (unmarked marked), inl (marked, first_binary_fault is))
    | inr (unmarked, is) ↦ (let (refusal, no_text, within, decided, stops, first) = text.first_fault bytes file fault more is in (refusal, inr (unmarked, first), within, λ as_text. decided, inr (unmarked, stops)))
  ]
