-- What the bytes of a file mean.
use Rattle.std.proofs.Common.{ℕ, List, Ok, Err, inl, inr}
use Rattle.std.specs.Prelude.{IfErr, Option, Result, Some}
use Rattle.cmap_values.specs.FilesSeen.{file_seen}
use Rattle.cmap_values.specs.Only.{IsOnly, HoldsOfNone}
use Rattle.cmap_values.specs.Outcomes.{DecidedBy, ReadsFile, RefusesWith}
use Rattle.cmap_values.proofs.Outcomes.{refused_as}
use Rattle.cmap_values.specs.declared.fault.Fault.{Fault}
use Rattle.cmap_values.specs.declared.fault.Fault.TheVariants.{Refused, Memory}
use Rattle.cmap_values.specs.declared.fault.Stop.{Stop}
use Rattle.cmap_values.specs.declared.file.File as declared
use Rattle.cmap_values.specs.Files.{File}
use Rattle.cmap_text.specs.TextFiles.{IsTextFile}
use Rattle.cmap_text.specs.TextReading.{StopsText}
use Rattle.cmap_binary.specs.Bundles.{PrefixTables}
use Rattle.cmap_binary.specs.BinaryFaults.{IsBinaryFault}
use Rattle.cmap_binary.specs.BinaryFiles.{IsMarkedBinary, IsBinaryFile}
use Rattle.cmap_load.specs.Layers.{Means}
use Rattle.cmap_load.specs.Refusals.{IsDecidedAsText, IsFirstFault}

-- with a bundle, bytes that are marked so are a binary file
means_binary : (tables : PrefixTables) (bytes : List ℕ) (file : File) → IsMarkedBinary bytes → IsOnly (IsBinaryFile tables bytes) file → IsOnly (Means (Some tables) bytes) file
means_binary tables bytes file marked only = record {
  holds = inl (marked, only.holds);
  alone = λ other means. elim means [ inl (_, is) ↦ only.alone other is | inr (unmarked, is) ↦ absurd (unmarked marked) ];
}

no_binary : (tables : PrefixTables) (bytes : List ℕ) → IsMarkedBinary bytes → HoldsOfNone (IsBinaryFile tables bytes) → HoldsOfNone (Means (Some tables) bytes)
no_binary tables bytes marked none file means = elim means [ inl (_, is) ↦ none file is | inr (unmarked, _) ↦ unmarked marked ]

pub reads_binary : (tables : PrefixTables) (bytes : List ℕ) (r : Result declared.File (Fault Stop)) → IsMarkedBinary bytes → ReadsFile (IsBinaryFile tables) file_seen bytes r → ReadsFile (Means (Some tables)) file_seen bytes r
reads_binary tables bytes (Ok file) marked reads = (means_binary tables bytes (file_seen file) marked reads.0, tt)
reads_binary tables bytes (Err fault) marked reads = (tt, refused_as fault reads.1 (λ stop stops. (no_binary tables bytes marked stops.0, stops.1)))

-- all others are texts
means_text : (tables : PrefixTables) (bytes : List ℕ) (file : File) → (IsMarkedBinary bytes → ⊥) → IsOnly (IsTextFile bytes) file → IsOnly (Means (Some tables) bytes) file
means_text tables bytes file unmarked only = record {
  holds = inr (unmarked, only.holds);
  alone = λ other means. elim means [ inl (marked, _) ↦ absurd (unmarked marked) | inr (_, is) ↦ only.alone other is ];
}

no_text : (tables : PrefixTables) (bytes : List ℕ) → (IsMarkedBinary bytes → ⊥) → HoldsOfNone (IsTextFile bytes) → HoldsOfNone (Means (Some tables) bytes)
no_text tables bytes unmarked none file means = elim means [ inl (marked, _) ↦ unmarked marked | inr (_, is) ↦ none file is ]

pub reads_text : (tables : PrefixTables) (bytes : List ℕ) (r : Result declared.File (Fault Stop)) → (IsMarkedBinary bytes → ⊥) → ReadsFile IsTextFile file_seen bytes r → ReadsFile (Means (Some tables)) file_seen bytes r
reads_text tables bytes (Ok file) unmarked reads = (means_text tables bytes (file_seen file) unmarked reads.0, tt)
reads_text tables bytes (Err fault) unmarked reads = (tt, refused_as fault reads.1 (λ stop stops. (no_text tables bytes unmarked stops.0, stops.1)))

-- which byte decides on a text
pub binary_decided : (tables : PrefixTables) (bytes : List ℕ) (r : Result declared.File (Fault Stop)) → IsMarkedBinary bytes → IfErr r (RefusesWith (IsDecidedAsText (Some tables) bytes))
binary_decided tables bytes (Ok file) marked = tt
binary_decided tables bytes (Err (Refused stop)) marked = λ unmarked. absurd (unmarked marked)
binary_decided tables bytes (Err Memory) marked = tt

pub text_decided : (tables : Option PrefixTables) (bytes : List ℕ) (r : Result declared.File (Fault Stop)) → IfErr r (RefusesWith (DecidedBy IsTextFile bytes)) → IfErr r (RefusesWith (IsDecidedAsText tables bytes))
text_decided tables bytes (Ok file) decided = tt
text_decided tables bytes (Err fault) decided = refused_as fault decided (λ stop decides text. decides)

-- which fault is the first
pub binary_first : (tables : PrefixTables) (bytes : List ℕ) (r : Result declared.File (Fault Stop)) → IsMarkedBinary bytes → IfErr r (RefusesWith (IsBinaryFault tables bytes)) → IfErr r (RefusesWith (IsFirstFault (Some tables) bytes))
binary_first tables bytes (Ok file) marked first = tt
binary_first tables bytes (Err fault) marked first = refused_as fault first (λ stop is. inl (marked, is))

pub text_first : (tables : PrefixTables) (bytes : List ℕ) (r : Result declared.File (Fault Stop)) → (IsMarkedBinary bytes → ⊥) → IfErr r (RefusesWith (StopsText bytes)) → IfErr r (RefusesWith (IsFirstFault (Some tables) bytes))
text_first tables bytes (Ok file) unmarked first = tt
text_first tables bytes (Err fault) unmarked first = refused_as fault first (λ stop is. inr (unmarked, is))
