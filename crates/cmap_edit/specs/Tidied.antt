-- A file written anew with the same answers in the fewest declarations.
use Rattle.std.specs.Prelude.{◌≡◌, ◌⊎◌, ℕ, ◌<◌, ◌^◌, List, Option, Some, None}
use Rattle.cmap_values.specs.Files.{BfEntry, CidEntry, File, Lists, of_length}
use Rattle.cmap_edit.specs.Tidy.{AreTidyCids, AreTidyNotdefs, AreTidyTexts, cid_said, notdef_said, units_said}

-- each code of 32 bits has the same answer in both
abbrev pub SaysTheSame : {X : Type 0} → (ℕ → Option X) → (ℕ → Option X) → Type 0
SaysTheSame old new = (code : ℕ) → code < 2 ^ 32 → new code ≡ old code

-- some code of 32 bits has a declaration that gives nothing: a tidy list has no such code
abbrev pub SaysNone : {X : Type 0} → (ℕ → Option (Option X)) → Type 0
SaysNone said = (code : ℕ) × (code < 2 ^ 32) × (said code ≡ Some None)

-- the new list is tidy and gives the same answers; or it is the old list, in which the CID of some code would pass 32 bits
abbrev pub AreTidiedCids : List CidEntry → List CidEntry → Type 0
AreTidiedCids old new = (AreTidyCids new × SaysTheSame (cid_said old) (cid_said new)) ⊎ (SaysNone (cid_said old) × (new ≡ old))

-- the new list is tidy and gives the same answers
abbrev pub AreTidiedNotdefs : List CidEntry → List CidEntry → Type 0
AreTidiedNotdefs old new = AreTidyNotdefs new × SaysTheSame (notdef_said old) (notdef_said new)

-- the new list is tidy and gives the same answers; or it is the old list, in which some code has no units or a last unit that would pass 16 bits
abbrev pub AreTidiedTexts : List BfEntry → List BfEntry → Type 0
AreTidiedTexts old new = (AreTidyTexts new × SaysTheSame (units_said old) (units_said new)) ⊎ (SaysNone (units_said old) × (new ≡ old))

-- each list of declarations is written anew, and codespace ranges stay
pub record AreTidiedLists (old new : Lists) : Type 0 where
  pub cids : (len : ℕ) → AreTidiedCids (of_length old.cids len) (of_length new.cids len)
  pub notdefs : (len : ℕ) → AreTidiedNotdefs (of_length old.notdefs len) (of_length new.notdefs len)
  pub texts : AreTidiedTexts old.bfs new.bfs
  pub spaces : new.spaces ≡ old.spaces

-- the lists of the file are tidied, and all else stays
pub record IsTidied (old new : File) : Type 0 where
  pub metadata : new.metadata ≡ old.metadata
  pub lists : AreTidiedLists old.lists new.lists
  pub uses : new.uses ≡ old.uses
