-- The codes at which two maps differ.
use Rattle.std.specs.Prelude.{◌≡◌, ◌≢◌, ℕ, ◌+◌, ◌-◌, ◌<◌, ◌≤◌, ◌^◌, Bool, true, false, List, Option, Some, None, All, AllPairs, Any, option_map}
use Rattle.std.specs.Borrow.{Bor}
use Rattle.std.specs.Option.{option_copied}
use Rattle.cmap_values.specs.declared.range.Range.{Range}
use Rattle.cmap_values.specs.DeclarationsSeen.{bf_entry_seen}
use Rattle.cmap_values.specs.Files.{BfEntry}
use Rattle.cmap_values.specs.declared.declarations.BfRange.{BfRange}
use Rattle.cmap_layers.specs.CodeRanges.{IsIn}
use Rattle.cmap_layers.specs.CodeStretches.{cid_after}
use Rattle.cmap_layers.specs.Layers.{Layer}
use Rattle.cmap_layers.specs.Lookups.{bf_of, cid_of, deciding_bf}
use Rattle.cmap_layers.specs.declared.stretches.Cids.{Cids}
use Rattle.cmap_edit.specs.declared.diff.cids.CidDifference.{CidDifference}
use Rattle.cmap_edit.specs.declared.diff.texts.TextDifference.{TextDifference}

-- each element is a difference with a range of codes; the ranges ascend, they contain every code below the limit at which the maps differ, and no two differences could be one
pub record AreDifferences {D : Type 0} (range_of : D → Range) (IsDifference : D → Type 0) (Differs : ℕ → Type 0) (CouldBeOne : D → D → Type 0) (limit : ℕ) (differences : List D) : Type 0 where
  pub each : All IsDifference differences
  pub all : (code : ℕ) → code < limit → Differs code → Any (λ difference. IsIn code (range_of difference)) differences
  pub within : All (λ difference. ((range_of difference).start ≤ (range_of difference).end) × ((range_of difference).end < limit)) differences
  pub apart : AllPairs (λ difference later. (range_of difference).end < (range_of later).start) differences
  pub longest : AllPairs (λ difference later. CouldBeOne difference later → ⊥) differences

-- the codes from first to last have these CIDs
abbrev pub HasCids : (ℕ → Option ℕ) → ℕ → ℕ → Cids → Type 0
HasCids answer first last cids = (code : ℕ) → first ≤ code → code ≤ last → answer code ≡ cid_after cids (code - first)

-- the CIDs of codes of len bytes
abbrev pub cids_of : List Layer → ℕ → ℕ → Option ℕ
cids_of layers len code = cid_of layers code len

-- consecutive codes with their CIDs in two maps, which differ at each code
pub record IsCidDifference (left right : ℕ → Option ℕ) (difference : CidDifference) : Type 0 where
  pub left_cids : HasCids left difference.range.start difference.range.end difference.left
  pub right_cids : HasCids right difference.range.start difference.range.end difference.right
  pub differs : (code : ℕ) → IsIn code difference.range → left code ≢ right code

-- the second difference begins just after the first, and in each map one CID stretch covers the codes of both
pub record CouldBeOneOfCids (left right : ℕ → Option ℕ) (difference later : CidDifference) : Type 0 where
  pub meets : difference.range.end + 1 ≡ later.range.start
  pub left_cids : (cids : Cids) × HasCids left difference.range.start later.range.end cids
  pub right_cids : (cids : Cids) × HasCids right difference.range.start later.range.end cids

-- the differences of CIDs among the codes below a limit
abbrev pub AreCidDifferencesBelow : (ℕ → Option ℕ) → (ℕ → Option ℕ) → ℕ → List CidDifference → Type 0
AreCidDifferencesBelow left right limit differences = AreDifferences (λ (d : CidDifference). d.range) (IsCidDifference left right) (λ code. left code ≢ right code) (CouldBeOneOfCids left right) limit differences

-- all codes of len bytes at which the CIDs of the two maps differ
abbrev pub AreCidDifferences : List Layer → List Layer → ℕ → List CidDifference → Type 0
AreCidDifferences left right len differences = AreCidDifferencesBelow (cids_of left len) (cids_of right len) (2 ^ 32) differences

-- the first code of 32 bits at which two answers differ, if a code has different answers
abbrev pub IsFirstDifference : (ℕ → Option ℕ) → (ℕ → Option ℕ) → Option ℕ → Type 0
IsFirstDifference left right None = (code : ℕ) → code < 2 ^ 32 → left code ≡ right code
IsFirstDifference left right (Some first) = (left first ≢ right first) × ((code : ℕ) → code < first → left code ≡ right code)

-- the entry of a declaration, if there is a declaration
abbrev pub declared : Option (Bor BfRange) → Option BfEntry
declared declaration = option_map bf_entry_seen (option_copied declaration)

-- consecutive codes with the declarations that decide their texts in two maps; the texts differ at each code
pub record IsTextDifference (left right : List Layer) (difference : TextDifference) : Type 0 where
  pub left_decides : (code : ℕ) → IsIn code difference.range → deciding_bf left code ≡ declared difference.left
  pub right_decides : (code : ℕ) → IsIn code difference.range → deciding_bf right code ≡ declared difference.right
  pub differs : (code : ℕ) → IsIn code difference.range → bf_of left code ≢ bf_of right code

-- the second difference begins just after the first, and in each map the same declaration or none decides for both
pub record CouldBeOneOfTexts (difference later : TextDifference) : Type 0 where
  pub meets : difference.range.end + 1 ≡ later.range.start
  pub left_same : declared difference.left ≡ declared later.left
  pub right_same : declared difference.right ≡ declared later.right

-- the differences of texts among the codes below a limit
abbrev pub AreTextDifferencesBelow : List Layer → List Layer → ℕ → List TextDifference → Type 0
AreTextDifferencesBelow left right limit differences = AreDifferences (λ (d : TextDifference). d.range) (IsTextDifference left right) (λ code. bf_of left code ≢ bf_of right code) CouldBeOneOfTexts limit differences

-- all codes at which the texts of the two maps differ
abbrev pub AreTextDifferences : List Layer → List Layer → List TextDifference → Type 0
AreTextDifferences left right differences = AreTextDifferencesBelow left right (2 ^ 32) differences

-- ---- private aid
-- two answers differ, or they are equal
abbrev pub DiffersIf : {A : Type 0} → Bool → A → A → Type 0
DiffersIf true left right = left ≢ right
DiffersIf false left right = left ≡ right
