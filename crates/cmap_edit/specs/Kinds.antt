-- Private aid: the two kinds of declarations of CIDs, which are joined and cut in the same way.
use Rattle.std.specs.Prelude.{◌≡◌, ◌⊎◌, ℕ, ◌+◌, ◌-◌, ◌<◌, ◌≤◌, ◌^◌, List, Option, Some, None}
use Rattle.cmap_values.specs.declared.range.Range.{Range}
use Rattle.cmap_values.specs.Files.{CidEntry}
use Rattle.cmap_layers.specs.Lookups.{cid_at, cid_span}
use Rattle.cmap_edit.specs.Tidied.{SaysTheSame}
use Rattle.cmap_edit.specs.Tidy.{AreTidy, GoesOn, IsCidRow, IsCodeRow, IsNotdefRow, notdef_at, said}
use Rattle.cmap_edit.specs.Consecutive.{IsLayout, Layout}

-- what a declaration of the kind gives to its codes
pub record Kind (X : Type 0) : Type 1 where
  -- the CID of the code with an offset, by the CID of the first code
  pub moved : ℕ → ℕ → ℕ
  -- the answer for a code that has a CID
  pub told : ℕ → X
  -- the answer of a declaration for a code
  pub at : CidEntry → ℕ → X
  -- the declarations that a tidy list may have
  pub IsRow : CidEntry → Type 0
  -- the answers for a code whose CID would pass 32 bits
  pub IsLost : Option X → Type 0

-- the CIDs count on within 32 bits
abbrev pub cid_kind : Kind (Option ℕ)
cid_kind = record { moved = λ cid offset. cid + offset; told = λ cid. Some cid; at = cid_at; IsRow = IsCidRow; IsLost = λ answer. answer ≡ Some None }

-- all codes have one CID
abbrev pub notdef_kind : Kind ℕ
notdef_kind = record { moved = λ cid offset. cid; told = λ cid. cid; at = notdef_at; IsRow = IsNotdefRow; IsLost = λ answer. ⊥ }

-- the one that two could be
abbrev pub merge : CidEntry → CidEntry → CidEntry
merge e later = record e { end = later.end }

module _ {X : Type 0} (kind : Kind X) where
  abbrev pub CouldBeOneOf : CidEntry → CidEntry → Type 0
  CouldBeOneOf e later = GoesOn (cid_span e) (cid_span later) × (later.cid ≡ kind.moved e.cid (later.start - e.start))

  abbrev pub layout_of : Layout CidEntry X
  layout_of = record { span = cid_span; at = kind.at; IsRow = kind.IsRow; CouldBeOne = CouldBeOneOf; merge = merge }

  abbrev pub AreTidyOf : List CidEntry → Type 0
  AreTidyOf entries = AreTidy cid_span kind.IsRow CouldBeOneOf entries

  abbrev pub said_of : List CidEntry → ℕ → Option X
  said_of entries code = said cid_span kind.at entries code

  -- the declaration gives the codes of the range the answers of these CIDs
  abbrev pub GivesOf : CidEntry → Range → ℕ → Type 0
  GivesOf e range cid = (kind.moved cid (range.end - range.start) < 2 ^ 32)
      × ((code : ℕ) → range.start ≤ code → code ≤ range.end → kind.at e code ≡ kind.told (kind.moved cid (code - range.start)))

  -- the CID of some code would pass 32 bits
  abbrev pub LosesOne : List CidEntry → Type 0
  LosesOne entries = (code : ℕ) × (code < 2 ^ 32) × kind.IsLost (said_of entries code)

  -- the new list is tidy and gives the same answers
  abbrev pub AreTidyAnew : List CidEntry → List CidEntry → Type 0
  AreTidyAnew old new = AreTidyOf new × SaysTheSame (said_of old) (said_of new)

  -- the new list is tidy and gives the same answers; or it is the old list, in which the CID of some code would pass 32 bits
  abbrev pub AreTidiedOf : List CidEntry → List CidEntry → Type 0
  AreTidiedOf old new = AreTidyAnew old new ⊎ (LosesOne old × (new ≡ old))

  -- what the proofs for both kinds rest on
  pub record IsKind : Type 0 where
    pub merged : IsLayout layout_of
    pub row : (e : CidEntry) → IsCodeRow (cid_span e) → kind.moved e.cid (e.end - e.start) < 2 ^ 32 → kind.IsRow e
    pub twice : (cid a b : ℕ) → kind.moved (kind.moved cid a) b ≡ kind.moved cid (a + b)
    pub grows : (cid a b : ℕ) → a ≤ b → kind.moved cid a ≤ kind.moved cid b
    pub given : (e : CidEntry) (code : ℕ) → kind.moved e.cid (code - e.start) < 2 ^ 32 → kind.at e code ≡ kind.told (kind.moved e.cid (code - e.start))
    pub lost : (e : CidEntry) (code : ℕ) → e.cid < 2 ^ 32 → 2 ^ 32 ≤ kind.moved e.cid (code - e.start) → kind.IsLost (Some (kind.at e code))
