-- The CIDs or notdefs that layers declare for codes.
use Rattle.std.specs.Prelude.{◌≡◌, ◌⊎◌, ℕ, ◌+◌, ◌-◌, ◌<◌, ◌≤◌, ◌^◌, List, [], ◌∷◌, Option, None, Some, option_map, unwrap_or}
use Rattle.cmap_values.specs.Files.{CidEntry, of_length}
use Rattle.cmap_layers.specs.CodeStretches.{EndsCids, HoldsBelow, cid_after}
pub use Rattle.cmap_layers.specs.CodeStretches.{DeclarationsEnd, Fits}
use Rattle.cmap_layers.specs.FirstDecided.{Decision}
use Rattle.cmap_layers.specs.Layers.{Layer}
use Rattle.cmap_layers.specs.Lookups.{cid_at, last_cid}
use Rattle.cmap_layers.specs.declared.stretches.Cids.{Cids}
use Rattle.cmap_layers.specs.declared.stretches.Cids.TheVariants.{Absent, CountOn, Same}
use Rattle.cmap_layers.specs.declared.stretches.CidStretch.{CidStretch}
use Rattle.cmap_unicode.specs.Cids.{declared_cid}

-- the CID that a declaration of a CID, or of a notdef, gives to a code
pub data Given : Type 0 where
  as_cid : ℕ → Given
  as_notdef : ℕ → Given

-- a declaration of a CID gives no CID past 32 bits
abbrev pub given_at : CidEntry → ℕ → Option Given
given_at e code = option_map as_cid (cid_at e code)

-- in one layer, a declaration of a CID decides, or else a declaration of a notdef
abbrev pub given_by : ℕ → Option CidEntry → Option CidEntry → Option (Option Given)
given_by code (Some e) notdef = Some (given_at e code)
given_by code None (Some e) = Some (Some (as_notdef e.cid))
given_by code None None = None

abbrev pub given_in : Layer → ℕ → ℕ → Option (Option Given)
given_in layer code len = given_by code (last_cid (of_length layer.lists.cids len) code) (last_cid (of_length layer.lists.notdefs len) code)

-- the first layer that has such a declaration for a code of len bytes decides
abbrev pub given : List Layer → ℕ → ℕ → Option Given
given [] code len = None
given (layer ∷ below) code len = unwrap_or (given_in layer code len) (given below code len)

abbrev pub cid_given : Option Given → Option ℕ
cid_given (Some (as_cid cid)) = Some cid
cid_given (Some (as_notdef cid)) = None
cid_given None = None

abbrev pub notdef_given : Option Given → Option ℕ
notdef_given (Some (as_cid cid)) = None
notdef_given (Some (as_notdef cid)) = Some cid
notdef_given None = None

-- CIDs that count on are declared as CIDs, and one CID for all codes as a notdef
abbrev pub given_after : Cids → ℕ → Option Given
given_after Absent k = None
given_after (Same cid) k = Some (as_notdef cid)
given_after (CountOn cid) k = Some (as_cid (cid + k))

-- the layer declares nothing for the code
abbrev pub DeclaresNone : ℕ → ℕ → Layer → Type 0
DeclaresNone len code layer = given_in layer code len ≡ None

abbrev pub declared_decision : Decision (Option Given)
declared_decision = record { decided = given_in; said = given_after; Fits = Fits; Ends = DeclarationsEnd }

-- the CIDs that layers declare for codes of len bytes from the first to the last one
pub record AreDeclaredCids (layers : List Layer) (len first : ℕ) (stretch : CidStretch) : Type 0 where
  pub within : first ≤ stretch.last
  pub cids : (code : ℕ) → first ≤ code → code ≤ stretch.last → declared_cid layers code len ≡ cid_after stretch.cids (code - first)
  pub declared : (code : ℕ) → first ≤ code → code ≤ stretch.last → given layers code len ≡ given_after stretch.cids (code - first)
  pub fit : Fits stretch.cids (stretch.last - first)
  -- unless the stretch ends with the last code of 32 bits, another declaration decides the next code, in a layer above which no layer declares anything for the first code; or the stretch ends with the last CID
  pub longest : stretch.last + 1 < 2 ^ 32 → HoldsBelow (DeclaresNone len first) (DeclarationsEnd len first stretch.last) layers ⊎ EndsCids stretch.cids (stretch.last - first)
