-- The CIDs and the texts of codes in a row, and the codes of a CID.
use Rattle.std.specs.Prelude.{◌≡◌, ◌↔◌, ◌⊎◌, ℕ, ◌+◌, ◌-◌, ◌%◌, ◌<◌, ◌≤◌, ◌^◌, IsTrue, List, [], ◌∷◌, ◌++◌, All, Option, Some, None, IsSomeAnd, MatchOption, flat_map, length, map, option_and_then, option_map, slice_index_or}
use Rattle.std.specs.Char.Escape.{encode_utf16}
use Rattle.std.specs.Str.{all_scalars}
use Rattle.cmap_values.specs.declared.range.Range.{Range}
use Rattle.cmap_values.specs.Files.{BfEntry, CidEntry, of_length}
use Rattle.cmap_layers.specs.CodeRanges.{AreRangesOf, IsIn}
use Rattle.cmap_layers.specs.Layers.{Layer}
use Rattle.cmap_runs.specs.Stretches.{IsLongest}
use Rattle.cmap_layers.specs.LayersDecide.{layer_cid}
use Rattle.cmap_layers.specs.Lookups.{bf_at, bf_of, bf_span, cid_at, cid_of, cid_span, deciding_bf, last_bf, last_cid}
use Rattle.cmap_layers.specs.declared.stretches.Cids.{Cids}
use Rattle.cmap_layers.specs.declared.stretches.Cids.TheVariants.{Absent, Same, CountOn}
use Rattle.cmap_layers.specs.declared.stretches.CidStretch.{CidStretch}

-- the CID of the code that comes k codes after the first
abbrev pub cid_after : Cids → ℕ → Option ℕ
cid_after Absent k = None
cid_after (Same cid) k = Some cid
cid_after (CountOn cid) k = Some (cid + k)

-- the characters of a text, with the last one k characters further
abbrev pub counted_on : List ℕ → ℕ → List ℕ
counted_on [] k = []
counted_on (c ∷ []) k = (c + k) ∷ []
counted_on (c ∷ d ∷ cs) k = c ∷ counted_on (d ∷ cs) k

-- at this offset the last unit of a text is the last unit of a row of 1,024 units; surrogates lie in such rows
abbrev pub IsRowEnd : List ℕ → ℕ → Type 0
IsRowEnd units offset = (slice_index_or units (length units - 1) 0 + offset) % 1024 ≡ 1023

-- the text that is declared for the last code ends a row of 1,024 units
abbrev pub EndsRow : List BfEntry → ℕ → Type 0
EndsRow entries last = (entry : BfEntry) × (last_bf entries last ≡ Some entry) × IsRowEnd entry.units (last - entry.start)

-- in the list of notdefs, another declaration decides the code after the last one than decides the first; or, if no notdef decides the first, so it is in the list of texts, or a row of texts ends
abbrev pub OthersEnd : ℕ → ℕ → ℕ → Layer → Type 0
OthersEnd len first last layer = IsLongest (map cid_span (of_length layer.lists.notdefs len)) first last
    ⊎ ((last_cid (of_length layer.lists.notdefs len) first ≡ None) × (IsLongest (map bf_span layer.lists.bfs) first last ⊎ EndsRow layer.lists.bfs last))

-- in the list of CIDs, another declaration decides the code after the last one than decides the first; or, if no CID is declared for the first, OthersEnd holds
abbrev pub EndsAfter : ℕ → ℕ → ℕ → Layer → Type 0
EndsAfter len first last layer = IsLongest (map cid_span (of_length layer.lists.cids len)) first last ⊎ ((last_cid (of_length layer.lists.cids len) first ≡ None) × OthersEnd len first last layer)

-- the layer makes no decision about the CID of the code, or about its text
abbrev pub HasNoCid : ℕ → ℕ → Layer → Type 0
HasNoCid len code layer = layer_cid layer code len ≡ None

abbrev pub HasNoText : ℕ → Layer → Type 0
HasNoText code layer = last_bf layer.lists.bfs code ≡ None

-- in the layer's list of texts, another declaration decides the code after the last one than decides the first
abbrev pub TextsEnd : ℕ → ℕ → Layer → Type 0
TextsEnd first last layer = IsLongest (map bf_span layer.lists.bfs) first last

-- Holds is true of some layer, and IsPassed of each layer above it
abbrev pub HoldsBelow : (Layer → Type 0) → (Layer → Type 0) → List Layer → Type 0
HoldsBelow IsPassed Holds layers = (above : List Layer) × (layer : Layer) × (below : List Layer) × (layers ≡ above ++ layer ∷ below) × All IsPassed above × Holds layer

-- this many codes after the first, the CIDs reach the last CID of 32 bits
abbrev pub EndsCids : Cids → ℕ → Type 0
EndsCids (CountOn cid) more = cid + more ≡ 2 ^ 32 - 1
EndsCids _ more = ⊥

-- the CIDs that count on are numbers of 32 bits up to this many codes after the first
abbrev pub Fits : Cids → ℕ → Type 0
Fits (CountOn cid) more = cid + more < 2 ^ 32
Fits _ more = Unit {0}

-- what the last declarations of a CID and of a notdef that contain a code say, k codes after the first: by a declaration of a CID the CIDs count on, or pass 32 bits; by a notdef they are the same
abbrev pub AreDeclaredBy : Option Cids → ℕ → ℕ → Option CidEntry → Option CidEntry → Type 0
AreDeclaredBy (Some Absent) k code cid notdef = option_map (λ e. cid_at e code) cid ≡ Some None
AreDeclaredBy (Some (CountOn begin)) k code cid notdef = option_map (λ e. cid_at e code) cid ≡ Some (Some (begin + k))
AreDeclaredBy (Some (Same same)) k code cid notdef = (cid ≡ None) × (option_map (λ e. e.cid) notdef ≡ Some same)
AreDeclaredBy None k code cid notdef = (cid ≡ None) × (notdef ≡ None)

-- in the list of CIDs, another declaration decides the code after the last one than decides the first; or, if no CID is declared for the first code, so it is in the list of notdefs
abbrev pub DeclarationsEnd : ℕ → ℕ → ℕ → Layer → Type 0
DeclarationsEnd len first last layer = IsLongest (map cid_span (of_length layer.lists.cids len)) first last
    ⊎ ((last_cid (of_length layer.lists.cids len) first ≡ None) × IsLongest (map cid_span (of_length layer.lists.notdefs len)) first last)

-- the CIDs of the codes of len bytes from the first to the last one
pub record IsCidStretch (layers : List Layer) (len first : ℕ) (stretch : CidStretch) : Type 0 where
  pub cids : (code : ℕ) → first ≤ code → code ≤ stretch.last → cid_of layers code len ≡ cid_after stretch.cids (code - first)
  -- unless the stretch ends with the last code of 32 bits, another declaration decides the next code or a row of texts ends, in a layer above which no layer decides the first code; or the stretch ends with the last CID
  pub longest : stretch.last + 1 < 2 ^ 32 → HoldsBelow (HasNoCid len first) (EndsAfter len first stretch.last) layers ⊎ EndsCids stretch.cids (stretch.last - first)

-- the texts of the codes from the first to the last one
pub record IsTextStretch (layers : List Layer) (first last : ℕ) (declaration : Option BfEntry) : Type 0 where
  -- the declaration decides the text of each code, or no declaration does
  pub decides : (code : ℕ) → first ≤ code → code ≤ last → deciding_bf layers code ≡ declaration
  -- so each code has the text that the declaration gives
  pub texts : (code : ℕ) → first ≤ code → code ≤ last → bf_of layers code ≡ option_and_then (λ entry. bf_at entry code) declaration
  -- if there is a code after the last one, another declaration decides it in the list of some layer, above which no layer declares a text for the first code
  pub longest : last + 1 < 2 ^ 32 → HoldsBelow (HasNoText first) (TextsEnd first last) layers

-- the ranges have exactly the codes that have the CID, as codes of len bytes
abbrev pub AreCodesOfCid : List Layer → ℕ → ℕ → List Range → Type 0
AreCodesOfCid layers len cid ranges = AreRangesOf (λ code. cid_of layers code len ≡ Some cid) (2 ^ 32) ranges

-- the ranges have exactly the codes that have the text
abbrev pub AreCodesOfText : List Layer → List ℕ → List Range → Type 0
AreCodesOfText layers text ranges = AreRangesOf (λ code. bf_of layers code ≡ Some text) (2 ^ 32) ranges

-- ---- private aid
-- the ranges have exactly the codes below a limit that have the CID, as codes of len bytes
abbrev pub AreCodesBelow : List Layer → ℕ → ℕ → ℕ → List Range → Type 0
AreCodesBelow layers len cid limit ranges = AreRangesOf (λ code. cid_of layers code len ≡ Some cid) limit ranges

-- a stretch of codes in one layer is as long as possible: it ends where EndsAfter holds, or with the last CID
abbrev pub IsLayerLongest : Layer → ℕ → ℕ → ℕ → Option Cids → Type 0
IsLayerLongest layer len first last cids = last + 1 < 2 ^ 32 → EndsAfter len first last layer ⊎ IsSomeAnd cids (λ these. EndsCids these (last - first))

-- the decision is these CIDs for all codes from the first to the last one, or there is no decision for any of them
abbrev pub Decides : (ℕ → Option (Option ℕ)) → ℕ → ℕ → Option Cids → Type 0
Decides decision first last cids = (code : ℕ) → first ≤ code → code ≤ last → decision code ≡ option_map (λ these. cid_after these (code - first)) cids

-- among the codes from the first to the last one with these CIDs, exactly the codes in the range, if any, have the CID
abbrev pub AreCodesAmong : Cids → ℕ → ℕ → ℕ → Option Range → Type 0
AreCodesAmong cids cid first last found = MatchOption found
    ((code : ℕ) → first ≤ code → code ≤ last → cid_after cids (code - first) ≡ Some cid → ⊥)
    (λ range. (first ≤ range.start) × (range.start ≤ range.end) × (range.end ≤ last) × ((code : ℕ) → first ≤ code → code ≤ last → ((cid_after cids (code - first) ≡ Some cid) ↔ IsIn code range)))

-- the units are the text in UTF-16
abbrev pub AreUnitsOf : List ℕ → List ℕ → Type 0
AreUnitsOf text units = IsTrue (all_scalars text) × (units ≡ flat_map encode_utf16 text)
