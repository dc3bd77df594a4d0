-- The answers that a list of declarations gives, and the tidy lists, which give them in the fewest declarations.
use Rattle.std.specs.Prelude.{◌≡◌, ℕ, ◌+◌, ◌-◌, ◌/◌, ◌%◌, ◌<◌, ◌≤◌, ◌^◌, ◌&&◌, List, All, AllPairs, Option, Some, length, nat_le, nat_lt, option_map, slice_index_or, if◌then◌else◌}
use Rattle.cmap_runs.specs.Ranges.{Span, contains, last_of}
use Rattle.cmap_values.specs.declared.range.Range.{Range}
use Rattle.cmap_tokens.specs.Texts.{shifted}
use Rattle.cmap_values.specs.Files.{BfEntry, CidEntry}
use Rattle.cmap_layers.specs.Lookups.{bf_span, cid_at, cid_span}

-- the answer of the last declaration that contains a code; nothing where no declaration contains it
abbrev pub said : {E X : Type 0} → (E → Span) → (E → ℕ → X) → List E → ℕ → Option X
said span at entries code = option_map (λ e. at e code) (last_of span entries code)

-- the CID of a code, or `Some None` where the CID would pass 32 bits
abbrev pub cid_said : List CidEntry → ℕ → Option (Option ℕ)
cid_said entries code = said cid_span cid_at entries code

-- all codes of a notdef declaration have one CID
abbrev pub notdef_at : CidEntry → ℕ → ℕ
notdef_at e code = e.cid

abbrev pub notdef_said : List CidEntry → ℕ → Option ℕ
notdef_said entries code = said cid_span notdef_at entries code

-- the units of the text of a code, whose last unit counts on, or none
abbrev pub units_at : BfEntry → ℕ → Option (List ℕ)
units_at e code = shifted e.units (code - e.start)

abbrev pub units_said : List BfEntry → ℕ → Option (Option (List ℕ))
units_said entries code = said bf_span units_at entries code

-- a code of the range has the answer of `here`, and any other code keeps its answer
abbrev pub said_with : {X : Type 0} → Range → (ℕ → X) → (ℕ → Option X) → ℕ → Option X
said_with range here before code = if contains (record { start = range.start; end = range.end }) code then Some (here code) else before code

-- a code from `first` to the one before `next` has the answer of `here`, and any other code keeps its answer
abbrev pub IsSaidTo : {X : Type 0} → ℕ → ℕ → (ℕ → X) → (ℕ → Option X) → (ℕ → Option X) → Type 0
IsSaidTo first next here before now = (code : ℕ) → now code ≡ (if nat_le first code && nat_lt code next then Some (here code) else before code)

-- the first codes of the range, or none, but not all, have the answer of `here`
abbrev pub IsSaidInPart : {X : Type 0} → Range → (ℕ → X) → (ℕ → Option X) → (ℕ → Option X) → Type 0
IsSaidInPart range here before now = (next : ℕ) × (next ≤ range.end) × IsSaidTo range.start next here before now

-- codes of 32 bits that differ in their last byte alone: Adobe Technical Note 5014
abbrev pub IsCodeRow : Span → Type 0
IsCodeRow span = (span.start ≤ span.end) × (span.start / 256 ≡ span.end / 256) × (span.end < 2 ^ 32)

-- the later codes follow the others directly in the same row
abbrev pub GoesOn : Span → Span → Type 0
GoesOn span later = (span.end + 1 ≡ later.start) × (span.start / 256 ≡ later.start / 256)

-- declarations for rows of codes, in order and without overlaps; no two of them could be one
pub record AreTidy {E : Type 0} (span : E → Span) (IsRow : E → Type 0) (CouldBeOne : E → E → Type 0) (entries : List E) : Type 0 where
  pub rows : All IsRow entries
  pub apart : AllPairs (λ e later. (span e).end < (span later).start) entries
  pub joined : AllPairs (λ e later. CouldBeOne e later → ⊥) entries

-- the CIDs count on within 32 bits
abbrev pub IsCidRow : CidEntry → Type 0
IsCidRow e = IsCodeRow (cid_span e) × (e.cid + (e.end - e.start) < 2 ^ 32)

-- the later CIDs count on from the earlier ones
abbrev pub CouldBeOneCid : CidEntry → CidEntry → Type 0
CouldBeOneCid e later = GoesOn (cid_span e) (cid_span later) × (later.cid ≡ e.cid + (later.start - e.start))

abbrev pub AreTidyCids : List CidEntry → Type 0
AreTidyCids entries = AreTidy cid_span IsCidRow CouldBeOneCid entries

abbrev pub IsNotdefRow : CidEntry → Type 0
IsNotdefRow e = IsCodeRow (cid_span e)

-- both have one CID
abbrev pub CouldBeOneNotdef : CidEntry → CidEntry → Type 0
CouldBeOneNotdef e later = GoesOn (cid_span e) (cid_span later) × (later.cid ≡ e.cid)

abbrev pub AreTidyNotdefs : List CidEntry → Type 0
AreTidyNotdefs entries = AreTidy cid_span IsNotdefRow CouldBeOneNotdef entries

-- the last unit of a text, or 0 where it has none
abbrev pub last_unit : List ℕ → ℕ
last_unit units = slice_index_or units (length units - 1) 0

-- a text has units, its last unit has 16 bits, and the last byte of that unit counts on within 255: Adobe Technical Note 5411; ISO 32000-1, 9.10.3
abbrev pub IsTextRow : BfEntry → Type 0
IsTextRow e = IsCodeRow (bf_span e) × (0 < length e.units) × (last_unit e.units < 2 ^ 16) × (last_unit e.units % 256 + (e.end - e.start) < 256)

-- the last unit of the later text counts on from the last unit of the other in its last byte alone, after the same units
abbrev pub CouldBeOneText : BfEntry → BfEntry → Type 0
CouldBeOneText e later = GoesOn (bf_span e) (bf_span later) × (shifted e.units (later.start - e.start) ≡ Some later.units) × (last_unit e.units / 256 ≡ last_unit later.units / 256)

abbrev pub AreTidyTexts : List BfEntry → Type 0
AreTidyTexts entries = AreTidy bf_span IsTextRow CouldBeOneText entries
