-- The content that a text can represent.
use Rattle.std.specs.Prelude.{◌≡◌, ◌⊎◌, ℕ, ℤ, ◌<◌, ◌≤◌, ◌+◌, ◌^◌, List, [], ◌∷◌, All, IfSome, IsTrue, Some, length}
use Rattle.std.specs.List.{AllByRecursion, list_all}
use Rattle.cmap_values.specs.Files.{BfEntry, ByLength, CidEntry, Codespace, Collection, File, Lists}
use Rattle.cmap_values.specs.Names.{family_of, ordering_of, registry_of}
use Rattle.cmap_tokens.specs.Bytes.{is_regular}
use Rattle.cmap_tokens.specs.Numbers.{Integer}
use Rattle.cmap_tokens.specs.Tokens.{IsBracket, Token}
use Rattle.cmap_text.specs.TextFiles.{Extent, range, single, supplement_in}

-- ---- codes
-- a code that fits in len bytes, from one to four
pub record Fits (len code : ℕ) : Type 0 where
  pub some : 1 ≤ len
  pub few : len ≤ 4
  pub small : code < 256 ^ len

-- both ends of a codespace range fit in its number of bytes
abbrev pub IsSpaceFitting : Codespace → Type 0
IsSpaceFitting s = Fits s.len s.low × Fits s.len s.high

-- the first code of a declaration fits in len bytes
abbrev pub BeginsFitting : ℕ → CidEntry → Type 0
BeginsFitting len e = Fits len e.start

-- the text of a declaration has a unit or more
abbrev pub HasUnits : BfEntry → Type 0
HasUnits e = 0 < length e.units

-- ---- names and collections
abbrev pub IsName : List ℕ → Type 0
IsName bytes = IsTrue (list_all is_regular bytes)

-- a literal name, or a bracket, which is an executable name
abbrev pub IsSayableName : List ℕ → Type 0
IsSayableName bytes = IsName bytes ⊎ IsBracket bytes

-- the family is the family of its registry and ordering
abbrev pub HasOwnFamily : Collection → Type 0
HasOwnFamily c = family_of (registry_of c.family) (ordering_of c.family) ≡ c.family

-- ---- all of a file
-- a text can represent this list for codes of each length
pub record ListsFit (lists : ByLength) : Type 0 where
  pub one : All (BeginsFitting 1) lists.one
  pub two : All (BeginsFitting 2) lists.two
  pub three : All (BeginsFitting 3) lists.three
  pub four : All (BeginsFitting 4) lists.four

pub record AllFit (lists : Lists) : Type 0 where
  pub spaces : All IsSpaceFitting lists.spaces
  pub notdefs : ListsFit lists.notdefs
  pub cids : ListsFit lists.cids
  pub texts : All HasUnits lists.bfs

pub record IsSayable (file : File) : Type 0 where
  pub uses : All IsName file.uses
  pub name : IfSome file.metadata.name IsSayableName
  pub family : IfSome file.metadata.collection HasOwnFamily
  pub lists : AllFit file.lists

-- ---- private aid: bounds that follow from the types
abbrev pub AllBytes : List ℕ → Type 0
AllBytes bytes = AllByRecursion (λ b. b < 2 ^ 8) bytes

-- a declaration of CIDs for codes of this length
pub record CidFits (len : ℕ) (e : CidEntry) : Type 0 where
  pub start : Fits len e.start
  pub end : e.end < 2 ^ 32
  pub cid : e.cid < 2 ^ 32

pub record TextFits (e : BfEntry) : Type 0 where
  pub end : e.end < 2 ^ 32
  pub some : HasUnits e
  pub units : All (λ u. u < 2 ^ 16) e.units

-- numbers of 32 bits, and units of 16
pub record IsSmallCid (e : CidEntry) : Type 0 where
  pub end : e.end < 2 ^ 32
  pub cid : e.cid < 2 ^ 32

abbrev pub AreSmallUnits : List ℕ → Type 0
AreSmallUnits units = All (λ u. u < 2 ^ 16) units

pub record IsSmallText (e : BfEntry) : Type 0 where
  pub start : e.start < 2 ^ 32
  pub end : e.end < 2 ^ 32
  pub units : AreSmallUnits e.units

-- a supplement that a reader accepts
abbrev pub IsSupplement : ℤ → Type 0
IsSupplement n = supplement_in (Some (Token.Numeral (Integer n))) ≡ Some n

pub record CollectionFits (c : Collection) : Type 0 where
  pub family : HasOwnFamily c
  pub registry : AllBytes (registry_of c.family)
  pub ordering : AllBytes (ordering_of c.family)
  pub supplement : IsSupplement c.supplement

-- a declaration in a section for single codes has one code as both ends
abbrev pub IsOfExtent : Extent → ℕ → ℕ → Type 0
IsOfExtent single start end = start ≡ end
IsOfExtent range start end = Unit {0}

-- ---- texts of consecutive codes
-- declarations for single codes, from this code on, each for the code after the one before
abbrev pub IsRow : ℕ → List BfEntry → Type 0
IsRow code [] = Unit {0}
IsRow code (e ∷ es) = (e.start ≡ code) × (e.end ≡ code) × IsRow (code + 1) es

-- the declarations of one line of a section for ranges: one text, or an array of texts
abbrev pub IsLine : List BfEntry → Type 0
IsLine es = (length es ≡ 1) ⊎ ((code : ℕ) × IsRow code es)
