-- CMap files as text: the tokens are read as items, and nothing is executed. Adobe Technical Notes 5014 and 5411, and the practice of PDF writers.
use Rattle.std.specs.Prelude.{◌≡◌, ◌≢◌, ℕ, ℤ, pos, ◌+◌, ◌-◌, ◌<◌, ◌≤◌, ◌^◌, true, false, ◌&&◌, List, [], ◌∷◌, ◌++◌, ◌⊎◌, length, map, filter_map, flat_map, bytes_eq, codes, Contains, Option, Some, None, option_map, option_and_then, neg_ℤ, int_le, if◌then◌else◌}
use Rattle.std.specs.List.{AllZip, last_or, enumerate_from}
use Rattle.cmap_values.specs.BigEndian.{big_endian}
use Rattle.cmap_tokens.specs.Numbers.{Number}
use Rattle.cmap_tokens.specs.Tokens.{Token, Tokens}
use Rattle.cmap_tokens.specs.Strings.{IsValue}
use Rattle.cmap_tokens.specs.Texts.{units_of}
use Rattle.cmap_values.specs.Names.{family_of}
use Rattle.cmap_values.specs.Files.{CidEntry, Declaration, Mode, Collection, FileMetadata, File, lists_of, mode_numbered}

-- the names that take the next token as their value
abbrev pub keys : List (List ℕ)
keys = codes "Registry" ∷ codes "Ordering" ∷ codes "Supplement" ∷ codes "CMapName" ∷ codes "WMode" ∷ []

-- the kind of CIDs that a section declares: the CIDs of its codes, or the fallback CID
pub data CidKind : Type 0 where
  mapped : CidKind
  notdef : CidKind

abbrev pub declares_cid : CidKind → ℕ → CidEntry → Declaration
declares_cid mapped len entry = Declaration.cid len entry
declares_cid notdef len entry = Declaration.notdef len entry

-- whether each entry is for the codes of a range or for a single code
pub data Extent : Type 0 where
  range : Extent
  single : Extent

pub data Section : Type 0 where
  codespace_range : Section
  cids : CidKind → Extent → Section
  bf_range : Section
  bf_char : Section

-- the name of a section; begin and this name open the section, end and this name close it
abbrev pub section_name : Section → List ℕ
section_name codespace_range = codes "codespacerange"
section_name (cids mapped range) = codes "cidrange"
section_name (cids mapped single) = codes "cidchar"
section_name (cids notdef range) = codes "notdefrange"
section_name (cids notdef single) = codes "notdefchar"
section_name bf_range = codes "bfrange"
section_name bf_char = codes "bfchar"

-- a string of one to four bytes
abbrev pub IsCode : Token → List ℕ → Type 0
IsCode t bytes = (piece : List ℕ) × (t ≡ Token.String piece) × IsValue piece bytes × (1 ≤ length bytes) × (length bytes ≤ 4)

-- an integer from 0 to 2^32 - 1
abbrev pub IsCid : Token → ℕ → Type 0
IsCid t n = (t ≡ Token.Numeral (Number.Integer (pos n))) × (n < 2 ^ 32)

-- a string that isn't empty
abbrev pub IsDestination : Token → List ℕ → Type 0
IsDestination t units = (piece bytes : List ℕ) × (t ≡ Token.String piece) × IsValue piece bytes × (0 < length bytes) × (units ≡ units_of bytes)

abbrev pub declares_bf : ℕ → ℕ → List ℕ → Declaration
declares_bf start end units = Declaration.bf (record { start = start; end = end; units = units })

-- the entry of a section that tokens begin with, its declarations, and the tokens after the entry
abbrev pub IsEntry : Section → List Token → List Declaration → List Token → Type 0
IsEntry codespace_range tokens declared rest = (a b : Token) × (low high : List ℕ) × (tokens ≡ a ∷ b ∷ rest) × IsCode a low × IsCode b high × (length low ≡ length high)
    × (declared ≡ Declaration.codespace (record { len = length low; low = big_endian low; high = big_endian high }) ∷ [])
-- code, code, CID, filed by the length of the first code; or code, CID
IsEntry (cids kind range) tokens declared rest = (a b c : Token) × (start end : List ℕ) × (n : ℕ) × (tokens ≡ a ∷ b ∷ c ∷ rest) × IsCode a start × IsCode b end × IsCid c n × (declared ≡ declares_cid kind (length start) (record { start = big_endian start; end = big_endian end; cid = n }) ∷ [])
IsEntry (cids kind single) tokens declared rest = (a c : Token) × (code : List ℕ) × (n : ℕ) × (tokens ≡ a ∷ c ∷ rest) × IsCode a code × IsCid c n × (declared ≡ declares_cid kind (length code) (record { start = big_endian code; end = big_endian code; cid = n }) ∷ [])
IsEntry bf_char tokens declared rest = (a d : Token) × (code units : List ℕ) × (tokens ≡ a ∷ d ∷ rest) × IsCode a code × IsDestination d units × (declared ≡ declares_bf (big_endian code) (big_endian code) units ∷ [])
IsEntry bf_range tokens declared rest = (a b : Token) × (start end : List ℕ) × IsCode a start × IsCode b end
    × (((d : Token) × (units : List ℕ) × (tokens ≡ a ∷ b ∷ d ∷ rest) × IsDestination d units × (declared ≡ declares_bf (big_endian start) (big_endian end) units ∷ []))
    -- [ ] with one destination for each code from start to end
    ⊎ ((ds : List Token) × (texts : List (List ℕ)) × (tokens ≡ a ∷ b ∷ Token.Name false (codes "[") ∷ ds ++ Token.Name false (codes "]") ∷ rest) × AllZip IsDestination ds texts
    × (length texts ≡ big_endian end + 1 - big_endian start) × (declared ≡ map (λ p. declares_bf p.0 p.0 p.1) (enumerate_from (big_endian start) texts))))

-- entries, what each declares, and the end of the section
abbrev pub AreEntries : Section → List Token → List (List Declaration) → List Token → Type 0
AreEntries section tokens [] rest = tokens ≡ Token.Name false (codes "end" ++ section_name section) ∷ rest
AreEntries section tokens (declared ∷ others) rest = (mid : List Token) × IsEntry section tokens declared mid × AreEntries section mid others rest

-- an item of a file, read from one or more tokens
pub data Item : Type 0 where
  -- a key, and its value unless the file ends
  key : List ℕ → Option Token → Item
  -- a section, by its declarations
  entries : List Declaration → Item
  use_of_base : Item
  other : Token → Item

-- a token that is a key
abbrev pub IsKey : Token → Type 0
IsKey t = (k : List ℕ) × Contains keys k × (t ≡ Token.Name true k)

-- a token that opens this section
abbrev pub Opens : Token → Section → Type 0
Opens t section = t ≡ Token.Name false (codes "begin" ++ section_name section)

-- a token that is an item by itself: no key, no use, and no opener of a section
abbrev pub IsOtherToken : Token → Type 0
IsOtherToken t = ((k : List ℕ) → Contains keys k → t ≢ Token.Name true k) × ((section : Section) → t ≢ Token.Name false (codes "begin" ++ section_name section)) × (t ≢ Token.Name false (codes "usecmap"))

-- the item that tokens begin with, and the tokens after it; only the last item may be a key without a value
abbrev pub IsItem : List Token → Item → List Token → Type 0
IsItem tokens (key k None) rest = Contains keys k × (tokens ≡ Token.Name true k ∷ []) × (rest ≡ [])
IsItem tokens (key k (Some value)) rest = Contains keys k × (tokens ≡ Token.Name true k ∷ value ∷ rest)
IsItem tokens (entries declared) rest = (section : Section) × (body : List Token) × (each : List (List Declaration)) × (tokens ≡ Token.Name false (codes "begin" ++ section_name section) ∷ body) × AreEntries section body each rest × (declared ≡ flat_map (λ ds. ds) each)
IsItem tokens use_of_base rest = tokens ≡ Token.Name false (codes "usecmap") ∷ rest
IsItem tokens (other t) rest = IsOtherToken t × (tokens ≡ t ∷ rest)

-- the tokens are these items, one after another
abbrev pub AreItems : List Token → List Item → Type 0
AreItems tokens [] = tokens ≡ []
AreItems tokens (item ∷ items) = (rest : List Token) × IsItem tokens item rest × AreItems rest items

-- the literal name that an item begins with
abbrev pub literal_head : Item → Option (List ℕ)
literal_head (key k value) = Some k
literal_head (other (Token.Name true bytes)) = Some bytes
literal_head _ = None

-- the names that the items use, where each use comes right after an item that begins with a literal name
abbrev pub names_used : Option (List ℕ) → List Item → Option (List (List ℕ))
names_used before [] = Some []
names_used before (use_of_base ∷ items) = option_and_then (λ name. option_map (λ names. name ∷ names) (names_used None items)) before
names_used before (item ∷ items) = names_used (literal_head item) items

abbrev pub declared_by : Item → List Declaration
declared_by (entries declared) = declared
declared_by _ = []

-- the value of an item with this key
abbrev pub value_under : List ℕ → Item → Option (Option Token)
value_under name (key k value) = if bytes_eq k name then Some value else None
value_under name _ = None

-- the value of the last item with this key; None if that item has no value, or if there is no such item
abbrev pub last_value : List ℕ → List Item → Option Token
last_value name items = option_and_then (λ value. value) (last_or None (filter_map (value_under name) items))

-- registry and ordering: the value of a string, or the bytes of a name
abbrev pub GivesText : Option Token → Option (List ℕ) → Type 0
GivesText (Some (Token.Name literal bytes)) text = text ≡ Some bytes
GivesText (Some (Token.String piece)) text = (value : List ℕ) × IsValue piece value × (text ≡ Some value)
GivesText _ text = text ≡ None

-- a supplement is a signed 32-bit integer
abbrev pub supplement_in : Option Token → Option ℤ
supplement_in (Some (Token.Numeral (Number.Integer n))) = if int_le (neg_ℤ (pos (2 ^ 31))) n && int_le n (pos (2 ^ 31 - 1)) then Some n else None
supplement_in _ = None

abbrev pub name_in : Option Token → Option (List ℕ)
name_in (Some (Token.Name literal bytes)) = Some bytes
name_in _ = None

abbrev pub mode_in : Option Token → Option Mode
mode_in (Some (Token.Numeral (Number.Integer (pos n)))) = mode_numbered n
mode_in _ = None

-- the character collection of these parts; None unless all parts are present
abbrev pub collection_of : Option (List ℕ) → Option (List ℕ) → Option ℤ → Option Collection
collection_of registry ordering supplement = option_and_then (λ r. option_and_then (λ o. option_map (λ s. record { family = family_of r o; supplement = s }) supplement) ordering) registry

-- the character collection that the values of its three keys name
abbrev pub IsCollection : Option Token → Option Token → Option Token → Option Collection → Type 0
IsCollection registry ordering supplement collection = (r o : Option (List ℕ)) × GivesText registry r × GivesText ordering o × (collection ≡ collection_of r o (supplement_in supplement))

-- the metadata that the items state
abbrev pub IsMetadata : List Item → FileMetadata → Type 0
IsMetadata items metadata = IsCollection (last_value (codes "Registry") items) (last_value (codes "Ordering") items) (last_value (codes "Supplement") items) metadata.collection
    × (metadata.name ≡ name_in (last_value (codes "CMapName") items)) × (metadata.mode ≡ mode_in (last_value (codes "WMode") items))

-- the bytes are a text with the content of the file
unfoldable pub IsTextFile : List ℕ → File → Type 0
IsTextFile bytes file = (tokens : List Token) × (items : List Item) × Tokens bytes tokens × AreItems tokens items
    × (names_used None items ≡ Some file.uses) × IsMetadata items file.metadata × (file.lists ≡ lists_of (flat_map declared_by items))
