-- The reading of the tokens of a text: the values of the tokens, or the wrong token and the reason. TextFiles alone defines the meaning of a file.
use Rattle.std.specs.Prelude.{◌≡◌, ℕ, zero, suc, ◌+◌, ◌-◌, ◌^◌, ◌==◌, ◌&&◌, nat_lt, nat_le, pos, Bool, true, false, List, [], ◌∷◌, ◌++◌, length, codes, bytes_eq, find, Option, Some, None, option_map, option_and_then, is_some, min, Result, Err, if◌then◌else◌}
use Rattle.cmap_values.specs.BigEndian.{big_endian}
use Rattle.cmap_tokens.specs.Numbers.{Number}
use Rattle.cmap_tokens.specs.Texts.{units_of}
use Rattle.cmap_tokens.specs.TokenReading.{string_value}
use Rattle.cmap_tokens.specs.Tokens.{Token}
use Rattle.cmap_tokens.specs.TokensLeft.{Left, start_of, tokens_of}
use Rattle.cmap_values.specs.Files.{CidEntry, Declaration, FileMetadata, Lists, lists_of}
use Rattle.cmap_values.specs.ListsAppended.{no_lists, append_lists}
use Rattle.cmap_values.specs.declared.fault.Reason.{Reason}
use Rattle.cmap_values.specs.declared.fault.Reason.TheVariants.{BracketExpected, CidExpected, CodeExpected, CodeLength, TextExpected, UnequalLengths, UseWithoutName}
use Rattle.cmap_values.specs.declared.fault.Stop.{Stop}
use Rattle.cmap_text.specs.TokenParsers.{Found, Refused, offset_of, Parser, done, head, giving, chain, repeat, ItemParser, reads, takes_value, wanted, run_item, next_in, repeated}
use Rattle.cmap_text.specs.TextFiles.{Extent, range, single, Section, codespace_range, cids, bf_range, bf_char, mapped, notdef, section_name, keys, declares_bf, declares_cid, Item, other, literal_head, last_value, name_in, mode_in, IsCollection}

-- ---- single tokens
-- whether a token is this executable name
abbrev pub is_executable : List ℕ → Token → Bool
is_executable name (Token.Name false bytes) = bytes_eq bytes name
is_executable name _ = false

-- the bytes of a string
abbrev pub value_in : Token → Option (List ℕ)
value_in (Token.String piece) = string_value piece
value_in _ = None

-- a code: the number of its bytes, and the number that the bytes write
pub record Code : Type 0 where
  pub len : ℕ
  pub number : ℕ

abbrev pub code_of : List ℕ → Option Code
code_of bytes = if nat_le 1 (length bytes) && nat_le (length bytes) 4 then Some (record { len = length bytes; number = big_endian bytes }) else None

abbrev pub code_in : Token → Option Code
code_in t = option_and_then code_of (value_in t)

-- why a token is no code
abbrev pub code_fault : Token → Reason
code_fault (Token.String piece) = CodeLength
code_fault _ = CodeExpected

abbrev pub next_code : Parser Code
next_code = head code_fault code_in

abbrev pub cid_in : Token → Option ℕ
cid_in (Token.Numeral (Number.Integer (pos n))) = if nat_lt n (2 ^ 32) then Some n else None
cid_in t = None

abbrev pub next_cid : Parser ℕ
next_cid = head (λ t. CidExpected) cid_in

abbrev pub destination_of : List ℕ → Option (List ℕ)
destination_of bytes = if nat_lt 0 (length bytes) then Some (units_of bytes) else None

abbrev pub destination_in : Token → Option (List ℕ)
destination_in t = option_and_then destination_of (value_in t)

abbrev pub next_destination : Parser (List ℕ)
next_destination = head (λ t. TextExpected) destination_in

-- ---- entries: the lists of a file with what they declare
abbrev pub adding : Lists → List Declaration → Lists
adding lists declared = append_lists lists (lists_of declared)

-- the CIDs of the codes from the first code of an entry on, filed by the length of the first code
abbrev pub filed : Code → ℕ → ℕ → ℕ × CidEntry
filed start end cid = (start.len, record { start = start.number; end = end; cid = cid })

-- the rest of an entry of CIDs after the first code: a code and a CID, or a CID
abbrev pub cids_after : Extent → Code → Parser (ℕ × CidEntry)
cids_after range start = chain next_code (λ end. giving (filed start end.number) next_cid)
cids_after single start = giving (filed start start.number) next_cid

-- the codes from low to high, which must have one length
abbrev pub codespace : Code → Code → Option (List Declaration)
codespace low high = if low.len == high.len then Some (Declaration.codespace (record { len = low.len; low = low.number; high = high.number }) ∷ []) else None

-- the codes from low to the code that this token is
abbrev pub codespace_to : Code → Token → Option (List Declaration)
codespace_to low t = option_and_then (codespace low) (code_in t)

abbrev pub codespace_fault : Token → Reason
codespace_fault t = if is_some (code_in t) then UnequalLengths else code_fault t

-- the codes from start to end have this destination
abbrev pub text_of : ℕ → ℕ → List ℕ → List Declaration
text_of start end units = declares_bf start end units ∷ []

-- a destination for each of count codes from start on, and the ] after the destinations
unfoldable pub list_in : ℕ → ℕ → Lists → Parser Lists
list_in zero start lists = head (λ t. BracketExpected) (λ t. if is_executable (codes "]") t then Some lists else None)
list_in (suc count) start lists = chain next_destination (λ units. list_in count (start + 1) (adding lists (text_of start start units)))

-- one destination, or None at the [ of a list of destinations
abbrev pub list_or_destination : Token → Option (Option (List ℕ))
list_or_destination t = if is_executable (codes "[") t then Some None else option_map Some (destination_in t)

abbrev pub texts_from : ℕ → ℕ → Lists → Option (List ℕ) → Parser Lists
texts_from start end lists None = list_in (end + 1 - start) start lists
texts_from start end lists (Some units) = done (adding lists (text_of start end units))

-- the rest of an entry after its first code
abbrev pub entry_after : Section → Code → Lists → Parser Lists
entry_after codespace_range start lists = giving (adding lists) (head codespace_fault (codespace_to start))
entry_after (cids kind extent) start lists = giving (λ p. adding lists (declares_cid kind p.0 p.1 ∷ [])) (cids_after extent start)
entry_after bf_range start lists = chain next_code (λ end. chain (head (λ t. TextExpected) list_or_destination) (texts_from start.number end.number lists))
entry_after bf_char start lists = giving (λ units. adding lists (text_of start.number start.number units)) next_destination

abbrev pub closer : Section → List ℕ
closer section = codes "end" ++ section_name section

-- the code that an entry of a section begins with, or none at the closer
abbrev pub code_or_closer : Section → Token → Option (Option Code)
code_or_closer section t = if is_executable (closer section) t then Some None else option_map Some (code_in t)

-- the entries of a section and its closer
abbrev pub body_in : Section → Lists → Parser Lists
body_in section lists = repeat code_fault (code_or_closer section) (λ now start. entry_after section start now) lists

-- ---- items
abbrev pub use_word : List ℕ
use_word = codes "usecmap"

abbrev pub opener : Section → List ℕ
opener section = codes "begin" ++ section_name section

-- all sections, in the order of the search for the section that a token opens
abbrev pub sections : List Section
sections = cids mapped range ∷ cids mapped single ∷ bf_range ∷ bf_char ∷ cids notdef range ∷ cids notdef single ∷ codespace_range ∷ []

abbrev pub opened_by : Token → Option Section
opened_by t = find (λ section. is_executable (opener section) t) sections

-- the key of a name
abbrev pub key_named : List ℕ → Option (List ℕ)
key_named name = find (bytes_eq name) keys

-- the key that a token is
abbrev pub key_in : Token → Option (List ℕ)
key_in (Token.Name true name) = key_named name
key_in _ = None

-- the values of the keys; None for a key without a value
pub record Values : Type 0 where
  pub registry : Option Token
  pub ordering : Option Token
  pub supplement : Option Token
  pub name : Option Token
  pub mode : Option Token

abbrev pub last_values : List Item → Values
last_values items = record {
  registry = last_value (codes "Registry") items;
  ordering = last_value (codes "Ordering") items;
  supplement = last_value (codes "Supplement") items;
  name = last_value (codes "CMapName") items;
  mode = last_value (codes "WMode") items;
}

-- the metadata that values state
abbrev pub AreSaid : Values → FileMetadata → Type 0
AreSaid values metadata = IsCollection values.registry values.ordering values.supplement metadata.collection × (metadata.name ≡ name_in values.name) × (metadata.mode ≡ mode_in values.mode)

-- the content of the items that are read so far
pub record Said : Type 0 where
  pub values : Values
  pub lists : Lists
  pub uses : List (List ℕ)
  -- the literal name that the last item begins with
  pub operand : Option (List ℕ)

abbrev pub no_values : Values
no_values = record { registry = None; ordering = None; supplement = None; name = None; mode = None }

abbrev pub nothing_said : Said
nothing_said = record { values = no_values; lists = no_lists; uses = []; operand = None }

-- the values after this key gets this value
abbrev pub with_value : Values → List ℕ → Option Token → Values
with_value values k value = record {
  registry = if bytes_eq k (codes "Registry") then value else values.registry;
  ordering = if bytes_eq k (codes "Ordering") then value else values.ordering;
  supplement = if bytes_eq k (codes "Supplement") then value else values.supplement;
  name = if bytes_eq k (codes "CMapName") then value else values.name;
  mode = if bytes_eq k (codes "WMode") then value else values.mode;
}

-- the content with one more item: a key, a section, a use of this file, or another token
abbrev pub with_key : Said → List ℕ → Option Token → Said
with_key old k value = record { values = with_value old.values k value; lists = old.lists; uses = old.uses; operand = Some k }

abbrev pub with_lists : Said → Lists → Said
with_lists old lists = record { values = old.values; lists = lists; uses = old.uses; operand = None }

abbrev pub with_use : Said → List ℕ → Said
with_use old name = record { values = old.values; lists = old.lists; uses = old.uses ++ name ∷ []; operand = None }

abbrev pub with_other : Said → Token → Said
with_other old t = record { values = old.values; lists = old.lists; uses = old.uses; operand = literal_head (other t) }

-- the content after the item that begins with this token; a use needs an operand
abbrev pub item_after : Said → Token → ItemParser Said
item_after old t = elim (opened_by t) [
  | Some section ↦ reads (giving (with_lists old) (body_in section old.lists))
  | None ↦ elim (is_executable use_word t) [
    | true ↦ wanted UseWithoutName (option_map (with_use old) old.operand)
    | false ↦ elim (key_in t) [ Some k ↦ takes_value (with_key old k) | None ↦ reads (done (with_other old t)) ]
  ]
]

abbrev pub item_said : Said → Token → Left → Found Said
item_said old t left = run_item t (item_after old t) left

-- the content after all the items that are left
unfoldable pub all_said : Said → Left → Found Said
all_said old left = repeated next_in item_said old left

-- nothing is found, and a text of this length is refused there, for that reason
abbrev pub StopsAt : {A : Type 0} → ℕ → Result A Refused → Stop → Type 0
StopsAt len found stop = (e : Refused) × (found ≡ Err e) × (stop.offset ≡ min (offset_of e) len) × (stop.reason ≡ e.reason)

-- the text is refused at its first token that can't stand at its place, or where no token comes, and for that reason
abbrev pub StopsText : List ℕ → Stop → Type 0
StopsText text stop = StopsAt (length text) (all_said nothing_said (tokens_of (start_of text))) stop
