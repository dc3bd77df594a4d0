-- The first fault of a text, and the content before it.
use Rattle.std.specs.Prelude.{◌≡◌, ℕ, ◌≤◌, nat_lt, Bool, false, List, [], ◌∷◌, ◌++◌, ◌⊎◌, codes, flat_map, length, map, take_while, Some, None, if◌then◌else◌}
use Rattle.cmap_tokens.specs.Tokens.{Token}
use Rattle.cmap_tokens.specs.TokensLeft.{EndedToken, start_of, tokens_of}
use Rattle.cmap_values.specs.Files.{Declaration, Lists, lists_of}
use Rattle.cmap_values.specs.ListsAppended.{append_lists}
use Rattle.cmap_values.specs.declared.fault.Reason.{Reason}
use Rattle.cmap_values.specs.declared.fault.Reason.TheVariants.{UnclosedString}
use Rattle.cmap_values.specs.declared.fault.Stop.{Stop}
use Rattle.cmap_text.specs.FaultyTexts.{Found, InRows, TextRead}
use Rattle.cmap_text.specs.TextFiles.{IsEntry, IsItem, Item, Section, declared_by, names_used, section_name}
use Rattle.cmap_text.specs.TextReading.{StopsText}

-- ---- the first fault
-- the offset at which a text of this length is refused for a fault; for an unclosed string this is the length, because only the end of the text shows the fault
abbrev pub refused_at : ℕ → Reason → ℕ → ℕ
refused_at len UnclosedString offset = len
refused_at len _ offset = offset

abbrev pub refusal_of : ℕ → Stop → Stop
refusal_of len fault = record { offset = refused_at len fault.reason fault.offset; reason = fault.reason }

-- if reading up to the first fault refuses the text with `refusal`, then reading past the faults finds `fault` first: the same fault, or in rows perhaps an earlier fault
abbrev pub IsFirstOf : List ℕ → Stop → Stop → Type 0
IsFirstOf text fault refusal = (stop : Stop) × (more : List Stop) × (found : Found) × (refusal ≡ refusal_of (length text) stop) × (fault.offset ≤ stop.offset) × (InRows text false → fault ≡ stop) × TextRead text found × (found.faults ≡ fault ∷ more)

abbrev pub BeginsRefused : List ℕ → List Stop → Type 0
BeginsRefused text faults = (fault : Stop) × (more : List Stop) × (refusal : Stop) × (faults ≡ fault ∷ more) × StopsText text refusal × IsFirstOf text fault refusal

-- ---- what comes before the first fault
-- the first entries of a section, and what each declares
abbrev pub AreFirstEntries : Section → List Token → List (List Declaration) → Type 0
AreFirstEntries section tokens [] = Unit {0}
AreFirstEntries section tokens (declared ∷ others) = (rest : List Token) × IsEntry section tokens declared rest × AreFirstEntries section rest others

-- tokens open a section, and the first entries of the section declare this
abbrev pub OpenSection : List Token → List (List Declaration) → Type 0
OpenSection tokens each = (section : Section) × (body : List Token) × (tokens ≡ Token.Name false (codes "begin" ++ section_name section) ∷ body) × AreFirstEntries section body each

-- tokens begin with these items, and perhaps with the first entries of a section after them; the entries declare this
abbrev pub BeginWithItems : List Token → List Item → List (List Declaration) → Type 0
BeginWithItems tokens [] each = (each ≡ []) ⊎ OpenSection tokens each
BeginWithItems tokens (first ∷ items) each = (rest : List Token) × IsItem tokens first rest × BeginWithItems rest items each

-- the lists begin with the lists `front`
abbrev pub BeginWithLists : Lists → Lists → Type 0
BeginWithLists front lists = (more : Lists) × (lists ≡ append_lists front more)

-- the first tokens, which end before the first of these faults
abbrev pub tokens_before : List Stop → List EndedToken → List EndedToken
tokens_before [] tokens = tokens
tokens_before (fault ∷ more) tokens = take_while (λ p. nat_lt p.end fault.offset) tokens

-- the tokens of a text with these faults whose content is kept: the tokens before the first malformed piece, or in rows before the first fault
abbrev pub tokens_kept : Bool → List ℕ → List Stop → List EndedToken
tokens_kept rows text faults = let tokens = (tokens_of (start_of text)).tokens in if rows then tokens_before faults tokens else tokens

-- for all items and entries with which these tokens begin, the lists begin with the declarations of these items and entries, and the uses begin with the names that the items use
abbrev pub Fronts : List Token → Lists → List (List ℕ) → Type 0
Fronts tokens lists uses = (items : List Item) (each : List (List Declaration)) (names : List (List ℕ)) → BeginWithItems tokens items each → names_used None items ≡ Some names
    → BeginWithLists (lists_of (flat_map declared_by items ++ flat_map (λ ds. ds) each)) lists × ((more : List (List ℕ)) × (uses ≡ names ++ more))

-- the content before the first fault of a text is kept
abbrev pub KeepsFronts : List ℕ → List Stop → Lists → List (List ℕ) → Type 0
KeepsFronts text faults lists uses = (rows : Bool) × InRows text rows × Fronts (map (λ p. p.token) (tokens_kept rows text faults)) lists uses
