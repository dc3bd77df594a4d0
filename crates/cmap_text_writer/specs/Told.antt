-- Written bytes, and what a reader finds in them.
use Rattle.std.specs.Prelude.{◌≡◌, ℕ, ◌≤◌, List, [], ◌∷◌, ◌++◌, All, false, codes, flat_map, length}
use Rattle.std.specs.List.{AllByRecursion, AllZip}
use Rattle.cmap_values.specs.Files.{BfEntry, Declaration}
use Rattle.cmap_tokens.specs.Tokens.{Token, Tokens}
use Rattle.cmap_text_writer.specs.Fits.{IsLine, IsSmallText}
use Rattle.cmap_text_writer.specs.Layout.{Block, IsSection, block_spelled, declared_in, line_spelled}
use Rattle.cmap_text.specs.TextFiles.{AreEntries, AreItems, Extent, IsDestination, IsEntry, Item, Section, bf_char, bf_range, declared_by, entries, other, range, single}

-- the new bytes are the old ones and bytes for which P holds
abbrev pub Appends : List ℕ → List ℕ → (List ℕ → Type 0) → Type 0
Appends old new P = (bytes : List ℕ) × (new ≡ old ++ bytes) × P bytes

-- whatever text follows these bytes, a reader finds these tokens and then the tokens of that text
pub record TellsTokens (tokens : List Token) (bytes : List ℕ) : Type 0 where
  pub read : (rest : List ℕ) (more : List Token) → Tokens rest more → Tokens (bytes ++ rest) (tokens ++ more)

-- the sections of texts
abbrev pub text_section : Extent → Section
text_section range = bf_range
text_section single = bf_char

-- an entry of a section, which makes these declarations
pub record TellsEntry (section : Section) (declared : List Declaration) (bytes : List ℕ) : Type 0 where
  pub tokens : List Token
  pub told : TellsTokens tokens bytes
  pub is : (rest : List Token) → IsEntry section (tokens ++ rest) declared rest

-- entries of a section, which make these declarations in order
pub record TellsEntries (section : Section) (declared : List Declaration) (bytes : List ℕ) : Type 0 where
  pub tokens : List Token
  pub each : List (List Declaration)
  pub flat : flat_map (λ ds. ds) each ≡ declared
  pub told : TellsTokens tokens bytes
  pub are : (rest end : List Token) (others : List (List Declaration)) → AreEntries section rest others end → AreEntries section (tokens ++ rest) (each ++ others) end

-- texts of an array, in order
pub record TellsTexts (texts : List (List ℕ)) (bytes : List ℕ) : Type 0 where
  pub tokens : List Token
  pub told : TellsTokens tokens bytes
  pub are : AllZip IsDestination tokens texts

-- an array of texts
pub record TellsArray (texts : List (List ℕ)) (bytes : List ℕ) : Type 0 where
  pub tokens : List Token
  pub told : TellsTokens (Token.Name false (codes "[") ∷ tokens ++ Token.Name false (codes "]") ∷ []) bytes
  pub are : AllZip IsDestination tokens texts

-- items, followed by the items of any text after the bytes
pub record TellsItems (items : List Item) (bytes : List ℕ) : Type 0 where
  pub tokens : List Token
  pub told : TellsTokens tokens bytes
  pub are : (rest : List Token) (more : List Item) → AreItems rest more → AreItems (tokens ++ rest) (items ++ more)

-- an item of sections: the count before a section, or a section of at most 100 entries
abbrev pub IsOfSections : Item → Type 0
IsOfSections (entries declared) = length declared ≤ 100
IsOfSections (other (Token.Numeral n)) = Unit {0}
IsOfSections _ = ⊥

-- the new bytes are the old ones and `count` lines, which declare these texts
pub record HasLines (lengths : ℕ → ℕ) (es : List BfEntry) (count : ℕ) (old new : List ℕ) : Type 0 where
  pub each : List (BfEntry × List BfEntry)
  pub counted : length each ≡ count
  pub flat : flat_map (λ l. l.0 ∷ l.1) each ≡ es
  pub rows : All (λ l. IsLine (l.0 ∷ l.1)) each
  pub small : All IsSmallText es
  pub spelled : new ≡ old ++ flat_map (λ l. line_spelled lengths (l.0 ∷ l.1)) each

-- sections that make these declarations, in order, where `lengths` gives the number of bytes of the codes of texts
pub record TellsSections (lengths : ℕ → ℕ) (declared : List Declaration) (bytes : List ℕ) : Type 0 where
  pub items : List Item
  pub told : TellsItems items bytes
  pub all : AllByRecursion IsOfSections items
  pub flat : flat_map declared_by items ≡ declared
  pub blocks : List Block
  pub served : All IsSection blocks
  pub says : flat_map declared_in blocks ≡ declared
  pub spelled : bytes ≡ flat_map (block_spelled lengths) blocks

-- sections that make these declarations, for any number of bytes of the codes of texts
pub record TellsAnyway (declared : List Declaration) (bytes : List ℕ) : Type 0 where
  pub at : (lengths : ℕ → ℕ) → TellsSections lengths declared bytes
