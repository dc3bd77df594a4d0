-- The text that is written for a file.
use Rattle.std.specs.Prelude.{ℕ, IsTrue, List, length, nat_le}
use Rattle.std.specs.List.{list_all}
use Rattle.cmap_values.specs.Files.{File}
use Rattle.cmap_tokens.specs.Tokens.{Token, Tokens}
use Rattle.cmap_text_writer.specs.Layout.{IsLaidOut}
use Rattle.cmap_text.specs.TextFiles.{AreItems, IsTextFile, Item, declared_by}

-- no section of the text has more than 100 declarations
abbrev pub HasShortSections : List ℕ → Type 0
HasShortSections text = (tokens : List Token) × (items : List Item) × Tokens text tokens × AreItems tokens items × IsTrue (list_all (λ item. nat_le (length (declared_by item)) 100) items)

pub record IsWritten (lengths : ℕ → ℕ) (file : File) (text : List ℕ) : Type 0 where
  pub is : IsTextFile text file
  pub laid : IsLaidOut lengths file text
  pub short : HasShortSections text
