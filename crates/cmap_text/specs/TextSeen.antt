-- What contracts see of the values that the code reads from a text.
use Rattle.std.specs.Prelude.{ℕ, List, codes, option_map}
use Rattle.std.specs.Option.{option_copied}
use Rattle.cmap_tokens.specs.TokenSeen.{token_seen}
use Rattle.cmap_values.specs.CodeLengths.{length_of}
use Rattle.cmap_values.specs.DeclarationsSeen.{lists_seen}
use Rattle.cmap_values.specs.NamesSeen.{names_seen}
use Rattle.cmap_text.specs.TextFiles as files
use Rattle.cmap_text.specs.TextReading as reading
use Rattle.cmap_text.specs.declared.entries.CidKind.{CidKind}
use Rattle.cmap_text.specs.declared.entries.CidKind.TheVariants.{Cid, Notdef}
use Rattle.cmap_text.specs.declared.entries.Extent.{Extent}
use Rattle.cmap_text.specs.declared.entries.Extent.TheVariants.{Range, Single}
use Rattle.cmap_text.specs.declared.sections.Section.{Section}
use Rattle.cmap_text.specs.declared.sections.Section.TheVariants.{Codespaces, Cids, BfRange, BfChar}
use Rattle.cmap_text.specs.declared.items.Said.{Said}
use Rattle.cmap_text.specs.declared.keys.Key.{Key}
use Rattle.cmap_text.specs.declared.keys.Key.TheVariants.{Registry, Ordering, Supplement, CMapName, WMode}
use Rattle.cmap_text.specs.declared.keys.Values.{Values}
use Rattle.cmap_text.specs.declared.tokens.Code.{Code}

abbrev pub kind_seen : CidKind → files.CidKind
kind_seen Cid = files.mapped
kind_seen Notdef = files.notdef

abbrev pub extent_seen : Extent → files.Extent
extent_seen Range = files.range
extent_seen Single = files.single

abbrev pub section_seen : Section → files.Section
section_seen Codespaces = files.codespace_range
section_seen (Cids kind extent) = files.cids (kind_seen kind) (extent_seen extent)
section_seen BfRange = files.bf_range
section_seen BfChar = files.bf_char

abbrev pub code_seen : Code → reading.Code
code_seen code = record { len = length_of code.len; number = code.number }

abbrev pub key_name : Key → List ℕ
key_name Registry = codes "Registry"
key_name Ordering = codes "Ordering"
key_name Supplement = codes "Supplement"
key_name CMapName = codes "CMapName"
key_name WMode = codes "WMode"

abbrev pub values_seen : Values → reading.Values
values_seen values = record {
  registry = option_map token_seen values.registry;
  ordering = option_map token_seen values.ordering;
  supplement = option_map token_seen values.supplement;
  name = option_map token_seen values.name;
  mode = option_map token_seen values.mode;
}

abbrev pub said_seen : Said → reading.Said
said_seen said = record { values = values_seen said.values; lists = lists_seen said.lists; uses = names_seen said.uses.items; operand = option_copied said.operand }
