-- The CID of a code in a font's CMap, whose texts don't count: a character of a text is no CID.
use Rattle.std.specs.Prelude.{ℕ, List, [], Option, map}
use Rattle.cmap_layers.specs.Layers.{Layer}
use Rattle.cmap_layers.specs.Lookups.{cid_of}

abbrev pub without_texts : Layer → Layer
without_texts layer = record layer { lists = record layer.lists { bfs = [] } }

-- the CID that the declarations of CIDs and of notdefs give to a code of len bytes
abbrev pub declared_cid : List Layer → ℕ → ℕ → Option ℕ
declared_cid layers code len = cid_of (map without_texts layers) code len
