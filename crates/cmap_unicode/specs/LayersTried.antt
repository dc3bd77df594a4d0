-- Private aid: the declaration of one layer for a code.
use Rattle.std.specs.Prelude.{ℕ, Option, None, Some}
use Rattle.cmap_values.specs.Files.{CidEntry, of_length}
use Rattle.cmap_layers.specs.Layers.{Layer}
use Rattle.cmap_layers.specs.Lookups.{cid_at, last_cid}

-- the CID of a CID declaration, or else the CID of a notdef
abbrev pub declared_by : ℕ → Option CidEntry → Option CidEntry → Option (Option ℕ)
declared_by code (Some e) notdef = Some (cid_at e code)
declared_by code None (Some e) = Some (Some e.cid)
declared_by code None None = None

abbrev pub declared_in : Layer → ℕ → ℕ → Option (Option ℕ)
declared_in layer code len = declared_by code (last_cid (of_length layer.lists.cids len) code) (last_cid (of_length layer.lists.notdefs len) code)
