-- The decisions of one layer by itself, which the layers below can't change.
use Rattle.std.specs.Prelude.{ℕ, List, Option, Some, None, option_and_then}
use Rattle.cmap_tokens.specs.Texts.{only_character}
use Rattle.cmap_values.specs.Files.{BfEntry, CidEntry, of_length}
use Rattle.cmap_layers.specs.Layers.{Layer}
use Rattle.cmap_layers.specs.Lookups.{cid_at, bf_at, last_cid, last_bf}
pub use Rattle.cmap_layers.specs.Lookups.{deciding_bf}

-- the decision of a layer by itself, if there is one: the CID of a code, or that the code has no CID
abbrev pub decided_in : ℕ → Option CidEntry → Option CidEntry → Option ℕ → Option (Option ℕ)
decided_in code (Some e) notdef character = Some (cid_at e code)
decided_in code None (Some e) character = Some (Some e.cid)
decided_in code None None (Some c) = Some (Some c)
decided_in code None None None = None

-- a code without a CID declaration has the CID of a notdef declaration, or else a character
abbrev pub other_cid : Option CidEntry → Option ℕ → Option ℕ
other_cid (Some e) character = Some e.cid
other_cid None character = character

-- the text of a code, if it is one character
abbrev pub character_at : List BfEntry → ℕ → Option ℕ
character_at bfs code = only_character (option_and_then (λ e. bf_at e code) (last_bf bfs code))

abbrev pub layer_cid : Layer → ℕ → ℕ → Option (Option ℕ)
layer_cid layer code len = decided_in code (last_cid (of_length layer.lists.cids len) code) (last_cid (of_length layer.lists.notdefs len) code)
    (character_at layer.lists.bfs code)
