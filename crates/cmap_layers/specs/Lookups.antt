-- The CID and the text of a code: the declarations are scanned backward, layer by layer.
use Rattle.std.specs.Prelude.{◌≡◌, ℕ, ◌+◌, ◌-◌, ◌^◌, ◌<◌, ◌≤◌, ◌&&◌, nat_le, nat_lt, List, [], ◌∷◌, Any, Option, Some, None, option_and_then, if◌then◌else◌}
use Rattle.std.specs.Option.{option_or}
use Rattle.cmap_tokens.specs.Texts.{text_at, only_character}
use Rattle.cmap_runs.specs.Ranges.{Span, last_of}
use Rattle.cmap_values.specs.Files.{CidEntry, BfEntry, of_length}
-- a code in a range, byte by byte
pub use Rattle.cmap_codespaces.specs.CodesWithin.{IsWithin, byte_at}
use Rattle.cmap_layers.specs.Layers.{Layer}

abbrev pub cid_span : CidEntry → Span
cid_span e = record { start = e.start; end = e.end }

abbrev pub bf_span : BfEntry → Span
bf_span e = record { start = e.start; end = e.end }

-- the last declaration that contains the code
abbrev pub last_cid : List CidEntry → ℕ → Option CidEntry
last_cid entries code = last_of cid_span entries code

abbrev pub last_bf : List BfEntry → ℕ → Option BfEntry
last_bf entries code = last_of bf_span entries code

-- the CID that a CID declaration gives to a code: it counts on from the first CID, as far as 32 bits go
abbrev pub cid_at : CidEntry → ℕ → Option ℕ
cid_at e code = let cid = e.cid + (code - e.start) in if nat_lt cid (2 ^ 32) then Some cid else None

abbrev pub bf_at : BfEntry → ℕ → Option (List ℕ)
bf_at e code = text_at e.units (code - e.start)

-- the first of these that exists decides: a CID declaration, a notdef declaration, a character, the answer of the layers below
abbrev pub decided_cid : ℕ → Option CidEntry → Option CidEntry → Option ℕ → Option ℕ → Option ℕ
decided_cid code (Some e) notdef character below = cid_at e code
decided_cid code None (Some e) character below = Some e.cid
decided_cid code None None (Some c) below = Some c
decided_cid code None None None below = below

abbrev pub cid_in : List Layer → ℕ → ℕ → Option ℕ
cid_in [] code len = None
cid_in (layer ∷ layers) code len = decided_cid code (last_cid (of_length layer.lists.cids len) code) (last_cid (of_length layer.lists.notdefs len) code)
    (only_character (option_and_then (λ e. bf_at e code) (last_bf layer.lists.bfs code))) (cid_in layers code len)

-- the CID of a code of len bytes
abbrev pub cid_of : List Layer → ℕ → ℕ → Option ℕ
cid_of layers code len = if nat_le 1 len && nat_le len 4 then cid_in layers code len else None

-- a bf declaration decides, even if it yields no text; without one, the layers below decide
abbrev pub decided_text : ℕ → Option BfEntry → Option (List ℕ) → Option (List ℕ)
decided_text code (Some e) below = bf_at e code
decided_text code None below = below

-- the characters of the text of a code
abbrev pub bf_of : List Layer → ℕ → Option (List ℕ)
bf_of [] code = None
bf_of (layer ∷ layers) code = decided_text code (last_bf layer.lists.bfs code) (bf_of layers code)

-- the declaration that decides the text of a code, in the first layer that has a declaration for the code
abbrev pub deciding_bf : List Layer → ℕ → Option BfEntry
deciding_bf [] code = None
deciding_bf (layer ∷ layers) code = option_or (last_bf layer.lists.bfs code) (deciding_bf layers code)

-- a codespace range of some layer contains the code of len bytes
abbrev pub InCodespace : List Layer → ℕ → ℕ → Type 0
InCodespace layers code len = (1 ≤ len) × (len ≤ 4) × (code < 256 ^ len) × Any (λ layer. Any (λ space. IsWithin space code len) layer.lists.spaces) layers

-- a codespace range of some layer has codes of len bytes
abbrev pub HasLength : List Layer → ℕ → Type 0
HasLength layers len = Any (λ layer. Any (λ space. space.len ≡ len) layer.lists.spaces) layers
