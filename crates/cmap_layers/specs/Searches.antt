-- The answers of lookups over layers, and the number of runs that a search of a list of declarations, or a lookup, may look at.
use Rattle.std.specs.Prelude.{◌≡◌, ℕ, ◌+◌, ◌*◌, ◌<◌, ◌&&◌, nat_le, List, map, length, sum_by, if◌then◌else◌, Bool, true, false, Option, Some, None, Result, Ok, Err, IfOk, IsSomeAnd, OnErr, is_some, option_map}
use Rattle.std.specs.declared.alloc.AllocError.{AllocError}
use Rattle.cmap_runs.specs.Ranges.{Span, digits, runs_of}
use Rattle.cmap_runs.specs.SearchLooks.{LooksAtMost}
use Rattle.cmap_runs.specs.declared.runs.looks.Looks.{Looks}
use Rattle.cmap_tokens.specs.Texts.{text_of_characters}
use Rattle.cmap_tokens.specs.TextSeen.{text_seen}
use Rattle.cmap_tokens.specs.declared.utf16.BfString.{BfString}
use Rattle.cmap_values.specs.CodeLengths.{IsCodeLength}
use Rattle.cmap_values.specs.Files.{BfEntry, CidEntry, of_length}
use Rattle.cmap_layers.specs.Layers.{Layer}
use Rattle.cmap_layers.specs.Lookups.{InCodespace, bf_of, bf_span, cid_of, cid_span, last_cid}
use Rattle.cmap_layers.specs.LayersDecide.{character_at, other_cid}

-- the number of runs that a search of a list may look at: the binary digits of the number of its maximal runs
abbrev pub search_looks : List Span → ℕ
search_looks spans = digits (length (runs_of spans))

-- the same number, summed over the lists of a layer that decide a CID
abbrev pub layer_looks : Layer → ℕ → ℕ
layer_looks layer len = search_looks (map cid_span (of_length layer.lists.cids len)) + search_looks (map cid_span (of_length layer.lists.notdefs len)) + search_looks (map bf_span layer.lists.bfs)

-- the same number, summed over all layers; nothing is looked at for a length that no code has
abbrev pub cid_looks : List Layer → ℕ → ℕ
cid_looks layers len = if nat_le 1 len && nat_le len 4 then sum_by (λ layer. layer_looks layer len) layers else 0

-- the number of runs that a search for the text of a code may look at, over all layers
abbrev pub bf_looks : List Layer → ℕ
bf_looks layers = sum_by (λ layer. search_looks (map bf_span layer.lists.bfs)) layers

-- whether a lookup, which may run out of memory, finds a text
abbrev pub finds_text : {A E : Type 0} → Result (Option A) E → Bool
finds_text (Ok (Some text)) = true
finds_text (Ok None) = false
finds_text (Err e) = false

-- the CID of a code of len bytes is looked up
pub record FindsCid (layers : List Layer) (code len : ℕ) (before after : Looks) (cid : Option ℕ) : Type 0 where
  -- a scan of the declarations backward, layer by layer, gives this CID
  pub value : cid ≡ cid_of layers code len
  -- for each list that may be searched, at most as many runs are looked at as their number has binary digits, and one declaration for each of a layer's three lists: CIDs, notdef CIDs, texts; an answer comes from a run and from a declaration
  pub looks : LooksAtMost before after (cid_looks layers len) (3 * length layers) (is_some cid)
  -- nothing is looked at for a length that no code has
  pub outside : (IsCodeLength len → ⊥) → after ≡ before

-- the CID of a code that lies in a codespace range; no other code has one
pub record IsStrictCid (layers : List Layer) (code len : ℕ) (cid : Option ℕ) : Type 0 where
  pub within : InCodespace layers code len → cid ≡ cid_of layers code len
  pub outside : (InCodespace layers code len → ⊥) → cid ≡ None

-- the text of a code, or that memory ran out for a text of more than one character
pub record GivesText (layers : List Layer) (code : ℕ) (result : Result (Option BfString) AllocError) : Type 0 where
  pub value : IfOk result (λ text. option_map text_seen text ≡ option_map text_of_characters (bf_of layers code))
  pub err : OnErr result (IsSomeAnd (bf_of layers code) (λ characters. 1 < length characters))

-- for each layer, at most as many runs are looked at as their number has binary digits, and one declaration; an answer comes from a run and from a declaration
pub record FindsText (layers : List Layer) (code : ℕ) (before after : Looks) (result : Result (Option BfString) AllocError) : Type 0 where
  pub text : GivesText layers code result
  pub looks : LooksAtMost before after (bf_looks layers) (length layers) (finds_text result)

-- the CID of a code without a CID declaration is looked up, in the notdefs and the texts of a layer
pub record FindsOtherCid (notdefs : List CidEntry) (bfs : List BfEntry) (code : ℕ) (before after : Looks) (cid : Option ℕ) : Type 0 where
  pub value : cid ≡ other_cid (last_cid notdefs code) (character_at bfs code)
  pub looks : LooksAtMost before after (search_looks (map cid_span notdefs) + search_looks (map bf_span bfs)) 2 (is_some cid)
