-- The declarations of a layer and the codes of a CID, in their C form.
use Rattle.std.specs.Prelude.{ℕ, List, Option, length, map, option_and_then, slice_get}
use Rattle.cmap_values.specs.declared.range.Range.{Range}
use Rattle.cmap_values.specs.Files.{BfEntry, CidEntry, of_length}
use Rattle.cmap_layers.specs.CodeStretches.{AreCodesOfCid}
use Rattle.cmap_layers.specs.Layers.{Layer}
use Rattle.cmap_handles.specs.Handles.{layer_in}
use Rattle.cmap_handles.specs.Rooms.{IsPut}
use Rattle.cmap_handles.specs.declared.ranges.CodeRange.{CodeRange}
use Rattle.cmap_handles.specs.declared.ranges.DeclaredCids.{DeclaredCids}
use Rattle.cmap_handles.specs.declared.ranges.DeclaredTexts.{DeclaredTexts}

-- declarations and consecutive codes in their C form
abbrev pub cid_range_seen : CidEntry → DeclaredCids
cid_range_seen entry = record { first = entry.start; last = entry.end; cid = entry.cid }

abbrev pub text_range_seen : BfEntry → DeclaredTexts
text_range_seen entry = record { first = entry.start; last = entry.end; units = length entry.units }

abbrev pub code_range_seen : Range → CodeRange
code_range_seen range = record { first = range.start; last = range.end }

-- the declarations of CIDs for codes of len bytes, in the order of the file
abbrev pub cids_declared : Layer → ℕ → List DeclaredCids
cids_declared layer len = map cid_range_seen (of_length layer.lists.cids len)

-- the declarations of notdefs for codes of len bytes, in the order of the file
abbrev pub notdefs_declared : Layer → ℕ → List DeclaredCids
notdefs_declared layer len = map cid_range_seen (of_length layer.lists.notdefs len)

-- the declarations of texts, in the order of the file
abbrev pub texts_declared : Layer → List DeclaredTexts
texts_declared layer = map text_range_seen layer.lists.bfs

-- the declaration of texts at an index in a layer
abbrev pub text_in : Option (List Layer) → ℕ → ℕ → Option BfEntry
text_in map layer index = option_and_then (λ given. slice_get given.lists.bfs index) (layer_in map layer)

-- the ranges of all codes of len bytes with the CID, and of no others, go to a buffer
abbrev pub ArePutCodes : List Layer → ℕ → ℕ → List CodeRange → List CodeRange → ℕ → ℕ → Type 0
ArePutCodes layers len cid old new needed status = (ranges : List Range) × AreCodesOfCid layers len cid ranges × IsPut (map code_range_seen ranges) old new needed status
