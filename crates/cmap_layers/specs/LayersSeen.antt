-- What contracts see of layers.
use Rattle.std.specs.Prelude.{List, map}
use Rattle.std.specs.Global.{Vec}
pub use Rattle.cmap_values.specs.MetadataSeen.{family_seen, collection_seen, mode_seen, metadata_seen, HoldsTexts}
use Rattle.cmap_values.specs.Files as files
use Rattle.cmap_layers.specs.Layers as layers
use Rattle.cmap_values.specs.DeclarationsSeen.{entries_seen, bf_entry_seen, codespace_seen}
use Rattle.cmap_values.specs.declared.declarations.ByLength.{ByLength}
use Rattle.cmap_values.specs.declared.declarations.CidRange.{CidRange}
use Rattle.cmap_layers.specs.declared.layer.Layer.{Layer}

-- a table is seen as its list
abbrev pub by_length_seen : ByLength (List CidRange) → files.ByLength
by_length_seen tables = record { one = entries_seen tables.one; two = entries_seen tables.two; three = entries_seen tables.three; four = entries_seen tables.four }

-- the lists for codes of each length, as tables hold them
abbrev pub lists_held : ByLength (Vec CidRange) → ByLength (List CidRange)
lists_held lists = record { one = lists.one.items; two = lists.two.items; three = lists.three.items; four = lists.four.items }

abbrev pub layer_seen : Layer → layers.Layer
layer_seen layer = record {
  metadata = metadata_seen layer.metadata;
  lists = record {
    cids = by_length_seen layer.cids;
    notdefs = by_length_seen layer.others.notdefs;
    bfs = map bf_entry_seen layer.others.bfs;
    spaces = map codespace_seen layer.spaces;
  };
}

abbrev pub layers_seen : List Layer → List layers.Layer
layers_seen xs = map layer_seen xs
