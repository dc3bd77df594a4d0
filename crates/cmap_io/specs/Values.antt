-- The data that a value of JSON stands for.
use Rattle.std.specs.Prelude.{List, map, String, string_bytes}
use Rattle.std.specs.declared.alloc.Global.{Global}
use Rattle.serde_json.specs.Data.{Data, Items, Members, array, boolean, null, number, object, string, unsigned}
use Rattle.serde_json.specs.View.{items_of, members_of}
use Rattle.cmap_io.specs.declared.value.Value.{Value, fold-Value}
use Rattle.cmap_io.specs.declared.value.Value.TheOpen.{Value-F}

-- one level of a value, with the data of each value inside
abbrev pub view_step : Value-F Data → Data
view_step Value-F.Null = null
view_step (Value-F.Bool is_true) = boolean is_true
view_step (Value-F.Number n) = number (unsigned n)
view_step (Value-F.String text) = string (string_bytes text)
view_step (Value-F.Array items) = array (items_of items.items)
view_step (Value-F.Object members) = object (members_of members.entries)

abbrev pub view : Value → Data
view = fold-Value Data view_step

abbrev pub items_view : List Value → Items
items_view items = items_of (map view items)

abbrev pub members_view : List (String Global × Value) → Members
members_view members = members_of (map (λ member. (member.0, view member.1)) members)
