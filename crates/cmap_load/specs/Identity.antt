-- The predefined CMaps Identity-H and Identity-V: codes of two bytes are CIDs. ISO 32000-1, 9.7.5.2.
use Rattle.std.specs.Prelude.{ℕ, pos, List, [], ◌∷◌, bytes_eq, codes, Option, Some, None, if◌then◌else◌}
use Rattle.cmap_values.specs.Names.{adobe_identity}
use Rattle.cmap_values.specs.Files.{Declaration, Mode, lists_of}
use Rattle.cmap_layers.specs.Layers.{Layer}

abbrev pub identity_layer : List ℕ → Mode → Layer
identity_layer name mode = record {
  metadata = record { collection = Some (record { family = adobe_identity; supplement = pos 0 }); name = Some name; mode = Some mode };
  lists = lists_of (Declaration.cid 2 (record { start = 0; end = 0xFFFF; cid = 0 }) ∷ Declaration.codespace (record { len = 2; low = 0; high = 0xFFFF }) ∷ []);
}

-- the text that such a name stands for if no file has the name: the text declares the same identity
abbrev pub identity_text : List ℕ → Option (List ℕ)
identity_text name =
    if bytes_eq name (codes "Identity-H") then Some (codes "/Registry (Adobe) /Ordering (Identity) /Supplement 0 /CMapName /Identity-H /WMode 0 begincodespacerange <0000> <FFFF> endcodespacerange begincidrange <0000> <FFFF> 0 endcidrange")
    else if bytes_eq name (codes "Identity-V") then Some (codes "/Registry (Adobe) /Ordering (Identity) /Supplement 0 /CMapName /Identity-V /WMode 1 begincodespacerange <0000> <FFFF> endcodespacerange begincidrange <0000> <FFFF> 0 endcidrange")
    else None
