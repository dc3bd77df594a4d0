-- The value of a slot and of a handle after the borrow of their value ends.
use mathlib.Core.Option.{none}
use Rattle.std.specs.Prelude.{◌≡◌, List, Some, ⊤}
use Rattle.std.specs.Borrow.{Lends, MutBor, Fml, follows_so}
use Rattle.cmap_layers.specs.Layers.{Layer}
use Rattle.cmap_binary.specs.Bundles.{Bundle}
use Rattle.cmap_handles.specs.Held.{shared_bundle, shared_map}
use Rattle.cmap_handles.specs.declared.bundle.BundleHandle.{BundleHandle}
use Rattle.cmap_handles.specs.declared.handle.MapHandle.{MapHandle}
use Rattle.cmap_handles.specs.declared.slot.MapSlot.{MapSlot}
use Rattle.cmap_handles.specs.declared.slot.BundleSlot.{BundleSlot}
use Rattle.cmap_handles.specs.contracts.bundle.BundleHandle as bundle_handle
use Rattle.cmap_handles.specs.contracts.handle.MapHandle as map_handle
use Rattle.cmap_handles.specs.contracts.slot.MapSlot as map_slot
use Rattle.cmap_handles.specs.contracts.slot.BundleSlot as bundle_slot

-- the slot has the value that was left behind the reference
abbrev pub LendsMap : MutBor MapSlot → MutBor (List Layer) → Fml
LendsMap slot lent = Lends map_slot.the_row shared_map slot lent (λ map. record slot.now { map = Some map })

abbrev pub LendsBundle : MutBor BundleSlot → MutBor Bundle → Fml
LendsBundle slot lent = Lends bundle_slot.the_row shared_bundle slot lent (λ bundle. record slot.now { bundle = Some bundle })

-- the handle keeps its value
abbrev pub RestsMap : MutBor MapHandle → Fml
RestsMap handle = follows_so map_handle.the_row map_handle.the_row handle.ghost_name none (λ _ _. ⊤) (λ last. last.slot.map ≡ handle.now.slot.map)

abbrev pub RestsBundle : MutBor BundleHandle → Fml
RestsBundle handle = follows_so bundle_handle.the_row bundle_handle.the_row handle.ghost_name none (λ _ _. ⊤) (λ last. last.slot.bundle ≡ handle.now.slot.bundle)
