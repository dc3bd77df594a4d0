-- The memory that a handle owns.
use Rattle.std.specs.Prelude.{Option, None, Some}
use base.Fml.{Fml, ftrue}
use denote.RattleType.{RattleType}
use denote.RawPtr.{Ptr}
use Rattle.std.specs.Box.Ownership.{box_owns}
use Rattle.std.specs.declared.alloc.Global.{Global}
use Rattle.std.specs.contracts.impls.GlobalAllocator.TheImpl.{ghosts}
use Rattle.cmap_layers.specs.contracts.layers.Layers as map
use Rattle.cmap_binary.specs.contracts.owned_bundle.OwnedBundle as bundle
use Rattle.cmap_handles.specs.contracts.shared.Shared as shared

-- ownership of the value at the pointer and of its block, where there is a value
abbrev pub held : (R : RattleType) → Global → Ptr → Option R.Denot → Fml
held R alloc at None = ftrue
held R alloc at (Some value) = box_owns (ghosts.dealloc_token alloc) R at value

abbrev pub shared_map : RattleType
shared_map = shared.the_row map.the_row

abbrev pub shared_bundle : RattleType
shared_bundle = shared.the_row bundle.the_row
