-- What a slot owns, a loader and its block, is the same for every thread.
use mir.Raw.{raw}
use base.Shift.{Keyless}
use denote.Memory.{lone}
use denote.RawPtr.{Ptr}
use denote.Builtin.{RawPtr}
use denote.Struct.Struct.{exits_of}
use denote.Struct.Owning.{shape, fields, to}
use denote.Param.Send.{IsSend, AllSend, owning_send, struct_send, sendable}
use Rattle.std_alloc.proofs.SendSync.{quiet, lies}
use Rattle.std.proofs.Crossing.{crosses, frees}
use Rattle.std.proofs.alloc.Global.TheSendSync as heap
use Rattle.std.specs.Prelude.{Option, None, Some}
use Rattle.std.specs.declared.alloc.Global.{Global}
use Rattle.cmap_c.proofs.file_loader.FileLoader.TheSendSync as whole
use Rattle.cmap_handles.specs.Held.{held}
use Rattle.cmap_c.specs.LoaderRow.{held_loader}
use Rattle.cmap_c.specs.contracts.loader_slot.LoaderSlot.{the_row, the_type}

loader_send : IsSend held_loader
loader_send = search (sendable, crosses, whole.the_send) depth 20

held_keyless : (alloc : Global) (at : Ptr) (m : Option held_loader.Denot) → Keyless (held held_loader alloc at m)
held_keyless alloc at None = tt
held_keyless alloc at (Some value) = (lies held_loader loader_send at value, frees.frees alloc (raw (lone held_loader.mir)) at)

pointer_send : IsSend RawPtr
pointer_send = search sendable

all_send : AllSend (fields the_type)
all_send = (pointer_send, (heap.the_field_send, tt))

pub send : IsSend the_row
send = owning_send the_type all_send (λ slot. held_keyless slot.alloc slot.at slot.loader) (λ k. quiet (to the_type) (exits_of k (fields the_type)) ((struct_send (shape the_type) all_send).leaving k))
