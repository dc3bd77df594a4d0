-- What a slot owns, a shared bundle and its block, says the same to every thread.
use mir.Raw.{raw}
use base.Shift.{Keyless}
use denote.Memory.{lone}
use denote.RawPtr.{Ptr}
use denote.Builtin.{RawPtr}
use denote.Struct.Struct.{exits_of}
use denote.Struct.Owning.{shape, fields, to}
use denote.Param.Send.{IsSend, AllSend, owning_send, struct_send, sendable}
use Rattle.std_alloc.proofs.SendSync.{quiet, lies}
use Rattle.std.proofs.Crossing.{crosses, frees}
use Rattle.std.proofs.alloc.Global.TheSendSync as heap
use Rattle.std.specs.Prelude.{Option, None, Some}
use Rattle.std.specs.declared.alloc.Global.{Global}
use Rattle.cmap_binary.proofs.owned_bundle.OwnedBundle.TheSendSync as whole
use Rattle.cmap_handles.specs.Held.{held, shared_bundle}
use Rattle.cmap_handles.specs.contracts.slot.BundleSlot.{the_row, the_type}

bundle_send : IsSend shared_bundle
bundle_send = search (sendable, crosses, whole.the_send, whole.the_sync) depth 20

held_keyless : (alloc : Global) (at : Ptr) (m : Option shared_bundle.Denot) → Keyless (held shared_bundle alloc at m)
held_keyless alloc at None = tt
held_keyless alloc at (Some value) = (lies shared_bundle bundle_send at value, frees.frees alloc (raw (lone shared_bundle.mir)) at)

pointer_send : IsSend RawPtr
pointer_send = search sendable

all_send : AllSend (fields the_type)
all_send = (pointer_send, (heap.the_field_send, tt))

pub send : IsSend the_row
send = owning_send the_type all_send (λ slot. held_keyless slot.alloc slot.at slot.bundle) (λ k. quiet (to the_type) (exits_of k (fields the_type)) ((struct_send (shape the_type) all_send).leaving k))
