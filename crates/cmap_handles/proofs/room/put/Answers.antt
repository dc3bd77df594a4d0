use Rattle.std.proofs.Common.{◌++◌, ap, drop, inl, inr, length, refl, sym}
use Rattle.std.proofs.lemmas.List.{length-take-le}
use Rattle.cmap_handles.proofs.room.put.Goals as goal

pub returns-then-items-room : goal.returns-then-items-room
returns-then-items-room g c = (refl, inr (c.if-items-room.true, c.number.ensures, refl))

pub slice_bounds-copy_from_slice-end : goal.slice_bounds-copy_from_slice-end
slice_bounds-copy_from_slice-end g c = c.if-items-room.false

pub slice_bounds-copy_from_slice-end-2 : goal.slice_bounds-copy_from_slice-end-2
slice_bounds-copy_from_slice-end-2 g c = sym (length-take-le (length c.args.items.now) c.args.room.now c.if-items-room.false)

pub copy_from_slice-requires : goal.copy_from_slice-requires
copy_from_slice-requires g c = length-take-le (length c.args.items.now) c.args.room.now c.if-items-room.false

pub returns : goal.returns
returns g c = (refl, inl (c.if-items-room.false, c.number-2.ensures, ap (λ head. head ++ drop (length c.args.items.now) c.args.room.now) c.copy_from_slice.ensures.after))
