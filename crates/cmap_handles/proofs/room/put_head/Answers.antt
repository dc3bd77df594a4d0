use Rattle.std.proofs.Common.{arith}
use Rattle.cmap_handles.proofs.FilledRows.{head_lengths, head_put}
use Rattle.cmap_handles.proofs.room.put_head.Goals as goal

pub slice_bounds-copy_from_slice-end : goal.slice_bounds-copy_from_slice-end
slice_bounds-copy_from_slice-end g c = omega (arith, c.min-count.ensures)

pub copy_from_slice-requires : goal.copy_from_slice-requires
copy_from_slice-requires g c = head_lengths c.args.items.now c.args.room.now c.min-count.result c.min-count.ensures

pub returns : goal.returns
returns g c = head_put c.args.items.now c.args.room.now c.copy_from_slice.new.self c.min-count.result c.min-count.ensures c.copy_from_slice.ensures.after
