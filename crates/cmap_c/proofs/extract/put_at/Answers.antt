use Rattle.std.proofs.Common.{refl}
use Rattle.cmap_c.proofs.CharactersExtracted.{is_put, part_length}
use Rattle.cmap_c.proofs.extract.put_at.Goals as goal

pub overflow_sub-room : goal.overflow_sub-room
overflow_sub-room c = c.requires

pub copy_from_slice-requires : goal.copy_from_slice-requires
copy_from_slice-requires c = part_length c.args.bytes.now c.args.room.now c.args.start c.requires c.if-bytes-room.false

pub returns-then-bytes-room : goal.returns-then-bytes-room
returns-then-bytes-room c = (refl, c.if-bytes-room.true)

pub returns : goal.returns
returns c = is_put c.args.bytes.now c.args.room.now c.args.start c.requires c.if-bytes-room.false c.copy_from_slice.new.self c.copy_from_slice.ensures.after
