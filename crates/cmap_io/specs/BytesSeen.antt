-- The bytes of a file that contracts see, whoever holds them.
use Rattle.std.specs.Prelude.{ℕ, List}
use Rattle.std.specs.Rc.{rc_slice_items}
use Rattle.cmap_io.specs.declared.file_bytes.FileBytes.{FileBytes}
use Rattle.cmap_io.specs.declared.file_bytes.FileBytes.TheVariants.{Lent, Read}

abbrev pub bytes_seen : FileBytes → List ℕ
bytes_seen (Lent bytes) = bytes.now
bytes_seen (Read bytes) = rc_slice_items bytes
