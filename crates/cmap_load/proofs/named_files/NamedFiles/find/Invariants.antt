use Rattle.std.proofs.Common.{◌≡◌, drop}
use Rattle.cmap_load.specs.NamedFiles.{first_named}
use Rattle.cmap_load.proofs.named_files.NamedFiles.find.Given as goal

abbrev pub invariant-loop-file : goal.invariant-loop-file
invariant-loop-file g l = first_named g.N.NamedFile.name_of g.N.NamedFile.bytes_of (drop l.file-index l.file-items) l.name ≡ first_named g.N.NamedFile.name_of g.N.NamedFile.bytes_of l.self.files.now l.name
