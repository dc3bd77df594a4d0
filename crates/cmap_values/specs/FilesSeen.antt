-- What contracts see of the content of one file.
use Rattle.cmap_values.specs.Files as files
use Rattle.cmap_values.specs.DeclarationsSeen.{lists_seen}
use Rattle.cmap_values.specs.MetadataSeen.{metadata_seen}
use Rattle.cmap_values.specs.NamesSeen.{names_seen}
use Rattle.cmap_values.specs.declared.file.File.{File}

abbrev pub file_seen : File → files.File
file_seen file = record { metadata = metadata_seen file.metadata; lists = lists_seen file.lists; uses = names_seen file.uses.items }
