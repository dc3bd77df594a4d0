-- Files by their names.
pub use Rattle.cmap_load.specs.NamedFiles.{file_named, first_named, text_named}
