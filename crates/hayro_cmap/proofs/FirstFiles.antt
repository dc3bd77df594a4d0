-- The files that are opened first, up to the one that names lead to, are a front of all that are opened.
pub use Rattle.cmap_load.proofs.FirstFiles.{first_is_front, opens_once}
