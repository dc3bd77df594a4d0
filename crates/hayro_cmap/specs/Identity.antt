-- The predefined CMaps Identity-H and Identity-V: codes of two bytes are CIDs. ISO 32000-1, 9.7.5.2.
pub use Rattle.cmap_load.specs.Identity.{identity_layer, identity_text}
