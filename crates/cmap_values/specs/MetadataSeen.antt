-- What contracts see of the metadata of files.
use Rattle.std.specs.Prelude.{option_map, IsSome, IsSomeAnd, ◌⊎◌}
use Rattle.cmap_values.specs.Names as names
use Rattle.cmap_values.specs.Metadata as said
use Rattle.cmap_values.specs.declared.character_collection.CidFamily.{CidFamily}
use Rattle.cmap_values.specs.declared.character_collection.CidFamily.TheVariants.{AdobeJapan1, AdobeGB1, AdobeCNS1, AdobeKorea1, AdobeIdentity, Custom}
use Rattle.cmap_values.specs.declared.character_collection.CharacterCollection.{CharacterCollection}
use Rattle.cmap_values.specs.declared.writing_mode.WritingMode.{WritingMode}
use Rattle.cmap_values.specs.declared.writing_mode.WritingMode.TheVariants.{Horizontal, Vertical}
use Rattle.cmap_values.specs.declared.metadata.Metadata.{Metadata}

abbrev pub family_seen : CidFamily → names.Family
family_seen AdobeJapan1 = names.adobe_japan1
family_seen AdobeGB1 = names.adobe_gb1
family_seen AdobeCNS1 = names.adobe_cns1
family_seen AdobeKorea1 = names.adobe_korea1
family_seen AdobeIdentity = names.adobe_identity
family_seen (Custom registry ordering) = names.custom registry.items ordering.items

abbrev pub collection_seen : CharacterCollection → said.Collection
collection_seen collection = record { family = family_seen collection.family; supplement = collection.supplement }

abbrev pub mode_seen : WritingMode → said.Mode
mode_seen Horizontal = said.horizontal
mode_seen Vertical = said.vertical

abbrev pub metadata_seen : Metadata → said.FileMetadata
metadata_seen metadata = record {
  collection = option_map collection_seen metadata.character_collection;
  name = option_map (λ name. name.items) metadata.name;
  mode = option_map mode_seen metadata.writing_mode;
}

-- the metadata contains a name, or the texts of a custom family
abbrev pub HoldsTexts : said.FileMetadata → Type 0
HoldsTexts metadata = IsSome metadata.name ⊎ IsSomeAnd metadata.collection (λ collection. names.IsCustom collection.family)
