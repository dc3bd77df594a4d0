use Rattle.cmap_text.specs.TextSeen.{values_seen}
use Rattle.cmap_text.proofs.ValuesRead.{metadata_is}
use Rattle.cmap_text.proofs.keys.Values.metadata.Goals as goal

pub returns : goal.returns
returns c = metadata_is (values_seen c.args.self.now) _ _ _ c.in_ok-character_collection.ensures c.in_ok-name_of.ensures c.mode_of.ensures
