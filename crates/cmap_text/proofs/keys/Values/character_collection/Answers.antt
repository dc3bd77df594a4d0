use Rattle.cmap_text.specs.TextSeen.{values_seen}
use Rattle.cmap_text.proofs.Refusals.{if_ok}
use Rattle.cmap_text.proofs.ValuesRead.{collection_is}
use Rattle.cmap_text.proofs.keys.Values.character_collection.Goals as goal

pub returns : goal.returns
returns c = if_ok c.collection_of.result _ _ (λ found is. collection_is (values_seen c.args.self.now) _ _ _ _ c.in_ok-registry.ensures c.in_ok-ordering.ensures c.supplement_of.ensures is) c.collection_of.ensures
