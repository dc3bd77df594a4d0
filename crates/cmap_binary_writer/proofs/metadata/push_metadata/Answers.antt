use Rattle.cmap_values.specs.MetadataSeen.{metadata_seen}
use Rattle.cmap_values.proofs.Outcomes.{passed_on}
use Rattle.cmap_binary_writer.proofs.ObstaclesMet.{by_given, by_name, handed_on}
use Rattle.cmap_binary_writer.proofs.RowsAdded.{added_three}
use Rattle.cmap_binary_writer.proofs.metadata.push_metadata.Goals as goal

pub returns : goal.returns
returns c =
    let collection = c.in_ok-push_collection.ensures.0 in
    let name = c.in_ok-push_name.ensures.0 in
    handed_on c.push_mode.result c.push_mode.ensures (λ _ mode. (record { collection = collection.0; name = name.0 }, added_three c.args.out.now.items c.push_collection.new.out.items c.push_name.new.out.items c.push_mode.new.out.items _ _ _ collection.1 name.1 mode)) (λ o none. absurd none)

pub returns-in_err-push_collection : goal.returns-in_err-push_collection
returns-in_err-push_collection c = passed_on _ _ _ c.from_residual.ensures.1 c.in_err-push_collection.ensures.1 (by_given (metadata_seen c.args.metadata.now))

pub returns-in_err-push_name : goal.returns-in_err-push_name
returns-in_err-push_name c = passed_on _ _ _ c.from_residual-in_err-push_name.ensures.1 c.in_err-push_name.ensures.1 (by_name (metadata_seen c.args.metadata.now))
