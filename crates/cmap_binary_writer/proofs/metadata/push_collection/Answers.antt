use Rattle.std.proofs.Common.{◌≡◌, ◌∙◌, ◌++◌, ◌+◌, ◌≤◌, ◌^◌, ap, arith, length, subst, sym}
use Rattle.std.specs.Prelude.{IfSome, IsSomeAnd, option_map}
use Rattle.cmap_values.specs.MetadataSeen.{collection_seen}
use Rattle.cmap_values.proofs.Outcomes.{passed_on}
use Rattle.cmap_binary_writer.specs.Fields.{CollectionFits, collection_bytes, collection_payload}
use Rattle.cmap_binary_writer.specs.Obstacles.{IsLongCollection}
use Rattle.cmap_binary_writer.proofs.MetadataHeld.{length-payload}
use Rattle.cmap_binary_writer.proofs.ObstaclesMet.{by_collection, long_handed_on}
use Rattle.cmap_binary_writer.proofs.RowsAdded.{segment_added}
use Rattle.cmap_binary_writer.proofs.metadata.push_collection.Goals as goal

pub returns-in_ok-payload-in-Some : goal.returns-in_ok-payload-in-Some
returns-in_ok-payload-in-Some c =
    let old = c.args.out.now.items in
    let new = c.push_segment.new.out.items in
    let collection = collection_seen c.in-Some.collection in
    let is = ap (option_map collection_seen) c.in-Some.is in
    let payload = c.in_ok-payload-in-Some.ensures.0 in
    let slice = c.deref.ensures.value ∙ payload.1 in
    long_handed_on (2 ^ 32 ≤ 5 + length c.deref.result.now) _ c.push_segment.result c.push_segment.ensures.framed c.push_segment.ensures.err
    (λ _ framed.
    let added = segment_added old new 14 c.deref.result.now (collection_payload collection) slice framed in
    subst (λ o. IfSome o CollectionFits × (new ≡ old ++ collection_bytes o)) (sym is) ((payload.0, omega (arith, added.0, length-payload collection)), added.1))
    (λ long. subst (λ o. IsSomeAnd o IsLongCollection) (sym is) (omega (arith, long, ap length slice, length-payload collection)))

pub returns-in_err-payload-in-Some : goal.returns-in_err-payload-in-Some
returns-in_err-payload-in-Some c = passed_on _ _ _ c.from_residual.ensures.1 c.in_err-payload-in-Some.ensures.1 (by_collection _ (collection_seen c.in-Some.collection) (ap (option_map collection_seen) c.in-Some.is))
