use Rattle.std.proofs.Common.{◌≡◌, ◌∙◌, ◌++◌, ap, subst}
use Rattle.std.specs.Prelude.{nat_abs}
use Rattle.cmap_values.specs.MetadataSeen.{collection_seen}
use Rattle.cmap_values.specs.Names.{ordering_of, registry_of}
use Rattle.cmap_values.proofs.Outcomes.{passed_on}
use Rattle.cmap_binary_writer.specs.Fields.{IsSayableCollection, IsUnterminated, terminated_bytes}
use Rattle.cmap_binary_writer.specs.Written.{bytes_of}
use Rattle.cmap_binary_writer.proofs.ObstaclesMet.{by_family, by_ordering, by_registry, memory_passed_on}
use Rattle.cmap_binary_writer.proofs.RowsAdded.{added_three}
use Rattle.cmap_binary_writer.proofs.metadata.collection_payload.Goals as goal

pub returns : goal.returns
returns c =
    let collection = collection_seen c.args.collection.now in
    let registry = c.in_ok-push_terminated.ensures.0 in
    let ordering = c.in_ok-push_terminated-2.ensures.0 in
    let number = c.in-Some.supplement in
    let a = c.push_terminated.new.out.items in
    let b = c.push_terminated-2.new.out.items in
    let supplement : bytes_of 2 c.from.result ≡ bytes_of 2 (nat_abs collection.supplement) = ap (bytes_of 2) (c.from.ensures ∙ ap nat_abs c.in-Some.ensures.some.1) in
    let said : IsSayableCollection collection = record {
      registry = subst IsUnterminated c.registry.ensures registry.0;
      ordering = subst IsUnterminated c.ordering.ensures ordering.0;
      named = c.in_ok-check_family.ensures.same;
      number = number;
      narrow = c.in-Some.ensures.some.0;
      supplement = c.in-Some.ensures.some.1;
    } in
    let bytes =
    added_three c.new-payload.result.items a b c.push_number.new.out.items (terminated_bytes (registry_of collection.family)) (terminated_bytes (ordering_of collection.family)) (bytes_of 2 (nat_abs collection.supplement))
    (registry.1 ∙ ap (λ text. c.new-payload.result.items ++ terminated_bytes text) c.registry.ensures)
    (ordering.1 ∙ ap (λ text. a ++ terminated_bytes text) c.ordering.ensures)
    (c.in_ok-push_number.ensures ∙ ap (λ bs. b ++ bs) supplement) in
    ((said, bytes ∙ ap (λ bs. bs ++ (terminated_bytes (registry_of collection.family) ++ (terminated_bytes (ordering_of collection.family) ++ bytes_of 2 (nat_abs collection.supplement)))) c.new-payload.ensures.items), tt)

pub returns-in_err-check_family : goal.returns-in_err-check_family
returns-in_err-check_family c = passed_on _ _ _ c.from_residual.ensures.1 c.in_err-check_family.ensures.err (by_family (collection_seen c.args.collection.now))

pub returns-in_err-push_terminated : goal.returns-in_err-push_terminated
returns-in_err-push_terminated c = passed_on _ _ _ c.from_residual-in_err-push_terminated.ensures.1 c.in_err-push_terminated.ensures.1 (by_registry (collection_seen c.args.collection.now) _ c.registry.ensures)

pub returns-in_err-push_terminated-2 : goal.returns-in_err-push_terminated-2
returns-in_err-push_terminated-2 c = passed_on _ _ _ c.from_residual-in_err-push_terminated-2.ensures.1 c.in_err-push_terminated-2.ensures.1 (by_ordering (collection_seen c.args.collection.now) _ c.ordering.ensures)

pub returns-in_err-push_number : goal.returns-in_err-push_number
returns-in_err-push_number c = memory_passed_on _ _ _ c.from_residual-in_err-push_number.ensures.1
