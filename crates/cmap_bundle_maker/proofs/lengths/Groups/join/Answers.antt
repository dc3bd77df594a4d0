use Rattle.std.proofs.Common.{◌≡◌, ◌∷◌, ◌++◌, [], ◌∙◌, Some, ap, subst, sym}
use Rattle.std.proofs.lemmas.List.{map-append}
use Rattle.cmap_bundle_maker.specs.Groups.{AreQueues, merged}
use Rattle.cmap_bundle_maker.specs.Huffman.{both}
use Rattle.cmap_bundle_maker.specs.Seen.{AreQueued, Takes, group_seen, groups_seen}
use Rattle.cmap_bundle_maker.specs.declared.lengths.Groups.{Groups}
use Rattle.cmap_bundle_maker.specs.declared.lengths.Group.{Group}
use Rattle.cmap_bundle_maker.proofs.GroupsJoined.{AreJoined, two_joined}
use Rattle.cmap_bundle_maker.proofs.lengths.Groups.join.Goals as goal

both_taken : (old mid new : Groups) (x y : Group) → AreQueued old → Takes old (Some x) mid → Takes mid (Some y) new → AreJoined (groups_seen old.alone.items) (groups_seen old.joined.items) (group_seen x) (group_seen y) (groups_seen new.alone.items) (groups_seen new.joined.items)
both_taken old mid new x y = two_joined (groups_seen old.alone.items) (groups_seen old.joined.items) (groups_seen mid.alone.items) (groups_seen mid.joined.items) (groups_seen new.alone.items) (groups_seen new.joined.items) (group_seen x) (group_seen y)

pub join-requires-clause-few : goal.join-requires-clause-few
join-requires-clause-few c = (both_taken c.args.self.now c.take_rarest.new.self c.take_rarest-2.new.self c.in-Some.first c.in-Some-take_rarest.second c.requires.queues c.in-Some.ensures c.in-Some-take_rarest.ensures).few

pub join-requires-clause-sized : goal.join-requires-clause-sized
join-requires-clause-sized c = (both_taken c.args.self.now c.take_rarest.new.self c.take_rarest-2.new.self c.in-Some.first c.in-Some-take_rarest.second c.requires.queues c.in-Some.ensures c.in-Some-take_rarest.ensures).sized

pub join-requires-clause-other : goal.join-requires-clause-other
join-requires-clause-other c = (both_taken c.args.self.now c.take_rarest.new.self c.take_rarest-2.new.self c.in-Some.first c.in-Some-take_rarest.second c.requires.queues c.in-Some.ensures c.in-Some-take_rarest.ensures).sized_too

added : (c : goal.In_ok-push_back) → groups_seen c.push_back.new.self.items ≡ groups_seen c.take_rarest-2.new.self.joined.items ++ both (group_seen c.in-Some.first) (group_seen c.in-Some-take_rarest.second) ∷ []
added c =
    let left = c.take_rarest-2.new.self.joined.items in
    ap groups_seen c.in_ok-push_back.ensures.items ∙ map-append group_seen left (c.in_ok-join.field-0 ∷ []) ∙ ap (λ g. groups_seen left ++ g ∷ []) c.in_ok-join.ensures

pub returns-clause-order : goal.returns-clause-order
returns-clause-order c =
    let made = both_taken c.args.self.now c.take_rarest.new.self c.take_rarest-2.new.self c.in-Some.first c.in-Some-take_rarest.second c.requires.queues c.in-Some.ensures c.in-Some-take_rarest.ensures in
    ap (merged (groups_seen c.take_rarest-2.new.self.alone.items)) (added c) ∙ sym made.order

pub returns-clause-queues : goal.returns-clause-queues
returns-clause-queues c =
    let made = both_taken c.args.self.now c.take_rarest.new.self c.take_rarest-2.new.self c.in-Some.first c.in-Some-take_rarest.second c.requires.queues c.in-Some.ensures c.in-Some-take_rarest.ensures in
    subst (AreQueues (groups_seen c.take_rarest-2.new.self.alone.items)) (sym (added c)) made.queues
