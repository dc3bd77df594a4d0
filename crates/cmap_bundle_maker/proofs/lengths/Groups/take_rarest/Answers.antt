use Rattle.std.proofs.Common.{subst, arith}
use Rattle.cmap_bundle_maker.specs.Groups.{IsJoinedNext}
use Rattle.cmap_bundle_maker.specs.Seen.{group_seen, groups_seen}
use Rattle.cmap_bundle_maker.proofs.GroupsJoined.{takes_alone, takes_joined}
use Rattle.cmap_bundle_maker.proofs.lengths.Groups.take_rarest.Goals as goal

pub returns-then-is_joined_next : goal.returns-then-is_joined_next
returns-then-is_joined_next c =
    let self = c.args.self.now in
    let next = subst (IsJoinedNext (groups_seen self.alone.items) (groups_seen self.joined.items)) c.if-is_joined_next.true c.is_joined_next.ensures in
    takes_joined group_seen self.alone.items self.joined.items c.pop_front.new.self.items c.pop_front.result next c.pop_front.ensures.items (λ some. c.pop_front.ensures.variant.1 (omega (arith, some, self.joined.ok)))

pub returns-else-is_joined_next : goal.returns-else-is_joined_next
returns-else-is_joined_next c =
    let self = c.args.self.now in
    let next = subst (IsJoinedNext (groups_seen self.alone.items) (groups_seen self.joined.items)) c.if-is_joined_next.false c.is_joined_next.ensures in
    takes_alone group_seen self.alone.items self.joined.items c.pop_front-else-is_joined_next.new.self.items c.pop_front-else-is_joined_next.result next c.pop_front-else-is_joined_next.ensures.items (λ some. c.pop_front-else-is_joined_next.ensures.variant.1 (omega (arith, some, self.alone.ok)))
