use Rattle.std.proofs.Common.{◌≤◌, ◌∙◌, ap, length, map, subst, sym, arith}
use Rattle.std.proofs.lemmas.List.{length-map}
use Rattle.cmap_bundle_maker.specs.Groups.{AreQueues, merged}
use Rattle.cmap_bundle_maker.specs.Huffman.{Frequency, alone, words_joined}
use Rattle.cmap_bundle_maker.specs.Seen.{frequencies_seen, frequency_seen, group_seen, groups_in, groups_seen}
use Rattle.cmap_bundle_maker.proofs.GroupsJoined.{alone_queued, last_words, taken}
use Rattle.cmap_bundle_maker.proofs.HuffmanWords.{step_kept, step_length, sum_map}
use Rattle.cmap_bundle_maker.proofs.lengths.word_lengths.Goals as goal

pub loop-init : goal.loop-init
loop-init c =
    let fs = c.args.frequencies.now in
    let seen = frequencies_seen fs in
    let first = c.in_ok-groups.ensures.alone in
    let second = ap groups_seen c.in_ok-groups.ensures.joined in
    let all = ap (λ groups. merged groups (groups_seen c.in_ok-groups.groups.joined.items)) first ∙ ap (merged (map alone seen)) second in
    let queues = alone_queued seen c.requires.rising (omega (arith, c.requires.few, sum_map (λ (f : Frequency). f.times) frequency_seen fs)) in (
      subst (λ groups. AreQueues groups (groups_seen c.in_ok-groups.groups.joined.items)) (sym first) (subst (AreQueues (map alone seen)) (sym second) queues),
      ap words_joined all,
      omega (arith, ap length all, length-map seen alone, length-map fs frequency_seen),
    )

pub join-requires-clause-queues : goal.join-requires-clause-queues
join-requires-clause-queues c = c.loop.invariant.0

pub join-requires-clause-two : goal.join-requires-clause-two
join-requires-clause-two c = omega (arith, c.loop.invariant.2, c.loop-test.true)

pub loop-preserved : goal.loop-preserved
loop-preserved c =
    let old = groups_in c.loop.groups in
    let two : 2 ≤ length old = omega (arith, c.loop.invariant.2, c.loop-test.true) in (
      c.in_ok-join.ensures.queues,
      ap words_joined c.in_ok-join.ensures.order ∙ step_kept old two ∙ c.loop.invariant.1,
      omega (arith, ap length c.in_ok-join.ensures.order, step_length old two, c.loop.invariant.2),
    )

pub returns-in-Some : goal.returns-in-Some
returns-in-Some c =
    let first = groups_seen c.loop.groups.alone.items in
    let second = groups_seen c.loop.groups.joined.items in
    let now = groups_seen c.take_rarest.new.self.alone.items in
    let left = groups_seen c.take_rarest.new.self.joined.items in
    let g = group_seen c.in-Some.group in
    let is = taken first second g now left c.loop.invariant.0 c.in-Some.ensures in
    sym (last_words (merged first second) (merged now left) g is.order (omega (arith, c.loop.invariant.2, c.loop-test.false, c.loop.auto.counter))) ∙ c.loop.invariant.1
