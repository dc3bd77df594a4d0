use Rattle.std.proofs.Common.{refl, arith}
use Rattle.cmap_binary_writer.specs.EncodersSeen.{shape_seen}
use Rattle.cmap_binary_writer.proofs.Arranged.{ended_cids}
use Rattle.cmap_binary_writer.proofs.SegmentsMade.{follow_more, follow_next, held_segment}
use Rattle.cmap_binary_writer.proofs.cids.segment_len.Goals as goal

pub returns-else-follows-clause-held : goal.returns-else-follows-clause-held
returns-else-follows-clause-held c = let i = c.loop-count.invariant in held_segment (shape_seen c.args.shape) c.loop-count.count c.args.entries.now i.some i.few i.within c.requires.short c.requires.first i.follow

pub returns-else-count-lt-MOST-clause-held : goal.returns-else-count-lt-MOST-clause-held
returns-else-count-lt-MOST-clause-held c = let i = c.loop-count.invariant in held_segment (shape_seen c.args.shape) c.loop-count.count c.args.entries.now i.some i.few i.within c.requires.short c.requires.first i.follow

pub returns-after-loop-count-clause-held : goal.returns-after-loop-count-clause-held
returns-after-loop-count-clause-held c = let i = c.loop-count.invariant in held_segment (shape_seen c.args.shape) c.loop-count.count c.args.entries.now i.some i.few i.within c.requires.short c.requires.first i.follow

pub loop-count-init : goal.loop-count-init
loop-count-init c = record { some = omega arith; within = c.requires.first.0; few = omega arith; follow = λ k d one below within. absurd (omega (arith, one, below)) }

pub loop-count-preserved : goal.loop-count-preserved
loop-count-preserved c =
    let i = c.loop-count.invariant in
    record {
      some = omega arith;
      within = omega arith;
      few = omega arith;
      follow = follow_more (shape_seen c.args.shape) c.args.entries.now c.loop-count.count i.some (follow_next (shape_seen c.args.shape) c.args.entries.now c.loop-count.count _ _ c.loop-count-test.true (c.if-follows.ensures.yes refl)) i.follow;
    }

pub overflow_sub-count : goal.overflow_sub-count
overflow_sub-count c = c.loop-count.invariant.some

pub bounds-entries-count-then-count-lt-MOST : goal.bounds-entries-count-then-count-lt-MOST
bounds-entries-count-then-count-lt-MOST c = c.loop-count-test.true

pub bounds-entries-count : goal.bounds-entries-count
bounds-entries-count c = omega (arith, c.loop-count-test.true)

pub overflow_add-count : goal.overflow_add-count
overflow_add-count c = omega (arith, c.if-count-lt-MOST.true)

pub loop-count-smaller : goal.loop-count-smaller
loop-count-smaller c = omega (arith, c.loop-count-test.true)

pub returns-else-follows-clause-ended : goal.returns-else-follows-clause-ended
returns-else-follows-clause-ended c len some = let i = c.loop-count.invariant in ended_cids len (shape_seen c.args.shape) c.args.entries.now c.loop-count.count _ _ some i.some c.loop-count-test.true c.requires.short c.requires.first i.follow (c.if-follows.ensures.no refl)
