use Rattle.std.proofs.Common.{refl, arith}
use Rattle.cmap_binary_writer.specs.Arranged.{text_type}
use Rattle.cmap_binary_writer.specs.EncodersSeen.{shape_seen}
use Rattle.cmap_binary_writer.proofs.ArrangedTexts.{ended_texts, type_first, type_more, type_taken}
use Rattle.cmap_binary_writer.proofs.TextsMade.{follow_texts, held_texts}
use Rattle.cmap_binary_writer.proofs.texts.segment_len.Goals as goal

pub returns-else-follows-clause-held : goal.returns-else-follows-clause-held
returns-else-follows-clause-held c = let i = c.loop-count.invariant in held_texts (shape_seen c.args.form.shape) c.args.form.units c.loop-count.count c.args.entries.now i.few i.within c.requires.short c.requires.first i.follow

pub returns-else-count-lt-MOST-clause-held : goal.returns-else-count-lt-MOST-clause-held
returns-else-count-lt-MOST-clause-held c = let i = c.loop-count.invariant in held_texts (shape_seen c.args.form.shape) c.args.form.units c.loop-count.count c.args.entries.now i.few i.within c.requires.short c.requires.first i.follow

pub returns-after-loop-count-clause-held : goal.returns-after-loop-count-clause-held
returns-after-loop-count-clause-held c = let i = c.loop-count.invariant in held_texts (shape_seen c.args.form.shape) c.args.form.units c.loop-count.count c.args.entries.now i.few i.within c.requires.short c.requires.first i.follow

pub loop-count-init : goal.loop-count-init
loop-count-init c = record { some = omega arith; within = c.requires.first.filled; few = omega arith; follow = λ k d one below within. absurd (omega (arith, one, below)); typed = type_first (text_type (shape_seen c.args.form.shape) c.args.form.units) c.args.entries.now c.requires.typed }

pub loop-count-preserved : goal.loop-count-preserved
loop-count-preserved c =
    let i = c.loop-count.invariant in
    record {
      some = omega arith;
      within = omega arith;
      few = omega arith;
      follow = follow_texts (shape_seen c.args.form.shape) c.args.form.units c.args.entries.now c.loop-count.count c.index-entries-count.result c.index-entries-count-then-count-lt-MOST.result c.loop-count-test.true c.index-entries-count.is c.index-entries-count-then-count-lt-MOST.is (c.if-follows.ensures.yes refl) i.follow;
      typed = type_more (text_type (shape_seen c.args.form.shape) c.args.form.units) c.args.entries.now c.loop-count.count c.index-entries-count-then-count-lt-MOST.result c.loop-count-test.true c.index-entries-count-then-count-lt-MOST.is (c.if-follows.ensures.typed refl) i.typed;
    }

pub overflow_sub-count : goal.overflow_sub-count
overflow_sub-count c = c.loop-count.invariant.some

pub bounds-entries-count-then-count-lt-MOST : goal.bounds-entries-count-then-count-lt-MOST
bounds-entries-count-then-count-lt-MOST c = c.loop-count-test.true

pub bounds-entries-count : goal.bounds-entries-count
bounds-entries-count c = omega (arith, c.loop-count-test.true)

pub overflow_add-count : goal.overflow_add-count
overflow_add-count c = omega (arith, c.if-count-lt-MOST.true)

pub loop-count-smaller : goal.loop-count-smaller
loop-count-smaller c = omega (arith, c.loop-count-test.true)

pub returns-else-follows-clause-typed : goal.returns-else-follows-clause-typed
returns-else-follows-clause-typed c = type_taken (text_type (shape_seen c.args.form.shape) c.args.form.units) c.args.entries.now c.loop-count.count c.loop-count.invariant.typed

pub returns-else-count-lt-MOST-clause-typed : goal.returns-else-count-lt-MOST-clause-typed
returns-else-count-lt-MOST-clause-typed c = type_taken (text_type (shape_seen c.args.form.shape) c.args.form.units) c.args.entries.now c.loop-count.count c.loop-count.invariant.typed

pub returns-after-loop-count-clause-typed : goal.returns-after-loop-count-clause-typed
returns-after-loop-count-clause-typed c = type_taken (text_type (shape_seen c.args.form.shape) c.args.form.units) c.args.entries.now c.loop-count.count c.loop-count.invariant.typed

pub returns-else-follows-clause-ended : goal.returns-else-follows-clause-ended
returns-else-follows-clause-ended c =
    let i = c.loop-count.invariant in
    ended_texts (text_type (shape_seen c.args.form.shape) c.args.form.units) c.args.entries.now c.loop-count.count c.index-entries-count.result c.index-entries-count-then-count-lt-MOST.result i.some c.loop-count-test.true c.index-entries-count.is c.index-entries-count-then-count-lt-MOST.is i.typed (c.if-follows.ensures.no refl)
