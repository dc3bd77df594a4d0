use Rattle.std.proofs.Common.{map, ap, arith}
use Rattle.std.specs.Vec.{vec_capacity, vec_len}
use Rattle.cmap_runs.proofs.runs.indices.Apart.add_part.Goals as goal

pub loop-index-preserved : goal.loop-index-preserved
loop-index-preserved g c =
    let old = c.loop-index.invariant in let now = c.in_ok-next.ensures in
    record {
      begin = omega (arith, old.begin, now.within.0);
      within = now.within.1;
      len = omega (arith, old.len, now.len, ap vec_len c.end_blocks.ensures.indices, old.begin, now.within.0);
      capacity = omega (arith, old.capacity, c.add_to_block.ensures.capacity, ap vec_capacity c.end_blocks.ensures.indices);
      merged = now.merged;
    }

pub loop-index-smaller : goal.loop-index-smaller
loop-index-smaller g c = omega (arith, c.in_ok-next.ensures.within, c.if-next-index.false, c.loop-index-test.true)

pub range_at-requires : goal.range_at-requires
range_at-requires g c = omega (arith, c.requires.end, c.loop-index-test.true)

pub end_blocks-requires : goal.end_blocks-requires
end_blocks-requires g c = (map g.T.HasRange.span c.args.declarations.now, c.loop-index.invariant.merged)

pub add_to_block-requires : goal.add_to_block-requires
add_to_block-requires g c =
    let old = c.loop-index.invariant in
    record {
      first = old.within;
      end = c.requires.end;
      room = omega (arith, old.len, old.capacity, old.begin, old.within, c.requires.room, ap vec_len c.end_blocks.ensures.indices, ap vec_capacity c.end_blocks.ensures.indices);
      merged = c.end_blocks.ensures.merged (map g.T.HasRange.span c.args.declarations.now) old.merged;
      limit = λ more. omega (arith, c.min-bound.ensures, c.end_blocks.new.self.blocks.ends (omega (arith, more, c.end_blocks.new.self.blocks.list.ok.0)), c.end_blocks.new.self.blocks.list.ok.0);
    }

pub loop-index-init : goal.loop-index-init
loop-index-init g c = record {
  begin = omega arith;
  within = c.requires.first;
  len = omega arith;
  capacity = omega arith;
  merged = c.requires.merged;
}

pub returns-in_err-next : goal.returns-in_err-next
returns-in_err-next g c =
    let old = c.loop-index.invariant in let same = ap vec_capacity c.end_blocks.ensures.indices in
    rw c.from_residual.ensures (record {
      within = tt;
      len = tt;
      capacity = omega (arith, old.capacity, c.add_to_block.ensures.capacity, same);
      merged = tt;
    })

pub returns-then-next-index : goal.returns-then-next-index
returns-then-next-index g c =
    let old = c.loop-index.invariant in let same = ap vec_capacity c.end_blocks.ensures.indices in
    record {
      within = tt;
      len = tt;
      capacity = omega (arith, old.capacity, c.add_to_block.ensures.capacity, same);
      merged = tt;
    }

pub returns-then-bound-limit : goal.returns-then-bound-limit
returns-then-bound-limit g c =
    let old = c.loop-index.invariant in let now = c.in_ok-next.ensures in
    let len = ap vec_len c.end_blocks.ensures.indices in let capacity = ap vec_capacity c.end_blocks.ensures.indices in
    record {
      within = (omega (arith, old.begin, now.within.0), now.within.1);
      len = omega (arith, old.len, now.len, len, old.begin, now.within.0);
      capacity = omega (arith, old.capacity, c.add_to_block.ensures.capacity, capacity);
      merged = now.merged;
    }

pub returns-after-loop-index : goal.returns-after-loop-index
returns-after-loop-index g c =
    let at = c.loop-index.invariant in
    record { within = (at.begin, at.within); len = at.len; capacity = at.capacity; merged = at.merged }

pub returns-then-limit-low : goal.returns-then-limit-low
returns-then-limit-low g c =
    let at = c.loop-index.invariant in
    record { within = (at.begin, at.within); len = at.len; capacity = at.capacity; merged = at.merged }
