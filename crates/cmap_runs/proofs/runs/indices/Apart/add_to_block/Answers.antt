use Rattle.std.proofs.Common.{◌+◌, ◌*◌, ◌<◌, ◌≤◌, [], ◌∷◌, ◌++◌, map, length, refl, sym, ap, ◌∙◌, subst, bit_or, arith}
use Rattle.cmap_runs.specs.Made.{AreMerged}
use Rattle.cmap_runs.specs.Ranges.{Run}
use Rattle.cmap_runs.specs.declared.runs.block_maker.BlockMaker.{BlockMaker}
use Rattle.cmap_runs.proofs.Merged.{AreMerged-push}
use Rattle.cmap_runs.proofs.runs.indices.Apart.add_to_block.Goals as goal

pub loop-index-preserved : goal.loop-index-preserved
loop-index-preserved g c =
    let spans = map g.T.HasRange.span c.args.declarations.now in let index = c.loop-index.index in
    let old = c.loop-index.invariant in let list = c.loop-index.self.blocks.list.items in
    let is = c.range.view_is ∙ c.range_at-range.ensures in
    let low = ap (λ (r : Run). r.low) is in let high = ap (λ (r : Run). r.high) is in
    let pushed = c.push_reserved.ensures in
    let below : length list < c.loop-index.self.blocks.most → c.args.limit ≤ 32 * length list + 32 = subst (λ (blocks : BlockMaker). length blocks.list.items < blocks.most → c.args.limit ≤ 32 * length blocks.list.items + 32) (sym old.blocks) c.requires.limit in
    record {
      begin = omega (arith, old.begin);
      within = omega arith;
      len = omega (arith, pushed.len, old.len);
      capacity = omega (arith, pushed.capacity, old.capacity);
      blocks = old.blocks;
      merged =
          subst (λ items. AreMerged spans items (c.from-next.result + 1) list c.loop-index.self.blocks.most c.loop-index.self.blocks.begun (bit_or c.loop-index.starts c.bit_of-starts.result)) (sym pushed.items)
          (subst (λ high. AreMerged spans (c.loop-index.self.indices.items ++ index ∷ []) (high + 1) list c.loop-index.self.blocks.most c.loop-index.self.blocks.begun (bit_or c.loop-index.starts c.bit_of-starts.result)) (sym c.from-next.ensures)
          (subst (λ bit. AreMerged spans (c.loop-index.self.indices.items ++ index ∷ []) (c.range.inside.high + 1) list c.loop-index.self.blocks.most c.loop-index.self.blocks.begun (bit_or c.loop-index.starts bit)) (sym c.bit_of-starts.ensures)
          (AreMerged-push spans c.loop-index.self.indices.items index c.loop-index.next c.range.inside.low c.range.inside.high list c.loop-index.self.blocks.most c.loop-index.self.blocks.begun c.loop-index.starts
          old.merged (λ more. omega (arith, below more)) (sym low) (sym high) (omega arith) (omega arith) (omega arith))));
    }

pub loop-index-init : goal.loop-index-init
loop-index-init g c =
    record { begin = omega arith; within = c.requires.first; len = omega arith; capacity = omega arith; blocks = refl; merged = c.requires.merged }

pub range_at-range-requires : goal.range_at-range-requires
range_at-range-requires g c = omega (arith, c.requires.end)

pub returns : goal.returns
returns g c =
    let at = c.loop-index.invariant in
    record { within = (at.begin, at.within); len = at.len; capacity = at.capacity; merged = at.merged }

pub push_reserved-requires : goal.push_reserved-requires
push_reserved-requires g c = omega (arith, c.loop-index.invariant.len, c.loop-index.invariant.capacity, c.requires.room)
