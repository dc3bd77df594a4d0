use Rattle.std.proofs.Common.{◌≡◌, ℕ, ◌+◌, ◌*◌, ◌/◌, ◌<◌, ◌≤◌, length, sym, ap, subst, arith}
use Rattle.std.specs.List.{AllWithin}
use Rattle.cmap_runs.specs.Blocks.{MayHold, begun_by}
use Rattle.cmap_runs.specs.declared.runs.blocks.Block.{Block}
use Rattle.cmap_runs.proofs.BlocksMade.{made_more, made_of_none, made_of_open}
use Rattle.cmap_runs.proofs.runs.block_maker.BlockMaker.end_before.Goals as goal
use Rattle.cmap_runs.proofs.runs.block_maker.BlockMaker.end_before.Goals.{then-next-code, else-next-code}

pub loop-self-preserved : goal.loop-self-preserved
loop-self-preserved c =
    let list = c.loop-self.self.list.items in let most = c.loop-self.self.most in let at = c.loop-self.invariant in let pushed = c.push_reserved.ensures in
    let more : length list < most = omega (arith, c.loop-self-test.true, c.len.ensures, c.min-end.ensures, at.most) in
    let blocks : c.args.low / c.from.result ≡ c.args.low / 32 = ap (λ n. c.args.low / n) c.from.ensures in
    let end : 32 * length list + 32 ≤ c.args.low = omega (arith, c.loop-self-test.true, c.len.ensures, c.min-end.ensures, blocks) in
    record {
      made = λ runs order some ended after before.
          let old = at.made runs order some ended after before in
          let later : AllWithin (λ run. 32 * length list + 32 ≤ run.low) runs c.args.count (length runs) = λ k d le lt. omega (arith, after k d le lt, end) in
          let here : (place : ℕ) → place < 32 → MayHold runs (32 * length list + place) (begun_by c.if-next-code.block place) =
          elim c.if-next-code.branch [
            | then-next-code w ↦ λ place lt.
                subst (λ (block : Block). MayHold runs (32 * length list + place) (begun_by block place)) (sym w.block-is)
                (made_of_none runs (32 * length list) c.args.count c.args.next (omega (arith, w.if-next-code.true, c.code.ensures)) ended later place lt)
            | else-next-code w ↦ λ place lt.
                subst (λ (block : Block). MayHold runs (32 * length list + place) (begun_by block place)) (sym w.block-is)
                (made_of_open runs (32 * length list) c.args.count c.loop-self.self.begun c.loop-self.self.starts order old.within.0 some old.before (omega (arith, more, at.few)) later (old.unfinished more) place lt)
          ]
          in
          made_more runs c.args.count most c.loop-self.self.begun c.loop-self.self.starts list c.push_reserved.new.self.items c.if-next-code.block pushed.items later more here old;
      most = at.most;
      few = at.few;
      fits = omega (arith, at.count more, at.few, more);
      count = λ _. omega (arith, at.count more, pushed.len);
      within = omega (arith, pushed.len, more);
      room = omega (arith, at.room, pushed.capacity);
    }
