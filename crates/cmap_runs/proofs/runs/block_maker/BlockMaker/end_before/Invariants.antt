use Rattle.std.proofs.Common.{◌≡◌, ◌+◌, ◌-◌, ◌*◌, ◌<◌, ◌≤◌, List, length}
use Rattle.std.specs.List.{AllWithin}
use Rattle.std.specs.Vec.{vec_capacity, vec_len}
use Rattle.cmap_runs.specs.Blocks.{AreMade}
use Rattle.cmap_runs.specs.Order.{IsInOrder}
use Rattle.cmap_runs.specs.Ranges.{Run}
use Rattle.cmap_runs.proofs.runs.block_maker.BlockMaker.end_before.Given as goal

abbrev pub invariant-loop-self : goal.invariant-loop-self
invariant-loop-self l = record {
  made : (runs : List Run) → IsInOrder runs → l.count ≤ length runs → AllWithin (λ run. run.high < l.next) runs 0 l.count → AllWithin (λ run. l.low ≤ run.low) runs l.count (length runs)
      → AreMade runs l.count l.fn.self.list.items l.fn.self.most l.fn.self.begun l.fn.self.starts → AreMade runs l.count l.self.list.items l.self.most l.self.begun l.self.starts;
  most : l.self.most ≡ l.fn.self.most;
  few : l.self.most ≤ 2048;
  fits : l.self.begun ≤ 65536;
  count : length l.self.list.items < l.self.most → l.count ≤ 32 * length l.self.list.items + 32;
  within : vec_len l.self.list ≤ l.self.most;
  room : l.self.most ≤ vec_capacity l.self.list;
}

abbrev pub decreases-loop-self : goal.decreases-loop-self
decreases-loop-self l = l.self.most - vec_len l.self.list
