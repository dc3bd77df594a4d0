use Rattle.std.proofs.Common.{◌≡◌, ◌++◌}
use Rattle.std.specs.Global.{Vec}
use Rattle.std.specs.List.{AllZip}
use Rattle.cmap_encode.specs.IndexSeen.{AreFirstsOf}
use Rattle.cmap_encode.specs.declared.key_codes.CodeRun.{CodeRun}
use Rattle.cmap_encode.proofs.index.firsts_of.Given as goal

abbrev pub invariant-loop-runs : goal.invariant-loop-runs
invariant-loop-runs l = record {
  lists : l.yielded ++ l.runs-iterator.rest.items ≡ l.fn.lists.items;
  firsts : AllZip (λ (list : Vec CodeRun). AreFirstsOf list.items) l.yielded l.all.items;
}
