use Rattle.std.proofs.Common.{◌*◌, ◌+◌, length, arith}
use Rattle.cmap_runs.proofs.BlocksMade.{few_begun}
use Rattle.cmap_runs.proofs.runs.held.Held.finished.Goals as goal

pub end_before-requires : goal.end_before-requires
end_before-requires g c = λ more. let runs = c.args.self.now.runs in
    omega (arith, few_begun runs (32 * length c.args.maker.list.items + 32) (length runs) c.requires.order (omega arith) (c.requires.made.unfinished more).last, c.run_count-run_count.ensures)
