use Rattle.std.proofs.Common.{sym}
use Rattle.std.specs.Option.{option_copied}
use Rattle.cmap_load.proofs.Loaded.{Loads-supplied}
use Rattle.cmap_load.proofs.from_source.supply_all.Goals as goal

pub loop-name-preserved : goal.loop-name-preserved
loop-name-preserved g c =
    let supplied = c.in_ok-supply.ensures in
    record {
      loading = supplied.loading;
      loads = λ budget bytes before. Loads-supplied c.loop-name.load c.supply.new.self c.in-Some.name.now (option_copied c.file-bytes.result) (sym c.in-Some.ensures.asked) supplied.budget supplied.reads c.file-bytes.ensures (c.loop-name.invariant.loads budget bytes before);
    }
