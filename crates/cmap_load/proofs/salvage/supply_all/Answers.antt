use Rattle.std.proofs.Common.{sym}
use Rattle.std.specs.Option.{option_copied}
use Rattle.cmap_binary.specs.BundleSeen.{tables_given}
use Rattle.cmap_load.specs.NameLists.{texts_of}
use Rattle.cmap_load.proofs.KeptRead.{Salvages-supplied, Salvages-wanted}
use Rattle.cmap_load.proofs.salvage.supply_all.Goals as goal

pub loop-load-preserved : goal.loop-load-preserved
loop-load-preserved g c =
    let wants = c.wants.ensures in let supplied = c.in_ok-supply.ensures in
    record {
      loading = supplied.salvaging;
      loads = λ budget bytes before.
          Salvages-supplied texts_of c.wants.new.self c.supply.new.self c.name.result.now (option_copied c.file-bytes.result) (sym c.name.ensures) supplied.budget supplied.reads c.file-bytes.ensures
          (Salvages-wanted texts_of c.loop-load.load c.wants.new.self wants.budget (wants.reads (tables_given c.args.bundle)) (c.loop-load.invariant.loads budget bytes before));
    }
