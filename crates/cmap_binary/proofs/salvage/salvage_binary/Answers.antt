use Rattle.std.proofs.Common.{subst}
use Rattle.cmap_values.specs.FilesSeen.{file_seen}
use Rattle.cmap_binary.specs.BinarySalvage.{SalvagesBinary}
use Rattle.cmap_binary.proofs.BinarySalvaged.{fault_without_file, salvage_ascends, whole_salvaged}
use Rattle.cmap_binary.proofs.salvage.salvage_binary.Goals as goal

pub returns-clause-says : goal.returns-clause-says
returns-clause-says c =
    subst (λ tables. SalvagesBinary tables c.args.bytes.now (file_seen c.in_ok-file.file) c.salvage_file.new.faults.items) c.tables.ensures (c.in_ok-file.ensures c.new-faults.ensures.items)

pub returns-clause-file : goal.returns-clause-file
returns-clause-file c = whole_salvaged (returns-clause-says c)

pub returns-clause-first : goal.returns-clause-first
returns-clause-first c = fault_without_file (returns-clause-says c)

pub returns-clause-ascend : goal.returns-clause-ascend
returns-clause-ascend c = salvage_ascends (returns-clause-says c)
