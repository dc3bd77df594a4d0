use Rattle.cmap_values.specs.FilesSeen.{file_seen}
use Rattle.cmap_edit.proofs.OneFile.{is_subset, no_subset}
use Rattle.cmap_edit.proofs.flatten.subsets.subset.Goals as goal

pub returns-clause-file : goal.returns-clause-file
returns-clause-file c = (is_subset c.args.layers.now c.args.codes.now (file_seen c.in_ok-file.file) c.in_ok-file.ensures (rw c.in_default.is at c.in_ok-contradiction.ensures), tt)

pub returns-in-Some-clause-none : goal.returns-in-Some-clause-none
returns-in-Some-clause-none c = λ file is.
    let found = rw c.in-Some.is at c.in_ok-contradiction.ensures in no_subset c.args.layers.now c.args.codes.now c.in-Some.contradiction file found.0 found.1 is

pub returns-in-Some-clause-file : goal.returns-in-Some-clause-file
returns-in-Some-clause-file c = (tt, (rw c.in-Some.is at c.in_ok-contradiction.ensures).1)
