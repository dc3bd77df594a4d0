use Rattle.std.proofs.lemmas.Result.{IfOk-weaker}
use Rattle.cmap_values.specs.CodeLengths.{length_of}
use Rattle.cmap_values.specs.DeclarationsSeen.{entries_seen}
use Rattle.cmap_edit.proofs.CodesDeclared.{AreDeclared-all}
use Rattle.cmap_edit.proofs.flatten.cids.declared_of.Goals as goal

pub returns : goal.returns
returns c =
    IfOk-weaker c.declared_in.result _ _ (λ made below. AreDeclared-all c.args.layers.now c.args.codes.now c.in_ok-chosen.chosen (length_of c.args.len) (entries_seen made.cids.items) (entries_seen made.notdefs.items) c.in_ok-chosen.ensures below) c.declared_in.ensures
