use Rattle.cmap_values.specs.DeclarationsSeen.{lists_seen}
use Rattle.cmap_edit.proofs.OneFile.{flat_of}
use Rattle.cmap_edit.proofs.flatten.answers.flat_layers.Goals as goal

pub returns : goal.returns
returns c =
    flat_of c.args.layers.now c.args.codes.now (lists_seen c.in_ok-lists.lists) c.of.result c.new-list.result.items c.push.new.self.items c.in_ok-build.field-0 c.in_ok-lists.ensures
    c.of.ensures c.in_ok-push.ensures.items c.new-list.ensures.items c.in_ok-build.ensures
