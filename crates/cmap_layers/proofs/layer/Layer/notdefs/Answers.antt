use Rattle.std.proofs.Common.{sym, ap, ◌∙◌}
use Rattle.cmap_values.specs.DeclarationsSeen.{entries_seen}
use Rattle.cmap_layers.proofs.LastFound.{searched}
use Rattle.cmap_layers.proofs.layer.Layer.notdefs.Goals as goal

pub returns : goal.returns
returns c = ap entries_seen (rw c.notdefs.ensures at c.get.ensures) ∙ sym (searched c.args.self.now.others.notdefs c.args.len)
