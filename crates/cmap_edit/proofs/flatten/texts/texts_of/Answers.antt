use Rattle.std.proofs.Common.{map}
use Rattle.std.proofs.lemmas.Result.{IfOk-weaker}
use Rattle.cmap_values.specs.DeclarationsSeen.{bf_entry_seen}
use Rattle.cmap_edit.proofs.TextsDeclared.{AreTexts-all}
use Rattle.cmap_edit.proofs.WithoutTexts.{AreTexts-none}
use Rattle.cmap_edit.proofs.flatten.texts.texts_of.Goals as goal

pub returns : goal.returns
returns c = IfOk-weaker c.texts_in.result _ _ (λ texts below. AreTexts-all c.args.layers.now c.args.codes.now c.in_ok-chosen.chosen (map bf_entry_seen texts.items) c.in_ok-chosen.ensures below) c.texts_in.ensures

pub returns-then-not-declare_texts : goal.returns-then-not-declare_texts
returns-then-not-declare_texts c = rw c.new.ensures.items (AreTexts-none c.args.layers.now c.args.codes.now (c.declare_texts.ensures c.if-not-declare_texts.true))
