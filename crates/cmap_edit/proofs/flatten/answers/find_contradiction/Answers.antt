use Rattle.cmap_values.specs.CodeLengths.{length_of}
use Rattle.cmap_edit.proofs.WithoutTexts.{is_kept}
use Rattle.cmap_edit.proofs.flatten.answers.find_contradiction.Goals as goal

pub returns-then-not-declare_texts : goal.returns-then-not-declare_texts
returns-then-not-declare_texts c = λ len code small chosen. is_kept c.args.layers.now code (length_of len) (c.declare_texts.ensures c.if-not-declare_texts.true)
