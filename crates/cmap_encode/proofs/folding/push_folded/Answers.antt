use Rattle.std.proofs.Common.{sym, ◌∙◌}
use Rattle.cmap_encode.proofs.Folded.{is_usual, one_added}
use Rattle.cmap_encode.proofs.folding.push_folded.Goals as goal

pub returns : goal.returns
returns c =
    one_added c.push.result _ _ _ _ c.push.ensures.bytes
    (is_usual c.args.character c.usual.result (sym c.is_selector.ensures ∙ c.if-is_selector.false) (sym c.is_form.ensures ∙ c.if-is_form.false) c.usual.ensures)
