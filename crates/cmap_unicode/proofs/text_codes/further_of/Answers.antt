use Rattle.std.proofs.Common.{◌≡◌, ◌-◌, length, get_or, ◌∙◌, arith}
use Rattle.std.proofs.lemmas.Grind.{get_or_default_zero}
use Rattle.cmap_layers.proofs.UnitsOfTexts.{alike, unlike}
use Rattle.cmap_unicode.proofs.RowsWithText.{further_by, further_unlike}
use Rattle.cmap_unicode.proofs.text_codes.further_of.Goals as goal

pub returns-then-ne : goal.returns-then-ne
returns-then-ne c = λ some k. further_unlike c.args.begin.now c.args.text.now k some (omega arith) (unlike _ _ c.if-ne.ensures)

pub returns : goal.returns
returns c = λ some k.
    let begin = c.args.begin.now in let text = c.args.text.now in
    let begin_last : c.from-2.result ≡ get_or begin (length begin - 1) 0 = c.from-2.ensures ∙ c.begin_last-item.is ∙ get_or_default_zero begin (length begin - 1) c.begin_last-item.result (omega arith) in
    let last : c.from.result ≡ get_or text (length text - 1) 0 = c.from.ensures ∙ c.last-item.is ∙ get_or_default_zero text (length text - 1) c.last-item.result (omega arith) in
    further_by begin text k some (omega arith) c.checked_sub.result (alike _ _ c.if-ne.ensures) (rw (begin_last, last) at c.checked_sub.ensures)
