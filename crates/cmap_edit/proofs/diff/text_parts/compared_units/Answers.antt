use Rattle.std.proofs.Common.{◌≡◌, ◌+◌, true≢false, ap, sym, subst, ◌∙◌, arith}
use Rattle.std.specs.Prelude.{◌||◌}
use Rattle.cmap_tokens.specs.Texts.{text_at}
use Rattle.cmap_edit.specs.Differences.{DiffersIf}
use Rattle.cmap_edit.proofs.TextsAlike.{in_row, unlike_texts}
use Rattle.cmap_edit.proofs.diff.text_parts.compared_units.Goals as goal
use Rattle.cmap_edit.proofs.diff.text_parts.compared_units.Goals.{then-here, else-here}

pub returns : goal.returns
returns c = λ k le.
    let here = c.in_ok-here.here in let there = c.in_ok-there.there in
    let is : c.if-here.result ≡ (here || there) =
    elim c.if-here.branch [
      | then-here w ↦ w.result-is ∙ w.if-here.true ∙ sym (ap (λ b. b || there) w.if-here.true)
      | else-here w ↦ w.result-is ∙ sym (ap (λ b. b || there) w.if-here.false)
    ] in
    subst (λ differs. DiffersIf differs (text_at c.args.left.now (c.args.offset + k)) (text_at c.args.right.now (c.args.other_offset + k))) (sym is)
    (unlike_texts c.args.left.now c.args.right.now c.args.offset c.args.other_offset k here there (λ i. omega (arith, c.type_inv.left i)) (λ i. omega (arith, c.type_inv.right i))
    (λ alike. true≢false (sym (c.are_alike.ensures.1 alike) ∙ c.if-are_alike.false))
    (in_row c.args.left.now c.args.offset k (c.further_texts.ensures.count k (omega (arith, c.min.ensures))) ∙ sym c.in_ok-here.ensures)
    (in_row c.args.right.now c.args.other_offset k (c.further_texts-2.ensures.count k (omega (arith, c.min.ensures))) ∙ sym c.in_ok-there.ensures))
