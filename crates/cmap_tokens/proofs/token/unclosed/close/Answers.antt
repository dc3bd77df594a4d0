use Rattle.std.proofs.Common.{◌++◌, [], ◌∷◌, ap, sym, ◌∙◌, refl, inr, append-nil, append_assoc}
use Rattle.cmap_tokens.proofs.OpenTracked.{escaped_first, plain_first}
use Rattle.cmap_tokens.proofs.token.unclosed.close.Goals as goal

pub loop-last-init : goal.loop-last-init
loop-last-init c = ([], sym (append-nil c.args.opened.now.items), refl)

pub returns-then-not-last : goal.returns-then-not-last
returns-then-not-last c =
    let (dropped, is, none) = c.loop-last.invariant in
    let last = c.in-Some.last in
    (last ∷ dropped, is ∙ ap (λ xs. xs ++ dropped) c.in-Some.ensures.items ∙ append_assoc c.pop.new.self.items (last ∷ []) dropped, inr (plain_first last dropped c.if-not-last.true none))

pub loop-last-preserved : goal.loop-last-preserved
loop-last-preserved c =
    let (dropped, is, none) = c.loop-last.invariant in
    let last = c.in-Some.last in
    (last ∷ dropped, is ∙ ap (λ xs. xs ++ dropped) c.in-Some.ensures.items ∙ append_assoc c.pop.new.self.items (last ∷ []) dropped, escaped_first last dropped c.if-not-last.false none)
