use Rattle.std.proofs.Common.{◌≡◌, ◌∙◌, [], ◌∷◌, ◌++◌, ap, append_assoc, arith, replicate}
use Rattle.std.proofs.lemmas.List.{replicate_more}
use Rattle.std.proofs.lemmas.Result.{IfOk-from_err}
use Rattle.cmap_binary_writer.proofs.words.push_copies.Goals as goal

pub loop-preserved : goal.loop-preserved
loop-preserved c =
    let old = c.args.numbers.now.items in
    let number = c.args.number in
    (omega arith, c.in_ok-push.ensures.items ∙ ap (λ ns. ns ++ number ∷ []) c.loop.invariant.1 ∙ append_assoc old (replicate c.loop.counter number) (number ∷ []) ∙ ap (λ ns. old ++ ns) (replicate_more c.loop.counter number))

pub returns : goal.returns
returns c =
    let all : c.loop.counter ≡ c.args.count = omega arith in
    c.loop.invariant.1 ∙ ap (λ n. c.args.numbers.now.items ++ replicate n c.args.number) all

pub returns-in_err-push : goal.returns-in_err-push
returns-in_err-push c = IfOk-from_err _ _ c.from_residual.ensures.0
