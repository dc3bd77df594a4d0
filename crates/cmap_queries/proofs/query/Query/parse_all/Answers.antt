use Rattle.std.proofs.Common.{◌+◌, All, ap, length, length-append, inr, map, refl, string_bytes, subst, sym, ◌∙◌}
use Rattle.std.proofs.lemmas.List.Elements.{All-push}
use Rattle.cmap_queries.specs.CodeArguments.{SpellsNoQuery}
use Rattle.cmap_queries.specs.Queries.{argument_of, IsSpelled}
use Rattle.cmap_queries.proofs.OneMore.{map-one_more}
use Rattle.cmap_queries.proofs.query.Query.parse_all.Goals as goal

pub loop-argument-preserved : goal.loop-argument-preserved
loop-argument-preserved c =
    let argument = rw c.in-Some.is at c.parse.ensures.argument in
    let spelled = rw c.in-Some.is at c.parse.ensures.spelled in
    let items = c.in_ok-push-in-Some.ensures.items in
    let arguments = map-one_more argument_of string_bytes _ _ _ _ _ c.loop-argument.invariant.0 c.loop-argument-test.true c.argument-item.is (argument ∙ c.as_str.ensures.value) in
    (ap (map argument_of) items ∙ arguments, subst (All IsSpelled) (sym items) (All-push IsSpelled _ _ c.loop-argument.invariant.1 spelled), ap length items ∙ length-append _ _ ∙ ap (λ n. n + 1) c.loop-argument.invariant.2)

pub returns-in-None-clause-usage : goal.returns-in-None-clause-usage
returns-in-None-clause-usage c _ =
    let wrong = subst SpellsNoQuery c.as_str.ensures.value (c.parse.ensures.none (rw c.in-None.is refl)) in
    inr (c.loop-argument.argument-index, c.argument-item.result, c.loop-argument-test.true, sym c.argument-item.is, wrong)
