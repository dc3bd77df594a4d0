use Rattle.std.proofs.Common.{◌≡◌, ◌∙◌, ◌++◌, ◌∷◌, [], ap}
use Rattle.std.proofs.lemmas.Result.{IfOk-from_err, IfOk-weaker}
use Rattle.cmap_values.specs.UnitsSeen.{units_seen}
use Rattle.cmap_binary_writer.proofs.text_parts.with_last.Goals as goal

pub returns-clause-is : goal.returns-clause-is
returns-clause-is c =
    let front = c.args.front.now in
    let last = c.args.last in
    let whole : c.deref.result.now ≡ front ++ last ∷ [] = c.deref.ensures.value ∙ c.in_ok-push.ensures.items ∙ ap (λ xs. xs ++ last ∷ []) (c.in_ok-extend_from_slice.ensures.items ∙ ap (λ xs. xs ++ front) c.in_ok-units.ensures.items) in
    IfOk-weaker c.from_slice.result _ (λ made. units_seen made ≡ front ++ last ∷ []) (λ made is. is ∙ whole) c.from_slice.ensures.units

pub returns-in_err-units-clause-is : goal.returns-in_err-units-clause-is
returns-in_err-units-clause-is c = IfOk-from_err _ _ c.from_residual.ensures.0

pub returns-in_err-extend_from_slice-clause-is : goal.returns-in_err-extend_from_slice-clause-is
returns-in_err-extend_from_slice-clause-is c = IfOk-from_err _ _ c.from_residual-in_err-extend_from_slice.ensures.0

pub returns-in_err-push-clause-is : goal.returns-in_err-push-clause-is
returns-in_err-push-clause-is c = IfOk-from_err _ _ c.from_residual-in_err-push.ensures.0

pub returns-in_err-units-clause-small : goal.returns-in_err-units-clause-small
returns-in_err-units-clause-small c = IfOk-from_err _ _ c.from_residual.ensures.0

pub returns-in_err-extend_from_slice-clause-small : goal.returns-in_err-extend_from_slice-clause-small
returns-in_err-extend_from_slice-clause-small c = IfOk-from_err _ _ c.from_residual-in_err-extend_from_slice.ensures.0

pub returns-in_err-push-clause-small : goal.returns-in_err-push-clause-small
returns-in_err-push-clause-small c = IfOk-from_err _ _ c.from_residual-in_err-push.ensures.0
