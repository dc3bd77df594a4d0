use Rattle.std.proofs.Common.{◌≡◌, option_map, sym, ap, ◌∙◌, arith}
use Rattle.std.specs.Result.{result_ok}
use Rattle.std.proofs.lemmas.List.{nil_from_length}
use Rattle.cmap_tokens.specs.Texts.{shifted}
use Rattle.cmap_tokens.proofs.TextsOfUnits.{shifted_by, with_last}
use Rattle.cmap_tokens.proofs.utf16.shifted.Goals as goal
use Rattle.cmap_tokens.proofs.utf16.shifted.Goals.{After-try_from}

is : (c : After-try_from) → shifted c.args.units.now c.args.offset ≡ option_map (with_last c.args.units.now) (result_ok c.try_from.result)
is c = shifted_by c.try_from.result c.args.units.now c.args.offset _ _ (omega arith) c.from.ensures c.from-2.ensures c.try_from.ensures

pub returns-in_err-last : goal.returns-in_err-last
returns-in_err-last c = rw c.from_residual.ensures (is (goal.at.returns-in_err-last c).After-try_from ∙ ap (option_map (with_last c.args.units.now)) (sym c.in_err-last.ensures.value))

pub returns : goal.returns
returns c = is (goal.at.returns c).After-try_from ∙ ap (option_map (with_last c.args.units.now)) (sym c.in_ok-last.ensures.value)

pub returns-in_default : goal.returns-in_default
returns-in_default c = ap (λ units. shifted units c.args.offset) (nil_from_length c.args.units.now (omega (arith, c.in_default.len_below)))
