use Rattle.std.proofs.Common.{sym, arith}
use Rattle.std.proofs.lemmas.List.{nil_from_length}
use Rattle.std.proofs.lemmas.Result.{IfOk-from_err}
use Rattle.cmap_values.proofs.FewElements.{one_is, two_is, three_is, four_is}
use Rattle.cmap_values.proofs.units.Units.from_slice.Goals as goal

pub returns-in-empty-clause-units : goal.returns-in-empty-clause-units
returns-in-empty-clause-units c = sym (nil_from_length c.args.units.now (omega (arith, c.in-empty.len_below)))

pub returns-in-len1-clause-units : goal.returns-in-len1-clause-units
returns-in-len1-clause-units c = one_is c.args.units.now c.in-len1.len_at_least c.in-len1.len_below

pub returns-in-len2-clause-units : goal.returns-in-len2-clause-units
returns-in-len2-clause-units c = two_is c.args.units.now c.in-len2.len_at_least c.in-len2.len_below

pub returns-in-len3-clause-units : goal.returns-in-len3-clause-units
returns-in-len3-clause-units c = three_is c.args.units.now c.in-len3.len_at_least c.in-len3.len_below

pub returns-in-len4-clause-units : goal.returns-in-len4-clause-units
returns-in-len4-clause-units c = four_is c.args.units.now c.in-len4.len_at_least c.in-len4.len_below

pub returns-in_err-units-in_default : goal.returns-in_err-units-in_default
returns-in_err-units-in_default c = record {
  units = IfOk-from_err c.from_residual.result _ c.from_residual.ensures.0;
  few = λ short. absurd (omega arith);
}

pub returns-in_err-new-in_default : goal.returns-in_err-new-in_default
returns-in_err-new-in_default c = record {
  units = IfOk-from_err c.from_residual-in_err-new-in_default.result _ c.from_residual-in_err-new-in_default.ensures.0;
  few = λ short. absurd (omega arith);
}

pub returns-in_ok-new-in_default-clause-units : goal.returns-in_ok-new-in_default-clause-units
returns-in_ok-new-in_default-clause-units c =
    rw c.in_ok-new-in_default.ensures.ok c.in_ok-units-in_default.ensures.items
