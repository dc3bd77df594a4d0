use Rattle.std.proofs.Common.{None, Some, refl, ◌∙◌, arith}
use Rattle.cmap_tokens.proofs.SpacedStrings.{short_pairs_are}
use Rattle.std.proofs.lemmas.Option.{MatchOption-from_none}
use Rattle.cmap_tokens.proofs.token.pieces.short_pairs.Goals as goal

pub returns-in_err-closed_number : goal.returns-in_err-closed_number
returns-in_err-closed_number c = record {
  exact =
      c.from_residual.ensures
      ∙ short_pairs_are c.args.text.now None None None None c.in_default.ensures.exact c.in_default-closed_number.ensures.exact c.in_default-closed_number-2.ensures.exact c.in_err-closed_number.ensures.exact;
  few = MatchOption-from_none _ _ c.from_residual.ensures;
  within = MatchOption-from_none _ _ c.from_residual.ensures;
}

pub returns-in-Some : goal.returns-in-Some
returns-in-Some c = record {
  exact = short_pairs_are c.args.text.now (Some c.in-Some.number) _ _ _ c.in-Some.ensures.exact refl refl refl;
  few = (omega arith, omega arith);
  within = c.in-Some.ensures.within;
}

pub returns-in-Some-closed_number : goal.returns-in-Some-closed_number
returns-in-Some-closed_number c = record {
  exact = short_pairs_are c.args.text.now None (Some c.in-Some-closed_number.number) _ _ c.in_default.ensures.exact c.in-Some-closed_number.ensures.exact refl refl;
  few = (omega arith, omega arith);
  within = c.in-Some-closed_number.ensures.within;
}

pub returns-in-Some-closed_number-2 : goal.returns-in-Some-closed_number-2
returns-in-Some-closed_number-2 c = record {
  exact = short_pairs_are c.args.text.now None None (Some c.in-Some-closed_number-2.number) _ c.in_default.ensures.exact c.in_default-closed_number.ensures.exact c.in-Some-closed_number-2.ensures.exact refl;
  few = (omega arith, omega arith);
  within = c.in-Some-closed_number-2.ensures.within;
}

pub returns-in_ok-closed_number : goal.returns-in_ok-closed_number
returns-in_ok-closed_number c = record {
  exact =
      short_pairs_are c.args.text.now None None None (Some c.in_ok-closed_number.field-0) c.in_default.ensures.exact c.in_default-closed_number.ensures.exact c.in_default-closed_number-2.ensures.exact
      c.in_ok-closed_number.ensures.exact;
  few = (omega arith, omega arith);
  within = c.in_ok-closed_number.ensures.within;
}
