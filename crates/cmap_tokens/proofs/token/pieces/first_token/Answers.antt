use Rattle.std.proofs.Common.{sym, ap, ◌∙◌, arith}
use Rattle.std.proofs.lemmas.Bool.{eqb-false, eqb-true}
use Rattle.cmap_tokens.specs.Malformed.{malformed_kind}
use Rattle.cmap_tokens.proofs.Fronts.{blank_is, first_token_is, malformed_is, rest_is}
use Rattle.cmap_tokens.proofs.token.pieces.first_token.Goals as goal

pub returns-in-Some-clause-outcome : goal.returns-in-Some-clause-outcome
returns-in-Some-clause-outcome c = first_token_is _ _ _ _ c.gap_len-gap.ensures.exact c.in-Some.ensures.within c.in-Some.ensures.exact

pub returns-in-None-clause-outcome : goal.returns-in-None-clause-outcome
returns-in-None-clause-outcome c = blank_is _ _ c.gap_len-gap.ensures.exact (eqb-true _ 0 (sym c.if-is_empty.ensures))

pub returns-in-None-2-clause-outcome : goal.returns-in-None-2-clause-outcome
returns-in-None-2-clause-outcome c =
    let gap = c.gap_len-gap.ensures.exact in (
      malformed_is c.args.text.now c.gap_len-gap.result gap (omega (arith, eqb-false _ 0 (sym c.is_empty.ensures ∙ c.if-is_empty.false))) c.in-None-2.ensures.exact,
      c.malformed_kind.ensures ∙ ap malformed_kind (rest_is c.args.text.now c.gap_len-gap.result gap),
    )
