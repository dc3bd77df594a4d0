use Rattle.std.proofs.Common.{◌∙◌}
use Rattle.cmap_tokens.proofs.NumbersSpelled.{real_is}
use Rattle.cmap_tokens.proofs.token.numerals.is_real.Goals as goal

pub returns : goal.returns
returns c = c.ends_real.ensures ∙ real_is _ _ _ c.without_sign-unsigned.ensures c.digits_len-len.ensures.exact
