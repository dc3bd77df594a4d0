use Rattle.std.proofs.Common.{◌+◌, Some, ap, ◌∙◌, arith}
use Rattle.std.proofs.lemmas.List.{take_rest}
use Rattle.cmap_tokens.specs.TokenReading.{escape, return_len}
use Rattle.cmap_tokens.proofs.FirstBytes.{part_escape, part_plain, part_return}
use Rattle.cmap_tokens.proofs.token.values.first_part.Goals as goal

pub returns-in-92-clause-exact : goal.returns-in-92-clause-exact
returns-in-92-clause-exact c =
    let body = c.args.body.now in
    ap (λ part. (part.0, 1 + part.1)) (c.escape-byte.ensures.exact ∙ ap escape (take_rest body 1)) ∙ part_escape body c.in-92.is

pub returns-in-13-clause-exact : goal.returns-in-13-clause-exact
returns-in-13-clause-exact c =
    let body = c.args.body.now in
    ap (λ len. (Some 10, len)) (c.return_len.ensures.exact ∙ ap return_len (take_rest body 1)) ∙ part_return body c.in-13.is

pub returns-in_default-first : goal.returns-in_default-first
returns-in_default-first c = record {
  exact = part_plain c.args.body.now c.in-len1-up.len_at_least (λ same. omega (arith, same)) (λ same. omega (arith, same));
  moves = omega arith;
  within = c.in-len1-up.len_at_least;
}
