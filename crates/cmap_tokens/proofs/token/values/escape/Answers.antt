use Rattle.std.proofs.Common.{◌<◌, ◌≤◌, None, Some, get_or, inl, inr, ap, ◌∙◌, arith}
use Rattle.std.specs.Prelude.{◌⊎◌}
use Rattle.std.proofs.lemmas.List.{take_rest}
use Rattle.cmap_tokens.specs.TokenReading.{return_len}
use Rattle.cmap_tokens.proofs.FirstBytes.{escape_line, escape_nothing, escape_octal, escape_other, escape_return}
use Rattle.cmap_tokens.proofs.token.values.escape.Goals as goal
use Rattle.cmap_tokens.proofs.token.values.escape.Goals.{in_default-first-via-then-first-lt48, in_default-first-via-else-first-lt48+else-first-lt56}

pub returns-in_default : goal.returns-in_default
returns-in_default c = record { exact = escape_nothing c.args.text.now c.in_default.len_below; within = omega arith }

pub returns-in-13-clause-exact : goal.returns-in-13-clause-exact
returns-in-13-clause-exact c = ap (λ len. (None, len)) (c.return_len.ensures.exact ∙ ap return_len (take_rest c.args.text.now 1)) ∙ escape_return c.args.text.now c.in-13.is

pub returns-in-10 : goal.returns-in-10
returns-in-10 c = record { exact = escape_line c.args.text.now c.in-10.is; within = c.in-len1-up.len_at_least }

pub returns-in-48-to-55 : goal.returns-in-48-to-55
returns-in-48-to-55 c = record {
  exact = ap (λ part. (Some part.0, part.1)) c.octal-byte.ensures.exact ∙ escape_octal c.args.text.now (omega arith) (omega arith);
  within = c.octal-byte.ensures.within;
}

pub returns-in_default-first : goal.returns-in_default-first
returns-in_default-first c =
    let byte = get_or c.args.text.now 0 0 in
    let outside : (byte < 48) ⊎ (56 ≤ byte) =
    elim c.in_default-first-1.branch [
      | in_default-first-via-then-first-lt48 w ↦ inl (omega arith)
      | in_default-first-via-else-first-lt48+else-first-lt56 w ↦ inr (omega arith)
    ] in
    record {
      exact = ap (λ b. (Some b, 1)) c.escaped_byte.ensures ∙ escape_other c.args.text.now c.in-len1-up.len_at_least (λ same. omega (arith, same)) (λ same. omega (arith, same)) outside;
      within = c.in-len1-up.len_at_least;
    }
