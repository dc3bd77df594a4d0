use Rattle.std.proofs.Common.{◌≡◌, ◌%◌, take, ap, ◌∙◌, arith}
use Rattle.std.specs.Prelude.{unwrap_or}
use Rattle.cmap_tokens.specs.TokenReading.{octal_len}
use Rattle.cmap_tokens.proofs.Digits.{capped, octal_value}
use Rattle.cmap_tokens.proofs.token.values.octal.Goals as goal

pub returns-clause-exact : goal.returns-clause-exact
returns-clause-exact c =
    let len : c.min-len.result ≡ octal_len c.args.text.now = omega (arith, c.min-len.ensures, c.digits_len.ensures.exact) in
    let value = c.unwrap_or-value.ensures ∙ ap (λ o. unwrap_or o 0) c.digits_number.ensures ∙ ap (λ n. unwrap_or (capped 8 (take n c.args.text.now)) 0) len ∙ octal_value c.args.text.now in
    λ i. (value i % 256, len i)
