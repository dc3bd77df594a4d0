use Rattle.std.proofs.Common.{◌++◌, rules, sym, ap, ◌∙◌}
use Rattle.std.proofs.lemmas.Result.{IfOk-from_err, MatchResult-from_err}
use Rattle.cmap_tokens.specs.Strings.{hex_value}
use Rattle.cmap_tokens.specs.TokenReading.{text_value}
use Rattle.cmap_tokens.proofs.StringValues.{decoded}
use Rattle.cmap_tokens.proofs.token.StringToken.decode_into.Goals as goal

pub returns-then-is_hexadecimal : goal.returns-then-is_hexadecimal
returns-then-is_hexadecimal c =
    let written = c.decode_hex.ensures ∙ ap (λ items. items ++ hex_value c.body-body.result.now) c.clear.ensures.items ∙ ap hex_value c.body-body.ensures in
    let is = decoded c.args.self.now.raw.now _ c.args.self.now.whole (rw (sym c.is_hexadecimal.ensures ∙ c.if-is_hexadecimal.true) written) in
    record { value = is.0; only = is.1; err = search rules; succeeds = search rules }

pub returns-else-is_hexadecimal : goal.returns-else-is_hexadecimal
returns-else-is_hexadecimal c =
    let written = c.decode_text.ensures ∙ ap (λ items. items ++ text_value c.body-body.result.now) c.clear.ensures.items ∙ ap text_value c.body-body.ensures in
    let is = decoded c.args.self.now.raw.now _ c.args.self.now.whole (rw (sym c.is_hexadecimal.ensures ∙ c.if-is_hexadecimal.false) written) in
    record { value = is.0; only = is.1; err = search rules; succeeds = search rules }

pub returns-in_err-reserve : goal.returns-in_err-reserve
returns-in_err-reserve c = record {
  value = IfOk-from_err _ _ c.from_residual.ensures.0;
  only = IfOk-from_err _ _ c.from_residual.ensures.0;
  err = MatchResult-from_err c.from_residual.result _ _ c.from_residual.ensures.0 (λ _. c.reserve.ensures.items);
  succeeds = search rules;
}
