use Rattle.std.proofs.Common.{sym, ◌∙◌, subst}
use Rattle.cmap_tokens.specs.Strings.{inside}
use Rattle.cmap_tokens.specs.Tokens.{IsHexString}
use Rattle.cmap_tokens.proofs.StringValues.{Answers, hex_string, plain_is, plain_value}
use Rattle.cmap_tokens.proofs.token.StringToken.plain_number.Goals as goal
use Rattle.cmap_tokens.proofs.token.StringToken.plain_number.Goals.{After-pairs_number}

hex : (c : After-pairs_number) → IsHexString c.args.self.now.raw.now
hex c = hex_string _ c.args.self.now.whole (sym c.is_hexadecimal.ensures ∙ c.if-is_hexadecimal.true)

answers : (c : After-pairs_number) → Answers (inside c.args.self.now.raw.now) c.pairs_number.result
answers c = subst (λ digits. Answers digits c.pairs_number.result) c.body.ensures c.pairs_number.ensures.value

pub returns-then-is_hexadecimal-clause-value : goal.returns-then-is_hexadecimal-clause-value
returns-then-is_hexadecimal-clause-value c = plain_value c.args.self.now.raw.now c.pairs_number.result (hex c) (answers c)

pub returns-then-is_hexadecimal-clause-plain : goal.returns-then-is_hexadecimal-clause-plain
returns-then-is_hexadecimal-clause-plain c = plain_is c.args.self.now.raw.now c.pairs_number.result (hex c) (answers c)
