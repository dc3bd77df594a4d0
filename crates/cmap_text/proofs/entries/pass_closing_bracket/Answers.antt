use Rattle.std.proofs.Common.{refl}
use Rattle.std.specs.Prelude.{Some}
use Rattle.cmap_tokens.specs.TokenSeen.{token_seen}
use Rattle.cmap_text.proofs.EntrySteps.{list_closed, list_ends, list_open}
use Rattle.cmap_text.proofs.Refusals.{passed_on}
use Rattle.cmap_text.proofs.entries.pass_closing_bracket.Goals as goal

pub returns-then-is_executable : goal.returns-then-is_executable
returns-then-is_executable c = λ start lists. (list_closed start lists c.args.reader.now (token_seen c.in_ok-token.token) c.required_token.new.self c.in_ok-token.ensures.0 c.if-is_executable.ensures, tt)

pub returns-else-is_executable : goal.returns-else-is_executable
returns-else-is_executable c = λ start lists. (tt, rw c.wrong.ensures (Some (token_seen c.in_ok-token.token), list_open start lists c.args.reader.now (token_seen c.in_ok-token.token) c.required_token.new.self c.in_ok-token.ensures.0 c.if-is_executable.ensures, refl))

pub returns-in_err-token : goal.returns-in_err-token
returns-in_err-token c = λ start lists. passed_on c.from_residual.result _ _ c.required_token.new.self _ _ c.from_residual.ensures.1 c.in_err-token.ensures.1 (list_ends start lists c.args.reader.now)
