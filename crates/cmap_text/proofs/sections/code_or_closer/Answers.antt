use Rattle.std.proofs.Common.{ap, ◌∙◌}
use Rattle.cmap_tokens.specs.TokenSeen.{token_seen}
use Rattle.cmap_text.specs.TextReading.{code_fault, code_in, is_executable}
use Rattle.cmap_text.specs.TextSeen.{code_seen, section_seen}
use Rattle.cmap_text.specs.TokenParsers.{or_wrong}
use Rattle.cmap_text.proofs.EntrySteps.{start_closes, start_is}
use Rattle.cmap_text.proofs.Refusals.{some_read}
use Rattle.cmap_text.proofs.sections.code_or_closer.Goals as goal

pub returns-then-is_executable : goal.returns-then-is_executable
returns-then-is_executable c =
    let closes = c.if-is_executable.ensures ∙ ap (λ name. is_executable name (token_seen c.args.token.now)) c.closer.ensures in
    (start_closes (section_seen c.args.section) (token_seen c.args.token.now) c.args.reader.now closes, tt)

pub returns : goal.returns
returns c =
    let t = token_seen c.args.token.now in
    let other = c.if-is_executable.ensures ∙ ap (λ name. is_executable name t) c.closer.ensures in
    some_read code_seen c.code.new.self (or_wrong (code_fault t) (code_in t) t c.args.reader.now) _ c.code.result c.map.result c.map.ensures.cases (start_is (section_seen c.args.section) t c.args.reader.now other) c.code.ensures
