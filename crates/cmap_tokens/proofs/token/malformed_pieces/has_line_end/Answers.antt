use Rattle.std.proofs.Common.{ap, sym, ◌∙◌, arith}
use Rattle.std.specs.List.{list_any}
use Rattle.std.proofs.lemmas.List.{take_all}
use Rattle.cmap_tokens.specs.Malformed.{ends_line}
use Rattle.cmap_tokens.proofs.MalformedRead.{any_here, none_more}
use Rattle.cmap_tokens.proofs.token.malformed_pieces.has_line_end.Goals as goal

pub loop-byte-preserved : goal.loop-byte-preserved
loop-byte-preserved c = none_more ends_line c.args.text.now c.loop-byte.byte-index c.loop-byte-test.true (sym c.is_line_end.ensures ∙ c.if-is_line_end.false) c.loop-byte.invariant

pub returns-then-is_line_end : goal.returns-then-is_line_end
returns-then-is_line_end c = sym (any_here ends_line c.args.text.now c.loop-byte.byte-index c.loop-byte-test.true (sym c.is_line_end.ensures ∙ c.if-is_line_end.true))

pub returns : goal.returns
returns c = sym c.loop-byte.invariant ∙ ap (list_any ends_line) (take_all c.loop-byte.byte-index c.args.text.now (omega (arith, c.loop-byte-test.false)))
