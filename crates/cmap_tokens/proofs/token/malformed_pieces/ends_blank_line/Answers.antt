use Rattle.std.proofs.Common.{◌≡◌, true, take, ap, sym, ◌∙◌, arith}
use Rattle.std.proofs.lemmas.List.{take_all}
use Rattle.cmap_tokens.specs.Malformed.{blank_after}
use Rattle.cmap_tokens.proofs.MalformedRead.{blank_less, not_blank}
use Rattle.cmap_tokens.proofs.token.malformed_pieces.ends_blank_line.Goals as goal

pub loop-i-init : goal.loop-i-init
loop-i-init c = ap (blank_after true) (take_all _ c.args.text.now (omega arith))

pub returns-then-not-is_line_blank : goal.returns-then-not-is_line_blank
returns-then-not-is_line_blank c = c.is_line_end.ensures ∙ not_blank c.args.text.now c.loop-i.i c.loop-i-test.true c.loop-i.auto.i (sym c.is_line_blank.ensures ∙ c.if-not-is_line_blank.true) c.loop-i.invariant

pub loop-i-preserved : goal.loop-i-preserved
loop-i-preserved c = blank_less c.args.text.now c.loop-i.i c.loop-i-test.true c.loop-i.auto.i (sym c.is_line_blank.ensures ∙ c.if-not-is_line_blank.false) c.loop-i.invariant

pub returns : goal.returns
returns c = let none : c.loop-i.i ≡ 0 = omega (arith, c.loop-i-test.false) in ap (λ n. blank_after true (take n c.args.text.now)) (sym none) ∙ c.loop-i.invariant
