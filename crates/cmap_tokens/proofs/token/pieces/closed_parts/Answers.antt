use Rattle.std.proofs.Common.{length, refl, sym, ap, ◌∙◌, arith, length-drop, length-take-le}
use Rattle.std.proofs.lemmas.List.{take_rest}
use Rattle.std.proofs.lemmas.Option.{MatchOption-from_none}
use Rattle.cmap_tokens.proofs.SpacedStrings.{closed_parts_are, closed_parts_short, parts_none}
use Rattle.cmap_tokens.proofs.token.pieces.closed_parts.Goals as goal

pub returns-then-text-lt8 : goal.returns-then-text-lt8
returns-then-text-lt8 c = record { exact = sym (closed_parts_short c.args.count c.args.text.now c.if-text-lt8.true); within = tt }

pub returns-in_err-high : goal.returns-in_err-high
returns-in_err-high c = record { exact = c.from_residual.ensures ∙ parts_none c.args.count c.args.text.now c.in_err-high.ensures; within = MatchOption-from_none _ _ c.from_residual.ensures }

pub returns-in_err-low : goal.returns-in_err-low
returns-in_err-low c =
    let low = rw (take_rest c.args.text.now 8, c.from.ensures) at c.in_err-low.ensures.exact in
    record { exact = c.from_residual-in_err-low.ensures ∙ closed_parts_are c.args.count c.args.text.now _ _ c.in_ok-high.ensures low; within = MatchOption-from_none _ _ c.from_residual-in_err-low.ensures }

pub returns : goal.returns
returns c =
    let text = c.args.text.now in
    let low = rw (take_rest text 8, c.from.ensures) at c.in_ok-low.ensures.exact in
    record {
      exact = closed_parts_are c.args.count text _ _ c.in_ok-high.ensures low;
      within = (refl, omega (arith, c.in_ok-low.ensures.within, c.from.ensures, ap length (take_rest text 8), length-drop 8 text));
    }

pub hex_number-requires : goal.hex_number-requires
hex_number-requires c =
    let size = length-take-le 8 c.args.text.now c.if-text-lt8.false in
    record { some = omega (arith, size); few = omega (arith, size); pairs = omega (arith, size) }

pub closed_number-requires : goal.closed_number-requires
closed_number-requires c = record { some = omega (arith, c.from.ensures, c.requires.some); few = omega (arith, c.from.ensures, c.requires.few); pairs = omega (arith, c.from.ensures) }
