use Rattle.std.proofs.Common.{◌≡◌, get_or, sym, ◌∙◌, arith, length-take-le}
use Rattle.std.proofs.lemmas.Bool.{cond-false, cond-true, eq-eqb, ne_eqb}
use Rattle.std.proofs.lemmas.List.{get_or_past}
use Rattle.cmap_tokens.proofs.FirstBytes.{if_any}
use Rattle.cmap_tokens.proofs.token.pieces.closed_number.Goals as goal
use Rattle.cmap_tokens.proofs.token.pieces.closed_number.Goals.{else-text-len-via-then-text-len+else-text-len-eq62, else-text-len-via-else-text-len}

pub hex_number-requires : goal.hex_number-requires
hex_number-requires c =
    let size = length-take-le c.args.len c.args.text.now (omega (arith, c.if-text-len.true)) in
    record { some = omega (arith, size, c.requires.some); few = omega (arith, size, c.requires.few); pairs = omega (arith, size, c.requires.pairs) }

pub returns-then-text-len-eq62 : goal.returns-then-text-len-eq62
returns-then-text-len-eq62 c = record {
  exact = c.hex_number.ensures ∙ sym (cond-true _ _ _ (eq-eqb _ 62 c.if-text-len-eq62.true));
  within = if_any c.hex_number.result _ c.if-text-len.true;
}

pub returns-else-text-len : goal.returns-else-text-len
returns-else-text-len c =
    elim c.else-text-len.branch [
      | else-text-len-via-then-text-len+else-text-len-eq62 w ↦ record { exact = sym (cond-false _ _ _ (ne_eqb _ 62 w.if-text-len-eq62.false)); within = tt }
      | else-text-len-via-else-text-len w ↦
          let last = get_or c.args.text.now c.args.len 0 in
          let past : last ≡ 0 = get_or_past c.args.text.now c.args.len 0 w.if-text-len.false in
          record { exact = sym (cond-false _ _ _ (ne_eqb last 62 (λ same. omega (arith, same, past)))); within = tt }
    ]
