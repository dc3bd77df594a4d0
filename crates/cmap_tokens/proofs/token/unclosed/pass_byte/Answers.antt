use Rattle.std.proofs.Common.{◌≡◌, ◌∙◌, false, sym, arith}
use Rattle.std.proofs.lemmas.Bool.{ne_eqb}
use Rattle.cmap_tokens.proofs.OpenTracked.{backslash_passed, close_passed, open_passed, other_passed}
use Rattle.cmap_tokens.proofs.token.unclosed.pass_byte.Goals as goal
use Rattle.cmap_tokens.proofs.token.unclosed.pass_byte.Goals.{in_default-via-in-41+else-not-escaped, in_default-via-in_default-1}

pub returns-then-byte-eq92 : goal.returns-then-byte-eq92
returns-then-byte-eq92 c = λ text within at tracked. backslash_passed text c.args.offset c.args.byte c.args.escaped c.args.opened.now.items within at c.if-byte-eq92.true tracked

pub returns-else-byte-eq92 : goal.returns-else-byte-eq92
returns-else-byte-eq92 c = λ text within at tracked.
    let (not_open, not_close) : (c.args.byte ≡ 40 → ⊥) × (c.args.escaped ≡ false → c.args.byte ≡ 41 → ⊥) = elim c.in_default.branch [
      | in_default-via-in-41+else-not-escaped w ↦ (λ opens. omega (arith, opens, w.in-41.is), λ not closes. let clash = sym w.if-not-escaped.false ∙ not in cc)
      | in_default-via-in_default-1 w ↦ (λ opens. omega (arith, opens), λ not closes. omega (arith, closes))
    ] in
    rw (ne_eqb c.args.byte 92 c.if-byte-eq92.false) (other_passed text c.args.offset c.args.byte c.args.escaped c.args.opened.now.items within at c.if-byte-eq92.false not_open not_close tracked)

pub returns-in_ok-push-in-40 : goal.returns-in_ok-push-in-40
returns-in_ok-push-in-40 c = λ text within at tracked.
    rw c.in_ok-push-in-40.ensures.items (open_passed text c.args.offset c.args.byte c.args.escaped c.args.opened.now.items within at c.in-40.is tracked)

pub returns-in-41 : goal.returns-in-41
returns-in-41 c = λ text within at tracked.
    close_passed text c.args.offset c.args.byte c.args.opened.now.items c.close.new.opened.items within at c.in-41.is c.close.ensures (rw c.if-not-escaped.true at tracked)
