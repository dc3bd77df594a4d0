use Rattle.std.proofs.Common.{◌≡◌, ℕ, false, true, get_or, length, refl, sym, arith}
use Rattle.std.proofs.lemmas.Bool.{both_ways, eq-eqb, ne_eqb, or_left}
use Rattle.std.proofs.lemmas.Bool.Decides.{nat_tests}
use Rattle.std.proofs.lemmas.List.{at_drop_all}
use Rattle.cmap_tokens.specs.Gaps.{ends_comment}
use Rattle.cmap_tokens.specs.TokenReading.{gap_len}
use Rattle.cmap_tokens.proofs.BytesPassed.{passed_all, passed_more}
use Rattle.cmap_tokens.proofs.token.gaps.line_len.Goals as goal
use Rattle.cmap_tokens.proofs.token.gaps.line_len.Goals.{in_default, in_default-2, in-10, in-10-2}

plain : (byte : ℕ) → (byte ≡ 10 → ⊥) → (byte ≡ 12 → ⊥) → (byte ≡ 13 → ⊥) → ends_comment byte ≡ false
plain byte not_line not_page not_return = rw (ne_eqb byte 10 not_line, ne_eqb byte 12 not_page, ne_eqb byte 13 not_return) refl

pub returns-then-matches-clause-exact : goal.returns-then-matches-clause-exact
returns-then-matches-clause-exact c =
    let byte = get_or c.args.text.now c.loop-i.i 0 in
    let ends : ends_comment (get_or c.args.text.now c.loop-i.i 0) ≡ true =
    elim c.match-matches.branch [
      | in_default w ↦ absurd (both_ways _ w.matches-is c.if-matches.true)
      | in_default-2 w ↦ absurd (both_ways _ w.matches-is c.if-matches.true)
      | in-10 w ↦ or_left _ _ (eq-eqb _ 10 w.in-10.is)
      | in-10-2 w ↦ grind (arith, nat_tests)
    ] in
    sym (passed_more (gap_len true) (gap_len false) c.args.text.now c.loop-i.i _ c.loop-i-test.true (rw ends refl) c.loop-i.invariant)

pub loop-i-preserved : goal.loop-i-preserved
loop-i-preserved c =
    let byte = get_or c.args.text.now c.loop-i.i 0 in
    let on : ends_comment (get_or c.args.text.now c.loop-i.i 0) ≡ false =
    elim c.match-matches.branch [
      | in_default w ↦ plain byte (λ same. omega (arith, same)) (λ same. omega (arith, same)) (λ same. omega (arith, same))
      | in_default-2 w ↦ plain byte (λ same. omega (arith, same)) (λ same. omega (arith, same)) (λ same. omega (arith, same))
      | in-10 w ↦ absurd (both_ways _ c.if-matches.false w.matches-is)
      | in-10-2 w ↦ absurd (both_ways _ c.if-matches.false w.matches-is)
    ] in
    passed_more (gap_len true) (gap_len true) c.args.text.now c.loop-i.i _ c.loop-i-test.true (rw on refl) c.loop-i.invariant

pub returns-clause-exact : goal.returns-clause-exact
returns-clause-exact c =
    let text = c.args.text.now in
    omega (arith, passed_all (gap_len true) text c.loop-i.i _ refl c.loop-i.auto.i-end c.loop-i-test.false c.loop-i.invariant, at_drop_all (gap_len false) text (length text) (omega arith))
