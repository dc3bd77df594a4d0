use Rattle.std.proofs.Common.{arith, map, subst}
use Rattle.std.specs.Prelude.{All}
use Rattle.std.proofs.lemmas.List.{take_all}
use Rattle.cmap_values.specs.DeclarationsSeen.{codespace_seen}
use Rattle.cmap_text_writer.specs.Fits.{IsSpaceFitting}
use Rattle.cmap_values.proofs.Outcomes.{refuses_on}
use Rattle.cmap_text_writer.proofs.ObstaclesMet.{space_high, space_low}
use Rattle.cmap_values.proofs.ElementsSeen.{any_at}
use Rattle.cmap_text_writer.proofs.Walked.{all_more}
use Rattle.cmap_text_writer.proofs.check.check_spaces.Goals as goal

pub loop-space-preserved : goal.loop-space-preserved
loop-space-preserved c = all_more IsSpaceFitting codespace_seen c.args.spaces.now c.loop-space.space-index _ (omega arith) c.loop-space.invariant (c.in_ok-check_code.ensures.fit, c.in_ok-check_code-2.ensures.fit)

pub returns-clause-fit : goal.returns-clause-fit
returns-clause-fit c = subst (λ xs. All IsSpaceFitting (map codespace_seen xs)) (take_all c.loop-space.space-index c.args.spaces.now c.loop-space-test.false) c.loop-space.invariant

pub returns-in_err-check_code-clause-err : goal.returns-in_err-check_code-clause-err
returns-in_err-check_code-clause-err c = refuses_on _ _ c.from_residual.ensures.1 c.in_err-check_code.ensures.err (λ o h. space_low (map codespace_seen c.args.spaces.now) _ o h (λ P p. any_at P codespace_seen c.args.spaces.now c.loop-space.space-index _ (omega arith) p))

pub returns-in_err-check_code-2-clause-err : goal.returns-in_err-check_code-2-clause-err
returns-in_err-check_code-2-clause-err c = refuses_on _ _ c.from_residual-in_err-check_code-2.ensures.1 c.in_err-check_code-2.ensures.err (λ o h. space_high (map codespace_seen c.args.spaces.now) _ o h (λ P p. any_at P codespace_seen c.args.spaces.now c.loop-space.space-index _ (omega arith) p))
