use Rattle.std.proofs.Common.{◌∙◌, arith, refl, subst, sym}
use Rattle.std.proofs.lemmas.Bool.{false≢true}
use Rattle.std.specs.Prelude.{All}
use Rattle.std.proofs.lemmas.List.{take_all}
use Rattle.std.specs.Borrow.{Bor}
use Rattle.std.proofs.Common.{List, ℕ}
use Rattle.cmap_values.specs.NamesSeen.{names_seen}
use Rattle.cmap_text_writer.specs.Fits.{IsName}
use Rattle.cmap_values.proofs.ElementsSeen.{any_at}
use Rattle.cmap_text_writer.proofs.Walked.{all_more}
use Rattle.cmap_text_writer.proofs.check.check_uses.Goals as goal

pub loop-name-preserved : goal.loop-name-preserved
loop-name-preserved c = all_more IsName (λ (n : Bor (List ℕ)). n.now) c.args.names.now c.loop-name.name-index _ (omega arith) c.loop-name.invariant (sym c.is_name.ensures ∙ c.if-not-is_name.false)

pub returns-clause-fit : goal.returns-clause-fit
returns-clause-fit c = subst (λ xs. All IsName (names_seen xs)) (take_all c.loop-name.name-index c.args.names.now c.loop-name-test.false) c.loop-name.invariant

pub returns-then-not-is_name-clause-err : goal.returns-then-not-is_name-clause-err
returns-then-not-is_name-clause-err c = (refl, any_at (λ n. IsName n → ⊥) (λ (n : Bor (List ℕ)). n.now) c.args.names.now c.loop-name.name-index _ (omega arith) (λ yes. false≢true (sym c.if-not-is_name.true ∙ c.is_name.ensures ∙ yes)))
