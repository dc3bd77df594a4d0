use Rattle.std.proofs.Common.{arith, subst}
use Rattle.std.specs.Prelude.{All}
use Rattle.std.proofs.lemmas.List.{take_all}
use Rattle.cmap_values.specs.DeclarationsSeen.{cid_entry_seen, entries_seen}
use Rattle.cmap_values.specs.CodeLengths.{length_of}
use Rattle.cmap_text_writer.specs.Fits.{BeginsFitting}
use Rattle.cmap_values.proofs.Outcomes.{refuses_on}
use Rattle.cmap_text_writer.proofs.ObstaclesMet.{cid_start}
use Rattle.cmap_values.proofs.ElementsSeen.{any_at}
use Rattle.cmap_text_writer.proofs.Walked.{all_more}
use Rattle.cmap_text_writer.proofs.check.check_cids.Goals as goal

pub loop-entry-preserved : goal.loop-entry-preserved
loop-entry-preserved c = all_more (BeginsFitting (length_of c.args.len)) cid_entry_seen c.args.entries.now c.loop-entry.entry-index _ (omega arith) c.loop-entry.invariant c.in_ok-check_code.ensures.fit

pub returns-clause-fit : goal.returns-clause-fit
returns-clause-fit c = subst (λ xs. All (BeginsFitting (length_of c.args.len)) (entries_seen xs)) (take_all c.loop-entry.entry-index c.args.entries.now c.loop-entry-test.false) c.loop-entry.invariant

pub returns-in_err-check_code-clause-err : goal.returns-in_err-check_code-clause-err
returns-in_err-check_code-clause-err c = refuses_on _ _ c.from_residual.ensures.1 c.in_err-check_code.ensures.err (λ o h. cid_start (length_of c.args.len) (entries_seen c.args.entries.now) _ o h (λ P p. any_at P cid_entry_seen c.args.entries.now c.loop-entry.entry-index _ (omega arith) p))
