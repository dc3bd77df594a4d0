use Rattle.std.proofs.Common.{ap, map}
use Rattle.cmap_values.specs.DeclarationsSeen.{bf_entry_seen, codespace_seen, lists_seen}
use Rattle.cmap_values.proofs.Outcomes.{refused_on, refuses_on}
use Rattle.cmap_text_writer.proofs.ObstaclesMet.{by_cid_lists, by_notdefs, by_spaces, by_texts}
use Rattle.cmap_text_writer.proofs.check.check_lists.Goals as goal

pub returns-in_err-check_spaces-clause-err : goal.returns-in_err-check_spaces-clause-err
returns-in_err-check_spaces-clause-err c = refuses_on _ _ c.from_residual.ensures.1 c.in_err-check_spaces.ensures.err (by_spaces (lists_seen c.args.lists.now) _ (ap (map codespace_seen) c.deref.ensures.value))

pub returns-in_err-check_by_length-clause-err : goal.returns-in_err-check_by_length-clause-err
returns-in_err-check_by_length-clause-err c = refuses_on _ _ c.from_residual-in_err-check_by_length.ensures.1 c.in_err-check_by_length.ensures.err (by_notdefs (lists_seen c.args.lists.now))

pub returns-in_err-check_by_length-2-clause-err : goal.returns-in_err-check_by_length-2-clause-err
returns-in_err-check_by_length-2-clause-err c = refuses_on _ _ c.from_residual-in_err-check_by_length-2.ensures.1 c.in_err-check_by_length-2.ensures.err (by_cid_lists (lists_seen c.args.lists.now))

pub returns-clause-err : goal.returns-clause-err
returns-clause-err c = refused_on _ c.check_texts.ensures.err (by_texts (lists_seen c.args.lists.now) _ (ap (map bf_entry_seen) c.deref-2.ensures.value))
