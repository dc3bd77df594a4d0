use Rattle.std.proofs.Common.{ap}
use Rattle.cmap_values.specs.DeclarationsSeen.{by_length_seen, entries_seen}
use Rattle.cmap_values.proofs.Outcomes.{refused_on, refuses_on}
use Rattle.cmap_text_writer.proofs.ObstaclesMet.{by_cids}
use Rattle.cmap_text_writer.proofs.check.check_by_length.Goals as goal

pub returns-in_err-check_cids-clause-err : goal.returns-in_err-check_cids-clause-err
returns-in_err-check_cids-clause-err c = refuses_on _ _ c.from_residual.ensures.1 c.in_err-check_cids.ensures.err (by_cids (by_length_seen c.args.lists.now) 1 _ (ap entries_seen c.deref.ensures.value))

pub returns-in_err-check_cids-2-clause-err : goal.returns-in_err-check_cids-2-clause-err
returns-in_err-check_cids-2-clause-err c = refuses_on _ _ c.from_residual-in_err-check_cids-2.ensures.1 c.in_err-check_cids-2.ensures.err (by_cids (by_length_seen c.args.lists.now) 2 _ (ap entries_seen c.deref-2.ensures.value))

pub returns-in_err-check_cids-3-clause-err : goal.returns-in_err-check_cids-3-clause-err
returns-in_err-check_cids-3-clause-err c = refuses_on _ _ c.from_residual-in_err-check_cids-3.ensures.1 c.in_err-check_cids-3.ensures.err (by_cids (by_length_seen c.args.lists.now) 3 _ (ap entries_seen c.deref-3.ensures.value))

pub returns-clause-err : goal.returns-clause-err
returns-clause-err c = refused_on _ c.check_cids-4.ensures.err (by_cids (by_length_seen c.args.lists.now) 4 _ (ap entries_seen c.deref-4.ensures.value))
