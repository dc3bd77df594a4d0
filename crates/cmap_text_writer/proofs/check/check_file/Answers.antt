use Rattle.std.proofs.Common.{ap}
use Rattle.cmap_values.specs.FilesSeen.{file_seen}
use Rattle.cmap_values.specs.NamesSeen.{names_seen}
use Rattle.cmap_values.proofs.Outcomes.{refused_on, refuses_on}
use Rattle.cmap_text_writer.proofs.ObstaclesMet.{by_collection, by_lists, by_name, by_use}
use Rattle.cmap_text_writer.proofs.check.check_file.Goals as goal

pub returns-in_err-check_uses-clause-err : goal.returns-in_err-check_uses-clause-err
returns-in_err-check_uses-clause-err c = refuses_on _ _ c.from_residual.ensures.1 c.in_err-check_uses.ensures.err (by_use (file_seen c.args.file.now) _ (ap names_seen c.deref.ensures.value))

pub returns-in_err-check_name-clause-err : goal.returns-in_err-check_name-clause-err
returns-in_err-check_name-clause-err c = refuses_on _ _ c.from_residual-in_err-check_name.ensures.1 c.in_err-check_name.ensures.err (by_name (file_seen c.args.file.now))

pub returns-in_err-check_collection-clause-err : goal.returns-in_err-check_collection-clause-err
returns-in_err-check_collection-clause-err c = refuses_on _ _ c.from_residual-in_err-check_collection.ensures.1 c.in_err-check_collection.ensures.err (by_collection (file_seen c.args.file.now))

pub returns-clause-err : goal.returns-clause-err
returns-clause-err c = refused_on _ c.check_lists.ensures.err (by_lists (file_seen c.args.file.now))
