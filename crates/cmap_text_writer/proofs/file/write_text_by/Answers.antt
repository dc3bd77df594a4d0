use Rattle.cmap_values.specs.FilesSeen.{file_seen}
use Rattle.cmap_values.proofs.Outcomes.{memory_on, refuses_on}
use Rattle.cmap_text_writer.specs.Lengths.{text_length}
use Rattle.cmap_text_writer.specs.Obstacles.{IsObstacle, NoTextSays}
use Rattle.cmap_text_writer.proofs.ObstaclesMet.{no_text}
use Rattle.cmap_text_writer.proofs.WholeTold.{written_alone}
use Rattle.cmap_text_writer.proofs.file.write_text_by.Goals as goal

pub returns-clause-written : goal.returns-clause-written
returns-clause-written c = (written_alone (text_length c.args.lengths) (file_seen c.args.file.now) _ c.push_file.new.out.items c.new-out.ensures.items c.in_ok-push_file.ensures).is

pub returns-clause-laid : goal.returns-clause-laid
returns-clause-laid c = (written_alone (text_length c.args.lengths) (file_seen c.args.file.now) _ c.push_file.new.out.items c.new-out.ensures.items c.in_ok-push_file.ensures).laid

pub returns-clause-short : goal.returns-clause-short
returns-clause-short c = (written_alone (text_length c.args.lengths) (file_seen c.args.file.now) _ c.push_file.new.out.items c.new-out.ensures.items c.in_ok-push_file.ensures).short

pub returns-in_err-check_file-clause-err : goal.returns-in_err-check_file-clause-err
returns-in_err-check_file-clause-err c = refuses_on _ _ c.from_residual.ensures.1 c.in_err-check_file.ensures.err (λ o h. h)

pub returns-in_err-check_file-clause-none : goal.returns-in_err-check_file-clause-none
returns-in_err-check_file-clause-none c = refuses_on _ _ c.from_residual.ensures.1 c.in_err-check_file.ensures.err (no_text (file_seen c.args.file.now))

pub returns-in_err-push_file-clause-err : goal.returns-in_err-push_file-clause-err
returns-in_err-push_file-clause-err c = memory_on (IsObstacle (file_seen c.args.file.now)) _ c.from_residual-in_err-push_file.ensures.1

pub returns-in_err-push_file-clause-none : goal.returns-in_err-push_file-clause-none
returns-in_err-push_file-clause-none c = memory_on (λ o. NoTextSays (file_seen c.args.file.now)) _ c.from_residual-in_err-push_file.ensures.1
