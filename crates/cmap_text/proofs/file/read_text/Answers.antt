use Rattle.cmap_values.proofs.Outcomes.{passed_on}
use Rattle.cmap_tokens.proofs.Fronts.{has_tokens}
use Rattle.cmap_text.proofs.Stops.{decided_text, refused_text}
use Rattle.cmap_text.proofs.TextRead.{text_file}
use Rattle.cmap_text.proofs.file.read_text.Goals as goal

pub returns-in_err-metadata-clause-file : goal.returns-in_err-metadata-clause-file
returns-in_err-metadata-clause-file c =
    let stops = rw c.new-said.ensures at c.in_err-metadata.ensures.stops in
    passed_on _ _ _ c.from_residual.ensures.1 stops (refused_text c.args.text.now)

pub returns-in_err-metadata-clause-decided : goal.returns-in_err-metadata-clause-decided
returns-in_err-metadata-clause-decided c =
    let stops = rw c.new-said.ensures at c.in_err-metadata.ensures.stops in
    (passed_on (λ x. Unit {0}) _ _ c.from_residual.ensures.1 stops (decided_text c.args.text.now)).1

pub returns-clause-file : goal.returns-clause-file
returns-clause-file c =
    let ((rest, said), metadata) = rw c.new-said.ensures at c.in_ok-metadata.ensures.says in
    (text_file _ _ (has_tokens c.args.text.now) _ rest _ said metadata, tt)
