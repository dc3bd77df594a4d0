use Rattle.cmap_io.proofs.Adds.{adds_end}
use Rattle.cmap_io.proofs.json.push_line.Goals as goal

pub returns-clause-printable : goal.returns-clause-printable
returns-clause-printable c = adds_end _ _ _ _ c.push_value.ensures.printable c.push.ensures.bytes
