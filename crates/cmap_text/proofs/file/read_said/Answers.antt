use Rattle.std.proofs.Common.{◌∙◌, sym, ap}
use Rattle.cmap_text.specs.TextReading.{all_said}
use Rattle.cmap_text.specs.TextSeen.{said_seen}
use Rattle.cmap_text.proofs.file.read_said.Goals as goal

pub returns-in-Ok-clause-says : goal.returns-in-Ok-clause-says
returns-in-Ok-clause-says c =
    ((c.read_items.new.reader, ap (all_said (said_seen c.args.said.now)) (sym c.new-reader.ensures) ∙ c.in-Ok.ensures.0), c.in_ok-metadata-in-Ok.ensures)

pub returns-in-Err-Refused-clause-stops : goal.returns-in-Err-Refused-clause-stops
returns-in-Err-Refused-clause-stops c =
    let refused = rw (c.in-Err-Refused.field-0-is, c.new-reader.ensures, ← c.in-Err-Refused.wrong-is) at c.in-Err-Refused.ensures.1 in
    c.stop_of.ensures _ refused
