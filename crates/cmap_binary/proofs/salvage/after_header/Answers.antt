use Rattle.cmap_binary.proofs.Bodies.{after_found, begins, begins_otherwise, no_after}
use Rattle.cmap_binary.proofs.salvage.after_header.Goals as goal

pub returns-then-starts_with : goal.returns-then-starts_with
returns-then-starts_with c = after_found c.args.bytes.now (begins c.args.bytes.now c.starts_with.result c.starts_with.ensures.value c.if-starts_with.true) c.get.result c.get.ensures.lookup

pub returns-else-starts_with : goal.returns-else-starts_with
returns-else-starts_with c = no_after c.args.bytes.now (begins_otherwise c.args.bytes.now c.starts_with.result c.starts_with.ensures.value c.if-starts_with.false)
