use Rattle.std.proofs.lemmas.List.{take_rest}
use Rattle.cmap_binary.proofs.Fronts.{gives_if, gives_none, then_next, then_none, then_only}
use Rattle.cmap_binary.proofs.Bodies.{begins, begins_otherwise}
use Rattle.cmap_binary.proofs.file.split_body.Goals.{in_default-via-in-Some+else-starts_with, in_default-via-in_default}
use Rattle.cmap_binary.proofs.file.split_body.Goals as goal

pub returns-in-Some : goal.returns-in-Some
returns-in-Some c =
    let head = begins c.in-Some.file.now c.starts_with.result c.starts_with.ensures.value c.if-starts_with.true in
    rw (take_rest c.in-Some.file.now 10) (then_only _ c.in-Some.ensures (gives_if head))

pub returns-in_default : goal.returns-in_default
returns-in_default c = elim c.in_default.branch [
  | in_default-via-in-Some+else-starts_with w ↦ then_next _ w.in-Some.ensures (gives_none (begins_otherwise w.in-Some.file.now w.starts_with.result w.starts_with.ensures.value w.if-starts_with.false))
  | in_default-via-in_default w ↦ then_none _ _ w.in_default.ensures
]
