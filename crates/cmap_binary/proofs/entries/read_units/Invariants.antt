use Rattle.cmap_binary.specs.Fronts.{FieldAt}
use Rattle.cmap_binary.proofs.Fronts.{HasRow}
use Rattle.cmap_binary.proofs.entries.read_units.Given as goal

abbrev pub invariant-loop : goal.invariant-loop
invariant-loop l = HasRow (FieldAt 2) l.count l.initial.text.now l.counter l.text.now l.buffer.items
