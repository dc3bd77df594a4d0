use Rattle.cmap_binary.specs.Fronts.{FieldAt}
use Rattle.cmap_binary.proofs.Fronts.{HasRow}
use Rattle.cmap_binary.proofs.prefix.reading.take_fields.Given as goal

abbrev pub invariant-loop : goal.invariant-loop
invariant-loop l = HasRow (FieldAt l.width) l.count l.initial.text.now l.counter l.text.now l.numbers.items
