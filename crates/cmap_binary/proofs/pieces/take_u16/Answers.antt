use Rattle.std.proofs.lemmas.List.{take_rest}
use Rattle.cmap_binary.proofs.Fronts.{field_only}
use Rattle.cmap_binary.proofs.pieces.take_u16.Goals as goal

pub returns : goal.returns
returns c = rw (take_rest c.args.text.now.now 2) (field_only _ _ _ (rw c.new.ensures at c.in_ok-number.ensures.value))
