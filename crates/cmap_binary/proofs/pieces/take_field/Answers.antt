use Rattle.std.proofs.Common.{◌≡◌}
use Rattle.std.specs.Prelude.{Some}
use Rattle.std.proofs.lemmas.Bool.{le-leb}
use Rattle.std.proofs.lemmas.List.{take_rest}
use Rattle.cmap_binary.specs.Reader.{number_at}
use Rattle.cmap_binary.proofs.Fronts.{field_only}
use Rattle.cmap_binary.proofs.pieces.take_field.Goals as goal

pub returns : goal.returns
returns c =
    let number : Some c.in_ok-number.number ≡ number_at c.args.width c.args.text.now.now = rw (c.new.ensures, le-leb 1 c.args.width c.requires.0, le-leb c.args.width 4 c.requires.1) at c.in_ok-number.ensures.value in
    rw (c.from.ensures, take_rest c.args.text.now.now c.args.width) (field_only _ _ _ number)
