use Rattle.std.proofs.Common.{subst, sym}
use Rattle.std.specs.Prelude.{All}
use Rattle.std.proofs.lemmas.List.{take_all}
use Rattle.std.proofs.lemmas.List.Elements.{All-nil}
use Rattle.cmap_edit.specs.Parts.{AreAllKept, AreKept, IsFound}
use Rattle.cmap_edit.proofs.LengthsTried.{all_lengths, each, none_found, one_more, some_found}
use Rattle.cmap_edit.proofs.flatten.answers.contradiction_with.Goals as goal

pub loop-len-init : goal.loop-len-init
loop-len-init c = All-nil (AreKept c.args.layers.now c.args.codes.now)

pub loop-len-preserved : goal.loop-len-preserved
loop-len-preserved c =
    let P = AreKept c.args.layers.now c.args.codes.now in
    one_more P c.loop-len.len-index c.loop-len-test.true c.loop-len.invariant (none_found c.in_ok-found.found _ (IsFound c.args.layers.now c.args.codes.now) (sym c.if-is_some.ensures) c.in_ok-found.ensures)

pub returns-then-is_some : goal.returns-then-is_some
returns-then-is_some c = some_found c.in_ok-found.found _ (AreAllKept c.args.layers.now c.args.codes.now) (IsFound c.args.layers.now c.args.codes.now) (sym c.if-is_some.ensures) c.in_ok-found.ensures

pub returns : goal.returns
returns c =
    let P = AreKept c.args.layers.now c.args.codes.now in
    each P (subst (All P) (take_all c.loop-len.len-index all_lengths c.loop-len-test.false) c.loop-len.invariant)
