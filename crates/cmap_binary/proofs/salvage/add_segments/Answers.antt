use Rattle.std.proofs.lemmas.Result.{on_ok_weaker}
use Rattle.std.proofs.lemmas.List.{take_rest}
use Rattle.cmap_binary.proofs.Fronts.{emptied, filled}
use Rattle.cmap_binary.proofs.SegmentsSalvaged.{salvaged_cut, salvaged_end, salvaged_fault, salvaged_none, salvaged_said}
use Rattle.cmap_binary.proofs.salvage.add_segments.Goals as goal

pub loop-segments-init : goal.loop-segments-init
loop-segments-init c = salvaged_none _ _ _ _ c.requires

pub returns-in_default : goal.returns-in_default
returns-in_default c = on_ok_weaker c.add_fault.result (salvaged_cut c.loop-segments.invariant (filled c.loop-segments-test.ensures) c.in_default.ensures _) c.add_fault.ensures

pub loop-segments-preserved-in-Ok : goal.loop-segments-preserved-in-Ok
loop-segments-preserved-in-Ok c = let says = c.in-Ok.ensures.0 in salvaged_said c.loop-segments.invariant c.in-Some.ensures.holds _ (rw take_rest at says.only) says.says

pub loop-segments-preserved : goal.loop-segments-preserved
loop-segments-preserved c =
    let (wrong, same) = rw c.in-Err-Refused.field-0-is at c.in-Err-Refused.ensures.1 in
    salvaged_fault c.loop-segments.invariant c.in-Some.ensures.holds c.in-Err-Refused.reason _ _ (rw take_rest at wrong) same c.in_ok-add_fault-in-Err-Refused.ensures

pub returns : goal.returns
returns c = salvaged_end c.loop-segments.invariant (emptied c.loop-segments-test.ensures)
