use Rattle.std.proofs.Common.{◌∙◌, refl, arith}
use Rattle.cmap_runs.proofs.FoundIndex.{at_last, each_index, may_hold_in, none_in_block}
use Rattle.cmap_runs.proofs.runs.held.Held.find_in_block.Goals as goal

pub reaching-requires : goal.reaching-requires
reaching-requires g c =
    let held = c.args.self.now in
    let may = may_hold_in held.runs _ c.args.code c.begun_by-begun.result c.in_ok-block.block.now c.requires.blocks c.in_ok-block.ensures c.begun_by-begun.ensures in
    record { run = omega (arith, c.if-begun-eq0.false, may.within); within = each_index g.T.HasRange.span held.declarations c.requires.runs }

pub returns-then-begun-eq0-clause-some : goal.returns-then-begun-eq0-clause-some
returns-then-begun-eq0-clause-some g c =
    let held = c.args.self.now in let code = c.args.code in let begun = c.begun_by-begun.result in let looked = c.look_at_run.ensures in
    let may = may_hold_in held.runs _ code begun c.in_ok-block.block.now c.requires.blocks c.in_ok-block.ensures c.begun_by-begun.ensures in
    none_in_block g.T.HasRange.span held code begun c.args.looks.now c.look_at_run.new.self c.requires.runs (omega (arith, c.ranges.code.fits)) may c.if-begun-eq0.true
    (c.requires.blocks.some (omega (arith, c.in_ok-block.ensures.0))) looked.runs looked.declarations

pub returns-clause-some : goal.returns-clause-some
returns-clause-some g c =
    let held = c.args.self.now in let code = c.args.code in let begun = c.begun_by-begun.result in let looked = c.reaching.ensures in
    let may = may_hold_in held.runs _ code begun c.in_ok-block.block.now c.requires.blocks c.in_ok-block.ensures c.begun_by-begun.ensures in
    at_last g.T.HasRange.span held held.declarations code begun c.args.looks.now c.reaching.new.looks c.reaching.result
    c.requires.runs refl (omega (arith, c.ranges.code.fits)) may (omega (arith, c.if-begun-eq0.false)) looked.none looked.some
    (looked.runs ∙ c.look_at_run.ensures.runs) (omega (arith, looked.declarations, c.look_at_run.ensures.declarations))
