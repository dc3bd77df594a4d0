use Rattle.std.proofs.Common.{◌<◌, arith, refl, subst}
use Rattle.cmap_handles.proofs.FilledRows.{fill_all, fill_more}
use Rattle.cmap_handles.proofs.room.fill.Goals as goal

pub loop-index-preserved : goal.loop-index-preserved
loop-index-preserved g c =
    let kept = c.loop-index.invariant in
    rw kept (fill_more (g.L.Items.items c.args.list.now) c.args.room.now c.loop-index.index c.item.result c.item.ensures c.requires)

pub loop-index-init : goal.loop-index-init
loop-index-init g c = refl

pub returns : goal.returns
returns g c = fill_all (g.L.Items.items c.args.list.now) c.args.room.now c.loop-index.room c.loop-index.index c.count-index-end.result c.count-index-end.ensures c.loop-index-test.false c.loop-index.auto.index-end c.loop-index.invariant

pub item-requires : goal.item-requires
item-requires g c = subst (λ n. c.loop-index.index < n) c.count-index-end.ensures c.loop-index-test.true

pub bounds-room-index : goal.bounds-room-index
bounds-room-index g c = omega (arith, c.loop-index-test.true, c.count-index-end.ensures, c.requires, c.loop-index.auto.room)
