use Rattle.std.proofs.Common.{◌<◌, ◌≤◌, inl, inr, length, refl, subst}
use Rattle.cmap_handles.proofs.room.put_items.Goals as goal

pub returns-then-count-room : goal.returns-then-count-room
returns-then-count-room g c = (c.count.ensures, inr (subst (λ n. length c.args.room.now < n) c.count-2.ensures c.if-count-room.true, c.number.ensures, refl))

pub returns : goal.returns
returns g c = (c.count.ensures, inl (subst (λ n. n ≤ length c.args.room.now) c.count-2.ensures c.if-count-room.false, c.number-2.ensures, c.fill.ensures))
