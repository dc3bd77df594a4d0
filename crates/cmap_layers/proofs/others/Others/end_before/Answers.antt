use Rattle.std.proofs.Common.{arith}
use Rattle.std.proofs.lemmas.Bool.{leb-true}
use Rattle.cmap_layers.proofs.others.Others.end_before.Goals as goal

pub returns-clause-notdefs : goal.returns-clause-notdefs
returns-clause-notdefs c = rw (← c.self.view_is) (λ past len. c.self.invariant.no_notdef len c.args.code (omega (arith, c.ranges.code.fits)) (omega (arith, leb-true _ _ past, c.from.ensures)))

pub returns-clause-bfs : goal.returns-clause-bfs
returns-clause-bfs c = rw (← c.self.view_is) (λ past. c.self.invariant.no_bf c.args.code (omega (arith, c.ranges.code.fits)) (omega (arith, leb-true _ _ past, c.from.ensures)))
