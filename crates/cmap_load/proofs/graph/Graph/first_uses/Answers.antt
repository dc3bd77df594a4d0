use Rattle.std.proofs.Common.{sym}
use Rattle.std.proofs.lemmas.Option.{slice_get_read}
use Rattle.cmap_load.proofs.GraphUses.{first_passed}
use Rattle.cmap_load.proofs.graph.Graph.first_uses.Goals as goal

pub returns-then-spend : goal.returns-then-spend
returns-then-spend c = λ node there.
    let graph = c.args.self.now in
    let firsts = c.index-firsts.result.now in
    let known = slice_get_read graph.firsts.items _ c.args.at firsts (sym c.requires.graph.firsts) c.requires.at c.index-firsts.ensures in
    first_passed graph c.args.room _ firsts c.args.left.now c.spend.new.left (c.requires.graph.begun c.args.at node firsts there known) c.if-firsts-room.true c.requires.left c.if-spend.ensures.spent
