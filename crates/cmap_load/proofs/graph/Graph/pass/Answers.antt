use Rattle.std.proofs.Common.{◌<◌, arith, length, refl, subst, sym}
use Rattle.std.specs.Prelude.{slice_index_or}
use Rattle.std.proofs.lemmas.List.Elements.{All-get_or}
use Rattle.std.proofs.lemmas.Option.{slice_get_read}
use Rattle.cmap_load.specs.BytesSpent.{Leaves}
use Rattle.cmap_load.specs.Graphs.{IsStuck}
use Rattle.cmap_load.proofs.GraphUses.{IsLeft-over, passed_more, stuck_at}
use Rattle.cmap_load.proofs.graph.Graph.pass.Goals as goal

pub loop-i-preserved : goal.loop-i-preserved
loop-i-preserved c =
    let graph = c.args.self.now in let so_far = c.loop-i.invariant in
    let over = rw c.in-Some.is at c.pass_over.ensures in
    let lt = All-get_or (λ name. name < length graph.found.items) c.args.uses.now c.loop-i.i 0 c.loop-i-test.true c.requires.named in
    let found = slice_get_read graph.found.items _ (slice_index_or c.args.uses.now c.loop-i.i 0) c.index-found.result.now refl lt c.index-found.ensures in
    let high = c.max-highest.ensures in
    record {
      room = omega (arith, over.0, so_far.room, high);
      left = IsLeft-over graph c.index-found.result.now c.in-Some.height c.loop-i.after c.pass_over.new.left over.1 so_far.left;
      passed = passed_more graph c.args.uses.now c.loop-i.i 0 c.loop-i-test.true c.loop-i.highest c.args.left c.loop-i.after so_far.passed c.index-found.result.now c.in-Some.height c.max-highest.result c.pass_over.new.left found over.1 (omega (arith, high)) (omega (arith, high));
    }

pub returns-in_default : goal.returns-in_default
returns-in_default c =
    let graph = c.args.self.now in let so_far = c.loop-i.invariant in
    let over = c.in_default.ensures in
    let lt = All-get_or (λ name. name < length graph.found.items) c.args.uses.now c.loop-i.i 0 c.loop-i-test.true c.requires.named in
    let found = slice_get_read graph.found.items _ (slice_index_or c.args.uses.now c.loop-i.i 0) c.index-found.result.now refl lt c.index-found.ensures in
    stuck_at graph c.args.uses.now c.loop-i.i 0 c.loop-i-test.true c.loop-i.highest c.args.left c.loop-i.after so_far.passed c.args.room _ refl over.1 refl refl (λ count leaves. c.spent.ensures count (subst (λ left. Leaves c.args.left count left) (sym over.1) leaves)) so_far.room found
    (subst (λ left. IsStuck graph c.args.room left c.index-found.result.now) (sym over.1) over.0)
