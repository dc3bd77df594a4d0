use Rattle.std.proofs.Common.{◌∙◌, ap, arith, refl, subst, sym}
use Rattle.std.specs.Prelude.{Some}
use Rattle.std.proofs.lemmas.Option.{slice_get_read}
use Rattle.cmap_load.specs.Tables.{LayersFrom}
use Rattle.cmap_load.proofs.TableLayers.{Left, finished, goes_down, last_found, last_within, made_few, node_read, node_within, readable, shorter, started}
use Rattle.cmap_load.proofs.table.Table.into_layers.Goals as goal

pub down-init : goal.down-init
down-init c = record {
  left = subst (λ layers. Left c.args.self c.args.self.contents.items layers 0) (sym c.new-layers.ensures.items) (started c.args.self c.requires.table c.requires.whole.0 c.requires.whole.1);
}

pub take_contents-taken-requires : goal.take_contents-taken-requires
take_contents-taken-requires c = readable c.args.self c.down.invariant.left

pub index-requires : goal.index-requires
index-requires c = let lt = node_within c.args.self c.down.invariant.left in omega (arith, lt, c.args.self.graph.nodes.ok.0)

pub of-requires : goal.of-requires
of-requires c =
    let table = c.args.self in let left = c.down.invariant.left in let node = c.index.result.now in
    let there = node_read table left node c.index.ensures in
    let none = rw c.deref.ensures.value at c.in_default.ensures in
    made_few table c.push.new.self.items (finished table left c.take_contents-taken.result c.take_contents-taken.ensures.taken node there c.push.new.self.items c.in_ok-layer.layer c.in_ok-push.ensures.items c.in_ok-layer.ensures none)

pub returns-in_default : goal.returns-in_default
returns-in_default c =
    let table = c.args.self in let left = c.down.invariant.left in let node = c.index.result.now in
    let there = node_read table left node c.index.ensures in
    let none = rw c.deref.ensures.value at c.in_default.ensures in
    subst (LayersFrom table 16 0) (sym c.of.ensures) (finished table left c.take_contents-taken.result c.take_contents-taken.ensures.taken node there c.push.new.self.items c.in_ok-layer.layer c.in_ok-push.ensures.items c.in_ok-layer.ensures none)

pub index-requires-in-down : goal.index-requires-in-down
index-requires-in-down c =
    let table = c.args.self in let left = c.down.invariant.left in let node = c.index.result.now in
    let there = node_read table left node c.index.ensures in
    let (others, uses) = rw c.deref.ensures.value at c.in-Some.ensures in
    let lt = last_within table left c.take_contents-taken.result c.take_contents-taken.ensures.taken node there c.push.new.self.items c.in_ok-layer.layer c.in_ok-push.ensures.items c.in_ok-layer.ensures others c.in-Some.last uses c.requires.table in
    omega (arith, lt, table.graph.found.ok.0)

pub unreachable-requires : goal.unreachable-requires
unreachable-requires c =
    let table = c.args.self in let left = c.down.invariant.left in let node = c.index.result.now in
    let there = node_read table left node c.index.ensures in
    let (others, uses) = rw c.deref.ensures.value at c.in-Some.ensures in
    let lt = last_within table left c.take_contents-taken.result c.take_contents-taken.ensures.taken node there c.push.new.self.items c.in_ok-layer.layer c.in_ok-push.ensures.items c.in_ok-layer.ensures others c.in-Some.last uses c.requires.table in
    let found = slice_get_read table.graph.found.items _ c.in-Some.last c.index-in-down.result.now refl lt c.index-in-down.ensures in
    last_found table left c.take_contents-taken.result c.take_contents-taken.ensures.taken node there c.push.new.self.items c.in_ok-layer.layer c.in_ok-push.ensures.items c.in_ok-layer.ensures others c.in-Some.last uses (found ∙ ap Some c.in_default-index.is)

pub down-preserved : goal.down-preserved
down-preserved c =
    let table = c.args.self in let left = c.down.invariant.left in let node = c.index.result.now in
    let there = node_read table left node c.index.ensures in
    let (others, uses) = rw c.deref.ensures.value at c.in-Some.ensures in
    let lt = last_within table left c.take_contents-taken.result c.take_contents-taken.ensures.taken node there c.push.new.self.items c.in_ok-layer.layer c.in_ok-push.ensures.items c.in_ok-layer.ensures others c.in-Some.last uses c.requires.table in
    let found = slice_get_read table.graph.found.items _ c.in-Some.last c.index-in-down.result.now refl lt c.index-in-down.ensures in
    record {
      left = goes_down table left c.take_contents-taken.result c.take_contents-taken.ensures.taken node there c.push.new.self.items c.in_ok-layer.layer c.in_ok-push.ensures.items c.in_ok-layer.ensures others c.in-Some.last uses
          c.take_contents-taken.new.contents.items c.take_contents-taken.ensures.left.0 c.take_contents-taken.ensures.left.1 c.in-Some-index.i (found ∙ ap Some c.in-Some-index.is);
    }

pub down-smaller : goal.down-smaller
down-smaller c =
    let table = c.args.self in let left = c.down.invariant.left in let node = c.index.result.now in
    let there = node_read table left node c.index.ensures in
    shorter table left c.take_contents-taken.result c.take_contents-taken.ensures.taken node there c.push.new.self.items c.in_ok-layer.layer c.in_ok-push.ensures.items c.in_ok-layer.ensures
