use Rattle.std.proofs.Common.{[], subst, ap, sym}
use Rattle.std.proofs.lemmas.List.{drop_all}
use Rattle.cmap_layers.specs.LayersSeen.{layers_seen}
use Rattle.cmap_layers.proofs.LayersSearched.{bf_decided, bf_looked, bf_looked_all, drop_next, IsBfSearched, IsBfSearched-more, IsBfSearched-none}
use Rattle.cmap_layers.proofs.lookup.find_bf_in_turn.Goals as goal
use Rattle.cmap_layers.proofs.lookup.find_bf_in_turn.Goals.{After-loop-layer}

searched_all : (c : After-loop-layer) → IsBfSearched (layers_seen c.args.layers.now) [] c.args.code c.args.looks.now c.loop-layer.looks
searched_all c =
    let past = ap layers_seen (drop_all c.loop-layer.layer-index c.args.layers.now c.loop-layer-test.false) in
    subst (λ rest. IsBfSearched (layers_seen c.args.layers.now) rest c.args.code c.args.looks.now c.loop-layer.looks) past c.loop-layer.invariant

pub loop-layer-init : goal.loop-layer-init
loop-layer-init c = IsBfSearched-none (layers_seen c.args.layers.now) c.args.code c.args.looks.now

pub loop-layer-preserved : goal.loop-layer-preserved
loop-layer-preserved c =
    let next = ap layers_seen (drop_next c.args.layers.now c.loop-layer.layer-index c.layer-item.result c.loop-layer-test.true c.layer-item.is) in
    let searched = subst (λ rest. IsBfSearched (layers_seen c.args.layers.now) rest c.args.code c.args.looks.now c.loop-layer.looks) next c.loop-layer.invariant in
    IsBfSearched-more _ _ _ _ _ _ _ _ searched (rw c.bfs.ensures at c.in_default.ensures.found) (rw c.bfs.ensures at c.in_default.ensures.looks)

pub returns-in-Some-clause-found : goal.returns-in-Some-clause-found
returns-in-Some-clause-found c =
    let next = ap layers_seen (drop_next c.args.layers.now c.loop-layer.layer-index c.layer-item.result c.loop-layer-test.true c.layer-item.is) in
    let searched = subst (λ rest. IsBfSearched (layers_seen c.args.layers.now) rest c.args.code c.args.looks.now c.loop-layer.looks) next c.loop-layer.invariant in
    bf_decided _ _ _ _ _ _ _ searched (rw c.bfs.ensures at c.in-Some.ensures.found)

pub returns-in-Some-clause-looks : goal.returns-in-Some-clause-looks
returns-in-Some-clause-looks c =
    let next = ap layers_seen (drop_next c.args.layers.now c.loop-layer.layer-index c.layer-item.result c.loop-layer-test.true c.layer-item.is) in
    let searched = subst (λ rest. IsBfSearched (layers_seen c.args.layers.now) rest c.args.code c.args.looks.now c.loop-layer.looks) next c.loop-layer.invariant in
    bf_looked _ _ _ _ _ _ _ searched (rw c.bfs.ensures at c.in-Some.ensures.looks)

pub returns-in-Some-clause-start : goal.returns-in-Some-clause-start
returns-in-Some-clause-start c = c.in-Some.ensures.start

pub returns-clause-found : goal.returns-clause-found
returns-clause-found c = sym (searched_all c).value

pub returns-clause-looks : goal.returns-clause-looks
returns-clause-looks c = bf_looked_all _ _ _ _ (searched_all c)
