use Rattle.std.proofs.Common.{◌∙◌}
use Rattle.cmap_layers.specs.LayersSeen.{layer_seen}
use Rattle.cmap_layers.proofs.LayersSearched.{bf_looks_only, bf_only, only_one}
use Rattle.cmap_layers.proofs.lookup.find_bf.Goals as goal

pub returns-in-len1-clause-found : goal.returns-in-len1-clause-found
returns-in-len1-clause-found c =
    let layer = c.only-item.result in
    rw (only_one c.args.layers.now layer c.in-len1.len_at_least c.in-len1.len_below c.only-item.is) ((rw c.bfs.ensures at c.last_bf.ensures.found) ∙ bf_only (layer_seen layer) c.args.code)

pub returns-in-len1-clause-start : goal.returns-in-len1-clause-start
returns-in-len1-clause-start c = c.last_bf.ensures.start

pub returns-in-len1-clause-looks : goal.returns-in-len1-clause-looks
returns-in-len1-clause-looks c =
    let layer = c.only-item.result in
    rw (only_one c.args.layers.now layer c.in-len1.len_at_least c.in-len1.len_below c.only-item.is) (bf_looks_only (layer_seen layer) c.args.looks.now c.last_bf.new.looks _ (rw c.bfs.ensures at c.last_bf.ensures.looks))

pub returns-in_default : goal.returns-in_default
returns-in_default c = c.find_bf_in_turn.ensures
